-- How far the numbers of a mixer have come.
use Rattle.std.specs.Prelude.{ℕ, ◌≤◌}
use Rattle.mix_requests.specs.Ready.{ItemsWithin}
use Rattle.mix_engine.specs.Mixer.{Mixer}

-- each next number and both clocks are at most this
pub record NumbersWithin (most : ℕ) (s : Mixer) : Type 0 where
  pub conns : s.next_conn ≤ most
  pub serials : s.studio.graph.next_serial ≤ most
  pub items : ItemsWithin most s.studio.graph
  pub holds : s.studio.graph.next_hold ≤ most
  pub watches : s.studio.graph.next_watch ≤ most
  pub clock : s.studio.graph.clock ≤ most
  pub audio : s.studio.audio_clock ≤ most
