-- What ties the parts of an engine to the replay of its journal.
use Rattle.std.specs.Prelude.{◌≡◌, ℕ, ◌+◌, List, length}
use Rattle.mix_audience.specs.Listeners.{Listener, waiting_for}
use Rattle.mix_model.specs.declared.action.Entry.{Entry}
use Rattle.mix_engine.specs.Mixer.{Mixer}
use Rattle.mix_engine.specs.Mixings.{Mixed}
use Rattle.mix_engine.specs.Numbers.{NumbersWithin}
use Rattle.mix_engine.specs.Queues.{queue}
use Rattle.mix_engine.specs.Told.{Happened}
use Rattle.mix_engine.specs.Answers.{state_after, trace, actions_of}
use Rattle.mix_engine.specs.Engines.{text_bytes}

-- what waits for each connection is its queue after what happened, whatever its number
abbrev pub IsQueued : List Happened → List Listener → Type 0
IsQueued hs listeners = (number : ℕ) → waiting_for number listeners ≡ queue number hs

-- the mixer is the replay of the journal, what waits for each connection is its queue, no number ran
-- ahead of the entries, and records are made as they were at the start
pub record Replayed (start : Mixer) (journal : List Entry) (mixed : Mixed) (count : ℕ) : Type 0 where
  pub state : mixed.mixer ≡ state_after start journal
  pub queues : IsQueued (trace start (actions_of journal)) mixed.listeners
  pub bytes : count ≡ text_bytes journal
  pub numbers : NumbersWithin (4096 + length journal) mixed.mixer
  pub i420 : mixed.mixer.studio.i420 ≡ start.studio.i420
  pub tracks : mixed.mixer.studio.tracks ≡ start.studio.tracks
