use Rattle.std.proofs.Common.{◌≡◌, ℕ, Option, Some, None, refl, ap, not, ◌==◌}
use Rattle.std.specs.Int.Bits.{and_zero_l}
use Rattle.mix_model.specs.declared.event.Event.{Event}
use Rattle.mix_events.specs.Events.{event_intent}
use Rattle.mix_fanout.specs.Lanes.{wants, kept_mask}

-- the mask under which a connection is kept wants what the connection wants
pub wants_as_kept : (mask : Option ℕ) (event : Event) → wants (Some (kept_mask mask)) event ≡ wants
    mask event
wants_as_kept None event = ap (λ n. not (n == 0)) (and_zero_l (event_intent event))
wants_as_kept (Some mask) event = refl
