-- While it waits, nothing of the pass changes but its tally.
use Rattle.std.proofs.Common.{refl, ap, subst, ◌∙◌, is_some}
use Rattle.mix_turn.proofs.TurnLemmas.{waits_first, took_waiting, rests_tallied}
use Rattle.mix_turn.specs.Entries.{entered}
use Rattle.mix_turn.specs.Steps.{Takes}
use Rattle.mix_turn.proofs.attempt.wait_turn.Goals as goal

pub loop-init : goal.loop-init
loop-init g c = record { can_next = tt; ends = tt; of = refl; waits = waits_first _ c.requires.rests.empty; entry = refl }

pub attempt-requires-clause-of : goal.attempt-requires-clause-of
attempt-requires-clause-of g c = c.loop.invariant.of ∙ c.requires.of

pub attempt-requires-clause-live : goal.attempt-requires-clause-live
attempt-requires-clause-live g c = ap (λ z. is_some z.start) c.loop.invariant.waits.view ∙ c.requires.live

pub attempt-requires-clause-rests : goal.attempt-requires-clause-rests
attempt-requires-clause-rests g c = let w = c.loop.invariant.waits in rests_tallied _ _ w.tally _ _ w.view w.empty c.requires.rests

pub returns-in-Ok-clause-turn : goal.returns-in-Ok-clause-turn
returns-in-Ok-clause-turn g c = let a = g.V.Turned.answers in let reply = c.in-Ok.reply in let now = c.attempt.new.seat.me.0 in let old = c.args.seat.now.me in
    subst (λ e. Takes a old.0 (entered c.args.from e) reply now) c.loop.invariant.entry (took_waiting a old c.loop.seat.me (entered c.args.from c.loop.entry) reply now c.loop.invariant.waits c.in-Ok.ensures.turn)
