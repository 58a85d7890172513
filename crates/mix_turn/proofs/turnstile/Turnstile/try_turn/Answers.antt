-- What the pass is after its turn, where the try won.
use Rattle.std.proofs.Common.{◌≡◌, ◌++◌, ◌∷◌, [], ap, sym, subst}
use mathlib.Core.List.{IsPrefix}
use Rattle.mix_turn.specs.Entries.{pass_no}
use Rattle.mix_turn.specs.Steps.{IsAtRest}
use Rattle.mix_turn.specs.Turns.{OnDone, OnMissed}
use Rattle.mix_turn.proofs.TurnLemmas.{Ended, ended}
use Rattle.mix_turn.proofs.turnstile.Turnstile.try_turn.Goals as goal

-- the turn is over
turn_over : (g : _) (c : goal.After-reply-in-Ok-1 g) → Ended c.pass.inside.seat.me c.attempt.new.seat.me (pass_no c.pass.inside.number c.pass.inside.count) c.args.entry c.in-Ok.reply
turn_over g c = ended g.V.Turned.answers c.pass.inside.seat.me c.attempt.new.seat.me _ c.args.entry c.in-Ok.reply c.pass.invariant c.in-Ok.ensures.turn c.attempt.ensures.empty

pub count_after-pass-inside-requires : goal.count_after-pass-inside-requires
count_after-pass-inside-requires g c = (turn_over g c).small

pub invariant_of-pass : goal.invariant_of-pass
invariant_of-pass g c = subst (IsAtRest c.attempt.new.seat.me c.pass.inside.number) (sym c.count_after-pass-inside.ensures) (turn_over g c.before.before).rests

pub returns-in-Ok-clause-done : goal.returns-in-Ok-clause-done
returns-in-Ok-clause-done g c = subst (λ l. OnDone c.in-Ok.reply (c.attempt.new.seat.me.0.own ≡ l ++ c.args.entry ∷ [])) (ap (λ k. k.own) c.pass.view_is) (turn_over g c.before.before).done

pub returns-in-Ok-clause-missed : goal.returns-in-Ok-clause-missed
returns-in-Ok-clause-missed g c = subst (λ l. OnMissed c.in-Ok.reply (c.attempt.new.seat.me.0.own ≡ l)) (ap (λ k. k.own) c.pass.view_is) (turn_over g c.before.before).missed

pub returns-in-Ok-clause-seen : goal.returns-in-Ok-clause-seen
returns-in-Ok-clause-seen g c = subst (λ l. IsPrefix l c.attempt.new.seat.me.0.seen) (ap (λ k. k.seen) c.pass.view_is) (turn_over g c.before.before).seen

pub returns-in-Ok-clause-entries : goal.returns-in-Ok-clause-entries
returns-in-Ok-clause-entries g c = (turn_over g c.before.before).entries
