-- What the pass is after its turn.
use Rattle.std.proofs.Common.{◌≡◌, ◌++◌, ◌∷◌, [], ap, sym, subst}
use mathlib.Core.List.{IsPrefix}
use Rattle.mix_turn.specs.Entries.{pass_no}
use Rattle.mix_turn.specs.Steps.{IsAtRest}
use Rattle.mix_turn.specs.Turns.{OnDone, OnMissed}
use Rattle.mix_turn.proofs.TurnLemmas.{Ended, ended}
use Rattle.mix_turn.proofs.turnstile.Turnstile.with_turn.Goals as goal

-- the turn is over
turn_over : (g : _) (c : goal.After-reply-1 g) → Ended c.pass.inside.seat.me c.wait_turn-reply.new.seat.me (pass_no c.pass.inside.number c.pass.inside.count) c.args.entry c.wait_turn-reply.result
turn_over g c = let t = c.wait_turn-reply in
    ended g.V.Turned.answers c.pass.inside.seat.me t.new.seat.me _ c.args.entry t.result c.pass.invariant t.ensures.turn t.ensures.empty

pub count_after-pass-inside-requires : goal.count_after-pass-inside-requires
count_after-pass-inside-requires g c = (turn_over g c).small

pub invariant_of-pass : goal.invariant_of-pass
invariant_of-pass g c = subst (IsAtRest c.wait_turn-reply.new.seat.me c.pass.inside.number) (sym c.count_after-pass-inside.ensures) (turn_over g c.before.before).rests

pub returns-clause-done : goal.returns-clause-done
returns-clause-done g c = let t = c.wait_turn-reply in
    subst (λ l. OnDone t.result (t.new.seat.me.0.own ≡ l ++ c.args.entry ∷ [])) (ap (λ k. k.own) c.pass.view_is) (turn_over g c.before.before).done

pub returns-clause-missed : goal.returns-clause-missed
returns-clause-missed g c = let t = c.wait_turn-reply in
    subst (λ l. OnMissed t.result (t.new.seat.me.0.own ≡ l)) (ap (λ k. k.own) c.pass.view_is) (turn_over g c.before.before).missed

pub returns-clause-seen : goal.returns-clause-seen
returns-clause-seen g c = subst (λ l. IsPrefix l c.wait_turn-reply.new.seat.me.0.seen) (ap (λ k. k.seen) c.pass.view_is) (turn_over g c.before.before).seen

pub returns-clause-entries : goal.returns-clause-entries
returns-clause-entries g c = (turn_over g c.before.before).entries
