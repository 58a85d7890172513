-- Two passes become one, and the last look tells what the rule says of it.
use Rattle.std.proofs.Common.{rules, ap, ◌∙◌, is_some}
use Rattle.mix_turn.proofs.StepLemmas.{joins, counts}
use Rattle.mix_turn.proofs.PassLemmas.{told_entries, told_below}
use Rattle.mix_turn.proofs.turnstile.Turnstile.join.Goals as goal

pub join_seat-requires : goal.join_seat-requires
join_seat-requires g c = let t = g.V.Turned in let p = c.pass in let q = c.other in
    (search rules, search rules, q.invariant.empty, search rules, joins t.journal t.misses t.start t.full _ _ _ _ _ p.inside.live q.inside.live p.invariant.idle q.invariant.idle q.invariant.spent)

pub load-requires : goal.load-requires
load-requires g c = let t = g.V.Turned in
    (search rules, search rules, counts t.journal t.misses t.start t.full _ _ _ c.join_seat.new.seat.me (ap (λ m. is_some m.0.start) c.join_seat.ensures.2 ∙ c.pass.inside.live) (ap (λ m. m.0.turn) c.join_seat.ensures.2 ∙ c.pass.invariant.idle))

pub returns-clause-entries : goal.returns-clause-entries
returns-clause-entries g c = told_entries c.join_seat.new.seat.me c.load.new.seat.me c.load.result c.load.ensures.2.1 (ap (λ m. m.0.spare) c.join_seat.ensures.2 ∙ c.pass.invariant.spent)

pub returns-clause-below : goal.returns-clause-below
returns-clause-below g c = told_below c.join_seat.new.seat.me c.load.new.seat.me c.load.result c.load.ensures.2.1 (ap (λ m. m.0.spare) c.join_seat.ensures.2 ∙ c.pass.invariant.spent)
