-- A number is looked at, taken, and goes to the new pass.
use Rattle.std.proofs.Common.{rules, arith, ap, subst, ◌∙◌, ◌<◌, ◌≤◌, ◌≡◌, All, is_some, unwrap_or}
use Rattle.mix_turn.specs.Known.{lines_of}
use Rattle.mix_turn.proofs.StepLemmas.{counts, spares, splits}
use Rattle.mix_turn.proofs.PassLemmas.{numbers_apart}
use Rattle.mix_turn.proofs.turnstile.Turnstile.split.Goals as goal

pub load-looked-requires : goal.load-looked-requires
load-looked-requires g c = let t = g.V.Turned in
    (search rules, search rules, counts t.journal t.misses t.start t.full _ _ _ c.pass.inside.seat.me c.pass.inside.live c.pass.invariant.idle)

pub compare_exchange-found-requires : goal.compare_exchange-found-requires
compare_exchange-found-requires g c = let t = g.V.Turned in let p = c.pass in let l = c.load-looked.ensures.2.1 in
    let few = l.few in let less = c.if-looked-eq-LAST.false in (
      search rules,
      search rules,
      spares t.journal t.misses t.start t.full _ _ _ _ c.load-looked.new.seat.me (ap (λ m. m.1) l.after ∙ p.invariant.empty) (ap (λ m. is_some m.0.start) l.after ∙ p.inside.live)
          (ap (λ m. m.0.turn) l.after ∙ p.invariant.idle) (ap (λ m. m.0.spare) l.after ∙ p.invariant.spent) (omega arith),
    )

pub split_seat-seat-requires : goal.split_seat-seat-requires
split_seat-seat-requires g c = let t = g.V.Turned in let p = c.pass in let l = c.load-looked.ensures.2.1 in let s = c.compare_exchange-found.ensures.2.1 (search rules) in (
  search rules,
  search rules,
  splits t.journal t.misses t.start t.full _ _ _ c.compare_exchange-found.new.seat.me.0 (ap (λ m. is_some m.0.start) s.after ∙ (ap (λ m. is_some m.0.start) l.after ∙ p.inside.live))
      (ap (λ m. m.0.spare) s.after) (ap (λ m. m.0.turn) s.after ∙ (ap (λ m. m.0.turn) l.after ∙ p.invariant.idle)),
)

pub returns-clause-apart : goal.returns-clause-apart
returns-clause-apart g c =
    let p = c.pass in
    let l = c.load-looked.ensures.2.1 in
    let s = c.compare_exchange-found.ensures.2.1 (search rules) in
    let number : c.split_seat-seat.result.me.0.number ≡ c.compare_exchange-found.result = ap (λ m. m.0.number) c.split_seat-seat.ensures.4 ∙ ap (λ m. unwrap_or m.0.spare 0) s.after in
    let same : c.load-looked.new.seat.me.0.above ≡ p.inside.seat.me.0.above = ap (λ m. m.0.above) l.after in
    let least : c.load-looked.new.seat.me.0.above ≤ c.compare_exchange-found.result = s.above in
    let above : p.inside.seat.me.0.above ≤ c.split_seat-seat.result.me.0.number = omega arith in
    subst (λ k. All (λ line. line.pass < c.split_seat-seat.result.me.0.number) (lines_of k)) p.view_is (numbers_apart p.inside.seat.me _ _ c.split_seat-seat.result.me.0.number p.invariant above)
