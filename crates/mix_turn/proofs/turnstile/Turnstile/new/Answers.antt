-- The table opens under its rule.
use Rattle.std.proofs.Common.{rules, ◌≡◌, List, [], ◌∷◌, Option, Some, subst, sym}
use Rattle.atomic_table.specs.Table.{opening}
use Rattle.mix_turn.specs.Rule.{Rule}
use Rattle.mix_turn.specs.Views.{first_view}
use Rattle.mix_turn.proofs.StepLemmas.{opens}
use Rattle.mix_turn.proofs.turnstile.Turnstile.new.Goals as goal

pub new-opened-requires : goal.new-opened-requires
new-opened-requires g c =
    let t = g.V.Turned in
    let items : c.push_reserved.new.self.items ≡ Some c.args.value ∷ [] = search rules in
    let start : c.in-Ok-of.start.seat.me.0 ≡ t.start c.args.value = search rules in
    subst (λ (l : List (Option g.row.V.Denot)). Rule t.journal t.misses t.start t.full c.in-Ok-of.start.seat.me.0 (opening (1 ∷ 0 ∷ 0 ∷ []) l (first_view c.in-Ok-of.start.seat.me.0))) (sym items)
    (opens t.journal t.misses t.start t.full c.in-Ok-of.start.seat.me.0 c.args.value c.requires.journal c.requires.misses (sym start))
