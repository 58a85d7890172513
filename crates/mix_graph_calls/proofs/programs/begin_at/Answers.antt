-- right after an action began nothing has changed, and the clock is as it was
use Rattle.std.proofs.Common.{◌≡◌, ℕ, Bool, true, false, List, [], ◌∷◌, map, find, refl, ap}
use Rattle.std.proofs.Common.{Option, Some, None, option_map, eqb-true, ◌==◌, cond}
use Rattle.std.specs.List.{list_all}
use Rattle.std.specs.Option.{option_map_or}
use Rattle.mix_model.specs.declared.row.Row.{Row}
use Rattle.mix_model.specs.Sets.{agree}
use Rattle.mix_model.specs.Rows.{is_at}
use Rattle.mix_model.specs.State.{GraphState}
use Rattle.mix_model.specs.Lookups.{row_of}
use Rattle.mix_model.specs.Walks.{is_active}
use Rattle.mix_model.specs.Marks.{mark_of, marks_of, was_active}
use Rattle.mix_model.specs.Marks.{actions_begun}
use Rattle.mix_model.proofs.SetLemmas.{found_test}
use Rattle.mix_graph_calls.proofs.programs.begin_at.Goals as goal

-- the mark of a serial is that of its row
mark_found : (g : GraphState) (x : ℕ) (rows : List Row) →
    find (λ m. m.serial == x) (map (mark_of g) rows) ≡ option_map (mark_of g) (find (is_at x) rows)
mark_found g x [] = refl
mark_found g x (r ∷ rows) = (elim (r.serial == x) as (λ b.
    cond b (Some (mark_of g r)) (find (λ m. m.serial == x) (map (mark_of g) rows))
    ≡ option_map (mark_of g) (cond b (Some r) (find (is_at x) rows))) [
      | true ↦ refl
      | false ↦ mark_found g x rows
    ])

-- and it tells whether the row is active
mark_tells : (g : GraphState) (x : ℕ) (o : Option Row) → row_of g x ≡ o →
    option_map_or (λ m. m.active) (option_map (mark_of g) o) false ≡ is_active g x
unfolding is_active
mark_tells g x None found = rw found
mark_tells g x (Some r) found =
    ap (is_active g) (eqb-true r.serial x (found_test (is_at x) g.rows r found))

was_as_is : (g : GraphState) (x : ℕ) → was_active (marks_of g) x ≡ is_active g x
was_as_is g x = rw (mark_found g x g.rows) (mark_tells g x (row_of g x) refl)

agree_itself : (b : Bool) → agree b b ≡ true
agree_itself true = refl
agree_itself false = refl

all_as_begun : (g : GraphState) (rows : List Row) →
    list_all (λ r. agree (was_active (marks_of g) r.serial) (is_active g r.serial)) rows ≡ true
all_as_begun g [] = refl
all_as_begun g (r ∷ rows) =
    rw (was_as_is g r.serial, agree_itself (is_active g r.serial)) (all_as_begun g rows)

pub set_clock-requires-clause-rises : goal.set_clock-requires-clause-rises
unfolding actions_begun
set_clock-requires-clause-rises c = rw c.begin_changes.ensures.state c.requires

pub set_clock-requires-clause-settled : goal.set_clock-requires-clause-settled
unfolding actions_begun
set_clock-requires-clause-settled c =
    rw c.begin_changes.ensures.state
    (all_as_begun c.args.graph.now.present c.args.graph.now.present.rows)
