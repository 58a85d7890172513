-- An action that begins.
use Rattle.std.proofs.Common.{◌≡◌, ◌∙◌, ℕ, ◌==◌, Bool, true, false, cond, List, [], ◌∷◌, map, find}
use Rattle.std.proofs.Common.{Option, Some, None, option_map, IsTrue, refl, sym, ap, subst, eqb-true}
use Rattle.std.specs.Option.{option_map_or}
use Rattle.std.specs.List.{list_all}
use Rattle.mix_model.specs.declared.row.Row.{Row}
use Rattle.mix_model.specs.Lookups.{row_of}
use Rattle.mix_model.specs.Marks.{GraphModel, Mark, actions_begun, mark_of, marks_of, was_active}
use Rattle.mix_model.specs.Rows.{is_at}
use Rattle.mix_model.specs.Sets.{agree}
use Rattle.mix_model.specs.State.{GraphState}
use Rattle.mix_model.specs.Walks.{is_active}
use Rattle.mix_model.specs.WholeShape.{StudioShape}
use Rattle.mix_model.proofs.SetLemmas.{found_test}
use Rattle.mix_studio.specs.Studios.{StudioModel, graph_in, keeps_activity, studio_begun, with_graph}

-- the mark of a serial is that of its row
marked_row : (g : GraphState) (x : ℕ) (rows : List Row) →
    find (λ m. m.serial == x) (map (mark_of g) rows) ≡ option_map (mark_of g) (find (is_at x) rows)
marked_row g x [] = refl
marked_row g x (r ∷ rows) = elim (r.serial == x) as (λ b.
    cond b (Some (mark_of g r)) (find (λ m. m.serial == x) (map (mark_of g) rows))
    ≡ option_map (mark_of g) (cond b (Some r) (find (is_at x) rows))) [
      | true ↦ refl
      | false ↦ marked_row g x rows
    ]

active_of : (g : GraphState) (x : ℕ) (o : Option Row) → row_of g x ≡ o →
    option_map_or (λ (m : Mark). m.active) (option_map (mark_of g) o) false ≡ is_active g x
unfolding is_active
active_of g x None found = rw found refl
active_of g x (Some r) found =
    ap (is_active g) (eqb-true r.serial x (found_test (is_at x) g.rows r found))

was_active_now : (g : GraphState) (x : ℕ) → was_active (marks_of g) x ≡ is_active g x
was_active_now g x =
    ap (λ o. option_map_or (λ (m : Mark). m.active) o false) (marked_row g x g.rows)
    ∙ active_of g x (row_of g x) refl

agree_same : (b : Bool) → agree b b ≡ true
agree_same true = refl
agree_same false = refl

all_agree : (was now : ℕ → Bool) → ((x : ℕ) → was x ≡ now x) → (rows : List Row) →
    list_all (λ r. agree (was r.serial) (now r.serial)) rows ≡ true
all_agree was now same [] = refl
all_agree was now same (r ∷ rows) =
    rw (same r.serial, agree_same (now r.serial)) (all_agree was now same rows)

-- against the marks of what stands nothing became active or inactive
marks_settled : (g : GraphState) → list_all (λ r.
    agree (was_active (marks_of g) r.serial) (is_active g r.serial)) g.rows ≡ true
marks_settled g = all_agree (was_active (marks_of g)) (is_active g) (was_active_now g) g.rows

module _ (v m : StudioModel) (h : GraphModel) (view : v ≡ m) (is : h ≡ actions_begun (graph_in v)) where
  pub begun_state : with_graph v h ≡ studio_begun m
  unfolding actions_begun
  begun_state = ap (with_graph v) is ∙ ap studio_begun view

  -- an action that begins keeps the shape
  pub begun_shape : StudioShape m.present → StudioShape (with_graph v h).present
  begun_shape shape = subst (λ (n : StudioModel). StudioShape n.present) (sym begun_state) shape

  -- and a picture can be taken then
  pub begun_settled : IsTrue (keeps_activity (with_graph v h))
  begun_settled = subst (λ (n : StudioModel). keeps_activity n ≡ true) (sym begun_state)
      (marks_settled m.present.graph)
