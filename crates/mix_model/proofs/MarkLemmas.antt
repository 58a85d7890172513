-- Marks tell as much as the state that they are of.
use Rattle.std.proofs.Common.{◌≡◌, ℕ, true, false, List, [], ◌∷◌, map, find, refl, ap, Option, Some}
use Rattle.std.proofs.Common.{None, option_map, eqb-true, ◌==◌, cond}
use Rattle.std.specs.Option.{option_map_or}
use Rattle.mix_model.specs.declared.row.Row.{Row}
use Rattle.mix_model.specs.Rows.{is_at}
use Rattle.mix_model.specs.State.{GraphState}
use Rattle.mix_model.specs.Lookups.{row_of}
use Rattle.mix_model.specs.Walks.{is_active}
use Rattle.mix_model.specs.Settle.{settle, with_since, since_before}
use Rattle.mix_model.specs.Marks.{mark_of, marks_of, was_active, since_marked, row_settled}
use Rattle.mix_model.specs.Marks.{settled_by}
use Rattle.mix_model.proofs.SetLemmas.{found_test}

-- the mark of a serial is that of its row
marked_row : (g : GraphState) (x : ℕ) (rows : List Row) →
    find (λ m. m.serial == x) (map (mark_of g) rows) ≡ option_map (mark_of g) (find (is_at x) rows)
marked_row g x [] = refl
marked_row g x (r ∷ rows) = (elim (r.serial == x) as (λ b.
    cond b (Some (mark_of g r)) (find (λ m. m.serial == x) (map (mark_of g) rows))
    ≡ option_map (mark_of g) (cond b (Some r) (find (is_at x) rows))) [
      | true ↦ refl
      | false ↦ marked_row g x rows
    ])

-- a row that isn't there isn't active
active_case : (g : GraphState) (x : ℕ) (o : Option Row) → row_of g x ≡ o →
    option_map_or (λ m. m.active) (option_map (mark_of g) o) false ≡ is_active g x
unfolding is_active
active_case g x None found = rw found
active_case g x (Some r) found =
    ap (is_active g) (eqb-true r.serial x (found_test (is_at x) g.rows r found))

was_active_is : (g : GraphState) (x : ℕ) → was_active (marks_of g) x ≡ is_active g x
was_active_is g x = rw (marked_row g x g.rows) (active_case g x (row_of g x) refl)

since_case : (g : GraphState) (o : Option Row) →
    option_map_or (λ m. m.since) (option_map (mark_of g) o) 0 ≡ option_map_or (λ r. r.since) o 0
since_case g None = refl
since_case g (Some r) = refl

since_marked_is : (g : GraphState) (x : ℕ) → since_marked (marks_of g) x ≡ since_before g x
since_marked_is g x = rw (marked_row g x g.rows) (since_case g (row_of g x))

row_settled_is : (old new : GraphState) (r : Row) →
    row_settled (marks_of old) new r ≡ with_since old new r
unfolding row_settled with_since
row_settled_is old new r = rw (was_active_is old r.serial, since_marked_is old r.serial)

map_congr : (f h : Row → Row) → ((r : Row) → f r ≡ h r) → (rows : List Row) →
    map f rows ≡ map h rows
map_congr f h same [] = refl
map_congr f h same (r ∷ rows) = rw (same r, map_congr f h same rows)

pub marks_suffice : (old new : GraphState) → settled_by (marks_of old) new ≡ settle old new
unfolding settle settled_by
marks_suffice old new =
    rw (map_congr (row_settled (marks_of old) new) (with_since old new) (row_settled_is old new)
    new.rows)
