-- The marks, flags and changes beside rows, and how many items they have.
use Rattle.std.proofs.Common.{◌≡◌, ℕ, ◌≤◌, Bool, false, List, [], ◌∷◌, ◌++◌, length, map, take}
use Rattle.std.proofs.Common.{drop, refl, ap, sym, ◌∙◌, arith, cond, true, find, Some, flat_map}
use Rattle.std.proofs.lemmas.List.{length-map, drop_all, append-nil}
use Rattle.std.proofs.Math.Seq.{take-length}
use Rattle.mix_model.specs.Rows.{is_at}
use Rattle.mix_model.specs.Causes.{item_count}
use Rattle.mix_model.specs.declared.row.Row.{Row}
use Rattle.mix_model.specs.declared.change.Change.{Change}
use Rattle.mix_model.specs.Settle.{change_if}
use Rattle.mix_model.specs.State.{GraphState}
use Rattle.mix_model.specs.Marks.{Mark, settled_by, row_settled, mark_of}
use Rattle.mix_model.specs.Walks.{is_active, is_showing}
use Rattle.mix_store.specs.Settling.{marked_by, told_by}
use Rattle.mix_store.proofs.ChangeLemmas.{count_cons}

-- the settling keeps the number of rows
pub settled_length : (marks : List Mark) (g : GraphState) →
    length (settled_by marks g).rows ≡ length g.rows
unfolding settled_by
settled_length marks g = length-map g.rows (row_settled marks g)

-- the marks by flags are the marks
pub marked_from : (g : GraphState) (rows : List Row) →
    marked_by rows (map (λ r. is_active g r.serial) rows)
    (map (λ r. is_showing g r.serial) rows) ≡ map (mark_of g) rows
marked_from g [] = refl
marked_from g (row ∷ rows) = ap (λ ms. mark_of g row ∷ ms) (marked_from g rows)

-- a row has no more items than all rows together
pub found_items : (x : ℕ) (rows : List Row) (row : Row) → find (is_at x) rows ≡ Some row →
    length row.items ≤ item_count rows
found_items x [] row found = cc
found_items x (r ∷ rows) row found =
    (elim (is_at x r) as (λ b. cond b (Some r) (find (is_at x) rows) ≡ Some row →
    length row.items ≤ item_count (r ∷ rows)) [
      | true ↦ λ here. let same : r ≡ row = cc in rw (← same) (omega (arith, count_cons r rows))
      | false ↦ λ there. omega (arith, found_items x rows row there, count_cons r rows)
    ]) found

-- flags that are all written
pub all_written : (now before : List Bool) (n : ℕ) → length now ≡ length before →
    n ≡ length before → take n (now ++ drop (length now) before) ≡ now
all_written now before n same count =
    let none : drop (length now) before ≡ [] =
    drop_all (length now) before (omega (arith, same)) in
    let whole : n ≡ length now = count ∙ sym same in
    rw (none, append-nil now, whole, take-length now)

-- the changes by flags are those by the test
pub told_all : (made : ℕ → Bool → Change) (was now : ℕ → Bool) (rows : List Row) →
    told_by made was rows (map (λ r. now r.serial) rows)
    ≡ flat_map (λ r. change_if made (was r.serial) (now r.serial) r.serial) rows
told_all made was now [] = refl
told_all made was now (row ∷ rows) =
    ap (λ cs. change_if made (was row.serial) (now row.serial) row.serial ++ cs)
    (told_all made was now rows)
