-- The row that is destroyed, and what is left.
use Rattle.std.proofs.Common.{◌≡◌, ℕ, ◌≤◌, ◌==◌, ◌&&◌, ◌||◌, Bool, true, false, not, cond, List, []}
use Rattle.std.proofs.Common.{◌∷◌, filter, arith, Some, refl, ap, ◌∙◌}
use Rattle.std.specs.Prelude.{slice_get, remove}
use Rattle.std.proofs.lemmas.Bool.Decides.{nat_tests}
use Rattle.std.proofs.lemmas.List.Elements.{filter_agree}
use Rattle.mix_model.specs.declared.row.Row.{Row}
use Rattle.mix_model.specs.Sets.{has, without}
use Rattle.mix_model.specs.Rows.{is_at, serials_of}
use Rattle.mix_model.specs.Causes.{item_count}
use Rattle.mix_store.specs.Searched.{InOrder, HasRoom}
use Rattle.mix_shape.proofs.SumLemmas.{filter_both}
use Rattle.mix_shape.proofs.DestroyedShape.{rises_kept, differ_left, below_left, items_left}

other_serials : (x : ℕ) (rows : List Row) →
    serials_of (filter (λ r. not (is_at x r)) rows) ≡ without x (serials_of rows)
other_serials x [] = refl
other_serials x (r ∷ rows) = elim (r.serial == x) as (λ b.
    serials_of (cond (not b) (r ∷ filter (λ s. not (is_at x s)) rows) (filter (λ s. not (is_at x s)) rows))
    ≡ cond (not b) (r.serial ∷ without x (serials_of rows)) (without x (serials_of rows))) [
      | true ↦ other_serials x rows
      | false ↦ ap (λ xs. r.serial ∷ xs) (other_serials x rows)
    ]

-- as many rows don't die
others : (x : ℕ) (rest xs : List ℕ) →
    filter (λ y. not (has y rest)) (without x xs) ≡ filter (λ y. not (has y (x ∷ rest))) xs
others x rest xs = filter_both (λ y. not (has y rest)) (λ y. not (y == x)) xs
    ∙ filter_agree (λ y. not (y == x) && not (has y rest)) (λ y. not (has y (x ∷ rest)))
    (λ y. not_either (y == x) (x == y) (has y rest) (grind (arith, nat_tests))) xs
  where
    not_either : (a c b : Bool) → a ≡ c → (not a && not b) ≡ not (c || b)
    not_either true true b same = refl
    not_either false false b same = refl
    not_either a c b same = cc

room_left : (x : ℕ) (dying : List ℕ) (rows : List Row) (room : ℕ) →
    slice_get dying 0 ≡ Some x → HasRoom rows dying room →
    HasRoom (filter (λ r. not (is_at x r)) rows) (remove dying 0) room
room_left x [] rows room found had = cc
room_left x (y ∷ rest) rows room found had =
    let same : y ≡ x = cc in
    rw (← same, other_serials y rows, others y rest (serials_of rows)) (omega (arith, had))

-- the rows that are left are in order
pub order_destroyed : (rows : List Row) (dying : List ℕ) (places next x : ℕ) →
    InOrder rows dying places next → slice_get dying 0 ≡ Some x →
    InOrder (filter (λ r. not (is_at x r)) rows) (remove dying 0) places next
order_destroyed rows dying places next x order found =
    let few : item_count rows ≤ 2048 = order.items in
    let less = items_left (λ r. not (is_at x r)) rows in
    record {
      room = room_left x dying rows places found order.room;
      few = room_left x dying rows next found order.few;
      start = order.start;
      drawn = order.drawn;
      items = omega (arith, few, less);
      rise = rises_kept (λ r. not (is_at x r)) 0 rows order.rise;
      differ = differ_left (λ r. not (is_at x r)) rows order.differ;
      below = below_left next (λ r. not (is_at x r)) rows order.below;
    }
