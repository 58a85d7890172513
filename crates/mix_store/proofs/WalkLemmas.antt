-- The flags that a walk puts on: those of its first row, and then those of its next rows.
use Rattle.std.proofs.Common.{◌≡◌, ℕ, zero, suc, ◌+◌, ◌-◌, ◌<◌, Bool, true, false, ◌||◌, List, []}
use Rattle.std.proofs.Common.{length, get_or, drop, map, find, filter, refl, ap, sym, ◌∙◌}
use Rattle.std.proofs.Common.{arith, ◌==◌, Some, None}
use Rattle.std.proofs.Math.Bool.{or-false}
use Rattle.std.proofs.lemmas.List.{drop_more}
use Rattle.std.specs.List.{list_any}
use Rattle.mix_model.specs.declared.row.Row.{Row}
use Rattle.mix_model.specs.declared.item.Item.{Item}
use Rattle.mix_model.specs.Rows.{is_at, is_visible}
use Rattle.mix_model.specs.Walks.{leads}
use Rattle.mix_store.specs.Searched.{flagged_also, next_in}
use Rattle.mix_store.proofs.FlagLemmas.{flags_same, flags_either, flags_none}

-- a walk from where no row is goes nowhere else
stays_there : (next : ℕ → List ℕ) (rounds from x : ℕ) → next from ≡ [] →
    (from == x) ≡ leads next rounds from x
stays_there next zero from x none = refl
stays_there next (suc n) from x none = rw none (sym (or-false (from == x)))

pub walk_stays : (rows : List Row) (rounds from : ℕ) (flags now : List Bool) →
    find (is_at from) rows ≡ None →
    now ≡ flagged_also (λ x. from == x) rows flags →
    now ≡ flagged_also (leads (next_in rows) rounds from) rows flags
walk_stays rows rounds from flags now none value = value
    ∙ flags_same (λ x. from == x) (leads (next_in rows) rounds from)
    (λ x. stays_there (next_in rows) rounds from x (rw none)) rows flags

-- what the items from an index on lead to
abbrev pub led_by : (ℕ → List ℕ) → ℕ → List Item → ℕ → Bool
led_by next n items x =
    list_any (λ y. leads next n y x) (map (λ i. i.child) (filter is_visible items))

goes_on : (next : ℕ → List ℕ) (rounds from x : ℕ) (items : List Item) → (rounds ≡ 0 → ⊥) →
    next from ≡ map (λ i. i.child) (filter is_visible items) →
    ((from == x) || led_by next (rounds - 1) items x) ≡ leads next rounds from x
goes_on next zero from x items some shown = absurd (some refl)
goes_on next (suc n) from x items some shown =
    let less : suc n - 1 ≡ n = omega arith in
    rw (less, shown)

pub walk_starts : (rows : List Row) (rounds from : ℕ) (row : Row) (items : List Item)
    (flags now : List Bool) → (rounds ≡ 0 → ⊥) → find (is_at from) rows ≡ Some row →
    items ≡ row.items → now ≡ flagged_also (λ x. from == x) rows flags →
    flagged_also (led_by (next_in rows) (rounds - 1) items) rows now
    ≡ flagged_also (leads (next_in rows) rounds from) rows flags
walk_starts rows rounds from row items flags now some found same value =
    let step : (x : ℕ) → ((from == x) || led_by (next_in rows) (rounds - 1) row.items x)
    ≡ leads (next_in rows) rounds from x =
    λ x. goes_on (next_in rows) rounds from x row.items some (rw found) in
    rw (value, same)
    (flags_either (λ x. from == x) (led_by (next_in rows) (rounds - 1) row.items) rows flags
    ∙ flags_same (λ x. (from == x) || led_by (next_in rows) (rounds - 1) row.items x)
    (leads (next_in rows) rounds from) step rows flags)

-- one item more, which is visible
pub walk_seen : (next : ℕ → List ℕ) (n : ℕ) (rows : List Row) (items : List Item) (i : ℕ)
    (item : Item) (flags now all : List Bool) → i < length items →
    item ≡ get_or items i item → item.enabled ≡ true →
    now ≡ flagged_also (leads next n item.child) rows flags →
    flagged_also (led_by next n (drop i items)) rows flags ≡ all →
    flagged_also (led_by next n (drop (i + 1) items)) rows now ≡ all
walk_seen next n rows items i item flags now all below there seen value so_far =
    rw value (flags_either (leads next n item.child) (led_by next n (drop (i + 1) items)) rows flags
    ∙ flags_same (λ x. leads next n item.child x || led_by next n (drop (i + 1) items) x)
    (led_by next n (drop i items))
    (λ x. rw (drop_more items i item below, ← there, seen) refl) rows flags ∙ so_far)

-- and one that isn't
pub walk_hidden : (next : ℕ → List ℕ) (n : ℕ) (rows : List Row) (items : List Item) (i : ℕ)
    (item : Item) (flags all : List Bool) → i < length items →
    item ≡ get_or items i item → item.enabled ≡ false →
    flagged_also (led_by next n (drop i items)) rows flags ≡ all →
    flagged_also (led_by next n (drop (i + 1) items)) rows flags ≡ all
walk_hidden next n rows items i item flags all below there hidden so_far =
    flags_same (led_by next n (drop (i + 1) items)) (led_by next n (drop i items))
    (λ x. rw (drop_more items i item below, ← there, hidden) refl) rows flags ∙ so_far

-- no item is left
pub walk_done : (next : ℕ → List ℕ) (n : ℕ) (rows : List Row) (items : List Item) (i : ℕ)
    (flags all : List Bool) → drop i items ≡ [] →
    flagged_also (led_by next n (drop i items)) rows flags ≡ all → flags ≡ all
walk_done next n rows items i flags all done so_far =
    sym (flags_none (led_by next n (drop i items))
    (λ x. ap (λ z. led_by next n z x) done) rows flags) ∙ so_far
