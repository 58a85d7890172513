-- Flags beside rows, put on test by test.
use Rattle.std.proofs.Common.{◌≡◌, ℕ, zero, suc, ◌<◌, ◌==◌, Bool, true, false, ◌||◌, List, []}
use Rattle.std.proofs.Common.{◌∷◌, ◌++◌, length, get_or, slice_set, find, None, refl, ap, sym}
use Rattle.std.proofs.Common.{◌∙◌, arith, nat_lt, not}
use Rattle.std.specs.List.{list_all}
use Rattle.std.proofs.Math.Bool.{or_assoc, or-false, or-true}
use Rattle.std.proofs.lemmas.Bool.{not-true, eq-eqb, ne_eqb}
use Rattle.std.proofs.lemmas.Bool.Decides.{nat_tests}
use Rattle.mix_model.specs.declared.row.Row.{Row}
use Rattle.mix_model.specs.Sets.{rises_above}
use Rattle.mix_model.specs.Rows.{is_at, serials_of}
use Rattle.mix_model.specs.Walks.{leads, most_steps}
use Rattle.mix_model.proofs.SetLemmas.{and_first, and_second, all_imply}
use Rattle.mix_model.proofs.FallLemmas.{rises_all}
use Rattle.mix_shape.proofs.SumLemmas.{found_none}
use Rattle.mix_store.specs.Searched.{flagged_also, next_in, reached_in}
use Rattle.mix_store.proofs.KeyLemmas.{key_above}

-- equal tests put on equal flags
pub flags_same : (p q : ℕ → Bool) → ((x : ℕ) → p x ≡ q x) → (rows : List Row) (flags : List Bool) →
    flagged_also p rows flags ≡ flagged_also q rows flags
flags_same p q same [] flags = refl
flags_same p q same (row ∷ rows) [] = refl
flags_same p q same (row ∷ rows) (flag ∷ flags) =
    rw (same row.serial, flags_same p q same rows flags)

-- one test after the other puts on what either of them does
pub flags_either : (p q : ℕ → Bool) (rows : List Row) (flags : List Bool) →
    flagged_also q rows (flagged_also p rows flags) ≡ flagged_also (λ x. p x || q x) rows flags
flags_either p q [] flags = refl
flags_either p q (row ∷ rows) [] = refl
flags_either p q (row ∷ rows) (flag ∷ flags) =
    rw (or_assoc flag (p row.serial) (q row.serial), flags_either p q rows flags)

-- a test that nothing passes puts on none
pub flags_none : (p : ℕ → Bool) → ((x : ℕ) → p x ≡ false) → (rows : List Row) (flags : List Bool) →
    flagged_also p rows flags ≡ flags
flags_none p none [] flags = refl
flags_none p none (row ∷ rows) [] = refl
flags_none p none (row ∷ rows) (flag ∷ flags) =
    rw (none row.serial, or-false flag, flags_none p none rows flags)

-- where no row passes it, either
flags_unmet : (p : ℕ → Bool) (rows : List Row) (flags : List Bool) →
    list_all (λ r. not (p r.serial)) rows ≡ true → flagged_also p rows flags ≡ flags
flags_unmet p [] flags all = refl
flags_unmet p (row ∷ rows) [] all = refl
flags_unmet p (row ∷ rows) (flag ∷ flags) all = rw (
  not-true (p row.serial) (and_first _ _ all),
  or-false flag,
  flags_unmet p rows flags
      (and_second (not (p row.serial)) (list_all (λ r. not (p r.serial)) rows) all),
)

-- where all serials are above one, its test puts on none
flags_above : (s : ℕ) (rows : List Row) (flags : List Bool) →
    rises_above s (serials_of rows) ≡ true →
    flagged_also (λ x. s == x) rows flags ≡ flags
flags_above s rows flags rise = flags_unmet (λ x. s == x) rows flags
    (all_imply (λ (r : Row). nat_lt s r.serial) (λ (r : Row). not (s == r.serial))
    (λ r more. grind (arith, nat_tests, more)) rows (rises_all s rows rise))

-- the flag of the row that has the serial is put on, and no other
pub flag_put : (s least : ℕ) (rows : List Row) (flags : List Bool) (i : ℕ) (d : Row) →
    rises_above least (serials_of rows) ≡ true → length flags ≡ length rows → i < length rows →
    (get_or rows i d).serial ≡ s →
    slice_set flags i true ≡ flagged_also (λ x. s == x) rows flags
flag_put s least [] flags i d rise same below here = absurd (omega (arith, below))
flag_put s least (row ∷ rows) [] i d rise same below here = absurd (omega (arith, same))
flag_put s least (row ∷ rows) (flag ∷ flags) zero d rise same below here =
    let own : (s == row.serial) ≡ true = eq-eqb s row.serial (sym here) in
    let rest : rises_above s (serials_of rows) ≡ true =
    ap (λ n. rises_above n (serials_of rows)) (sym here) ∙ and_second _ _ rise in
    let stays : flagged_also (λ x. s == x) rows flags ≡ flags = flags_above s rows flags rest in
    rw (own, or-true flag, stays)
flag_put s least (row ∷ rows) (flag ∷ flags) (suc i) d rise same below here =
    let more : row.serial < (get_or rows i d).serial =
    key_above (λ (r : Row). r.serial) d row.serial rows (and_second _ _ rise) i (omega (arith, below)) in
    let there : (get_or rows i d).serial ≡ s = here in
    let other : (s == row.serial) ≡ false =
    ne_eqb s row.serial (λ own. omega (arith, more, own, there)) in
    let rest : slice_set flags i true ≡ flagged_also (λ x. s == x) rows flags =
    flag_put s row.serial rows flags i d (and_second _ _ rise) (omega (arith, same))
    (omega (arith, below)) there in
    rw (other, or-false flag, ← rest)

-- where no row has it, none is put on
pub flag_absent : (s : ℕ) (rows : List Row) (flags : List Bool) → find (is_at s) rows ≡ None →
    flags ≡ flagged_also (λ x. s == x) rows flags
flag_absent s rows flags none = sym (flags_unmet (λ x. s == x) rows flags
    (all_imply (λ (r : Row). not (is_at s r)) (λ (r : Row). not (s == r.serial))
    (λ r other. grind (arith, nat_tests, other)) rows (found_none (is_at s) rows none)))

-- what walks reach from two lists of roots
pub reached_both : (rows : List Row) (first second : List ℕ) (x : ℕ) →
    reached_in rows (first ++ second) x ≡ (reached_in rows first x || reached_in rows second x)
unfolding reached_in
reached_both rows [] second x = refl
reached_both rows (root ∷ first) second x = rw (reached_both rows first second x)
    (sym (or_assoc (leads (next_in rows) most_steps root x) (reached_in rows first x)
    (reached_in rows second x)))

-- the flags of two lists of roots, one list after the other
pub flags_both : (rows : List Row) (first second : List ℕ) (flags : List Bool) →
    flagged_also (reached_in rows second) rows (flagged_also (reached_in rows first) rows flags)
    ≡ flagged_also (reached_in rows (first ++ second)) rows flags
flags_both rows first second flags =
    flags_either (reached_in rows first) (reached_in rows second) rows flags
    ∙ sym (flags_same (reached_in rows (first ++ second))
    (λ x. reached_in rows first x || reached_in rows second x) (reached_both rows first second)
    rows flags)
