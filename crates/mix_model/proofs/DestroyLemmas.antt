-- What is destroyed next is held by nothing.
use Rattle.std.proofs.Common.{◌≡◌, ℕ, Bool, true, false, not, List, ◌∷◌, refl, subst, sym, Option}
use Rattle.std.proofs.Common.{Some, None, is_some, eqb-true, eq-eqb}
use Rattle.std.specs.List.{list_all}
use Rattle.mix_model.specs.declared.row.Row.{Row}
use Rattle.mix_model.specs.Sets.{has, agree}
use Rattle.mix_model.specs.Rows.{is_at}
use Rattle.mix_model.specs.State.{GraphState}
use Rattle.mix_model.specs.Lookups.{row_of, is_row}
use Rattle.mix_model.specs.Holders.{is_held}
use Rattle.mix_model.specs.Shape.{GraphShape}
use Rattle.mix_model.proofs.SetLemmas.{found_passes, and_first, or_left}

-- a row that dies and agrees with the rule is unheld
unheld_case : (d h : Bool) → d ≡ true → agree d (not h) ≡ true → h ≡ false
unheld_case true true dies same = cc
unheld_case true false dies same = refl
unheld_case false h dies same = cc

pub unheld_row : (g : GraphState) → GraphShape g → (x : ℕ) → has x g.dying ≡ true →
    (o : Option Row) → row_of g x ≡ o → is_some o ≡ true → is_held g x ≡ false
unheld_row g shape x dies None found there = cc
unheld_row g shape x dies (Some r) found there =
    let passed = found_passes (is_at x)
    (λ s. agree (has s.serial g.dying) (not (is_held g s.serial)))
    g.rows r found shape.dying_unheld in
    let same : r.serial ≡ x = eqb-true r.serial x passed.0 in
    unheld_case (has x g.dying) (is_held g x) dies
    (subst (λ y. agree (has y g.dying) (not (is_held g y)) ≡ true) same passed.1)

pub destroyed_unheld : (g : GraphState) → GraphShape g → (x : ℕ) (rest : List ℕ) →
    g.dying ≡ x ∷ rest → is_held g x ≡ false
destroyed_unheld g shape x rest first =
    let rows : list_all (is_row g) (x ∷ rest) ≡ true =
    subst (λ xs. list_all (is_row g) xs ≡ true) first shape.parts.dying.dying_rows in
    let here : has x (x ∷ rest) ≡ true = or_left _ _ (eq-eqb x x refl) in
    unheld_row g shape x (subst (λ xs. has x xs ≡ true) (sym first) here) (row_of g x) refl
    (and_first _ _ rows)
