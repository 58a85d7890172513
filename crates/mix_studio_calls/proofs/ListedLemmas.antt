-- What a list has at an index.
use Rattle.std.proofs.Common.{◌≡◌, ◌∙◌, ℕ, zero, suc, ◌==◌, Bool, true, false, ◌||◌, List, [], ◌∷◌}
use Rattle.std.proofs.Common.{Some, None, ap}
use Rattle.std.specs.List.{slice_get}
use Rattle.std.proofs.lemmas.Bool.{eq-eqb}
use Rattle.mix_model.specs.Sets.{has}
use Rattle.mix_model.proofs.SetLemmas.{or_left, or_right}

-- is in it
pub listed : (xs : List ℕ) (i x : ℕ) → slice_get xs i ≡ Some x → has x xs ≡ true
listed [] i x found = cc
listed (y ∷ rest) zero x found = or_left (y == x) (has x rest) (eq-eqb y x cc)
listed (y ∷ rest) (suc i) x found = or_right (y == x) (has x rest) (listed rest i x found)
