-- Serials of rows are short, and there are no more scenes than serials were given.
use Rattle.std.proofs.Common.{◌≡◌, ◌∙◌, ℕ, zero, suc, ◌<◌, ◌≤◌, ◌==◌, ◌^◌, ◌||◌, eqb}
use Rattle.std.proofs.Common.{Bool, true, false, List, [], ◌∷◌, ◌++◌, length, refl, sym}
use Rattle.std.proofs.Common.{eqb-true, eq-eqb, inl, inr, Some}
use Rattle.std.specs.List.{AllByRecursion, IsDistinct, list_any, list_all, slice_get}
use Rattle.std.proofs.lemmas.Bool.{ne_eqb, not-true}
use Rattle.std.proofs.lemmas.Map.Steps.{length-le_from_distinct_below}
use Rattle.mix_model.specs.Lookups.{named_by}
use Rattle.mix_model.specs.Program.{channel_of, target_of}
use Rattle.mix_model.specs.Sets.{has, is_distinct}
use Rattle.mix_model.specs.Shape.{GraphShape}
use Rattle.mix_model.specs.State.{GraphState, Shown, Rest, Fade, StudioState}
use Rattle.mix_model.specs.WholeShape.{StudioShape}
use Rattle.mix_model.proofs.SetLemmas.{and_first, and_second}
use Rattle.mix_model.proofs.SetLemmas.{or_cases, or_left, or_right}
use Rattle.mix_studio.proofs.SceneLemmas.{program_listed}
use Rattle.mix_requests.proofs.ProperLemmas.{listed_below, scene_short}

-- ---- no number twice

first_false : (a b : Bool) → (a || b) ≡ false → a ≡ false
first_false true b none = cc
first_false false b none = refl

second_false : (a b : Bool) → (a || b) ≡ false → b ≡ false
second_false true b none = cc
second_false false b none = none

other_way : (x y : ℕ) → (y == x) ≡ false → eqb x y ≡ false
other_way x y apart = ne_eqb x y (λ same.
    let is : (y == x) ≡ true = eq-eqb y x (sym same) in
    let never : true ≡ false = sym is ∙ apart in cc)

none_later : (x : ℕ) (xs ys : List ℕ) → has x (xs ++ ys) ≡ false →
    AllByRecursion (λ y. eqb x y ≡ false) xs
none_later x [] ys none = tt
none_later x (y ∷ xs) ys none = (
  other_way x y (first_false (y == x) _ none),
  none_later x xs ys (second_false (y == x) _ none),
)

-- the first of two lists that have no number twice has none twice
first_apart : (xs ys : List ℕ) → is_distinct (xs ++ ys) ≡ true → IsDistinct eqb xs
unfolding IsDistinct
first_apart [] ys once = tt
first_apart (x ∷ xs) ys once = (
  none_later x xs ys (not-true _ (and_first _ _ once)),
  first_apart xs ys (and_second _ _ once),
)

member : (x : ℕ) (xs : List ℕ) → list_any (eqb x) xs ≡ true → has x xs ≡ true
member x [] here = here
member x (y ∷ xs) here = elim (or_cases _ _ here) [
  | inl same ↦ or_left _ _ (eq-eqb y x (sym (eqb-true x y same)))
  | inr there ↦ or_right _ _ (member x xs there)
]

-- what stands at an index is a member
pub got_member : (xs : List ℕ) (i x : ℕ) → slice_get xs i ≡ Some x → has x xs ≡ true
got_member [] zero x at = cc
got_member [] (suc i) x at = cc
got_member (y ∷ xs) zero x at = let same : y ≡ x = cc in or_left _ _ (eq-eqb y x same)
got_member (y ∷ xs) (suc i) x at = or_right _ _ (got_member xs i x at)

-- ---- serials that were given

module _ (g : GraphState) (shape : GraphShape g) where
  pub few_scenes : length g.scenes ≤ g.next_serial
  few_scenes = length-le_from_distinct_below g.scenes g.next_serial
      (first_apart g.scenes g.inputs shape.parts.registry.registry_once)
      (λ x here. listed_below g shape x (member x g.scenes here))

  module _ (few : g.next_serial < 4294967295) where
    pub got_short : (i x : ℕ) → slice_get g.scenes i ≡ Some x → x < 2 ^ 48
    got_short i x at = scene_short g shape few x (got_member g.scenes i x at)

-- the target of the program is a scene of the registry
target_listed : (g : GraphState) (shown : Shown) →
    list_all (λ x. has x g.scenes) (named_by (channel_of shown)) ≡ true →
    has (target_of shown) g.scenes ≡ true
target_listed g (Rest x) listed = and_first _ _ listed
target_listed g (Fade a b t n) listed = and_first _ _ (and_second _ _ listed)

pub target_short : (s : StudioState) → StudioShape s → s.graph.next_serial < 4294967295 →
    target_of s.program.shown < 2 ^ 48
target_short s shape few = scene_short s.graph shape.sources few (target_of s.program.shown)
    (target_listed s.graph s.program.shown (program_listed s shape))
