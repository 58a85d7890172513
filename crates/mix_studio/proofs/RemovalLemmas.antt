-- A scene that is removed.
use Rattle.std.proofs.Common.{◌≡◌, ◌∙◌, ℕ, ◌≤◌, ◌==◌, Bool, true, false, cond, not}
use Rattle.std.proofs.Common.{List, [], ◌∷◌, ◌++◌, Some, find, length, take}
use Rattle.std.proofs.Common.{get_or, suc, unwrap_or, zero, IsTrue, refl, sym, ap, arith, eq-eqb, eqb-true}
use Rattle.std.specs.Prelude.{slice_get, slice_set}
use Rattle.std.specs.List.{list_any}
use Rattle.mix_model.specs.Edits.{channel_set, source_removed}
use Rattle.mix_model.specs.Holders.{names}
use Rattle.mix_model.specs.Lookups.{named_by, registry}
use Rattle.mix_model.specs.Marks.{Mark, settled_by}
use Rattle.mix_model.specs.Program.{channel_of, forget_scene, shown_without}
use Rattle.mix_model.specs.Sets.{has, is_distinct}
use Rattle.mix_model.specs.Shape.{GraphShape}
use Rattle.mix_model.specs.State.{Channel, GraphState, ProgramState, Shown, Rest, Fade}
use Rattle.mix_model.specs.Studio.{other_scene}
use Rattle.mix_model.proofs.SetLemmas.{and_first, or_left, or_right}
use Rattle.mix_studio.proofs.HeldLemmas.{channel_kills_none}
use Rattle.mix_studio.proofs.TwiceLemmas.{settled_once, removed_passes}

-- ---- the other scene

-- a scene beside another one
pub record IsOther (y : ℕ) (scenes : List ℕ) (z : ℕ) : Type 0 where
  pub found : find (λ x. not (x == y)) scenes ≡ Some z
  pub listed : has z scenes ≡ true
  pub other : (z == y) ≡ false

other_in : (y : ℕ) (scenes more : List ℕ) → 2 ≤ length scenes →
    is_distinct (scenes ++ more) ≡ true → (z : ℕ) × IsOther y scenes z
other_in y [] more two once = absurd (omega (arith, two))
other_in y (a ∷ []) more two once = absurd (omega (arith, two))
other_in y (a ∷ (b ∷ rest)) more two once = first (a == y) refl
  where
    second : (c : Bool) → (b == y) ≡ c → (a == y) ≡ true → (z : ℕ) × IsOther y (a ∷ (b ∷ rest)) z
    second true is at = let clash : not (has a (b ∷ (rest ++ more))) ≡ true =
        and_first _ _ once in
        let same : b ≡ a = eqb-true b y is ∙ sym (eqb-true a y at) in
        let there : has a (b ∷ (rest ++ more)) ≡ true =
        or_left (b == a) _ (eq-eqb b a same) in
        let no : not true ≡ true = ap not (sym there) ∙ clash in cc
    second false is at = (
      b,
      record {
        found = rw (at, is) refl;
        listed = or_right (a == b) _ (or_left (b == b) _ (eq-eqb b b refl));
        other = is;
      },
    )

    first : (c : Bool) → (a == y) ≡ c → (z : ℕ) × IsOther y (a ∷ (b ∷ rest)) z
    first true is = second (b == y) refl is
    first false is = (
      a,
      record {
        found = rw is refl;
        listed = or_left (a == a) _ (eq-eqb a a refl);
        other = is;
      },
    )

module _ (g : GraphState) (shape : GraphShape g) (y : ℕ) (two : 2 ≤ length g.scenes) where
  some_other : (z : ℕ) × IsOther y g.scenes z
  some_other = other_in y g.scenes g.inputs two shape.parts.registry.registry_once

  other_is : other_scene y g ≡ some_other.0
  other_is = ap (λ o. unwrap_or o 0) some_other.1.found

  -- it is in the registry
  pub other_listed : has (other_scene y g) g.scenes ≡ true
  other_listed = ap (λ z. has z g.scenes) other_is ∙ some_other.1.listed

  -- and another one
  pub other_differs : (other_scene y g == y) ≡ false
  other_differs = ap (λ z. z == y) other_is ∙ some_other.1.other

-- it is one of the first two
first_two : (y d : ℕ) (scenes more : List ℕ) → 2 ≤ length scenes →
    is_distinct (scenes ++ more) ≡ true →
    cond (get_or scenes 0 d == y) (get_or scenes 1 d) (get_or scenes 0 d)
    ≡ unwrap_or (find (λ x. not (x == y)) scenes) 0
first_two y d [] more two once = absurd (omega (arith, two))
first_two y d (a ∷ []) more two once = absurd (omega (arith, two))
first_two y d (a ∷ (b ∷ rest)) more two once = first (a == y) refl
  where
    second : (c : Bool) → (b == y) ≡ c → (a == y) ≡ true →
        cond (a == y) b a ≡ unwrap_or (find (λ x. not (x == y)) (a ∷ (b ∷ rest))) 0
    second true is at = let clash : not (has a (b ∷ (rest ++ more))) ≡ true =
        and_first _ _ once in
        let same : b ≡ a = eqb-true b y is ∙ sym (eqb-true a y at) in
        let there : has a (b ∷ (rest ++ more)) ≡ true =
        or_left (b == a) _ (eq-eqb b a same) in
        let no : not true ≡ true = ap not (sym there) ∙ clash in cc
    second false is at = rw (at, is) refl

    first : (c : Bool) → (a == y) ≡ c →
        cond (a == y) b a ≡ unwrap_or (find (λ x. not (x == y)) (a ∷ (b ∷ rest))) 0
    first true is = second (b == y) refl is
    first false is = rw is refl

pub other_first : (g : GraphState) (y d : ℕ) → 2 ≤ length g.scenes →
    is_distinct (registry g) ≡ true → (get_or g.scenes 0 d == y) ≡ false →
    get_or g.scenes 0 d ≡ other_scene y g
other_first g y d two once other =
    ap (λ b. cond b (get_or g.scenes 1 d) (get_or g.scenes 0 d)) (sym other)
    ∙ first_two y d g.scenes g.inputs two once

pub other_second : (g : GraphState) (y d : ℕ) → 2 ≤ length g.scenes →
    is_distinct (registry g) ≡ true → (get_or g.scenes 0 d == y) ≡ true →
    get_or g.scenes 1 d ≡ other_scene y g
other_second g y d two once same =
    ap (λ b. cond b (get_or g.scenes 1 d) (get_or g.scenes 0 d)) (sym same)
    ∙ first_two y d g.scenes g.inputs two once

or_get : (xs : List ℕ) (i d : ℕ) → unwrap_or (slice_get xs i) d ≡ get_or xs i d
or_get [] i d = refl
or_get (x ∷ xs) zero d = refl
or_get (x ∷ xs) (suc i) d = or_get xs i d

eqb-other : (a b : ℕ) (c : Bool) → (a == b) ≡ c → (a ≡ b → ⊥) → (a == b) ≡ false
eqb-other a b true is other = absurd (other (eqb-true a b is))
eqb-other a b false is other = is

pub first_is_other : (g : GraphState) (y r d : ℕ) → r ≡ unwrap_or (slice_get g.scenes 0) d →
    (r ≡ y → ⊥) → 2 ≤ length g.scenes → is_distinct (registry g) ≡ true → r ≡ other_scene y g
first_is_other g y r d is other two once =
    let same : r ≡ get_or g.scenes 0 d = is ∙ or_get g.scenes 0 d in
    same ∙ other_first g y d two once (ap (λ k. k == y) (sym same)
    ∙ eqb-other r y (r == y) refl other)

pub second_is_other : (g : GraphState) (y r s d : ℕ) →
    r ≡ unwrap_or (slice_get g.scenes 0) d → s ≡ unwrap_or (slice_get g.scenes 1) d → r ≡ y →
    2 ≤ length g.scenes → is_distinct (registry g) ≡ true → s ≡ other_scene y g
second_is_other g y r s d is next same two once =
    next ∙ or_get g.scenes 1 d ∙ other_second g y d two once
    (ap (λ k. k == y) (sym (is ∙ or_get g.scenes 0 d)) ∙ eq-eqb r y same)

-- ---- the program forgets the scene

rests_elsewhere : (y other x : ℕ) (b : Bool) → (x == y) ≡ b → (other == y) ≡ false →
    has y (named_by (channel_of (cond b (Rest other) (Rest x)))) ≡ false
rests_elsewhere y other x true is differs = rw differs refl
rests_elsewhere y other x false is differs = rw is refl

fades_elsewhere : (y a b t n : ℕ) (c d : Bool) → (a == y) ≡ c → (b == y) ≡ d →
    is_distinct (a ∷ (b ∷ [])) ≡ true →
    has y (named_by (channel_of (cond c (Rest b) (cond d (Rest a) (Fade a b t n))))) ≡ false
fades_elsewhere y a b t n true true first second differ =
    let same : b ≡ a = eqb-true b y second ∙ sym (eqb-true a y first) in
    let clash : not (has a (b ∷ [])) ≡ true = and_first _ _ differ in
    let there : has a (b ∷ []) ≡ true = or_left (b == a) _ (eq-eqb b a same) in
    let no : not true ≡ true = ap not (sym there) ∙ clash in cc
fades_elsewhere y a b t n true false first second differ = rw second refl
fades_elsewhere y a b t n false true first second differ = rw first refl
fades_elsewhere y a b t n false false first second differ = rw (first, second) refl

forgotten : (y other : ℕ) (shown : Shown) → is_distinct (named_by (channel_of shown)) ≡ true →
    (other == y) ≡ false → has y (named_by (channel_of (shown_without y other shown))) ≡ false
forgotten y other (Rest x) differ differs = rests_elsewhere y other x (x == y) refl differs
forgotten y other (Fade a b t n) differ differs =
    fades_elsewhere y a b t n (a == y) (b == y) refl refl differ

-- then channel 0 doesn't name it
pub forgotten_scene : (p : ProgramState) (y other : ℕ) →
    is_distinct (named_by (channel_of p.shown)) ≡ true → (other == y) ≡ false →
    has y (named_by (channel_of (forget_scene p y other).program.shown)) ≡ false
unfolding forget_scene
forgotten_scene p y other differ differs = forgotten y other p.shown differ differs

unnamed_by : (x : ℕ) (cs : List Channel) (c : Channel) → take 1 cs ≡ c ∷ [] →
    has x (named_by c) ≡ false → IsTrue (not (list_any (names x) (take 1 cs)))
unnamed_by x cs c first other = ap (λ ds. not (list_any (names x) ds)) first ∙ rw other refl

first_set : (cs : List Channel) (c d : Channel) → take 1 cs ≡ d ∷ [] →
    take 1 (slice_set cs 0 c) ≡ c ∷ []
first_set [] c d first = cc
first_set (e ∷ cs) c d first = refl

set_channels : (marks : List Mark) (c : Channel) (g : GraphState) →
    (settled_by marks (channel_set 0 c g)).channels ≡ slice_set g.channels 0 c
unfolding settled_by channel_set
set_channels marks c g = refl

pub unnamed : (marks : List Mark) (x : ℕ) (g : GraphState) (c d : Channel) →
    take 1 g.channels ≡ d ∷ [] → has x (named_by c) ≡ false →
    IsTrue (not (list_any (names x) (take 1 (settled_by marks (channel_set 0 c g)).channels)))
unnamed marks x g c d first other = unnamed_by x _ c
    (ap (take 1) (set_channels marks c g) ∙ first_set g.channels c d first) other

-- ---- and the scene goes

-- that channel 0 is settled before makes no difference
pub removed_once : (marks : List Mark) (x : ℕ) (c : Channel) (g : GraphState) → GraphShape g →
    settled_by marks (source_removed x (settled_by marks (channel_set 0 c g)))
    ≡ settled_by marks (source_removed x (channel_set 0 c g))
removed_once marks x c g shape = settled_once marks (source_removed x) (channel_set 0 c g)
    (channel_kills_none g shape c) (removed_passes x)
