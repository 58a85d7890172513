-- Scenes of the registry, and what may stand on channel 0.
use Rattle.std.proofs.Common.{◌≡◌, ◌∙◌, ℕ, ◌==◌, ◌+◌, nat_lt, Bool, true, false, cond}
use Rattle.std.proofs.Common.{List, [], ◌∷◌, Option, Some, None, IsTrue, refl, sym, ap, subst}
use Rattle.std.proofs.Common.{Result, Ok, Err, IsErr, OnOk, take}
use Rattle.std.specs.Option.{option_map_or}
use Rattle.std.specs.List.{list_all, list_any}
use Rattle.std.proofs.lemmas.Bool.{eqb-true}
use Rattle.std.proofs.lemmas.List.Folds.{list_any-append}
use Rattle.mix_base.specs.declared.rate.Rate.{Rate}
use Rattle.mix_model.specs.declared.row.Row.{Row}
use Rattle.mix_model.specs.Holders.{is_named, is_named_row, named_row_or_none}
use Rattle.mix_model.specs.Lookups.{named_by, registry, row_of, row_passes}
use Rattle.mix_model.specs.Program.{advance_program, channel_of, forget_scene, set_program}
use Rattle.mix_model.specs.Program.{shown_after, shown_without, target_of, towards}
use Rattle.mix_model.specs.Rows.{is_at, is_scene}
use Rattle.mix_model.specs.Sets.{has, is_distinct}
use Rattle.mix_model.specs.Shape.{GraphShape, is_program_channel}
use Rattle.mix_model.specs.State.{Channel, GraphState, ProgramState, Shown, Rest, Fade, StudioState}
use Rattle.mix_model.specs.Voices.{ends_of}
use Rattle.mix_model.specs.WholeShape.{StudioShape}
use Rattle.mix_model.proofs.DyingLemmas.{member_passes}
use Rattle.mix_model.proofs.SetLemmas.{and_both, and_first, and_second, found_test, or_left, or_right}
use Rattle.mix_graph.specs.Refused.{is_missing, is_no_other, may_be_set}

-- ---- scenes of the registry

passes_some : (test : Row → Bool) (o : Option Row) → option_map_or test o false ≡ true →
    (r : Row) × (o ≡ Some r)
passes_some test None passed = cc
passes_some test (Some r) passed = (r, refl)

module _ (g : GraphState) (shape : GraphShape g) (x : ℕ) (here : has x g.scenes ≡ true) where
  pub scene_passes : row_passes g (λ r. is_scene r.kind) x ≡ true
  scene_passes = member_passes _ x g.scenes here shape.parts.registry.scenes_scenes

  scene_row : (r : Row) × (row_of g x ≡ Some r)
  scene_row = passes_some (λ r. is_scene r.kind) (row_of g x) scene_passes

  pub scene_registered : has x (registry g) ≡ true
  scene_registered = list_any-append (λ y. y == x) g.scenes g.inputs ∙ or_left _ _ here

  pub scene_named : is_named g x ≡ true
  unfolding is_named_row
  scene_named =
      let same : scene_row.0.serial ≡ x = eqb-true scene_row.0.serial x
      (found_test (is_at x) g.rows scene_row.0 scene_row.1) in
      ap (named_row_or_none g) scene_row.1
      ∙ or_left _ _ (subst (λ y. has y (registry g) ≡ true) (sym same) scene_registered)

  pub scene_is_no_other : is_no_other g x ≡ true
  scene_is_no_other = or_right _ _ scene_passes

-- a scene isn't missing
pub not_missing : (g : GraphState) → GraphShape g → (xs : List ℕ) →
    list_all (λ x. has x g.scenes) xs ≡ true → list_any (is_missing g) xs ≡ false
not_missing g shape [] listed = refl
not_missing g shape (x ∷ xs) listed =
    let here : has x g.scenes ≡ true = and_first _ _ listed in
    let more : list_all (λ y. has y g.scenes) xs ≡ true = and_second _ _ listed in
    rw (scene_named g shape x here, not_missing g shape xs more) refl

no_others : (g : GraphState) → GraphShape g → (xs : List ℕ) →
    list_all (λ x. has x g.scenes) xs ≡ true → list_all (is_no_other g) xs ≡ true
no_others g shape [] listed = refl
no_others g shape (x ∷ xs) listed =
    and_both _ _ (scene_is_no_other g shape x (and_first _ _ listed))
    (no_others g shape xs (and_second _ _ listed))

-- ---- channel 0

-- the ends of the program are what channel 0 names
pub ends_named : (shown : Shown) → (Some (ends_of shown).0, (ends_of shown).1) ≡ channel_of shown
ends_named (Rest x) = refl
ends_named (Fade a b t n) = refl

pub given_by : (ends : ℕ × Option ℕ) (shown : Shown) → ends ≡ ends_of shown →
    (Some ends.0, ends.1) ≡ channel_of shown
given_by ends shown is = ap (λ (e : ℕ × Option ℕ). (Some e.0, e.1)) is ∙ ends_named shown

module _ (g : GraphState) (shape : GraphShape g) (shown : Shown)
    (listed : list_all (λ x. has x g.scenes) (named_by (channel_of shown)) ≡ true) where
  some_first : (s : Shown) → is_distinct (named_by (channel_of s)) ≡ true →
      list_all (is_no_other g) (named_by (channel_of s)) ≡ true →
      may_be_set g 0 (channel_of s) ≡ true
  some_first (Rest x) differ scenes = and_both _ _ differ scenes
  some_first (Fade a b t n) differ scenes = and_both _ _ differ scenes

  -- scenes of the registry may be set, where they differ
  pub ends_may_be_set : is_distinct (named_by (channel_of shown)) ≡ true →
      (ends : ℕ × Option ℕ) → ends ≡ ends_of shown →
      IsTrue (may_be_set g 0 (Some ends.0, ends.1))
  ends_may_be_set differ ends is = subst (λ c. may_be_set g 0 c ≡ true)
      (sym (given_by ends shown is))
      (some_first shown differ (no_others g shape (named_by (channel_of shown)) listed))

  -- and none of them is missing
  pub ends_not_missing : (ends : ℕ × Option ℕ) → ends ≡ ends_of shown →
      IsTrue (list_any (is_missing g) (named_by (Some ends.0, ends.1))) → false ≡ true
  ends_not_missing ends is missing =
      sym (ap (λ c. list_any (is_missing g) (named_by c)) (given_by ends shown is)
      ∙ not_missing g shape (named_by (channel_of shown)) listed) ∙ missing

-- a call that isn't refused leaves what it says
pub left_where_ok : {A E : Type 0} (r : Result A E) (P : Type 0) → OnOk r P →
    (IsErr r → false ≡ true) → P
left_where_ok (Ok value) P ok not_err = ok
left_where_ok (Err fault) P ok not_err = let no : false ≡ true = not_err refl in cc

-- ---- what the program shows are scenes

channel_passes : (g : GraphState) (c : Channel) → GraphShape g → take 1 g.channels ≡ c ∷ [] →
    is_program_channel g c ≡ true
channel_passes g c shape named = and_first _ _
    (ap (list_all (is_program_channel g)) (sym named) ∙ shape.parts.beside.channels.program_channel)

pub program_listed : (s : StudioState) → StudioShape s →
    list_all (λ x. has x s.graph.scenes) (named_by (channel_of s.program.shown)) ≡ true
program_listed s shape = and_first _ _ (and_first _ _
    (channel_passes s.graph (channel_of s.program.shown) shape.sources shape.program))

pub ends_differ : (s : StudioState) → StudioShape s →
    is_distinct (named_by (channel_of s.program.shown)) ≡ true
ends_differ s shape = and_second _ _ (and_first _ _
    (channel_passes s.graph (channel_of s.program.shown) shape.sources shape.program))

module _ (test : ℕ → Bool) where
  abbrev Passes : Shown → Type 0
  Passes shown = list_all test (named_by (channel_of shown)) ≡ true

  -- the target is one of what is shown
  pub target_passes : (shown : Shown) → Passes shown → test (target_of shown) ≡ true
  target_passes (Rest x) all = and_first _ _ all
  target_passes (Fade a b t n) all = and_first _ _ (and_second _ _ all)

  towards_passes : (p : ProgramState) (rate : Rate) (y : ℕ) (fades : Bool) → p.fades ≡ fades →
      Passes p.shown → test y ≡ true → Passes (towards p rate y)
  towards_passes p rate y true is all here =
      rw is (and_both _ _ (target_passes p.shown all) (and_both _ _ here refl))
  towards_passes p rate y false is all here = rw is (and_both _ _ here refl)

  -- after it is set it shows what it did, or the target and the scene
  pub set_passes : (p : ProgramState) (rate : Rate) (y : ℕ) → Passes p.shown → test y ≡ true →
      Passes (set_program p rate y).program.shown
  unfolding set_program
  set_passes p rate y all here = case (target_of p.shown == y) refl
    where
      case : (b : Bool) → (target_of p.shown == y) ≡ b →
          Passes (set_program p rate y).program.shown
      case true is = rw is all
      case false is = rw is (towards_passes p rate y p.fades refl all here)

  after_passes : (shown : Shown) → Passes shown → Passes (shown_after shown)
  after_passes (Rest x) all = all
  after_passes (Fade a b t n) all = elim (nat_lt (t + 1) n) as (λ c.
      Passes (cond c (Fade a b (t + 1) n) (Rest b))) [
        | true ↦ all
        | false ↦ and_second _ _ all
      ]

  -- a frame more
  pub advance_passes : (p : ProgramState) → Passes p.shown →
      Passes (advance_program p).program.shown
  unfolding advance_program
  advance_passes p all = after_passes p.shown all

  without_passes : (y other : ℕ) (shown : Shown) → Passes shown → test other ≡ true →
      Passes (shown_without y other shown)
  without_passes y other (Rest x) all here = elim (x == y) as (λ c.
      Passes (cond c (Rest other) (Rest x))) [
        | true ↦ and_both _ _ here refl
        | false ↦ all
      ]
  without_passes y other (Fade a b t n) all here = elim (a == y) as (λ c.
      Passes (cond c (Rest b) (cond (b == y) (Rest a) (Fade a b t n)))) [
        | true ↦ and_second _ _ all
        | false ↦ elim (b == y) as (λ c. Passes (cond c (Rest a) (Fade a b t n))) [
          | true ↦ and_both _ _ (and_first _ _ all) refl
          | false ↦ all
        ]
      ]

  -- a scene less, and another one instead
  pub forget_passes : (p : ProgramState) (y other : ℕ) → Passes p.shown → test other ≡ true →
      Passes (forget_scene p y other).program.shown
  unfolding forget_scene
  forget_passes p y other all here = without_passes y other p.shown all here
