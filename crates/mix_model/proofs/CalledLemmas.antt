-- Where every row is named, a name that a line gave is that of a named row, so that what refuses a line
-- is what refuses the call that does it.
use Rattle.std.proofs.Common.{◌≡◌, ◌∙◌, ℕ, ◌<◌, ◌==◌, Bool, true, false, cond, not, ◌&&◌, ◌||◌}
use Rattle.std.proofs.Common.{List, [], ◌∷◌, All, find, get_or, Option, Some, None, is_some, IfSome}
use Rattle.std.proofs.Common.{refl, sym, ap, arith, eqb-true, eq-eqb, bytes_eq}
use Rattle.std.specs.Option.{is_none, option_map_or}
use Rattle.std.specs.List.{list_any}
use Rattle.std.proofs.lemmas.List.Elements.{All-head, All-tail}
use Rattle.std.proofs.lemmas.List.Folds.{list_any_at}
use Rattle.mix_model.specs.declared.collection.Line.TheVariants.{Scene as SceneLine}
use Rattle.mix_model.specs.declared.collection.Line.TheVariants.{Input as InputLine}
use Rattle.mix_model.specs.declared.collection.Line.TheVariants.{Group as GroupLine}
use Rattle.mix_model.specs.declared.collection.Line.TheVariants.{Item as ItemLine}
use Rattle.mix_model.specs.declared.collection.Line.TheVariants.{Sound as SoundLine}
use Rattle.mix_model.specs.declared.collection.Line.TheVariants.{Channel as ChannelLine}
use Rattle.mix_model.specs.declared.fault.GraphFault.TheVariants.{NotFound, Exists}
use Rattle.mix_model.specs.declared.kind.Blend.{Blend}
use Rattle.mix_model.specs.declared.kind.Kind.{Kind}
use Rattle.mix_model.specs.declared.place.Place.{Place}
use Rattle.mix_model.specs.declared.place.Sound.{Sound}
use Rattle.mix_model.specs.declared.row.Row.{Row}
use Rattle.mix_model.specs.declared.settings.Settings.{Settings}
use Rattle.mix_model.specs.Causes.{first_cause, item_early, not_kind, not_parent, shown_early}
use Rattle.mix_model.specs.Causes.{source_early, unknown}
use Rattle.mix_model.specs.Holders.{find_named, has_name, is_named, is_named_row, named_row_or_none}
use Rattle.mix_model.specs.Lines.{given_already, line_early, named_scene_cause, not_given, not_of}
use Rattle.mix_model.specs.Lines.{row_called, serial_named}
use Rattle.mix_model.specs.Rows.{is_at, is_scene, is_tone}
use Rattle.mix_model.specs.State.{GraphState}

-- every row is named, and serials count from 1
pub record AreNamed (g : GraphState) : Type 0 where
  pub named : All (λ r. is_named_row g r ≡ true) g.rows
  pub counted : All (λ r. 0 < r.serial) g.rows

-- ---- look-ups

-- what is found is one of them
found_has : (P : Row → Type 0) (test : Row → Bool) (rows : List Row) → All P rows →
    IfSome (find test rows) P
found_has P test [] all = tt
found_has P test (r ∷ rows) all =
    elim (test r) as (λ b. IfSome (cond b (Some r) (find test rows)) P) [
      | true ↦ All-head P r rows all
      | false ↦ found_has P test rows (All-tail P r rows all)
    ]

-- a test that all pass tells nothing
test_dropped : (p q : Row → Bool) (rows : List Row) → All (λ r. p r ≡ true) rows →
    find (λ r. p r && q r) rows ≡ find q rows
test_dropped p q [] all = refl
test_dropped p q (r ∷ rows) all =
    ap (λ b. cond (b && q r) (Some r) (find (λ r. p r && q r) rows))
    (All-head (λ r. p r ≡ true) r rows all)
    ∙ ap (λ o. cond (q r) (Some r) o)
    (test_dropped p q rows (All-tail (λ r. p r ≡ true) r rows all))

named_some : (g : GraphState) (o : Option Row) → IfSome o (λ r. is_named_row g r ≡ true) →
    named_row_or_none g o ≡ is_some o
named_some g None has = refl
named_some g (Some r) has = has

there_at : (g : GraphState) (p : Row → Bool) (r : Row) (rows : List Row) (b : Bool) → p r ≡ b →
    is_named_row g r ≡ true → (p r || list_any p rows) ≡ true →
    (list_any p rows ≡ true → named_row_or_none g (find p rows) ≡ true) →
    named_row_or_none g (cond (p r) (Some r) (find p rows)) ≡ true
there_at g p r rows true is here any others = rw is here
there_at g p r rows false is here any others =
    rw is (others (ap (λ b. b || list_any p rows) (sym is) ∙ any))

there_named : (g : GraphState) (p : Row → Bool) (rows : List Row) →
    All (λ r. is_named_row g r ≡ true) rows → list_any p rows ≡ true →
    named_row_or_none g (find p rows) ≡ true
there_named g p [] all any = cc
there_named g p (r ∷ rows) all any = there_at g p r rows (p r) refl
    (All-head (λ r. is_named_row g r ≡ true) r rows all) any
    (there_named g p rows (All-tail (λ r. is_named_row g r ≡ true) r rows all))

-- no row has the serial 0
not_zero : (n : ℕ) (b : Bool) → (n == 0) ≡ b → 0 < n → b ≡ false
not_zero n true is above = let same : n ≡ 0 = eqb-true n 0 is in
    absurd (omega (arith, same, above))
not_zero n false is above = refl

none_at_zero : (rows : List Row) → All (λ r. 0 < r.serial) rows → find (is_at 0) rows ≡ None
none_at_zero [] counted = refl
none_at_zero (r ∷ rows) counted =
    ap (λ b. cond b (Some r) (find (is_at 0) rows)) (not_zero r.serial (r.serial == 0) refl
    (All-head (λ r. 0 < r.serial) r rows counted))
    ∙ none_at_zero rows (All-tail (λ r. 0 < r.serial) r rows counted)

serial_known : (k : ℕ → Bool) (o : Option Row) → IfSome o (λ r. k r.serial ≡ true) → k 0 ≡ false →
    k (option_map_or (λ r. r.serial) o 0) ≡ is_some o
serial_known k None has none = none
serial_known k (Some r) has none = has

none_not : (o : Option Row) → is_none o ≡ not (is_some o)
none_not None = refl
none_not (Some r) = refl

module _ (g : GraphState) (are : AreNamed g) where
  -- what a line finds is what a look-up of named rows finds
  pub called : (name : List ℕ) → find_named g name ≡ row_called g name
  called name = test_dropped (is_named_row g) (λ r. bytes_eq r.name name) g.rows are.named

  pub taken : (name : List ℕ) → is_some (row_called g name) ≡ has_name g name
  taken name = sym (ap (named_row_or_none g) (called name) ∙ named_some g (row_called g name)
      (found_has (λ r. is_named_row g r ≡ true) (λ r. bytes_eq r.name name) g.rows are.named))

  serials_known : All (λ r. is_named g r.serial ≡ true) g.rows
  serials_known = λ k d within.
      there_named g (is_at (get_or g.rows k d).serial) g.rows are.named
      (list_any_at (is_at (get_or g.rows k d).serial) g.rows k d within
      (eq-eqb (get_or g.rows k d).serial (get_or g.rows k d).serial refl))

  pub missing : (name : List ℕ) →
      is_none (row_called g name) ≡ not (is_named g (serial_named g name))
  missing name = none_not (row_called g name) ∙ ap not (sym (serial_known (is_named g)
      (row_called g name)
      (found_has (λ r. is_named g r.serial ≡ true) (λ r. bytes_eq r.name name) g.rows serials_known)
      (ap (named_row_or_none g) (none_at_zero g.rows are.counted))))

  -- ---- what refuses a line is what refuses its call

  pub scene_early : (name : List ℕ) → line_early g (SceneLine name) ≡ source_early g name
  unfolding line_early source_early
  scene_early name = ap (λ (b : Bool). first_cause ((b, Exists) ∷ [])) (taken name)

  pub input_early : (kind : Kind) (name : List ℕ) (settings : Settings) →
      line_early g (InputLine kind name settings) ≡ source_early g name
  unfolding line_early source_early
  input_early kind name settings =
      ap (λ (b : Bool). first_cause ((b, Exists) ∷ [])) (taken name)

  pub group_early : (name parent : List ℕ) (enabled locked : Bool) (place : Place)
      (blend : Blend) → line_early g (GroupLine name parent enabled locked place blend)
      ≡ shown_early g name (serial_named g parent)
  unfolding line_early shown_early
  group_early name parent enabled locked place blend =
      let x : ℕ = serial_named g parent in
      ap (λ (b : Bool). first_cause ((b, NotFound)
      ∷ (not_parent g x ∷ (given_already g name ∷ [])))) (missing parent)
      ∙ ap (λ (b : Bool). first_cause (unknown g x ∷ (not_parent g x ∷ ((b, Exists) ∷ []))))
      (taken name)

  pub item_early_by : (parent child : List ℕ) (enabled locked : Bool) (place : Place)
      (blend : Blend) → line_early g (ItemLine parent child enabled locked place blend)
      ≡ item_early g (serial_named g parent) (serial_named g child)
  unfolding line_early item_early
  item_early_by parent child enabled locked place blend =
      let x : ℕ = serial_named g parent in
      ap (λ (b : Bool). first_cause ((b, NotFound)
      ∷ (not_given g child ∷ (not_parent g x ∷ [])))) (missing parent)
      ∙ ap (λ (b : Bool). first_cause (unknown g x ∷ ((b, NotFound) ∷ (not_parent g x ∷ []))))
      (missing child)

  pub sound_early : (name : List ℕ) (sound : Sound) → line_early g (SoundLine name sound)
      ≡ first_cause (unknown g (serial_named g name)
      ∷ (not_kind is_tone g (serial_named g name) ∷ []))
  unfolding line_early
  sound_early name sound =
      ap (λ (b : Bool). first_cause ((b, NotFound) ∷ (not_of is_tone g name ∷ []))) (missing name)

  pub channel_early : (number : ℕ) (name : List ℕ) → line_early g (ChannelLine number name)
      ≡ first_cause (unknown g (serial_named g name) ∷ [])
  unfolding line_early
  channel_early number name =
      ap (λ (b : Bool). first_cause ((b, NotFound) ∷ [])) (missing name)

  pub end_early : (name : List ℕ) → named_scene_cause g name
      ≡ first_cause (unknown g (serial_named g name)
      ∷ (not_kind is_scene g (serial_named g name) ∷ []))
  end_early name =
      ap (λ (b : Bool). first_cause ((b, NotFound) ∷ (not_of is_scene g name ∷ []))) (missing name)
