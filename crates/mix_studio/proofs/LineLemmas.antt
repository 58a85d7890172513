-- Each line of a collection is one call of the sources, and is refused where the call is.
use Rattle.std.proofs.Common.{◌≡◌, ◌∙◌, ℕ, ◌+◌, ◌<◌, ◌≤◌, ◌==◌, Bool, true, false, cond, not}
use Rattle.std.proofs.Common.{List, [], ◌∷◌, find, Option, Some, None, is_some, IsTrue, refl, sym}
use Rattle.std.proofs.Common.{ap, subst, arith, add-one, leb-true, eqb-true, eq-eqb, inr, ◌⊎◌}
use Rattle.std.proofs.Common.{All, IfSome, IsErr, OnOk, Result, Err, ◌↔◌, ◌&&◌, ◌||◌, suc}
use Rattle.std.proofs.Common.{get_or, drop, length}
use Rattle.std.proofs.Math.Seq.{drop-cons}
use Rattle.std.specs.Option.{option_map_or}
use Rattle.std.specs.List.{list_all, list_any}
use Rattle.std.proofs.lemmas.Bool.{ltb-true}
use Rattle.mix_model.specs.declared.fault.GraphFault.{GraphFault}
use Rattle.mix_model.specs.declared.fault.GraphFault.TheVariants.{NoMemory, NotFound, WrongKind}
use Rattle.mix_model.specs.declared.collection.Line.{Line}
use Rattle.mix_model.specs.declared.collection.Line.TheVariants.{Scene as SceneLine}
use Rattle.mix_model.specs.declared.collection.Line.TheVariants.{Input as InputLine}
use Rattle.mix_model.specs.declared.collection.Line.TheVariants.{Group as GroupLine}
use Rattle.mix_model.specs.declared.collection.Line.TheVariants.{Item as ItemLine}
use Rattle.mix_model.specs.declared.collection.Line.TheVariants.{Sound as SoundLine}
use Rattle.mix_model.specs.declared.collection.Line.TheVariants.{Channel as ChannelLine}
use Rattle.mix_model.specs.declared.item.ItemSpec.{ItemSpec}
use Rattle.mix_model.specs.declared.kind.Blend.{Blend}
use Rattle.mix_model.specs.declared.kind.Kind.{Kind}
use Rattle.mix_model.specs.declared.kind.Kind.TheVariants.{Scene, Group, Color, Checker, Scroll}
use Rattle.mix_model.specs.declared.kind.Kind.TheVariants.{Raster, Tone}
use Rattle.mix_model.specs.declared.place.Place.{Place}
use Rattle.mix_model.specs.declared.place.Sound.{Sound}
use Rattle.mix_model.specs.declared.row.Row.{Row}
use Rattle.mix_model.specs.declared.settings.Settings.{Settings}
use Rattle.mix_base.specs.Names.{is_name}
use Rattle.mix_model.specs.Causes.{Cause, cause_or, first_cause, item_cause, name_taken, not_kind}
use Rattle.mix_model.specs.Causes.{late_cause, not_parent, scene_cause, shown_cause, shown_early}
use Rattle.mix_model.specs.Causes.{unknown}
use Rattle.mix_model.specs.Fitting.{Fits, line_fits}
use Rattle.mix_model.specs.Edits.{channel_set, group_created, input_created, input_set, item_added}
use Rattle.mix_model.specs.Edits.{empty_graph, scene_created}
use Rattle.mix_model.specs.Holders.{is_named, named_row_or_none}
use Rattle.mix_model.specs.Lines.{line_cause, line_done, line_early, line_late, lines_done}
use Rattle.mix_model.specs.Lines.{not_given, not_of, row_called, serial_named, sound_set, unless}
use Rattle.mix_model.specs.Lookups.{named_by, row_of, row_passes}
use Rattle.mix_model.specs.Marks.{GraphModel, edited}
use Rattle.mix_model.specs.Rows.{is_at, is_input, is_tone, serials_of}
use Rattle.mix_model.specs.Sets.{rises_above}
use Rattle.mix_model.specs.Shape.{GraphShape}
use Rattle.mix_model.specs.State.{GraphState}
use Rattle.mix_model.specs.Values.{are_settings, is_between, is_place, is_sound}
use Rattle.mix_model.proofs.CalledLemmas.{AreNamed, group_early, input_early, item_early_by}
use Rattle.mix_model.proofs.CalledLemmas.{missing, scene_early}
use Rattle.mix_model.proofs.SetLemmas.{and_both, and_first, and_second, found_test}
use Rattle.mix_graph.specs.Refused.{RefusedBy, is_missing, may_be_set}
use Rattle.mix_studio.specs.Openings.{IsCause, IsFresh, IsLeft, IsRefusal}
use Rattle.mix_studio.proofs.FreshLemmas.{all_named, channel_fresh, group_fresh, input_fresh}
use Rattle.mix_studio.proofs.FreshLemmas.{item_fresh, left_by, scene_fresh, set_fresh}
use Rattle.mix_studio.proofs.SceneLemmas.{left_where_ok}

-- ---- why a line is refused: as its call is

module _ (m : GraphModel) (fresh : IsFresh m) where
  abbrev now : GraphState
  now = m.present

  pub scene_as_call : (name : List ℕ) →
      line_cause now (SceneLine name) ≡ scene_cause now name (scene_created name now)
  unfolding line_done line_early line_late
  scene_as_call name = ap (λ early. cause_or early (line_late now (SceneLine name)))
      (scene_early now (all_named m fresh) name)

  pub input_as_call : (kind : Kind) (name : List ℕ) (settings : Settings) →
      line_cause now (InputLine kind name settings)
      ≡ scene_cause now name (input_created name kind settings now)
  unfolding line_done line_early line_late
  input_as_call kind name settings =
      ap (λ early. cause_or early (line_late now (InputLine kind name settings)))
      (input_early now (all_named m fresh) kind name settings)

  pub group_as_call : (name parent : List ℕ) (x : ℕ) (spec : ItemSpec) →
      x ≡ serial_named now parent →
      line_cause now (GroupLine name parent spec.enabled spec.locked spec.place spec.blend)
      ≡ shown_cause now name x (group_created name x spec now)
  unfolding line_done line_early line_late
  group_as_call name parent x spec first =
      ap (λ early. cause_or early (line_late now
      (GroupLine name parent spec.enabled spec.locked spec.place spec.blend)))
      (group_early now (all_named m fresh) name parent spec.enabled spec.locked spec.place
      spec.blend)
      ∙ ap (λ z. shown_cause now name z (group_created name z spec now)) (sym first)

  pub item_as_call : (parent child : List ℕ) (x y : ℕ) (spec : ItemSpec) →
      x ≡ serial_named now parent → y ≡ serial_named now child →
      line_cause now (ItemLine parent child spec.enabled spec.locked spec.place spec.blend)
      ≡ item_cause now x y (item_added x y spec now)
  unfolding line_done line_early line_late
  item_as_call parent child x y spec first second =
      ap (λ early. cause_or early (line_late now
      (ItemLine parent child spec.enabled spec.locked spec.place spec.blend)))
      (item_early_by now (all_named m fresh) parent child spec.enabled spec.locked spec.place
      spec.blend)
      ∙ ap (λ z. item_cause now z (serial_named now child)
      (item_added z (serial_named now child) spec now)) (sym first)
      ∙ ap (λ z. item_cause now x z (item_added x z spec now)) (sym second)

-- what refuses the call is told of the line
pub told_as : {known cause : Option GraphFault} (T : Type 0) (fault : GraphFault) →
    known ≡ cause → RefusedBy {T = T} cause (Err fault) → IsCause known fault
told_as T NoMemory same is = tt
told_as T _ same is = same ∙ is

-- ---- a name that has to be of a kind

abbrev causes_by : Bool → Bool → Option GraphFault
causes_by named passes =
    first_cause ((not named, NotFound) ∷ ((not passes, WrongKind) ∷ []))

module _ (g : GraphState) (are : AreNamed g) (test : Kind → Bool) (name : List ℕ) (x : ℕ)
    (is : x ≡ serial_named g name) where
  abbrev kind_cause : Option GraphFault
  kind_cause = first_cause (not_given g name ∷ (not_of test g name ∷ []))

  abbrev passes : Bool
  passes = row_passes g (λ r. test r.kind) x

  kind_by : kind_cause ≡ causes_by (is_named g x) passes
  kind_by = ap (λ (b : Bool). first_cause ((b, NotFound) ∷ (not_of test g name ∷ [])))
      (missing g are name)
      ∙ ap (λ y. first_cause (unknown g y ∷ (not_kind test g y ∷ []))) (sym is)

  pub not_found : is_named g x ≡ false → kind_cause ≡ Some NotFound
  not_found named = kind_by ∙ ap (λ b. causes_by b passes) named

  pub wrong_kind : is_named g x ≡ true → passes ≡ false → kind_cause ≡ Some WrongKind
  wrong_kind named other =
      kind_by ∙ ap (λ b. causes_by b passes) named ∙ ap (causes_by true) other

  pub of_kind : is_named g x ≡ true → passes ≡ true → kind_cause ≡ None
  of_kind named so = kind_by ∙ ap (λ b. causes_by b passes) named ∙ ap (causes_by true) so

no_late : (early : Option GraphFault) → cause_or early None ≡ early
no_late None = refl
no_late (Some fault) = refl

pub sound_cause : (g : GraphState) (name : List ℕ) (sound : Sound) →
    line_cause g (SoundLine name sound)
    ≡ first_cause (not_given g name ∷ (not_of is_tone g name ∷ []))
unfolding line_early line_late
sound_cause g name sound = no_late (first_cause (not_given g name ∷ (not_of is_tone g name ∷ [])))

-- ---- where a line isn't refused no cause holds

first_out : (a : Cause) (rest : List Cause) → first_cause (a ∷ rest) ≡ None → a.0 ≡ false
first_out (true, fault) rest none = cc
first_out (false, fault) rest none = refl

early_out : (early late : Option GraphFault) → cause_or early late ≡ None → early ≡ None
early_out None late none = refl
early_out (Some fault) late none = cc

passed : (b : Bool) → not b ≡ false → b ≡ true
passed true out = refl
passed false out = cc

-- a named row is a row
named_there : (g : GraphState) (o : Option Row) → named_row_or_none g o ≡ true → is_some o ≡ true
named_there g None named = cc
named_there g (Some r) named = refl

pub there : (g : GraphState) (x : ℕ) → is_named g x ≡ true → is_some (row_of g x) ≡ true
there g x named = named_there g (row_of g x) named

-- ---- each line

pub scene_left : (m new : GraphModel) (name : List ℕ) → IsFresh m →
    new ≡ edited (scene_created name) m → IsLeft (line_done m.present (SceneLine name)) new
unfolding line_done
scene_left m new name fresh made = left_by m new (scene_created name) fresh
    (scene_fresh m fresh name) made

pub input_left : (m new : GraphModel) (kind : Kind) (name : List ℕ) (settings : Settings) →
    IsFresh m → new ≡ edited (input_created name kind settings) m →
    IsLeft (line_done m.present (InputLine kind name settings)) new
unfolding line_done
input_left m new kind name settings fresh made = left_by m new (input_created name kind settings)
    fresh (input_fresh m fresh name kind settings) made

pub item_left : (m new : GraphModel) (parent child : List ℕ) (x y : ℕ) (spec : ItemSpec) →
    IsFresh m → x ≡ serial_named m.present parent → y ≡ serial_named m.present child →
    new ≡ edited (item_added x y spec) m →
    IsLeft (line_done m.present
    (ItemLine parent child spec.enabled spec.locked spec.place spec.blend)) new
unfolding line_done
item_left m new parent child x y spec fresh first second made =
    subst (λ z. IsLeft (item_added z (serial_named m.present child) spec m.present) new) first
    (subst (λ z. IsLeft (item_added x z spec m.present) new) second
    (left_by m new (item_added x y spec) fresh (item_fresh m fresh x y spec) made))

-- the parent of a group is a row
parent_there : (g after : GraphState) (name : List ℕ) (x : ℕ) →
    shown_cause g name x after ≡ None → is_some (row_of g x) ≡ true
unfolding shown_early
parent_there g after name x none = there g x (passed (is_named g x)
    (first_out (unknown g x) (not_parent g x ∷ (name_taken g name ∷ []))
    (early_out (shown_early g name x) (late_cause after) none)))

pub group_left : (m new : GraphModel) (name parent : List ℕ) (x : ℕ) (spec : ItemSpec) →
    IsFresh m → x ≡ serial_named m.present parent →
    shown_cause m.present name x (group_created name x spec m.present) ≡ None →
    new ≡ edited (group_created name x spec) m →
    IsLeft (line_done m.present
    (GroupLine name parent spec.enabled spec.locked spec.place spec.blend)) new
unfolding line_done
group_left m new name parent x spec fresh first none made =
    subst (λ z. IsLeft (group_created name z spec m.present) new) first
    (left_by m new (group_created name x spec) fresh (group_fresh m fresh name x spec
    (parent_there m.present (group_created name x spec m.present) name x none)) made)

-- ---- a channel

or_false : (b : Bool) → (b || false) ≡ b
or_false true = refl
or_false false = refl

never : (b : Bool) → (b ≡ true → false ≡ true) → b ≡ false
never true not_so = sym (not_so refl)
never false not_so = refl

-- it is refused exactly where what it is to name is missing
module _ (g : GraphState) (are : AreNamed g) (number : ℕ) (name : List ℕ) (x : ℕ)
    (is : x ≡ serial_named g name) where
  abbrev lost : Bool
  lost = list_any (is_missing g) (named_by (Some x, None))

  channel_by : line_cause g (ChannelLine number name) ≡ first_cause ((lost, NotFound) ∷ [])
  unfolding line_early line_late
  channel_by = no_late (first_cause (not_given g name ∷ []))
      ∙ ap (λ (b : Bool). first_cause ((b, NotFound) ∷ [])) (missing g are name
      ∙ ap (λ y. not (is_named g y)) (sym is) ∙ sym (or_false (not (is_named g x))))

  pub channel_lost : IsTrue lost → line_cause g (ChannelLine number name) ≡ Some NotFound
  channel_lost so = channel_by ∙ ap (λ (b : Bool). first_cause ((b, NotFound) ∷ [])) so

  pub channel_there : (IsTrue lost → false ≡ true) →
      line_cause g (ChannelLine number name) ≡ None
  channel_there not_so =
      channel_by ∙ ap (λ (b : Bool). first_cause ((b, NotFound) ∷ [])) (never lost not_so)

beside_program : (g : GraphState) (x : ℕ) (number : ℕ) (b : Bool) → (number == 0) ≡ b →
    1 ≤ number → may_be_set g number (Some x, None) ≡ true
beside_program g x number true is least = let same : number ≡ 0 = eqb-true number 0 is in
    absurd (omega (arith, same, least))
beside_program g x number false is least = rw is refl

channel_range : (number : ℕ) (name : List ℕ) → line_fits (ChannelLine number name) ≡ true →
    is_between 1 63 number ≡ true
unfolding line_fits
channel_range number name fits = and_first _ _ fits

pub channel_given : (g : GraphState) (number : ℕ) (name : List ℕ) (x : ℕ) →
    line_fits (ChannelLine number name) ≡ true → IsTrue (may_be_set g number (Some x, None))
channel_given g number name x fits = beside_program g x number (number == 0) refl
    (leb-true 1 number (and_first _ _ (channel_range number name fits)))

pub channel_below : (number : ℕ) (name : List ℕ) → line_fits (ChannelLine number name) ≡ true →
    number < 64
channel_below number name fits =
    let most : number ≤ 63 =
    leb-true number 63 (and_second _ _ (channel_range number name fits)) in
    omega (arith, most)

pub channel_left : (m new : GraphModel) (number : ℕ) (name : List ℕ) (x : ℕ) → IsFresh m →
    x ≡ serial_named m.present name → new ≡ edited (channel_set number (Some x, None)) m →
    IsLeft (line_done m.present (ChannelLine number name)) new
unfolding line_done
channel_left m new number name x fresh is made =
    subst (λ z. IsLeft (channel_set number (Some z, None) m.present) new) is
    (left_by m new (channel_set number (Some x, None)) fresh
    (channel_fresh m fresh number (Some x, None)) made)

-- ---- a sound

-- serials rise, so a row is found by its own
rest_found : (test : Row → Bool) (s r : Row) (rows : List Row) → test s ≡ false →
    find test (s ∷ rows) ≡ Some r → find test rows ≡ Some r
rest_found test s r rows is found =
    sym (ap (λ b. cond b (Some s) (find test rows)) is) ∙ found

first_found : (test : Row → Bool) (s r : Row) (rows : List Row) → test s ≡ true →
    find test (s ∷ rows) ≡ Some r → s ≡ r
first_found test s r rows is found =
    let same : Some s ≡ Some r =
    sym (ap (λ b. cond b (Some s) (find test rows)) is) ∙ found in cc

later_case : (least : ℕ) (s r : Row) (rows : List Row) (test : Row → Bool) (b : Bool) →
    test s ≡ b → find test (s ∷ rows) ≡ Some r → least < s.serial →
    (find test rows ≡ Some r → s.serial < r.serial) → least < r.serial
later_case least s r rows test true is found above more =
    subst (λ (t : Row). least < t.serial) (first_found test s r rows is found) above
later_case least s r rows test false is found above more =
    let later : s.serial < r.serial = more (rest_found test s r rows is found) in
    omega (arith, above, later)

later_found : (least : ℕ) (rows : List Row) → rises_above least (serials_of rows) ≡ true →
    (test : Row → Bool) (r : Row) → find test rows ≡ Some r → least < r.serial
later_found least [] rise test r found = cc
later_found least (s ∷ rows) rise test r found = later_case least s r rows test (test s) refl found
    (ltb-true least s.serial (and_first _ _ rise))
    (later_found s.serial rows (and_second _ _ rise) test r)

other_serial : (a b : ℕ) (c : Bool) → (a == b) ≡ c → a < b → (a == b) ≡ false
other_serial a b true is less = let same : a ≡ b = eqb-true a b is in
    absurd (omega (arith, same, less))
other_serial a b false is less = is

own_case : (s r : Row) (rows : List Row) (test : Row → Bool) (b : Bool) → test s ≡ b →
    find test (s ∷ rows) ≡ Some r → (find test rows ≡ Some r → s.serial < r.serial) →
    (find test rows ≡ Some r → find (is_at r.serial) rows ≡ Some r) →
    find (is_at r.serial) (s ∷ rows) ≡ Some r
own_case s r rows test true is found later more =
    let same : s ≡ r = first_found test s r rows is found in
    ap (λ b. cond b (Some s) (find (is_at r.serial) rows))
    (eq-eqb s.serial r.serial (ap (λ (t : Row). t.serial) same)) ∙ ap Some same
own_case s r rows test false is found later more =
    let rest : find test rows ≡ Some r = rest_found test s r rows is found in
    ap (λ b. cond b (Some s) (find (is_at r.serial) rows))
    (other_serial s.serial r.serial (s.serial == r.serial) refl (later rest)) ∙ more rest

own_found : (least : ℕ) (rows : List Row) → rises_above least (serials_of rows) ≡ true →
    (test : Row → Bool) (r : Row) → find test rows ≡ Some r →
    find (is_at r.serial) rows ≡ Some r
own_found least [] rise test r found = cc
own_found least (s ∷ rows) rise test r found = own_case s r rows test (test s) refl found
    (later_found s.serial rows (and_second _ _ rise) test r)
    (own_found s.serial rows (and_second _ _ rise) test r)

-- no row has the serial 0
no_zero : (g : GraphState) → GraphShape g → (o : Option Row) → row_of g 0 ≡ o →
    named_row_or_none g o ≡ true → false ≡ true
no_zero g shape None found named = named
no_zero g shape (Some r) found named =
    let same : r.serial ≡ 0 = eqb-true r.serial 0 (found_test (is_at 0) g.rows r found) in
    let above : 0 < r.serial = later_found 0 g.rows shape.parts.rows.serials_rise (is_at 0) r found in
    absurd (omega (arith, same, above))

-- the row of a name that isn't refused is the one of its serial
name_case : (g : GraphState) → GraphShape g → (name : List ℕ) (row : Row) (o : Option Row) →
    row_called g name ≡ o → is_named g (serial_named g name) ≡ true →
    row_of g (serial_named g name) ≡ Some row → row_called g name ≡ Some row
name_case g shape name row None found named at =
    let none : serial_named g name ≡ 0 = ap (λ o. option_map_or (λ r. r.serial) o 0) found in
    let no : false ≡ true = no_zero g shape (row_of g 0) refl (sym (ap (is_named g) none) ∙ named) in
    cc
name_case g shape name row (Some r) found named at =
    let serial : serial_named g name ≡ r.serial =
    ap (λ o. option_map_or (λ r. r.serial) o 0) found in
    let own : row_of g r.serial ≡ Some r =
    own_found 0 g.rows shape.parts.rows.serials_rise _ r found in
    found ∙ sym own ∙ ap (row_of g) (sym serial) ∙ at

-- it is an input, and its settings are of its kind
tone_input : (kind : Kind) → is_tone kind ≡ true → is_input kind ≡ true
tone_input Scene is = cc
tone_input Group is = cc
tone_input Color is = cc
tone_input Checker is = cc
tone_input Scroll is = cc
tone_input Raster is = cc
tone_input Tone is = refl

found_passes : (p q : Row → Bool) (rows : List Row) (r : Row) → find p rows ≡ Some r →
    list_all q rows ≡ true → q r ≡ true
found_passes p q [] r found all = cc
found_passes p q (s ∷ rows) r found all = case (p s) refl (found_passes p q rows r)
  where
    case : (b : Bool) → p s ≡ b →
        (find p rows ≡ Some r → list_all q rows ≡ true → q r ≡ true) → q r ≡ true
    case true is more = subst (λ t. q t ≡ true) (first_found p s r rows is found) (and_first _ _ all)
    case false is more = more (rest_found p s r rows is found) (and_second _ _ all)

pub sound_in_range : (name : List ℕ) (sound : Sound) →
    line_fits (SoundLine name sound) ≡ true → IsTrue (is_sound sound)
unfolding line_fits
sound_in_range name sound fits = and_second _ _ fits

-- by the settings that were copied of its row
some_row : (o : Option Row) (P : Row → Type 0) → is_some o ≡ true → IfSome o P →
    (r : Row) × ((o ≡ Some r) × P r)
some_row None P there has = cc
some_row (Some r) P there has = (r, (refl, has))

module _ (m : GraphModel) (fresh : IsFresh m) (shape : GraphShape m.present) (name : List ℕ)
    (sound : Sound) (x : ℕ) (settings : Settings) (is : x ≡ serial_named m.present name)
    (named : is_named m.present x ≡ true)
    (tone : row_passes m.present (λ r. is_tone r.kind) x ≡ true)
    (has : IfSome (row_of m.present x) (λ r. settings ≡ r.settings)) where
  sound_of : (r : Row) × ((row_of m.present x ≡ Some r) × (settings ≡ r.settings))
  sound_of = some_row (row_of m.present x) (λ r. settings ≡ r.settings)
      (there m.present x named) has

  pub sound_fits : IsTrue (is_missing m.present x)
      ⊎ IsTrue (row_passes m.present (λ r. is_input r.kind && are_settings r.kind settings) x)
  sound_fits =
      let row : Row = sound_of.0 in
      let at : row_of m.present x ≡ Some row = sound_of.1.0 in
      let is_so : is_tone row.kind ≡ true =
      sym (ap (λ o. option_map_or (λ (r : Row). is_tone r.kind) o false) at) ∙ tone in
      let fit : (are_settings row.kind row.settings && is_sound row.sound) ≡ true =
      found_passes (is_at x) (λ r. are_settings r.kind r.settings && is_sound r.sound)
      m.present.rows row at shape.parts.rows.settings_fit in
      inr (ap (λ o. option_map_or (λ (r : Row). is_input r.kind && are_settings r.kind settings) o
      false) at
      ∙ and_both _ _ (tone_input row.kind is_so)
      (ap (are_settings row.kind) sound_of.1.1 ∙ and_first _ _ fit))

  sound_row : row_called m.present name ≡ Some sound_of.0
  sound_row = name_case m.present shape name sound_of.0 (row_called m.present name) refl
      (sym (ap (is_named m.present) is) ∙ named)
      (ap (row_of m.present) (sym is) ∙ sound_of.1.0)

  sound_set_left : (new : GraphModel) → new ≡ edited (input_set x settings sound) m →
      IsLeft (line_done m.present (SoundLine name sound)) new
  unfolding line_done
  sound_set_left new made =
      let g : GraphState = m.present in
      subst (λ o. IsLeft (sound_set (serial_named g name) sound o g) new) (sym sound_row)
      (subst (λ z. IsLeft (input_set z sound_of.0.settings sound g) new) is
      (subst (λ t. IsLeft (input_set x t sound g) new) sound_of.1.1
      (left_by m new (input_set x settings sound) fresh (set_fresh m fresh x settings sound) made)))

  pub sound_left : {A E : Type 0} (new : GraphModel) (r : Result A E) →
      OnOk r (new ≡ edited (input_set x settings sound) m) →
      IsErr r ↔ IsTrue (is_missing m.present x) →
      IsLeft (line_done m.present (SoundLine name sound)) new
  sound_left new r ok lacks = sound_set_left new
      (left_where_ok r _ ok (λ err. sym (ap not named) ∙ lacks.0 err))

-- ---- values of lines

pub input_fits : (kind : Kind) (name : List ℕ) (settings : Settings) →
    line_fits (InputLine kind name settings) ≡ true →
    IsTrue (is_input kind && are_settings kind settings)
unfolding line_fits
input_fits kind name settings fits =
    let named : (is_name name && is_input kind) ≡ true =
    and_first (is_name name && is_input kind) (are_settings kind settings) fits in
    and_both (is_input kind) (are_settings kind settings)
    (and_second (is_name name) (is_input kind) named)
    (and_second (is_name name && is_input kind) (are_settings kind settings) fits)

pub group_fits : (name parent : List ℕ) (enabled locked : Bool) (place : Place) (blend : Blend) →
    line_fits (GroupLine name parent enabled locked place blend) ≡ true → IsTrue (is_place place)
unfolding line_fits
group_fits name parent enabled locked place blend fits = and_second _ _ fits

pub item_fits : (parent child : List ℕ) (enabled locked : Bool) (place : Place) (blend : Blend) →
    line_fits (ItemLine parent child enabled locked place blend) ≡ true → IsTrue (is_place place)
unfolding line_fits
item_fits parent child enabled locked place blend fits = and_second _ _ fits

-- ---- line by line

module _ (lines : List Line) (g : GraphState) (i : ℕ) (line : Line) (within : i < length lines)
    (is : line ≡ get_or lines i line)
    (done : lines_done empty_graph lines ≡ lines_done g (drop i lines)) where
  abbrev more : Result GraphState GraphFault
  more = lines_done (line_done g line) (drop (suc i) lines)

  next_line : lines_done empty_graph lines ≡ unless (line_cause g line) more
  next_line = done ∙ ap (lines_done g) (drop-cons lines i line within
      ∙ ap (λ l. l ∷ drop (suc i) lines) (sym is))

  -- a line that is refused is the first refusal
  pub line_refused : (fault : GraphFault) → IsCause (line_cause g line) fault →
      IsRefusal (lines_done empty_graph lines) fault
  line_refused NoMemory told = tt
  line_refused _ told = next_line ∙ ap (λ o. unless o more) told

  -- and after one that isn't those that are left decide
  pub lines_on : line_cause g line ≡ None → (h : GraphState) → h ≡ line_done g line →
      lines_done empty_graph lines ≡ lines_done h (drop (i + 1) lines)
  lines_on free h same = next_line ∙ ap (λ o. unless o more) free
      ∙ ap (λ k. lines_done (line_done g line) (drop k lines)) (sym (add-one i))
      ∙ ap (λ s. lines_done s (drop (i + 1) lines)) (sym same)

-- ---- the values of each line

pub fits_at : (lines : List Line) (i : ℕ) (line : Line) → i < length lines →
    line ≡ get_or lines i line → All Fits lines → Fits line
fits_at lines i line within is fits = subst Fits (sym is) (fits i line within)
