-- Behind lines of which none is refused a name is found exactly where one of them gave it.
use Rattle.std.proofs.Common.{◌≡◌, ◌∙◌, ℕ, Bool, true, false, cond, not, ◌&&◌, ◌||◌, List, [], ◌∷◌, ◌++◌}
use Rattle.std.proofs.Common.{map, find, get_or, bytes_eq, append-nil, append_assoc, flat_map, subst}
use Rattle.std.proofs.Common.{Option, Some, None, is_some, IfSome, Result, Ok, Err, refl, sym, ap}
use Rattle.std.specs.List.{list_all, list_any}
use Rattle.std.specs.Option.{is_none}
use Rattle.std.proofs.lemmas.List.{map-append}
use Rattle.std.proofs.lemmas.List.Concat.{flat_map-cons}
use Rattle.mix_model.specs.declared.collection.Collection.{Collection}
use Rattle.mix_model.specs.declared.collection.Line.{Line}
use Rattle.mix_model.specs.declared.collection.Line.TheVariants.{Scene as SceneLine}
use Rattle.mix_model.specs.declared.collection.Line.TheVariants.{Input as InputLine}
use Rattle.mix_model.specs.declared.collection.Line.TheVariants.{Group as GroupLine}
use Rattle.mix_model.specs.declared.collection.Line.TheVariants.{Item as ItemLine}
use Rattle.mix_model.specs.declared.collection.Line.TheVariants.{Sound as SoundLine}
use Rattle.mix_model.specs.declared.collection.Line.TheVariants.{Channel as ChannelLine}
use Rattle.mix_model.specs.declared.fault.GraphFault.{GraphFault}
use Rattle.mix_model.specs.declared.kind.Kind.{Kind}
use Rattle.mix_model.specs.declared.kind.Kind.TheVariants.{Scene, Group}
use Rattle.mix_model.specs.declared.place.Sound.{Sound}
use Rattle.mix_model.specs.declared.row.Row.{Row}
use Rattle.mix_model.specs.declared.settings.Settings.{Settings}
use Rattle.mix_model.specs.declared.settings.Settings.TheVariants.{None as NoSettings}
use Rattle.mix_model.specs.Causes.{Cause, cause_or, first_cause}
use Rattle.mix_model.specs.Edits.{channel_set, empty_graph, group_created, input_created}
use Rattle.mix_model.specs.Edits.{input_set, item_added, scene_created, set_to}
use Rattle.mix_model.specs.Holders.{find_named, is_held, is_named, is_named_row, is_on, lists, names}
use Rattle.mix_model.specs.Holders.{named_row_or_none, shows_some}
use Rattle.mix_model.specs.Items.{asked, with_item}
use Rattle.mix_model.specs.Lines.{cause_behind, given_already, line_cause, line_done, line_early}
use Rattle.mix_model.specs.Lines.{line_late, lines_done, named_scene_cause, not_given, not_of}
use Rattle.mix_model.specs.Lines.{row_called, serial_named, sound_set, unless}
use Rattle.mix_model.specs.Lookups.{registry, row_of}
use Rattle.mix_model.specs.Opening.{ends_cause, opening_of, opening_studio, preview_cause}
use Rattle.mix_model.specs.Opening.{studio_over}
use Rattle.mix_model.specs.Rows.{has_items, is_at, is_group, is_scene, is_tone, new_row}
use Rattle.mix_model.specs.Sets.{has}
use Rattle.mix_model.specs.State.{GraphState, StudioState}
use Rattle.mix_model.specs.Values.{new_sound}
use Rattle.mix_model.proofs.CalledLemmas.{AreNamed, called, missing}
use Rattle.mix_collection.specs.Names.{finds_above, gave, given, is_among, sought, studio_cause}
use Rattle.mix_collection.proofs.Kept.{Kept, channel_kept, empty_kept, group_kept, input_kept, is_kept}
use Rattle.mix_collection.proofs.Kept.{item_kept, scene_kept, sound_kept}

-- ---- where a line isn't refused no cause holds

early_out : (early late : Option GraphFault) → cause_or early late ≡ None → early ≡ None
early_out None late none = refl
early_out (Some fault) late none = cc

late_out : (early late : Option GraphFault) → cause_or early late ≡ None → late ≡ None
late_out None late none = none
late_out (Some fault) late none = cc

rest_out : (a : Cause) (rest : List Cause) → first_cause (a ∷ rest) ≡ None →
    first_cause rest ≡ None
rest_out (true, fault) rest none = cc
rest_out (false, fault) rest none = none

unless_out : {A : Type 0} (cause : Option GraphFault) (more : Result A GraphFault) (a : A) →
    unless cause more ≡ Ok a → (cause ≡ None) × (more ≡ Ok a)
unless_out None more a is = (refl, is)
unless_out (Some fault) more a is = absurd (cc)

-- ---- the names of rows, in their order

abbrev titles : GraphState → List (List ℕ)
titles g = map (λ r. r.name) g.rows

-- a change of a row that leaves its name
title_at : (change : Row → Row) → ((r : Row) → (change r).name ≡ r.name) → (r : Row) (b : Bool) →
    (cond b (change r) r).name ≡ r.name
title_at change keeps r true = keeps r
title_at change keeps r false = refl

titles_kept : (x : ℕ) (change : Row → Row) → ((r : Row) → (change r).name ≡ r.name) →
    (rows : List Row) → map (λ r. r.name) (map (λ r. cond (is_at x r) (change r) r) rows)
    ≡ map (λ r. r.name) rows
titles_kept x change keeps [] = refl
titles_kept x change keeps (r ∷ rows) =
    ap (λ n. n ∷ map (λ r. r.name) (map (λ r. cond (is_at x r) (change r) r) rows))
    (title_at change keeps r (is_at x r))
    ∙ ap (λ l. r.name ∷ l) (titles_kept x change keeps rows)

titles_pushed : (rows : List Row) (x : ℕ) (name : List ℕ) (kind : Kind) (settings : Settings) →
    map (λ r. r.name) (rows ++ new_row x name kind settings new_sound ∷ [])
    ≡ map (λ r. r.name) rows ++ name ∷ []
unfolding new_row
titles_pushed rows x name kind settings =
    map-append (λ (r : Row). r.name) rows (new_row x name kind settings new_sound ∷ [])

sound_titles : (x : ℕ) (sound : Sound) (found : Option Row) (g : GraphState) →
    titles (sound_set x sound found g) ≡ titles g ++ []
unfolding input_set
sound_titles x sound None g = sym (append-nil (titles g))
sound_titles x sound (Some row) g =
    titles_kept x (set_to row.settings sound) (λ r. refl) g.rows ∙ sym (append-nil (titles g))

-- a line adds the name that it gives
line_titles : (g : GraphState) (line : Line) → titles (line_done g line) ≡ titles g ++ given line
unfolding line_done scene_created input_created group_created item_added channel_set with_item
line_titles g (SceneLine name) = titles_pushed g.rows g.next_serial name Scene NoSettings
line_titles g (InputLine kind name settings) =
    titles_pushed g.rows g.next_serial name kind settings
line_titles g (GroupLine name parent enabled locked place blend) =
    titles_kept (serial_named g parent)
    (with_item g.next_serial (asked enabled locked place blend)) (λ r. refl)
    (g.rows ++ new_row g.next_serial name Group NoSettings new_sound ∷ [])
    ∙ titles_pushed g.rows g.next_serial name Group NoSettings
line_titles g (ItemLine parent child enabled locked place blend) =
    titles_kept (serial_named g parent)
    (with_item (serial_named g child) (asked enabled locked place blend)) (λ r. refl) g.rows
    ∙ sym (append-nil (titles g))
line_titles g (SoundLine name sound) =
    sound_titles (serial_named g name) sound (row_called g name) g
line_titles g (ChannelLine number name) = sym (append-nil (titles g))

lines_titles : (lines : List Line) (g h : GraphState) → lines_done g lines ≡ Ok h →
    titles h ≡ titles g ++ flat_map given lines
lines_titles [] g h is = let same : g ≡ h = cc in
    ap titles (sym same) ∙ sym (append-nil (titles g))
lines_titles (line ∷ lines) g h is =
    let out = unless_out (line_cause g line) (lines_done (line_done g line) lines) h is in
    lines_titles lines (line_done g line) h out.1
    ∙ ap (λ l. l ++ flat_map given lines) (line_titles g line)
    ∙ append_assoc (titles g) (given line) (flat_map given lines)
    ∙ ap (λ l. titles g ++ l) (sym (flat_map-cons given line lines))

-- ---- what a line finds

title_found : (name : List ℕ) (rows : List Row) →
    is_some (find (λ r. bytes_eq r.name name) rows) ≡ is_among (map (λ r. r.name) rows) name
title_found name [] = refl
title_found name (r ∷ rows) = elim (bytes_eq r.name name)
    as (λ b. is_some (cond b (Some r) (find (λ r. bytes_eq r.name name) rows))
    ≡ (b || is_among (map (λ r. r.name) rows) name)) [
      | true ↦ refl
      | false ↦ title_found name rows
    ]

pub found_where_given : (lines : List Line) (g : GraphState) →
    lines_done empty_graph lines ≡ Ok g → (name : List ℕ) →
    is_some (row_called g name) ≡ gave lines name
unfolding empty_graph
found_where_given lines g is name = title_found name g.rows
    ∙ ap (λ l. is_among l name) (lines_titles lines empty_graph g is)

-- ---- each line names what stands above it

some_not : (o : Option Row) → is_none o ≡ false → is_some o ≡ true
some_not None not_so = cc
some_not (Some r) not_so = refl

known : (g : GraphState) (name : List ℕ) (rest : List Cause) →
    first_cause (not_given g name ∷ rest) ≡ None → is_some (row_called g name) ≡ true
known g name rest none =
    some_not (row_called g name) (first_out (not_given g name) rest none)
  where
    first_out : (a : Cause) (rest' : List Cause) → first_cause (a ∷ rest') ≡ None → a.0 ≡ false
    first_out (true, fault) rest' out = cc
    first_out (false, fault) rest' out = refl

lines_split : (above below : List Line) (g h : GraphState) →
    lines_done g (above ++ below) ≡ Ok h →
    (m : GraphState) × (lines_done g above ≡ Ok m) × (lines_done m below ≡ Ok h)
lines_split [] below g h is = (g, refl, is)
lines_split (line ∷ above) below g h is =
    let out = unless_out (line_cause g line) (lines_done (line_done g line) (above ++ below)) h is in
    let more = lines_split above below (line_done g line) h out.1 in (
      more.0,
      ap (λ c. unless c (lines_done (line_done g line) above)) out.0 ∙ more.1,
      more.2,
    )

-- the names that a line seeks are known where it isn't refused
line_knows : (g : GraphState) (line : Line) → line_early g line ≡ None →
    list_all (λ name. is_some (row_called g name)) (sought line) ≡ true
unfolding line_early
line_knows g (SceneLine name) none = refl
line_knows g (InputLine kind name settings) none = refl
line_knows g (GroupLine name parent enabled locked place blend) none =
    ap (λ b. b && true) (known g parent (not_of has_items g parent
    ∷ (given_already g name ∷ [])) none)
line_knows g (ItemLine parent child enabled locked place blend) none =
    ap (λ b. b && (is_some (row_called g child) && true))
    (known g parent (not_given g child ∷ (not_of has_items g parent ∷ [])) none)
    ∙ ap (λ b. b && true) (known g child (not_of has_items g parent ∷ [])
    (rest_out (not_given g parent) (not_given g child ∷ (not_of has_items g parent ∷ [])) none))
line_knows g (SoundLine name sound) none =
    ap (λ b. b && true) (known g name (not_of is_tone g name ∷ []) none)
line_knows g (ChannelLine number name) none = ap (λ b. b && true) (known g name [] none)

all_same : (p q : List ℕ → Bool) → ((x : List ℕ) → p x ≡ q x) → (xs : List (List ℕ)) →
    list_all p xs ≡ list_all q xs
all_same p q same [] = refl
all_same p q same (x ∷ xs) = ap (λ b. b && list_all p xs) (same x)
    ∙ ap (λ b. q x && b) (all_same p q same xs)

pub names_above : (above below : List Line) (line : Line) (g : GraphState) →
    lines_done empty_graph (above ++ line ∷ below) ≡ Ok g → finds_above above line ≡ true
names_above above below line g is =
    let split = lines_split above (line ∷ below) empty_graph g is in
    let out = unless_out (line_cause split.0 line) (lines_done (line_done split.0 line) below) g
    split.2 in
    sym (all_same (λ name. is_some (row_called split.0 name)) (gave above)
    (found_where_given above split.0 split.1) (sought line))
    ∙ line_knows split.0 line (early_out (line_early split.0 line) (line_late split.0 line) out.0)

-- ---- every row that lines make is named

named_more : (a b c d e : Bool) → (a || (b && c)) ≡ true →
    (a || (b && (a || (d || (c || e))))) ≡ true
named_more true b c d e kept = refl
named_more false false c d e kept = cc
named_more false true false d e kept = cc
named_more false true true true e kept = refl
named_more false true true false e kept = refl

row_named : (g : GraphState) (r : Row) → is_kept (registry g) g.rows r ≡ true →
    is_named_row g r ≡ true
unfolding is_named_row is_held
row_named g r kept = named_more (has r.serial (registry g)) (is_group r.kind)
    (list_any (shows_some r.serial) g.rows) (list_any (names r.serial) g.channels)
    (list_any (is_on r.serial) g.holds || list_any (lists r.serial) g.frames) kept

kept_named : (g : GraphState) → Kept g → AreNamed g
kept_named g are = record {
  named = λ k d within. row_named g (get_or g.rows k d) (are.kept k d within);
  counted = are.counted;
}

some_same : (o : Option Row) (b : Bool) → is_none o ≡ not b → b ≡ is_some o
some_same None true none = cc
some_same None false none = refl
some_same (Some r) true none = refl
some_same (Some r) false none = cc

-- so what a line finds is named
found_named : (g : GraphState) → Kept g → (name : List ℕ) →
    is_named g (serial_named g name) ≡ is_some (row_called g name)
found_named g are name = some_same (row_called g name) (is_named g (serial_named g name))
    (missing g (kept_named g are) name)

named_there : (g : GraphState) (o : Option Row) → named_row_or_none g o ≡ true → is_some o ≡ true
named_there g None named = cc
named_there g (Some r) named = refl

line_kept : (g : GraphState) (line : Line) → line_early g line ≡ None → Kept g →
    Kept (line_done g line)
unfolding line_done line_early
line_kept g (SceneLine name) none are = scene_kept g name are
line_kept g (InputLine kind name settings) none are = input_kept g name kind settings are
line_kept g (GroupLine name parent enabled locked place blend) none are =
    group_kept g name (serial_named g parent) (asked enabled locked place blend)
    (named_there g (row_of g (serial_named g parent)) (found_named g are parent
    ∙ known g parent (not_of has_items g parent ∷ (given_already g name ∷ [])) none)) are
line_kept g (ItemLine parent child enabled locked place blend) none are =
    item_kept g (serial_named g parent) (serial_named g child)
    (asked enabled locked place blend) are
line_kept g (SoundLine name sound) none are =
    sound_kept g (serial_named g name) sound (row_called g name) are
line_kept g (ChannelLine number name) none are =
    channel_kept g number (Some (serial_named g name), None) are

lines_kept : (lines : List Line) (g h : GraphState) → lines_done g lines ≡ Ok h → Kept g → Kept h
lines_kept [] g h is are = let same : g ≡ h = cc in subst Kept same are
lines_kept (line ∷ lines) g h is are =
    let out = unless_out (line_cause g line) (lines_done (line_done g line) lines) h is in
    lines_kept lines (line_done g line) h out.1
    (line_kept g line (early_out (line_early g line) (line_late g line) out.0) are)

pub named_where_given : (lines : List Line) (g : GraphState) →
    lines_done empty_graph lines ≡ Ok g → (name : List ℕ) →
    is_named g (serial_named g name) ≡ gave lines name
named_where_given lines g is name =
    found_named g (lines_kept lines empty_graph g is empty_kept) name
    ∙ found_where_given lines g is name

pub same_among_named : (lines : List Line) (g : GraphState) →
    lines_done empty_graph lines ≡ Ok g → (name : List ℕ) → find_named g name ≡ row_called g name
same_among_named lines g is name =
    called g (kept_named g (lines_kept lines empty_graph g is empty_kept)) name

-- ---- the scenes of the program and of the preview

scene_given : (lines : List Line) (g : GraphState) → lines_done empty_graph lines ≡ Ok g →
    (name : List ℕ) → named_scene_cause g name ≡ None → gave lines name ≡ true
scene_given lines g is name none = sym (found_where_given lines g is name)
    ∙ known g name (not_of is_scene g name ∷ []) none

preview_given : (lines : List Line) (g : GraphState) → lines_done empty_graph lines ≡ Ok g →
    (name : Option (List ℕ)) → preview_cause g name ≡ None → IfSome name (λ x. gave lines x ≡ true)
preview_given lines g is None none = tt
preview_given lines g is (Some name) none = scene_given lines g is name none

over_given : (c : Collection) (studio : StudioState) (made : Result GraphState GraphFault) →
    lines_done empty_graph c.lines ≡ made → studio_over c made ≡ Ok studio →
    (gave c.lines c.program ≡ true) × IfSome c.studio (λ name. gave c.lines name ≡ true)
over_given c studio (Err fault) made is = absurd (cc)
over_given c studio (Ok g) made is =
    let out = unless_out (ends_cause c g) (Ok (opening_studio c g)) studio is in (
      scene_given c.lines g made c.program
          (late_out (preview_cause g c.studio) (named_scene_cause g c.program) out.0),
      preview_given c.lines g made c.studio
          (early_out (preview_cause g c.studio) (named_scene_cause g c.program) out.0),
    )

pub scenes_given : (c : Collection) (studio : StudioState) → opening_of c ≡ Ok studio →
    (gave c.lines c.program ≡ true) × IfSome c.studio (λ name. gave c.lines name ≡ true)
unfolding opening_of
scenes_given c studio is = over_given c studio (lines_done empty_graph c.lines) refl is

-- ---- a studio line

-- behind lines that were done, or the first of them that is refused
studio_over_given : (above : List Line) (name : List ℕ) (made : Result GraphState GraphFault) →
    lines_done empty_graph above ≡ made → cause_behind made name ≡ None → gave above name ≡ true
studio_over_given above name (Err fault) made none = cc
studio_over_given above name (Ok g) made none = scene_given above g made name none

pub studio_names_above : (above below : List Line) (name : List ℕ) →
    studio_cause above below name ≡ None → gave above name ≡ true
studio_names_above above below name none =
    studio_over_given above name (lines_done empty_graph above) refl none
