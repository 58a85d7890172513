-- New sources keep what holds of the sources, unless they are refused.
use Rattle.std.proofs.Common.{◌≡◌, ℕ, true, false, not, ◌&&◌, List, [], ◌∷◌, ◌++◌, filter, Some}
use Rattle.std.proofs.Common.{None, refl, ap, sym, ◌∙◌, nat_lt, is_some, IsTrue}
use Rattle.std.specs.List.{list_any}
use Rattle.std.specs.Option.{option_map_or, IfSome}
use Rattle.std.proofs.lemmas.Bool.{not-false, and_right}
use Rattle.std.proofs.lemmas.List.{append_assoc}
use Rattle.mix_model.specs.declared.item.ItemSpec.{ItemSpec}
use Rattle.mix_model.specs.declared.kind.Kind.{Kind}
use Rattle.mix_model.specs.declared.kind.Kind.TheVariants.{Scene, Group}
use Rattle.mix_model.specs.declared.settings.Settings.{Settings}
use Rattle.mix_model.specs.declared.settings.Settings.TheVariants.{None as NoSettings}
use Rattle.mix_model.specs.declared.row.Row.{Row}
use Rattle.mix_model.specs.Sets.{has, is_distinct}
use Rattle.mix_model.specs.Rows.{is_at, has_items, is_scene, is_input, is_group, new_row}
use Rattle.mix_model.specs.State.{GraphState}
use Rattle.mix_model.specs.Lookups.{row_passes, is_row, registry}
use Rattle.mix_model.specs.Holders.{is_held, is_named_row, is_named, has_name}
use Rattle.mix_model.specs.Values.{are_settings, are_of_kind, are_valid, is_place}
use Rattle.mix_model.specs.Causes.{late_cause, scene_cause, source_early, shown_cause, shown_early}
use Rattle.mix_model.specs.Edits.{scene_created, group_created, input_created, shown_input_created}
use Rattle.mix_model.specs.Edits.{item_added}
use Rattle.mix_model.specs.Shape.{GraphShape, PartsFit, names_differ, is_child}
use Rattle.mix_model.specs.EditedShape.{EditedShape}
use Rattle.mix_model.proofs.SetLemmas.{and_both, and_first, and_second, or_left, or_right, or_imply}
use Rattle.mix_model.proofs.SetLemmas.{and_imply, all_imply}
use Rattle.mix_model.proofs.DistinctLemmas.{distinct_append}
use Rattle.mix_model.proofs.AddLemmas.{added_held}
use Rattle.mix_model.proofs.SteadyLemmas.{Steady}
use Rattle.mix_shape.specs.Created.{Wanted, input_made, input_cause}
use Rattle.mix_shape.proofs.ThinnerLemmas.{below_absent}
use Rattle.mix_shape.proofs.GrownShape.{no_cause, no_early, tight, NewRow, GrownFits, grown, new}
use Rattle.mix_shape.proofs.GrownShape.{unlisted, grown_parts, held_old, pass_more, new_found}
use Rattle.mix_shape.proofs.GrownShape.{row_below, distinct_between, below_other, old_pass}
use Rattle.mix_shape.proofs.GrownShape.{new_passes}
use Rattle.mix_shape.proofs.HoldShape.{or_only}
use Rattle.mix_shape.proofs.AddedShape.{at_parent, steady_parent, added_parts, added_names}
use Rattle.mix_shape.proofs.SetShape.{names_grown, next_unlisted, scene_more, scene_less}
use Rattle.mix_shape.proofs.SetShape.{input_more, input_less, input_there, has_more}

abbrev new_scene : List ℕ → GraphState → NewRow
new_scene name g =
    record (unlisted name Scene NoSettings g) { scenes = g.scenes ++ g.next_serial ∷ [] }

abbrev new_input : List ℕ → Kind → Settings → GraphState → NewRow
new_input name kind settings g =
    record (unlisted name kind settings g) { inputs = g.inputs ++ g.next_serial ∷ [] }

-- a group isn't registered
abbrev new_group : List ℕ → GraphState → NewRow
new_group name g = unlisted name Group NoSettings g

scene_fits : (name : List ℕ) (g : GraphState) (parts : PartsFit g) →
    GrownFits (new_scene name g) g parts
unfolding are_of_kind are_valid
scene_fits name g parts = record {
  fits = refl;
  once = distinct_between g.next_serial g.scenes g.inputs parts.registry.registry_once
      (next_unlisted g parts);
  more = λ y. scene_more g.next_serial y g.scenes g.inputs;
  more_scenes = λ y. has_more g.next_serial y g.scenes;
  less = λ y less. scene_less g.next_serial y g.scenes g.inputs (below_other g.next_serial y less);
  scenes_pass = new_passes (new_scene name g) g parts is_scene g.scenes
      parts.registry.scenes_scenes refl;
  inputs_pass = old_pass (new_scene name g) g parts is_input g.inputs parts.registry.inputs_inputs;
}

input_fits : (name : List ℕ) (kind : Kind) (settings : Settings) (g : GraphState)
    (parts : PartsFit g) → is_input kind ≡ true → are_settings kind settings ≡ true →
    GrownFits (new_input name kind settings g) g parts
input_fits name kind settings g parts input valid =
    let n : NewRow = new_input name kind settings g in
    record {
      fits = valid;
      once = ap is_distinct (sym (append_assoc g.scenes g.inputs (g.next_serial ∷ [])))
          ∙ distinct_append (registry g) (g.next_serial ∷ []) parts.registry.registry_once refl
          (and_both _ _ (ap not (next_unlisted g parts)) refl);
      more = λ y. input_more g.next_serial y g.scenes g.inputs;
      more_scenes = λ y here. here;
      less = λ y less. input_less g.next_serial y g.scenes g.inputs
          (below_other g.next_serial y less);
      scenes_pass = old_pass n g parts is_scene g.scenes parts.registry.scenes_scenes;
      inputs_pass = new_passes n g parts is_input g.inputs parts.registry.inputs_inputs input;
    }

group_fits : (name : List ℕ) (g : GraphState) (parts : PartsFit g) →
    GrownFits (new_group name g) g parts
unfolding are_of_kind are_valid
group_fits name g parts = record {
  fits = refl;
  once = parts.registry.registry_once;
  more = λ y here. here;
  more_scenes = λ y here. here;
  less = λ y less here. here;
  scenes_pass = old_pass (new_group name g) g parts is_scene g.scenes parts.registry.scenes_scenes;
  inputs_pass = old_pass (new_group name g) g parts is_input g.inputs parts.registry.inputs_inputs;
}

-- a new row that no item shows
module _ (n : NewRow) (g : GraphState) (shape : GraphShape g) (fits : GrownFits n g shape.parts)
    (free : has_name g n.name ≡ false) where
  abbrev bigger : GraphState
  bigger = grown n g shape.parts

  abbrev row : Row
  row = new n g shape.parts

  -- what is named among the old rows was named before
  named_before : (r : Row) → nat_lt r.serial g.next_serial ≡ true →
      is_named_row bigger r ≡ true → is_named_row g r ≡ true
  unfolding is_named_row
  named_before r less =
      or_imply _ _ _ _ (fits.less r.serial less)
      (and_imply _ _ _ _ (λ (group : is_group r.kind ≡ true). group)
      (held_old n g shape.parts fits r.serial less))

  own_name : row.name ≡ n.name
  unfolding new_row
  own_name = refl

  grown_shape : late_cause bigger ≡ None → EditedShape bigger
  grown_shape none = tight bigger (grown_parts n g shape.parts fits)
      (names_grown g shape n.name free (is_named_row bigger) named_before row own_name) none

  -- and one that an item of a named row shows
  module _ (parent : ℕ) (spec : ItemSpec)
      (holds : row_passes g (λ r. has_items r.kind) parent ≡ true)
      (child : is_child bigger g.next_serial ≡ true)
      (place : is_place spec.place ≡ true) where
    abbrev shown : GraphState
    shown = item_added parent g.next_serial spec bigger

    fresh : has g.next_serial g.dying ≡ false
    fresh = below_absent g.next_serial g.dying
        (all_imply (is_row g) (λ x. nat_lt x g.next_serial) (row_below n g shape.parts) g.dying
        shape.parts.dying.dying_rows)

    shown_parts : PartsFit shown
    shown_parts = added_parts parent g.next_serial spec bigger (grown_parts n g shape.parts fits)
        (pass_more n g shape.parts has_items parent holds)
        (ap is_some (new_found n g shape.parts)) child fresh place

    -- the item holds the new row alone
    held_before : (y : ℕ) → nat_lt y g.next_serial ≡ true → is_held shown y ≡ true →
        is_held g y ≡ true
    held_before y less held = held_old n g shape.parts fits y less
        (or_only (is_held bigger y) _
        (and_right (list_any (is_at parent) bigger.rows) _ (below_other g.next_serial y less))
        (sym (added_held bigger parent g.next_serial spec y) ∙ held))

    abbrev h : Row → Row
    h = at_parent parent g.next_serial spec

    s : Steady h
    s = steady_parent parent g.next_serial spec

    shown_before : (r : Row) → nat_lt r.serial g.next_serial ≡ true →
        is_named_row shown (h r) ≡ true → is_named_row g r ≡ true
    unfolding is_named_row item_added
    shown_before r less named =
        or_imply _ _ _ _ (fits.less r.serial less)
        (and_imply _ _ _ _ (λ (group : is_group r.kind ≡ true). group)
        (held_before r.serial less)) (rw (s.serial r, s.kind r) at named)

    shown_names : names_differ (filter (is_named_row shown) shown.rows) ≡ true
    unfolding item_added at_parent
    shown_names = added_names parent g.next_serial spec (λ r. is_named_row shown (h r))
        (is_named_row shown) bigger.rows (λ r named. named)
        (names_grown g shape n.name free (λ r. is_named_row shown (h r)) shown_before row own_name)

    shown_shape : late_cause shown ≡ None → EditedShape shown
    shown_shape none = tight shown shown_parts shown_names none

-- why a new source isn't refused
no_scene_cause : (g : GraphState) (name : List ℕ) (after : GraphState) →
    scene_cause g name after ≡ None → (has_name g name ≡ false) × (late_cause after ≡ None)
unfolding source_early
no_scene_cause g name after none =
    let both = no_early (source_early g name) (late_cause after) none in
    ((no_cause (has_name g name) _ _ both.0).0, both.1)

pub record NotRefused (g : GraphState) (name : List ℕ) (parent : ℕ) (after : GraphState) : Type 0 where
  pub holds : row_passes g (λ r. has_items r.kind) parent ≡ true
  pub free : has_name g name ≡ false
  pub late : late_cause after ≡ None

no_shown_cause : (g : GraphState) (name : List ℕ) (parent : ℕ) (after : GraphState) →
    shown_cause g name parent after ≡ None → NotRefused g name parent after
unfolding shown_early
no_shown_cause g name parent after none =
    let both = no_early (shown_early g name parent) (late_cause after) none in
    let first = no_cause (not (is_named g parent)) _ _ both.0 in
    let second = no_cause (not (row_passes g (λ r. has_items r.kind) parent)) _ _ first.1 in
    let third = no_cause (has_name g name) _ _ second.1 in
    record {
      holds = not-false (row_passes g (λ r. has_items r.kind) parent) second.0;
      free = third.0;
      late = both.1;
    }

-- a scene
pub scene_created_shape : (name : List ℕ) (g : GraphState) → GraphShape g →
    scene_cause g name (scene_created name g) ≡ None → EditedShape (scene_created name g)
unfolding scene_created
scene_created_shape name g shape none =
    let causes = no_scene_cause g name (scene_created name g) none in
    grown_shape (new_scene name g) g shape (scene_fits name g shape.parts) causes.0 causes.1

-- a group
pub group_created_shape : (name : List ℕ) (parent : ℕ) (spec : ItemSpec) (g : GraphState) →
    GraphShape g → is_place spec.place ≡ true →
    shown_cause g name parent (group_created name parent spec g) ≡ None →
    EditedShape (group_created name parent spec g)
unfolding group_created new_row
group_created_shape name parent spec g shape place none =
    let causes = no_shown_cause g name parent (group_created name parent spec g) none in
    shown_shape (new_group name g) g shape (group_fits name g shape.parts) causes.free
    parent spec causes.holds
    (or_right (has g.next_serial (registry g)) _
    (ap (λ o. option_map_or (λ (r : Row). is_group r.kind) o false)
    (new_found (new_group name g) g shape.parts)))
    place causes.late

-- an input, shown or not
pub input_made_shape : (name : List ℕ) (kind : Kind) (settings : Settings) (wanted : Wanted)
    (g : GraphState) → GraphShape g → (is_input kind && are_settings kind settings) ≡ true →
    option_map_or (λ w. is_place w.1.place) wanted true ≡ true →
    input_cause g name wanted (input_made name kind settings wanted g) ≡ None →
    EditedShape (input_made name kind settings wanted g)
unfolding input_created shown_input_created
input_made_shape name kind settings None g shape valid place none =
    let causes = no_scene_cause g name (input_created name kind settings g) none in
    grown_shape (new_input name kind settings g) g shape
    (input_fits name kind settings g shape.parts (and_first _ _ valid) (and_second _ _ valid))
    causes.0 causes.1
input_made_shape name kind settings (Some w) g shape valid place none =
    let causes = no_shown_cause g name w.0
    (shown_input_created name kind settings w.0 w.1 g) none in
    shown_shape (new_input name kind settings g) g shape
    (input_fits name kind settings g shape.parts (and_first _ _ valid) (and_second _ _ valid))
    causes.free w.0 w.1 causes.holds
    (or_left (has g.next_serial (g.scenes ++ (g.inputs ++ g.next_serial ∷ []))) _
    (input_there g.next_serial g.scenes g.inputs)) place causes.late

pub made_clock : (name : List ℕ) (kind : Kind) (settings : Settings) (wanted : Wanted)
    (g : GraphState) → (input_made name kind settings wanted g).clock ≡ g.clock
unfolding input_created shown_input_created item_added
made_clock name kind settings None g = refl
made_clock name kind settings (Some w) g = refl

-- where an item is wanted, its place is valid
pub wanted_place : (wanted : Wanted) → IfSome wanted (λ w. IsTrue (is_place w.1.place)) →
    option_map_or (λ w. is_place w.1.place) wanted true ≡ true
wanted_place None valid = refl
wanted_place (Some w) valid = valid
