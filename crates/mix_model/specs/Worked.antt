-- Small situations, as the rules work them out.
use Rattle.std.specs.Prelude.{ℕ, true, false, List, [], ◌∷◌, codes, Some, None}
use Rattle.std.specs.Prelude.{Result, Ok, Err}
use Rattle.mix_base.specs.declared.rate.Rate.{Rate}
use Rattle.mix_model.specs.declared.fault.GraphFault.{GraphFault}
use Rattle.mix_model.specs.declared.kind.Blend.TheVariants.{Normal}
use Rattle.mix_model.specs.declared.kind.Kind.TheVariants.{Color as ColorKind}
use Rattle.mix_model.specs.declared.settings.Settings.TheVariants.{Color}
use Rattle.mix_model.specs.declared.item.ItemSpec.{ItemSpec}
use Rattle.mix_model.specs.declared.collection.Collection.{Collection}
use Rattle.mix_model.specs.declared.collection.Line.{Line}
use Rattle.mix_model.specs.declared.collection.Line.TheVariants.{Scene as SceneLine}
use Rattle.mix_model.specs.declared.collection.Line.TheVariants.{Input as InputLine}
use Rattle.mix_model.specs.declared.collection.Line.TheVariants.{Group as GroupLine}
use Rattle.mix_model.specs.declared.collection.Line.TheVariants.{Item as ItemLine}
use Rattle.mix_model.specs.State.{GraphState, StudioState, ProgramState, Rest}
use Rattle.mix_model.specs.Values.{new_place}
use Rattle.mix_model.specs.Program.{set_program, advance_program}
use Rattle.mix_model.specs.Settle.{settle}
use Rattle.mix_model.specs.Edits.{channel_set, preview_set, empty_graph, item_enabled}
use Rattle.mix_model.specs.Edits.{source_removed, next_destroyed, watch_made, frame_held}
use Rattle.mix_model.specs.Edits.{frame_released, shown_input_created}
use Rattle.mix_model.specs.Lines.{lines_done}
use Rattle.mix_model.specs.Opening.{opening_studio}

-- an item as it is without options
abbrev pub plain : ItemSpec
plain = record { enabled = true; locked = false; place = new_place; blend = Normal }

abbrev pub plain_scene : List ℕ → Line
plain_scene name = SceneLine name

-- a red input of two pixels
abbrev pub red : Line
red = InputLine ColorKind (codes "red") (Color 4278190335 2 1)

abbrev pub plain_item : List ℕ → List ℕ → Line
plain_item parent child = ItemLine parent child true false new_place Normal

abbrev pub plain_group : List ℕ → List ℕ → Line
plain_group name parent = GroupLine name parent true false new_place Normal

-- what the lines leave, or no source at all
abbrev pub sources_or_none : Result GraphState GraphFault → GraphState
sources_or_none (Ok g) = g
sources_or_none (Err cause) = empty_graph

-- the sources of these lines, with the program on this row
abbrev pub sources_of : ℕ → List Line → GraphState
sources_of program lines =
    channel_set 0 (Some program, None) (sources_or_none (lines_done empty_graph lines))

-- scene 1 shows source 2 by two items
abbrev pub two_items : GraphState
two_items = sources_of 1 (plain_scene (codes "A") ∷ (red
    ∷ (plain_item (codes "A") (codes "red") ∷ (plain_item (codes "A") (codes "red") ∷ []))))

-- the scene's first item is hidden, and then its second
abbrev pub one_hidden : GraphState
one_hidden = settle two_items (item_enabled 1 1 false two_items)

abbrev pub both_hidden : GraphState
both_hidden = settle one_hidden (item_enabled 1 2 false one_hidden)

-- the preview is scene 1, which shows source 2; the program is scene 3, whose group 4 shows scene 1
abbrev pub previewed : GraphState
previewed = preview_set (Some 1) (sources_of 3 (plain_scene (codes "S") ∷ (red
    ∷ (plain_item (codes "S") (codes "red") ∷ (plain_scene (codes "P")
    ∷ (plain_group (codes "G") (codes "P")
    ∷ (plain_item (codes "G") (codes "S") ∷ [])))))))

-- the group no longer shows the scene
abbrev pub group_hidden : GraphState
group_hidden = settle previewed (item_enabled 4 1 false previewed)

-- scene 1 shows scene 2, and that shows scene 3
abbrev pub three_deep : GraphState
three_deep = sources_of 1 (plain_scene (codes "A") ∷ (plain_scene (codes "B")
    ∷ (plain_scene (codes "C") ∷ (red ∷ (plain_item (codes "A") (codes "B")
    ∷ (plain_item (codes "B") (codes "C") ∷ []))))))

-- the program is scene 1; scene 2 shows group 3, which is watched; then scene 2 is removed
abbrev pub scene_gone : GraphState
scene_gone = let before : GraphState = watch_made 3 (sources_of 1 (plain_scene (codes "A")
    ∷ (plain_scene (codes "B") ∷ (plain_group (codes "G") (codes "B") ∷ [])))) in
    settle before (source_removed 2 before)

-- one destruction, and then another
abbrev pub one_destroyed : GraphState
one_destroyed = settle scene_gone (next_destroyed scene_gone)

abbrev pub two_destroyed : GraphState
two_destroyed = settle one_destroyed (next_destroyed one_destroyed)

-- scene 1 shows source 2, which is watched; it is removed and destroyed, and another source gets its
-- name
abbrev pub one_item : GraphState
one_item = sources_of 1 (plain_scene (codes "A") ∷ (red
    ∷ (plain_item (codes "A") (codes "red") ∷ [])))

abbrev pub name_again : GraphState
name_again = let watched : GraphState = watch_made 2 one_item in
    let removed : GraphState = settle watched (source_removed 2 watched) in
    let destroyed : GraphState = settle removed (next_destroyed removed) in
    settle destroyed
    (shown_input_created (codes "red") ColorKind (Color 4278190335 2 1) 1 plain destroyed)

-- a picture is taken of the same source; it is removed while the frame is in flight, and the frame is
-- given back
abbrev pub frame_out : GraphState
frame_out = let taken : GraphState = settle one_item (frame_held 0 one_item) in
    settle taken (source_removed 2 taken)

abbrev pub frame_back : GraphState
frame_back = settle frame_out (frame_released 0 frame_out)

abbrev pub thirty : Rate
thirty = record { num = 30; den = 1 }

-- a program that rests on scene 1, and fades in 120 milliseconds
abbrev pub resting : ProgramState
resting = record { shown = Rest 1; fades = true; duration = 120 }

-- it is set to scene 2, and then frames pass
abbrev pub fading : ProgramState
fading = (set_program resting thirty 2).program

abbrev pub one_frame : ProgramState
one_frame = (advance_program fading).program

-- after two frames it is set to scene 1 again
abbrev pub turned_back : ProgramState
turned_back = (set_program (advance_program one_frame).program thirty 1).program

abbrev pub three_frames : ProgramState
three_frames = (advance_program (advance_program one_frame).program).program

-- a collection of one scene that shows one input by two items
abbrev pub one_scene : Collection
one_scene = record {
  canvas = (2, 1);
  rate = thirty;
  i420 = false;
  tracks = 1;
  secret = None;
  lines = plain_scene (codes "A") ∷ (red ∷ (plain_item (codes "A") (codes "red")
      ∷ (plain_item (codes "A") (codes "red") ∷ [])));
  fade = false;
  ms = 300;
  studio = None;
  program = codes "A";
}

-- the studio that it opens as
abbrev pub one_scene_studio : StudioState
one_scene_studio = opening_studio one_scene
    (sources_or_none (lines_done empty_graph one_scene.lines))
