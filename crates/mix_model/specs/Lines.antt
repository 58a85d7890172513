-- The lines of a collection: what each makes of the sources, and why it is refused.
use Rattle.std.specs.Prelude.{ℕ, Bool, List, [], ◌∷◌, Option, Some, None, is_some, is_none, Result, Ok, Err}
use Rattle.std.specs.Prelude.{find, bytes_eq}
use Rattle.std.specs.Option.{option_map_or}
use Rattle.mix_model.specs.declared.fault.GraphFault.{GraphFault}
use Rattle.mix_model.specs.declared.fault.GraphFault.TheVariants.{NotFound, Exists}
use Rattle.mix_model.specs.declared.kind.Kind.{Kind}
use Rattle.mix_model.specs.declared.place.Sound.{Sound}
use Rattle.mix_model.specs.declared.row.Row.{Row}
use Rattle.mix_model.specs.declared.collection.Line.{Line}
use Rattle.mix_model.specs.declared.collection.Line.TheVariants.{Scene as SceneLine}
use Rattle.mix_model.specs.declared.collection.Line.TheVariants.{Input as InputLine}
use Rattle.mix_model.specs.declared.collection.Line.TheVariants.{Group as GroupLine}
use Rattle.mix_model.specs.declared.collection.Line.TheVariants.{Item as ItemLine}
use Rattle.mix_model.specs.declared.collection.Line.TheVariants.{Sound as SoundLine}
use Rattle.mix_model.specs.declared.collection.Line.TheVariants.{Channel as ChannelLine}
use Rattle.mix_model.specs.Rows.{has_items, is_scene, is_tone}
use Rattle.mix_model.specs.Items.{asked}
use Rattle.mix_model.specs.State.{GraphState}
use Rattle.mix_model.specs.Edits.{scene_created, input_created, group_created, item_added}
use Rattle.mix_model.specs.Edits.{input_set, channel_set, empty_graph}
use Rattle.mix_model.specs.Causes.{Cause, first_cause, cause_or, not_kind, item_late, late_cause}

-- the row to which a line above gave this name, apart from which rows are named: a line finds the
-- names that stand above it, also where nothing holds their rows yet
abbrev pub row_called : GraphState → List ℕ → Option Row
row_called g name = find (λ r. bytes_eq r.name name) g.rows

-- the serial of a name that some line above gave; 0, which none has, where no line did
abbrev pub serial_named : GraphState → List ℕ → ℕ
serial_named g name = option_map_or (λ r. r.serial) (row_called g name) 0

-- a name that no line above gave
abbrev pub not_given : GraphState → List ℕ → Cause
not_given g name = (is_none (row_called g name), NotFound)

-- a name that a line above gave already
abbrev pub given_already : GraphState → List ℕ → Cause
given_already g name = (is_some (row_called g name), Exists)

-- a source of another sort than its place needs
abbrev pub not_of : (Kind → Bool) → GraphState → List ℕ → Cause
not_of test g name = not_kind test g (serial_named g name)

-- the sound of an input is replaced, and its settings stay
abbrev pub sound_set : ℕ → Sound → Option Row → GraphState → GraphState
sound_set x sound None g = g
sound_set x sound (Some row) g = input_set x row.settings sound g

-- what a line makes of the sources. Serials are given in the order of the lines that create
unfoldable pub line_done : GraphState → Line → GraphState
line_done g (SceneLine name) = scene_created name g
line_done g (InputLine kind name settings) = input_created name kind settings g
line_done g (GroupLine name parent enabled locked place blend) =
    group_created name (serial_named g parent) (asked enabled locked place blend) g
line_done g (ItemLine parent child enabled locked place blend) =
    item_added (serial_named g parent) (serial_named g child) (asked enabled locked place blend) g
line_done g (SoundLine name sound) =
    sound_set (serial_named g name) sound (row_called g name) g
line_done g (ChannelLine number name) = channel_set number (Some (serial_named g name), None) g

-- why a line is refused before its settings are looked at: a name that no line above gave, a source of
-- another sort than the place needs, a name that is there already
unfoldable pub line_early : GraphState → Line → Option GraphFault
line_early g (SceneLine name) = first_cause (given_already g name ∷ [])
line_early g (InputLine kind name settings) = first_cause (given_already g name ∷ [])
line_early g (GroupLine name parent enabled locked place blend) = first_cause (not_given g parent
    ∷ (not_of has_items g parent ∷ (given_already g name ∷ [])))
line_early g (ItemLine parent child enabled locked place blend) = first_cause (not_given g parent
    ∷ (not_given g child ∷ (not_of has_items g parent ∷ [])))
line_early g (SoundLine name sound) =
    first_cause (not_given g name ∷ (not_of is_tone g name ∷ []))
line_early g (ChannelLine number name) = first_cause (not_given g name ∷ [])

-- and why after its settings: a circle, too deep, too many
unfoldable pub line_late : GraphState → Line → Option GraphFault
line_late g (ItemLine parent child enabled locked place blend) =
    item_late g (serial_named g parent) (serial_named g child)
    (line_done g (ItemLine parent child enabled locked place blend))
line_late g (SoundLine name sound) = None
line_late g (ChannelLine number name) = None
line_late g line = late_cause (line_done g line)

-- why a line is refused, if it is
abbrev pub line_cause : GraphState → Line → Option GraphFault
line_cause g line = cause_or (line_early g line) (line_late g line)

-- a refusal, or else what comes after it
abbrev pub unless : {A : Type 0} → Option GraphFault → Result A GraphFault → Result A GraphFault
unless None more = more
unless (Some cause) more = Err cause

-- the sources after all lines, or the first refusal
abbrev pub lines_done : GraphState → List Line → Result GraphState GraphFault
lines_done g [] = Ok g
lines_done g (line ∷ lines) = unless (line_cause g line) (lines_done (line_done g line) lines)

-- a scene that the program or the preview names
abbrev pub named_scene_cause : GraphState → List ℕ → Option GraphFault
named_scene_cause g name = first_cause (not_given g name ∷ (not_of is_scene g name ∷ []))

abbrev pub cause_behind : Result GraphState GraphFault → List ℕ → Option GraphFault
cause_behind (Err cause) name = Some cause
cause_behind (Ok g) name = named_scene_cause g name

-- why a studio line is refused that stands behind these lines: it names a scene that one of them gave.
-- A collection's value doesn't keep where its studio line stood, so this is for whoever reads its text
abbrev pub studio_line_cause : List Line → List ℕ → Option GraphFault
studio_line_cause above name = cause_behind (lines_done empty_graph above) name
