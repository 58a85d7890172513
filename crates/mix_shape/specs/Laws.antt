-- What each edit keeps of the shape that the sources of every mixer have.
use Rattle.std.specs.Prelude.{◌≡◌, ◌==◌, ◌&&◌, ℕ, Bool, false, List, Option, None, IsTrue, IfSome}
use Rattle.std.specs.Prelude.{not, length, option_to_list, []}
use Rattle.std.specs.List.{list_any, list_all}
use Rattle.mix_model.specs.declared.item.ItemSpec.{ItemSpec}
use Rattle.mix_model.specs.declared.kind.Kind.{Kind}
use Rattle.mix_model.specs.declared.place.Sound.{Sound}
use Rattle.mix_model.specs.declared.settings.Settings.{Settings}
use Rattle.mix_model.specs.Rows.{is_input}
use Rattle.mix_model.specs.State.{GraphState, Channel}
use Rattle.mix_model.specs.Lookups.{is_row, row_passes, named_by}
use Rattle.mix_model.specs.Holders.{is_held, has_name}
use Rattle.mix_model.specs.Walks.{is_active}
use Rattle.mix_model.specs.Settle.{settle, newly_dying}
use Rattle.mix_model.specs.Marks.{Mark, settled_by}
use Rattle.mix_model.specs.Values.{is_place, is_sound, are_settings}
use Rattle.mix_model.specs.Edits.{scene_created, group_created, input_created, item_added}
use Rattle.mix_model.specs.Edits.{item_duplicated, item_removed, item_moved, input_set, renamed}
use Rattle.mix_model.specs.Edits.{source_removed, next_destroyed, hold_made, hold_released, let_go}
use Rattle.mix_model.specs.Edits.{watch_made, watch_dropped, frame_held, frame_released}
use Rattle.mix_model.specs.Edits.{channel_set, preview_set, clock_set, empty_graph}
use Rattle.mix_model.specs.Causes.{scene_cause, shown_cause, item_cause, copy_cause, hold_cause}
use Rattle.mix_model.specs.Causes.{watch_cause, frame_cause, late_cause}
use Rattle.mix_model.specs.Shape.{GraphShape}
use Rattle.mix_shape.specs.Refused.{is_missing, is_no_other, may_be_set, bare_cause}
use Rattle.mix_shape.specs.Created.{Wanted, input_made, input_cause}
use Rattle.mix_shape.specs.NewItems.{late_cause_with}
use Rattle.mix_shape.specs.Begun.{BegunAs}

-- what the edit leaves of these sources has the shape again, once it is settled against the marks of
-- when the action began
abbrev pub KeepsShape : GraphState → (GraphState → GraphState) → Type 0
KeepsShape g edit = (marks : List Mark) → BegunAs marks (edit g).clock →
    GraphShape (settled_by marks (edit g))

-- a scene that isn't refused
abbrev pub SceneKeepsShape : Type 0
SceneKeepsShape = (g : GraphState) → GraphShape g → (name : List ℕ) →
    scene_cause g name (scene_created name g) ≡ None → KeepsShape g (scene_created name)

-- a group that isn't refused
abbrev pub GroupKeepsShape : Type 0
GroupKeepsShape = (g : GraphState) → GraphShape g → (name : List ℕ) (parent : ℕ) (spec : ItemSpec) →
    IsTrue (is_place spec.place) →
    shown_cause g name parent (group_created name parent spec g) ≡ None →
    KeepsShape g (group_created name parent spec)

-- an input that isn't refused, with the item that is wanted for it
abbrev pub InputKeepsShape : Type 0
InputKeepsShape = (g : GraphState) → GraphShape g → (name : List ℕ) (kind : Kind)
    (settings : Settings) (wanted : Wanted) → IsTrue (is_input kind && are_settings kind settings) →
    IfSome wanted (λ w. IsTrue (is_place w.1.place)) →
    input_cause g name wanted (input_made name kind settings wanted g) ≡ None →
    KeepsShape g (input_made name kind settings wanted)

-- something holds a new source, and what was held stays so: no row begins to die
abbrev pub SceneLetsLive : Type 0
SceneLetsLive = (g : GraphState) → GraphShape g → (name : List ℕ) →
    newly_dying (scene_created name g) ≡ []

abbrev pub GroupLetsLive : Type 0
GroupLetsLive = (g : GraphState) → GraphShape g → (name : List ℕ) (parent : ℕ) (spec : ItemSpec) →
    IsTrue (is_row g parent) → newly_dying (group_created name parent spec g) ≡ []

abbrev pub InputLetsLive : Type 0
InputLetsLive = (g : GraphState) → GraphShape g → (name : List ℕ) (kind : Kind)
    (settings : Settings) (wanted : Wanted) → newly_dying (input_made name kind settings wanted g) ≡ []

-- an item that isn't refused, and a copy of an item
abbrev pub ItemKeepsShape : Type 0
ItemKeepsShape = (g : GraphState) → GraphShape g → (parent child : ℕ) (spec : ItemSpec) →
    IsTrue (is_place spec.place) →
    item_cause g parent child (item_added parent child spec g) ≡ None →
    KeepsShape g (item_added parent child spec)

abbrev pub CopyKeepsShape : Type 0
CopyKeepsShape = (g : GraphState) → GraphShape g → (parent id to : ℕ) →
    copy_cause g parent id to (item_duplicated parent id to g) ≡ None →
    KeepsShape g (item_duplicated parent id to)

-- an item that is taken out, and one that is moved
abbrev pub TakingKeepsShape : Type 0
TakingKeepsShape = (g : GraphState) → GraphShape g → (parent id : ℕ) →
    KeepsShape g (item_removed parent id)

abbrev pub MovingKeepsShape : Type 0
MovingKeepsShape = (g : GraphState) → GraphShape g → (parent id index : ℕ) →
    KeepsShape g (item_moved parent id index)

-- settings and a sound that the row may have
abbrev pub SettingKeepsShape : Type 0
SettingKeepsShape = (g : GraphState) → GraphShape g → (x : ℕ) (settings : Settings) (sound : Sound) →
    IsTrue (row_passes g (λ r. is_input r.kind && are_settings r.kind settings) x) →
    IsTrue (is_sound sound) → KeepsShape g (input_set x settings sound)

-- a name that no named row has
abbrev pub RenamingKeepsShape : Type 0
RenamingKeepsShape = (g : GraphState) → GraphShape g → (x : ℕ) (name : List ℕ) →
    has_name g name ≡ false → KeepsShape g (renamed x name)

-- a source that is removed, and the first that dies
abbrev pub RemovalKeepsShape : Type 0
RemovalKeepsShape = (g : GraphState) → GraphShape g → (x : ℕ) → KeepsShape g (source_removed x)

abbrev pub DestructionKeepsShape : Type 0
DestructionKeepsShape = (g : GraphState) → GraphShape g → KeepsShape g next_destroyed

-- a hold that isn't refused, and one that ends
abbrev pub HoldKeepsShape : Type 0
HoldKeepsShape = (g : GraphState) → GraphShape g → (x : ℕ) → hold_cause g x ≡ None →
    KeepsShape g (hold_made x)

abbrev pub ReleaseKeepsShape : Type 0
ReleaseKeepsShape = (g : GraphState) → GraphShape g → (id : ℕ) → KeepsShape g (hold_released id)

-- a watch that isn't refused, and one that ends
abbrev pub WatchKeepsShape : Type 0
WatchKeepsShape = (g : GraphState) → GraphShape g → (x : ℕ) → watch_cause g x ≡ None →
    KeepsShape g (watch_made x)

abbrev pub DropKeepsShape : Type 0
DropKeepsShape = (g : GraphState) → GraphShape g → (id : ℕ) → KeepsShape g (watch_dropped id)

-- holds and watches that are let go as one
abbrev pub LetGoKeepsShape : Type 0
LetGoKeepsShape = (g : GraphState) → GraphShape g → (holds watches : List ℕ) →
    KeepsShape g (let_go holds watches)

-- a frame that isn't refused and isn't in flight, and one that ends
abbrev pub FrameKeepsShape : Type 0
FrameKeepsShape = (g : GraphState) → GraphShape g → (number : ℕ) → frame_cause g ≡ None →
    IsTrue (not (list_any (λ f. f.number == number) g.frames)) → KeepsShape g (frame_held number)

abbrev pub EndKeepsShape : Type 0
EndKeepsShape = (g : GraphState) → GraphShape g → (number : ℕ) →
    KeepsShape g (frame_released number)

-- a channel that is given named rows of the sort that it may name
abbrev pub ChannelKeepsShape : Type 0
ChannelKeepsShape = (g : GraphState) → GraphShape g → (number : ℕ) (channel : Channel) →
    IsTrue (may_be_set g number channel) → list_any (is_missing g) (named_by channel) ≡ false →
    KeepsShape g (channel_set number channel)

-- a preview that is given nothing, or a named scene
abbrev pub PreviewKeepsShape : Type 0
PreviewKeepsShape = (g : GraphState) → GraphShape g → (to : Option ℕ) →
    list_any (is_missing g) (option_to_list to) ≡ false →
    IsTrue (list_all (is_no_other g) (option_to_list to)) → KeepsShape g (preview_set to)

-- a clock; where it falls, the marks aren't of an earlier time
abbrev pub ClockKeepsShape : Type 0
ClockKeepsShape = (g : GraphState) → GraphShape g → (clock : ℕ) → KeepsShape g (clock_set clock)

abbrev pub EmptyHasShape : Type 0
EmptyHasShape = GraphShape empty_graph

-- a new source that no item shows is refused for its name and for the number of rows alone
abbrev pub SceneCausesStand : Type 0
SceneCausesStand = (g : GraphState) → GraphShape g → (name : List ℕ) →
    scene_cause g name (scene_created name g) ≡ bare_cause g name

abbrev pub InputCausesStand : Type 0
InputCausesStand = (g : GraphState) → GraphShape g → (name : List ℕ) (kind : Kind)
    (settings : Settings) →
    scene_cause g name (input_created name kind settings g) ≡ bare_cause g name

-- a new item makes rows as deep and as heavy as the rows as they are say, with it
abbrev pub ItemCausesStand : Type 0
ItemCausesStand = (g : GraphState) → GraphShape g → (parent child : ℕ) (spec : ItemSpec) →
    IsTrue (is_row g parent) → late_cause (item_added parent child spec g)
    ≡ late_cause_with (record { parent = parent; child = child; group = false })
    g.rows (length g.rows)

-- what stands is settled, where the rows and the dying list are as before, the same rows are active,
-- and what was held is held
abbrev pub SettlingLeaves : Type 0
SettlingLeaves = (g h : GraphState) → GraphShape g → h.rows ≡ g.rows → h.dying ≡ g.dying →
    ((x : ℕ) → is_active h x ≡ is_active g x) →
    ((x : ℕ) → IsTrue (is_held g x) → IsTrue (is_held h x)) → settle g h ≡ h
