-- What contracts see of a studio, and what its calls leave.
use Rattle.std.specs.Prelude.{Bool, List, if◌then◌else◌}
use Rattle.std.specs.List.{list_all}
use Rattle.mix_model.specs.Marks.{Mark, GraphModel, marks_of, settled_by, was_active}
use Rattle.mix_model.specs.Sets.{agree}
use Rattle.mix_model.specs.State.{StudioState}
use Rattle.mix_model.specs.Walks.{is_active}
use Rattle.mix_model.specs.Studio.{has_room, picture_taken, studio_mode_set}

-- the marks of how each row stood when the action began, and what stands now
pub record StudioModel : Type 0 where
  pub begun : List Mark
  pub present : StudioState

-- the sources of a studio
abbrev pub graph_in : StudioModel → GraphModel
graph_in m = record { begun = m.begun; present = m.present.graph }

-- the same studio over other sources
abbrev pub with_graph : StudioModel → GraphModel → StudioModel
with_graph m g = record {
  begun = g.begun;
  present = record m.present { graph = g.present };
}

-- the studio with its sources settled against the marks
abbrev pub settled_since : List Mark → StudioState → StudioState
settled_since marks s = record s { graph = settled_by marks s.graph }

-- each call that edits the sources leaves its edit, settled against the marks
unfoldable pub studio_edited : (StudioState → StudioState) → StudioModel → StudioModel
studio_edited edit m = record m { present = settled_since m.begun (edit m.present) }

-- a call that leaves the sources as they are leaves its edit
abbrev pub studio_with : (StudioState → StudioState) → StudioModel → StudioModel
studio_with edit m = record m { present = edit m.present }

-- studio mode is set; where it is so already nothing changes
unfoldable pub mode_set : Bool → StudioModel → StudioModel
mode_set enabled m = if agree enabled m.present.studio_mode then m
    else studio_edited (studio_mode_set enabled) m

-- a video tick; where no picture can be taken nothing changes
unfoldable pub tick_done : StudioModel → StudioModel
tick_done m = if has_room m.present then studio_edited picture_taken m else m

-- an action begins
abbrev pub studio_begun : StudioModel → StudioModel
studio_begun m = record m { begun = marks_of m.present.graph }

-- nothing became active or inactive since the action began
abbrev pub keeps_activity : StudioModel → Bool
keeps_activity m = list_all (λ r. agree (was_active m.begun r.serial)
    (is_active m.present.graph r.serial)) m.present.graph.rows
