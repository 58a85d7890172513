-- What each call of the studio does, before the settling.
use Rattle.std.specs.Prelude.{ℕ, Bool, true, false, ◌+◌, ◌==◌, not, nat_lt, length, find}
use Rattle.std.specs.Prelude.{unwrap_or, Option, Some, None, if◌then◌else◌}
use Rattle.mix_base.specs.Limits.{standard}
use Rattle.mix_model.specs.Sets.{agree}
use Rattle.mix_model.specs.State.{GraphState, ProgramState, StudioState, Recording}
use Rattle.mix_model.specs.Program.{set_program, advance_program, forget_scene, channel_of}
use Rattle.mix_model.specs.Program.{target_of, choose_transition}
use Rattle.mix_model.specs.Recordings.{picture_recorded, block_recorded}
use Rattle.mix_model.specs.Recordings.{picture_bytes, block_bytes}
use Rattle.mix_model.specs.Edits.{channel_set, preview_set, clock_set, frame_held, source_removed}
use Rattle.mix_model.specs.Edits.{frame_released, next_destroyed}
use Rattle.mix_model.specs.Settle.{settle}

-- channel 0 names what the program shows
abbrev pub with_program : ProgramState → StudioState → StudioState
with_program p s = record s {
  program = p;
  graph = channel_set 0 (channel_of p.shown) s.graph;
}

-- the program is set to a scene
unfoldable pub program_set : ℕ → StudioState → StudioState
program_set y s = with_program (set_program s.program s.rate y).program s

-- how the program's next change goes is chosen
unfoldable pub transition_chosen : Bool → ℕ → StudioState → StudioState
transition_chosen fades ms s = record s { program = choose_transition fades ms s.program }

-- the first other scene of the registry
abbrev pub other_scene : ℕ → GraphState → ℕ
other_scene y g = unwrap_or (find (λ x. not (x == y)) g.scenes) 0

-- a scene is removed: the program forgets it, and then it goes as every source does
unfoldable pub scene_removed : ℕ → StudioState → StudioState
scene_removed y s =
    let forgot : StudioState =
    with_program (forget_scene s.program y (other_scene y s.graph)).program s in
    record forgot { graph = source_removed y forgot.graph }

-- whether a picture can be taken: no more than so many frames are in flight at once
abbrev pub has_room : StudioState → Bool
has_room s = nat_lt (length s.graph.frames) standard.frames

-- a picture is taken of the studio as it is: a frame is in flight under the clock's number, the clock
-- rises, a fade goes on by one, and the tick belongs to the recording
unfoldable pub picture_taken : StudioState → StudioState
picture_taken s =
    let held : GraphState = frame_held s.graph.clock s.graph in
    with_program (advance_program s.program).program (record s {
      graph = clock_set (s.graph.clock + 1) held;
      recording = picture_recorded (picture_bytes s) s.recording;
    })

-- a video tick: where no picture can be taken nothing changes
unfoldable pub video_ticked : StudioState → StudioState
video_ticked s = if has_room s then picture_taken s else s

-- an audio tick
unfoldable pub audio_ticked : StudioState → StudioState
audio_ticked s = record s {
  audio_clock = s.audio_clock + 1;
  recording = block_recorded (block_bytes s) s.recording;
}

-- a frame is given back
unfoldable pub frame_ended : ℕ → StudioState → StudioState
frame_ended number s = record s { graph = frame_released number s.graph }

-- the first row that dies is destroyed
unfoldable pub row_destroyed : StudioState → StudioState
row_destroyed s = record s { graph = next_destroyed s.graph }

-- studio mode begins with the target as its preview, and ends with none
abbrev pub mode_preview : Bool → StudioState → Option ℕ
mode_preview true s = Some (target_of s.program.shown)
mode_preview false s = None

unfoldable pub studio_mode_set : Bool → StudioState → StudioState
studio_mode_set enabled s = if agree enabled s.studio_mode then s else record s {
  studio_mode = enabled;
  graph = preview_set (mode_preview enabled s) s.graph;
}

-- the preview is set to a scene
unfoldable pub scene_previewed : ℕ → StudioState → StudioState
scene_previewed y s = record s { graph = preview_set (Some y) s.graph }

-- the recording is changed, and nothing else
unfoldable pub recording_changed : (Recording → Recording) → StudioState → StudioState
recording_changed change s = record s { recording = change s.recording }

-- each action ends with the settling of the sources
unfoldable pub studio_settled : StudioState → StudioState → StudioState
studio_settled old new = record new { graph = settle old.graph new.graph }
