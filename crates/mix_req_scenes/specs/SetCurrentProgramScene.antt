-- SetCurrentProgramScene: the program goes to a scene, as its transition says.
use Rattle.std.specs.Prelude.{ℕ, codes, None, Result, Ok}
use Rattle.mix_json.specs.Fields.{◌>>=◌}
use Rattle.mix_model.specs.declared.body.Body.{Body}
use Rattle.mix_model.specs.declared.notes.Notes.{Notes}
use Rattle.mix_model.specs.State.{StudioState}
use Rattle.mix_model.specs.Program.{set_program}
use Rattle.mix_model.specs.Studio.{program_set, studio_settled}
use Rattle.mix_requests.specs.declared.caller.Caller.{Caller}
use Rattle.mix_requests.specs.Effects.{Effect}
use Rattle.mix_requests.specs.Programs.{change_events}
use Rattle.mix_requests.specs.Read.{needed_fields, sought_name}
use Rattle.mix_requests.specs.Sought.{scene_sought}

-- 600 where no source has the name, and 602 where it is no scene
unfoldable pub set_current_program_scene : StudioState → Notes → Caller → Body → Result Effect ℕ
set_current_program_scene s notes caller body = do
  fields ← needed_fields body
  name ← sought_name (codes "sceneName") fields
  scene ← scene_sought s.graph name
  Ok (record {
    answer = None;
    events = change_events s.graph s.program.fades scene (set_program s.program s.rate scene).change;
    studio = studio_settled s (program_set scene s);
    notes = notes;
  })
