-- The line of SetCurrentProgramScene, step by step.
use Rattle.std.proofs.Common.{◌≡◌, ◌∙◌, ℕ, Bool, List, [], ◌++◌, codes, None, Result, Ok, ap, sym}
use Rattle.mix_base.specs.Json.{Object}
use Rattle.mix_json.specs.Fields.{◌>>=◌}
use Rattle.mix_model.specs.declared.body.Body.{Body}
use Rattle.mix_model.specs.declared.event.Event.{Event}
use Rattle.mix_model.specs.declared.notes.Notes.{Notes}
use Rattle.mix_model.specs.Program.{BusChanged, set_program}
use Rattle.mix_model.specs.State.{GraphState, StudioState}
use Rattle.mix_model.specs.Studio.{program_set, studio_settled}
use Rattle.mix_requests.specs.declared.caller.Caller.{Caller}
use Rattle.mix_requests.specs.Effects.{Effect}
use Rattle.mix_requests.specs.Programs.{change_events}
use Rattle.mix_requests.specs.Read.{needed_fields, sought_name}
use Rattle.mix_requests.specs.Sought.{scene_sought}
use Rattle.mix_req_scenes.specs.SetCurrentProgramScene.{set_current_program_scene}

-- the events of the change come after none
pub told_change : (s : StudioState) (scene : ℕ) (before after : List Event) (g : GraphState)
    (fades : Bool) (change : BusChanged) →
    after ≡ before ++ change_events g fades scene change → before ≡ [] → g ≡ s.graph →
    fades ≡ s.program.fades → change ≡ (set_program s.program s.rate scene).change →
    after ≡ change_events s.graph s.program.fades scene
    (set_program s.program s.rate scene).change
told_change s scene before after g fades change is empty graph fade same =
    is ∙ ap (λ l. l ++ change_events g fades scene change) empty
    ∙ ap (λ (k : GraphState). change_events k fades scene change) graph
    ∙ ap (λ f. change_events s.graph f scene change) fade
    ∙ ap (λ (b : BusChanged). change_events s.graph s.program.fades scene b) same

-- what is left of the line where the scene is found, where its name is read, and where there are fields
abbrev by_scene : StudioState → Notes → ℕ → Result Effect ℕ
by_scene s notes scene = Ok (record {
  answer = None;
  events = change_events s.graph s.program.fades scene (set_program s.program s.rate scene).change;
  studio = studio_settled s (program_set scene s);
  notes = notes;
})

abbrev by_name : StudioState → Notes → List ℕ → Result Effect ℕ
by_name s notes name = scene_sought s.graph name >>= by_scene s notes

abbrev by_fields : StudioState → Notes → Object → Result Effect ℕ
by_fields s notes fields = sought_name (codes "sceneName") fields >>= by_name s notes

by_steps : (s : StudioState) (notes : Notes) (body : Body) (fields : Object) (name : List ℕ)
    (scene : ℕ) → Ok fields ≡ needed_fields body →
    Ok name ≡ sought_name (codes "sceneName") fields → Ok scene ≡ scene_sought s.graph name →
    (needed_fields body >>= by_fields s notes) ≡ by_scene s notes scene
by_steps s notes body fields name scene read named sought =
    ap (λ r. r >>= by_fields s notes) (sym read) ∙ ap (λ r. r >>= by_name s notes) (sym named)
    ∙ ap (λ r. r >>= by_scene s notes) (sym sought)

-- what was read and found gives the line
pub set_line : (s : StudioState) (notes : Notes) (caller : Caller) (body : Body) (fields : Object)
    (name : List ℕ) (scene : ℕ) (told : List Event) (left : StudioState) →
    Ok fields ≡ needed_fields body → Ok name ≡ sought_name (codes "sceneName") fields →
    Ok scene ≡ scene_sought s.graph name →
    told ≡ change_events s.graph s.program.fades scene
    (set_program s.program s.rate scene).change →
    left ≡ studio_settled s (program_set scene s) →
    set_current_program_scene s notes caller body
    ≡ Ok (record { answer = None; events = told; studio = left; notes = notes })
unfolding set_current_program_scene
set_line s notes caller body fields name scene told left read named sought is settled =
    by_steps s notes body fields name scene read named sought
    ∙ ap (λ (l : List Event). let e : Effect = record {
      answer = None;
      events = l;
      studio = studio_settled s (program_set scene s);
      notes = notes;
    } in Ok e) (sym is)
    ∙ ap (λ (t : StudioState). let e : Effect = record {
      answer = None;
      events = told;
      studio = t;
      notes = notes;
    } in Ok e) (sym settled)
