-- Requests: the one table of the lines of all crates, and what the connection is told.
use Rattle.std.specs.Prelude.{◌≡◌, ℕ, List, [], ◌∷◌, Option, Some, None, Result, Ok, Err}
use Rattle.std.specs.Prelude.{option_map, unwrap_or}
use Rattle.mix_base.specs.declared.no_memory.NoMemory.{NoMemory}
use Rattle.mix_model.specs.declared.ask.Ask.{Ask}
use Rattle.mix_model.specs.declared.ask.Done.{Done}
use Rattle.mix_model.specs.declared.body.Body.{Body}
use Rattle.mix_model.specs.declared.event.Event.{Event}
use Rattle.mix_model.specs.declared.notes.Notes.{Notes}
use Rattle.mix_events.specs.declared.said.Said.TheVariants.{Response}
use Rattle.mix_model.specs.State.{StudioState}
use Rattle.mix_requests.specs.declared.caller.Caller.{Caller}
use Rattle.mix_requests.specs.declared.caller.Mode.TheVariants.{Single}
use Rattle.mix_requests.specs.declared.request_type.RequestType.{RequestType}
use Rattle.mix_requests.specs.declared.request_type.RequestType.TheVariants.{Scene, Item, Input}
use Rattle.mix_requests.specs.declared.request_type.RequestType.TheVariants.{Output, Unknown}
use Rattle.mix_requests.specs.Effects.{Effect}
use Rattle.mix_requests.specs.Outcomes.{done_with}
use Rattle.mix_requests.specs.Table.{type_of}
use Rattle.mix_studio.specs.Studios.{StudioModel}
use Rattle.mix_req_scenes.specs.Scenes as scenes
use Rattle.mix_req_items.specs.Items as items
use Rattle.mix_req_inputs.specs.Inputs as inputs
use Rattle.mix_req_outputs.specs.Outputs as outputs
use Rattle.mix_engine.specs.declared.heading.Heading.TheVariants.{Told}
use Rattle.mix_engine.specs.Mixer.{Mixer}
use Rattle.mix_engine.specs.Outcomes.{Outcome, only, unbuilt}

-- a request of its own in a message
abbrev pub alone : ℕ → Caller
alone conn = record { conn = conn; mode = Single }

-- the line of a request; a request that isn't built yet has none. A type that the mixer isn't to know
-- is 204
abbrev pub line_of : StudioState → Notes → Caller → Body → RequestType → Option (Result Effect ℕ)
line_of s notes caller body (Scene request) = scenes.scene_line s notes caller body request
line_of s notes caller body (Item request) = items.item_line s notes caller body request
line_of s notes caller body (Input request) = inputs.input_line s notes caller body request
line_of s notes caller body (Output request) = outputs.output_line s notes caller body request
line_of s notes caller body Unknown = Some (Err 204)

-- a request without a type is 203
abbrev pub line_named : StudioState → Notes → Caller → Body → Option RequestType
    → Option (Result Effect ℕ)
line_named s notes caller body None = Some (Err 203)
line_named s notes caller body (Some request) = line_of s notes caller body request

abbrev pub line_asked : StudioState → Notes → Caller → Ask → Option (Result Effect ℕ)
line_asked s notes caller ask = line_named s notes caller ask.body (option_map type_of ask.kind)

-- the most events of a request, those of the settling aside
abbrev pub most_events : RequestType → ℕ
most_events (Scene request) = scenes.most_events request
most_events (Item request) = items.most_events request
most_events (Input request) = inputs.most_events request
most_events (Output request) = outputs.most_events request
most_events Unknown = 0

abbrev pub most_named : Option RequestType → ℕ
most_named None = 0
most_named (Some request) = most_events request

-- what was done about a request by its line, and what of it stands
abbrev pub DoesLineAsked : Done → StudioModel → StudioModel → Notes → Notes → List Event → Ask
    → Result Effect ℕ → Type 0
DoesLineAsked done m m' n n' told ask (Err status) =
    (done ≡ done_with (unwrap_or ask.kind []) ask.id (Err status)) × (m'.present ≡ m.present)
    × (n' ≡ n) × (told ≡ [])
DoesLineAsked done m m' n n' told ask (Ok effect) =
    (done ≡ done_with (unwrap_or ask.kind []) ask.id (Ok effect.answer))
    × (m'.present ≡ effect.studio) × (n' ≡ effect.notes) × (told ≡ effect.events)

abbrev pub DoesDone : Done → StudioModel → StudioModel → Notes → Notes → List Event → Ask
    → Option (Result Effect ℕ) → Type 0
DoesDone done m m' n n' told ask None = ⊥
DoesDone done m m' n n' told ask (Some line) = DoesLineAsked done m m' n n' told ask line

-- the same, or the request isn't built, or there was no memory: then nothing is done
abbrev pub DoesAsk : Result (Option Done) NoMemory → StudioModel → StudioModel → Notes → Notes
    → List Event → Ask → Option (Result Effect ℕ) → Type 0
DoesAsk (Ok (Some done)) m m' n n' told ask line = DoesDone done m m' n n' told ask line
DoesAsk (Ok None) m m' n n' told ask line =
    (line ≡ None) × (m'.present ≡ m.present) × (n' ≡ n)
DoesAsk (Err fault) m m' n n' told ask line = (m'.present ≡ m.present) × (n' ≡ n)

-- what the connection is told of its request, and what the line leaves
abbrev pub answers_by : Mixer → ℕ → Ask → Option (Result Effect ℕ) → Outcome
answers_by s conn ask None = unbuilt s
answers_by s conn ask (Some (Err status)) = only s (Told conn)
    (Response (done_with (unwrap_or ask.kind []) ask.id (Err status)) ∷ [])
answers_by s conn ask (Some (Ok effect)) = record (only s (Told conn)
    (Response (done_with (unwrap_or ask.kind []) ask.id (Ok effect.answer)) ∷ [])) {
      events = effect.events;
      studio = effect.studio;
      notes = effect.notes;
    }

-- a connection asks for a request
abbrev pub answers : Mixer → ℕ → Ask → Outcome
answers s conn ask = answers_by s conn ask (line_asked s.studio s.notes (alone conn) ask)
