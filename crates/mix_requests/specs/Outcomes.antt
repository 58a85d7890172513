-- What the calls leave that do a request, against its line.
use Rattle.std.specs.Prelude.{◌≡◌, ℕ, List, Option, Some, None, Result, Ok, Err}
use Rattle.mix_base.specs.declared.json.Json.{Json}
use Rattle.mix_model.specs.declared.ask.Done.{Done}
use Rattle.mix_model.specs.declared.event.Event.{Event}
use Rattle.mix_model.specs.declared.notes.Notes.{Notes}
use Rattle.mix_studio.specs.Studios.{StudioModel}
use Rattle.mix_requests.specs.declared.refused.Refused.{Refused}
use Rattle.mix_requests.specs.declared.refused.Refused.TheVariants.{Status, NoMemory}
use Rattle.mix_requests.specs.Effects.{Effect}

-- a refusal is the one of the line. Want of memory may come whatever the line is
abbrev pub AnswersRefused : {A : Type 0} → Refused → Result A ℕ → Type 0
AnswersRefused (Status status) line = line ≡ Err status
AnswersRefused NoMemory line = Unit {0}

-- a call answered what the line gives, or found no memory
abbrev pub Answers : {A : Type 0} → Result A Refused → Result A ℕ → Type 0
Answers (Ok x) line = line ≡ Ok x
Answers (Err refused) line = AnswersRefused refused line

-- a request did what its line says, and its events are told; or it left the studio and the notes as
-- they were, and then no event counts
abbrev pub DoesLast : Result (Option Json) Refused → StudioModel → StudioModel → Notes → Notes
    → List Event → Result Effect ℕ → Type 0
DoesLast (Ok answer) m m' n n' told line =
    (line ≡ Ok (record { answer = answer; events = told; studio = m'.present; notes = n' }))
    × (m'.begun ≡ m.begun)
DoesLast (Err refused) m m' n n' told line =
    AnswersRefused refused line × (m' ≡ m) × (n' ≡ n)

-- the same of a request that may not be built: then there is no line, and nothing is done
abbrev pub DoesLine : Option (Result (Option Json) Refused) → StudioModel → StudioModel
    → Notes → Notes → List Event → Option (Result Effect ℕ) → Type 0
DoesLine None m m' n n' told None = (m' ≡ m) × (n' ≡ n)
DoesLine None m m' n n' told (Some line) = ⊥
DoesLine (Some result) m m' n n' told None = ⊥
DoesLine (Some result) m m' n n' told (Some line) = DoesLast result m m' n n' told line

-- what a request is answered: 100 with its answer, or the status that refuses it
abbrev pub done_with : List ℕ → Option (List ℕ) → Result (Option Json) ℕ → Done
done_with type id (Ok answer) =
    record { kind = type; id = id; status = 100; response = answer }
done_with type id (Err status) =
    record { kind = type; id = id; status = status; response = None }
