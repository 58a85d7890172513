-- What an action leaves that edits the sources.
use Rattle.std.specs.Prelude.{◌≡◌, ℕ, Result, Ok, Err}
use Rattle.mix_model.specs.State.{GraphState, StudioState}
use Rattle.mix_model.specs.Studio.{studio_settled}
use Rattle.mix_studio.specs.Studios.{StudioModel}
use Rattle.mix_requests.specs.declared.refused.Refused.{Refused}
use Rattle.mix_requests.specs.Outcomes.{AnswersRefused}

-- an edit of the sources, in an action of its own
abbrev pub edited_alone : (GraphState → GraphState) → StudioState → StudioState
edited_alone edit s = studio_settled s (record s { graph = edit s.graph })

-- a call that `may` be refused left this studio, or the one from before
abbrev pub Edits : {A : Type 0} → Result A Refused → StudioModel → StudioModel
    → Result (Unit {0}) ℕ → StudioState → Type 0
Edits (Ok x) m m' may after = (may ≡ Ok tt) × (m'.present ≡ after) × (m'.begun ≡ m.begun)
Edits (Err refused) m m' may after = AnswersRefused refused may × (m' ≡ m)
