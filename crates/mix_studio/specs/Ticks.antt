-- What a video tick answers.
use Rattle.std.specs.Prelude.{◌≡◌, ℕ, Bool, false, IsTrue, Option}
use Rattle.mix_model.specs.declared.draw.Shot.{Shot}
use Rattle.mix_model.specs.Program.{advance_program}
use Rattle.mix_model.specs.Recordings.{recording_of}
use Rattle.mix_model.specs.State.{StudioState}
use Rattle.mix_model.specs.Studio.{has_room}
use Rattle.mix_studio.specs.declared.ticked.Ticked.{Ticked}
use Rattle.mix_studio.specs.declared.ticked.Ticked.TheVariants.{Frame, NoFrame}
use Rattle.mix_studio.specs.Shots.{Shows}

-- a frame of the studio as it is found: it has the clock's number, shows the studio, belongs to the
-- recording that runs and isn't paused, and says whether a fade comes to its end
pub record IsTaken (s : StudioState) (number : ℕ) (shot : Shot) (recording : Option ℕ)
    (ended : Bool) : Type 0 where
  pub room : IsTrue (has_room s)
  pub number_is : number ≡ s.graph.clock
  pub shows : Shows s number shot
  pub recording_is : recording ≡ recording_of s.recording
  pub ended_is : ended ≡ (advance_program s.program).change.ended

-- no frame comes exactly where too many are in flight
abbrev pub Ticks : StudioState → Ticked → Type 0
Ticks s (Frame number shot recording ended) = IsTaken s number shot recording ended
Ticks s NoFrame = has_room s ≡ false
