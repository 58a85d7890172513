-- What the rules of the program promise.
use Rattle.std.specs.Prelude.{◌≡◌, ◌≢◌, ◌<◌, ◌≤◌, ◌+◌, ◌↔◌, ℕ, zero, suc}
use Rattle.std.specs.Prelude.{Bool, IsTrue, false, true, not, ◌==◌}
use Rattle.mix_base.specs.declared.rate.Rate.{Rate}
use Rattle.mix_base.specs.Rates.{is_rate, frames_of}
use Rattle.mix_model.specs.Sets.{has}
use Rattle.mix_model.specs.State.{ProgramState, Rest, Fade}
use Rattle.mix_model.specs.Lookups.{named_by}
use Rattle.mix_model.specs.Program.{Changed, advance_program, channel_of, choose_transition}
use Rattle.mix_model.specs.Program.{forget_scene, same_program, set_program, target_of}
use Rattle.mix_model.specs.Values.{is_duration}
use Rattle.mix_transition.specs.Shape.{BusShape}

-- the program after so many frames
abbrev pub after_frames : ℕ → ProgramState → ProgramState
after_frames zero p = p
after_frames (suc k) p = (advance_program (after_frames k p)).program

-- to set the program to its target changes nothing and says nothing
abbrev pub TargetStays : Type 0
TargetStays = (p : ProgramState) (rate : Rate) →
    set_program p rate (target_of p.shown) ≡ same_program p

-- after the program is set to a scene, that is its target
abbrev pub TargetIsSet : Type 0
TargetIsSet = (p : ProgramState) (rate : Rate) (y : ℕ) →
    target_of (set_program p rate y).program.shown ≡ y

-- a cut to another scene than the target is at rest there at once
abbrev pub CutIsAtOnce : Type 0
CutIsAtOnce = (p : ProgramState) (rate : Rate) (y : ℕ) →
    p.fades ≡ false → target_of p.shown ≢ y →
    (set_program p rate y).program.shown ≡ Rest y

-- a change says that the target changed exactly where it did
abbrev pub TellsTarget : ProgramState → Changed → Type 0
TellsTarget p c = c.change.target ≡ not (target_of c.program.shown == target_of p.shown)

abbrev pub SettingTellsTarget : Type 0
SettingTellsTarget = (p : ProgramState) (rate : Rate) (y : ℕ) →
    TellsTarget p (set_program p rate y)

abbrev pub FramesTellTarget : Type 0
FramesTellTarget = (p : ProgramState) → TellsTarget p (advance_program p)

abbrev pub ForgettingTellsTarget : Type 0
ForgettingTellsTarget = (p : ProgramState) (y other : ℕ) → TellsTarget p (forget_scene p y other)

-- the program sets out to fade to another scene than its target, which takes some frames
pub record SetsOut (p : ProgramState) (at : Rate) (y : ℕ) : Type 0 where
  pub fades : p.fades ≡ true
  pub other : target_of p.shown ≢ y
  pub duration : IsTrue (is_duration p.duration)
  pub rate : IsTrue (is_rate at)

-- the program so many frames after it set out
abbrev pub frames_on : ℕ → ProgramState → Rate → ℕ → ProgramState
frames_on k p rate y = after_frames k (set_program p rate y).program

-- until its last frame the fade goes on by one with each frame; it begins at the target of what was
-- shown, also where that was a fade
abbrev pub FadeGoesOn : Type 0
FadeGoesOn = (p : ProgramState) (rate : Rate) (y k : ℕ) → SetsOut p rate y →
    k < frames_of p.duration rate →
    (frames_on k p rate y).shown ≡ Fade (target_of p.shown) y k (frames_of p.duration rate)

-- from its last frame on the program is at rest on the scene
abbrev pub FadeComesToRest : Type 0
FadeComesToRest = (p : ProgramState) (rate : Rate) (y k : ℕ) → SetsOut p rate y →
    frames_of p.duration rate ≤ k → (frames_on k p rate y).shown ≡ Rest y

-- of all frames after it set out exactly the fade's last one says that a fade ended
abbrev pub EndIsToldOnce : Type 0
EndIsToldOnce = (p : ProgramState) (rate : Rate) (y k : ℕ) → SetsOut p rate y →
    IsTrue (advance_program (frames_on k p rate y)).change.ended
    ↔ (k + 1 ≡ frames_of p.duration rate)

-- a scene that is forgotten is no end of the program, where another one is given for it
abbrev pub ForgottenIsNoEnd : Type 0
ForgottenIsNoEnd = (p : ProgramState) (y other : ℕ) → BusShape p → other ≢ y →
    has y (named_by (channel_of (forget_scene p y other).program.shown)) ≡ false

-- to forget a scene that is no end of the program changes nothing and says nothing
abbrev pub OthersStay : Type 0
OthersStay = (p : ProgramState) (y other : ℕ) →
    has y (named_by (channel_of p.shown)) ≡ false →
    forget_scene p y other ≡ same_program p

-- setting, a frame and forgetting keep the shape of the program
abbrev pub SettingKeepsShape : Type 0
SettingKeepsShape = (p : ProgramState) (rate : Rate) (y : ℕ) → BusShape p → IsTrue (is_rate rate) →
    BusShape (set_program p rate y).program

abbrev pub FramesKeepShape : Type 0
FramesKeepShape = (p : ProgramState) → BusShape p → BusShape (advance_program p).program

abbrev pub ForgettingKeepsShape : Type 0
ForgettingKeepsShape = (p : ProgramState) (y other : ℕ) → BusShape p →
    BusShape (forget_scene p y other).program

-- so does choosing how the next change goes, and what is shown stays as it is
abbrev pub ChoosingKeepsShape : Type 0
ChoosingKeepsShape = (p : ProgramState) (fades : Bool) (ms : ℕ) → BusShape p →
    IsTrue (is_duration ms) → BusShape (choose_transition fades ms p)

abbrev pub ChoosingKeepsShown : Type 0
ChoosingKeepsShown = (p : ProgramState) (fades : Bool) (ms : ℕ) →
    (choose_transition fades ms p).shown ≡ p.shown
