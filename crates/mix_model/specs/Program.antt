-- What the program shows, and how it is changed.
use Rattle.std.specs.Prelude.{ℕ, Bool, true, false, ◌==◌, ◌+◌, nat_lt, not, ◌&&◌, if◌then◌else◌}
use Rattle.std.specs.Prelude.{Some, None}
use Rattle.mix_base.specs.declared.rate.Rate.{Rate}
use Rattle.mix_base.specs.Rates.{frames_of}
use Rattle.mix_model.specs.State.{ProgramState, Shown, Rest, Fade, Channel}

-- what a change of the program was: a running fade ended, a transition began, a cut included, and the
-- target changed
pub record BusChanged : Type 0 where
  pub ended : Bool
  pub started : Bool
  pub target : Bool

-- the program after a change, and what the change was
pub record Changed : Type 0 where
  pub program : ProgramState
  pub change : BusChanged

-- the target is the scene at rest, or the one that a fade goes to
abbrev pub target_of : Shown → ℕ
target_of (Rest x) = x
target_of (Fade a b t n) = b

-- what channel 0 names while the program shows this
abbrev pub channel_of : Shown → Channel
channel_of (Rest x) = (Some x, None)
channel_of (Fade a b t n) = (Some a, Some b)

abbrev pub is_fading : Shown → Bool
is_fading (Rest x) = false
is_fading (Fade a b t n) = true

-- how far the fade is: t of n, or 0 of 1 at rest
abbrev pub weights_of : Shown → ℕ × ℕ
weights_of (Rest x) = (0, 1)
weights_of (Fade a b t n) = (t, n)

abbrev pub no_change : BusChanged
no_change = record { ended = false; started = false; target = false }

abbrev pub same_program : ProgramState → Changed
same_program p = record { program = p; change = no_change }

-- a cut is at rest at once, and a fade begins at 0 of the frames that its duration takes
abbrev pub towards : ProgramState → Rate → ℕ → Shown
towards p rate y =
    if p.fades then Fade (target_of p.shown) y 0 (frames_of p.duration rate) else Rest y

-- to set the program to its target changes nothing. Else a running fade ends at its own target, and
-- from there a transition begins
unfoldable pub set_program : ProgramState → Rate → ℕ → Changed
set_program p rate y = if target_of p.shown == y then same_program p else record {
  program = record p { shown = towards p rate y };
  change = record { ended = is_fading p.shown; started = true; target = true };
}

-- a frame more: a fade that reaches its end is at rest there
abbrev pub shown_after : Shown → Shown
shown_after (Rest x) = Rest x
shown_after (Fade a b t n) = if nat_lt (t + 1) n then Fade a b (t + 1) n else Rest b

unfoldable pub advance_program : ProgramState → Changed
advance_program p = record {
  program = record p { shown = shown_after p.shown };
  change = record no_change {
    ended = is_fading p.shown && not (is_fading (shown_after p.shown));
  };
}

-- without a scene: a fade that it is an end of is at rest on the other end, and a program that rests
-- on it rests on the other scene that is given
abbrev pub shown_without : ℕ → ℕ → Shown → Shown
shown_without y other (Rest x) = if x == y then Rest other else Rest x
shown_without y other (Fade a b t n) =
    if a == y then Rest b else (if b == y then Rest a else Fade a b t n)

unfoldable pub forget_scene : ProgramState → ℕ → ℕ → Changed
forget_scene p y other = let after : Shown = shown_without y other p.shown in record {
  program = record p { shown = after };
  change = record {
    ended = is_fading p.shown && not (is_fading after);
    started = false;
    target = not (target_of after == target_of p.shown);
  };
}

-- how the next change goes; a running fade stays as it is
unfoldable pub choose_transition : Bool → ℕ → ProgramState → ProgramState
choose_transition fades duration p = record p { fades = fades; duration = duration }
