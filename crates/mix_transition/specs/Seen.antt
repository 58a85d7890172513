-- What the code keeps, as the state has it.
use Rattle.mix_model.specs.State.{Shown, Rest, Fade}
use Rattle.mix_transition.specs.declared.program.Program.{Program}
use Rattle.mix_transition.specs.declared.program.Program.TheVariants.{AtRest, Fading}

-- what the program shows
abbrev pub shown_by : Program → Shown
shown_by (AtRest scene) = Rest scene
shown_by (Fading from to passed frames) = Fade from to passed frames
