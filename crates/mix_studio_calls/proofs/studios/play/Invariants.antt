use Rattle.mix_model.specs.WholeShape.{StudioShape}
use Rattle.mix_studio_calls.proofs.studios.play.Given as goal

-- the studio has its shape after each call
abbrev pub invariant-loop-call : goal.invariant-loop-call
invariant-loop-call l = record { shape : StudioShape l.studio.present }
