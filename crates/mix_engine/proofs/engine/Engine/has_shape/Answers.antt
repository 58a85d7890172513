use Rattle.std.proofs.Common.{◌+◌, length, subst}
use Rattle.mix_model.specs.WholeShape.{StateShape}
use Rattle.mix_engine.specs.Engines.{EngineModel, present}
use Rattle.mix_engine.specs.Numbers.{NumbersWithin}
use Rattle.mix_engine.proofs.engine.Engine.has_shape.Goals as goal

-- the mixer keeps both, and is the replay of the journal
pub returns : goal.returns
returns c = record {
  shape = subst (λ (e : EngineModel). StateShape (present e)) c.self.view_is
      (subst StateShape c.self.invariant.0.state c.has_shape.ensures.shape.shape);
  numbers = subst (λ (e : EngineModel). NumbersWithin (4096 + length e.journal) (present e))
      c.self.view_is (subst (NumbersWithin (4096 + length c.self.inside.journal.items))
      c.self.invariant.0.state c.self.invariant.0.numbers);
}
