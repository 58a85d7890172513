use Rattle.std.proofs.Common.{◌∙◌, ap}
use Rattle.mix_engine.specs.Engines.{EngineModel, present}
use Rattle.mix_engine.specs.Heads.{head_of}
use Rattle.mix_engine.proofs.Openers.{head_is}
use Rattle.mix_engine.proofs.engine.Engine.head.Goals as goal

-- records are made as they were at the start
pub returns : goal.returns
returns c = record {
  value = head_is c.self.inside.setup.collection c.self.inside.journal.items
      c.self.inside.mixing c.self.inside.bytes c.canvas-width.result c.rate.result
      c.args.recording c.self.invariant.0 c.canvas-width.ensures.value c.rate.ensures.value
      ∙ ap (λ (e : EngineModel). head_of (present e).studio c.args.recording) c.self.view_is;
}
