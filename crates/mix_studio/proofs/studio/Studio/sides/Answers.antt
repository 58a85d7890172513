use Rattle.std.proofs.Common.{◌∙◌, ap}
use Rattle.std.specs.Prelude.{slice_index_or}
use Rattle.mix_studio.specs.Studios.{StudioModel}
use Rattle.mix_studio.proofs.ShotLemmas.{sides_begin, sides_end, sides_more}
use Rattle.mix_studio.proofs.studio.Studio.sides.Goals as goal

-- channel 0 is left out
pub loop-number-init : goal.loop-number-init
loop-number-init c = record {
  roots = sides_begin c.args.self.now.present.graph _ c.new-roots.ensures.items;
}

-- what one channel more names
pub loop-number-preserved : goal.loop-number-preserved
loop-number-preserved c = record {
  roots = sides_more c.args.self.now.present.graph c.requires.shape.sources
      c.loop-number.number c.loop-number-test.true _ _ _
      (c.channel.ensures.reply ∙ ap (λ (n : StudioModel).
      slice_index_or n.present.graph.channels c.loop-number.number c.channel.result)
      c.self.view_is) c.in_ok-push_named.ensures.items c.loop-number.invariant.roots;
}

-- no channel is left
pub returns : goal.returns
returns c = record {
  value = sides_end c.args.self.now.present.graph c.requires.shape.sources c.loop-number.number
      c.loop-number-test.false _ c.loop-number.invariant.roots;
}
