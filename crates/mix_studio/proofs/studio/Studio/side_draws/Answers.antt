use Rattle.std.proofs.Common.{◌∙◌}
use Rattle.mix_studio.proofs.ShotLemmas.{draws_of, side_rows}
use Rattle.mix_studio.proofs.studio.Studio.side_draws.Goals as goal

-- the channels beside the program's name rows
pub draws-draws-requires-clause-rows : goal.draws-draws-requires-clause-rows
draws-draws-requires-clause-rows c = side_rows c.args.self.now.present.graph
    c.requires.shape.sources _ (c.as_slice.ensures.value ∙ c.in_ok-sides.ensures.value)

-- whose draws these are
pub returns : goal.returns
returns c = record {
  draws = draws_of c.args.self.now.present c.draws-draws.result _ _
      (c.as_slice.ensures.value ∙ c.in_ok-sides.ensures.value) c.draws-draws.ensures.draws;
}
