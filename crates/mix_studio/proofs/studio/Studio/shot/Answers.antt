use Rattle.std.proofs.Common.{◌∙◌, ap, refl}
use Rattle.mix_model.specs.Program.{weights_of}
use Rattle.mix_model.specs.Voices.{ends_of}
use Rattle.mix_studio.specs.Studios.{StudioModel}
use Rattle.mix_studio.proofs.ShotLemmas.{from_row, planned_shows, to_row}
use Rattle.mix_studio.proofs.studio.Studio.shot.Goals as goal

-- the ends of the program are rows
pub draws-requires-clause-rows : goal.draws-requires-clause-rows
draws-requires-clause-rows c = from_row c.args.self.now.present c.requires.shape
    c.ends-first.result (c.ends-first.ensures.value
    ∙ ap (λ (m : StudioModel). ends_of m.present.program.shown) c.self.view_is)

pub end_draws-requires-clause-rows : goal.end_draws-requires-clause-rows
end_draws-requires-clause-rows c = to_row c.args.self.now.present c.requires.shape
    c.ends-first.result (c.ends-first.ensures.value
    ∙ ap (λ (m : StudioModel). ends_of m.present.program.shown) c.self.view_is)

-- what is planned of them paints the picture
pub returns : goal.returns
returns c = record {
  shows = planned_shows c.args.self.now.present _ c.ends-first.result _ c.requires.shape
      (c.ends-first.ensures.value
      ∙ ap (λ (m : StudioModel). ends_of m.present.program.shown) c.self.view_is)
      (c.weights-t.ensures.value
      ∙ ap (λ (m : StudioModel). weights_of m.present.program.shown) c.self.view_is)
      c.weights-t.ensures.running refl
      c.in_ok-from.ensures.draws c.in-Ok.ensures.draws c.in-Ok-side_draws.ensures.draws;
}
