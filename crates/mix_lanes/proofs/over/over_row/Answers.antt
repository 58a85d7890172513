use Rattle.std.proofs.Common.{◌*◌, ◌∙◌, ap, refl}
use Rattle.mix_model.specs.Colours.{colour_at}
use Rattle.mix_lanes.proofs.Rows.{pixel_over}
use Rattle.mix_lanes.proofs.over.over_row.Goals as goal

-- and so each pixel
pub returns-clause-pixels : goal.returns-clause-pixels
returns-clause-pixels c = λ x fits.
    ap (λ bytes. colour_at bytes (4 * x)) c.over_in.ensures
    ∙ pixel_over c.args.blend x (4 * x) c.args.above.now c.args.below.now refl fits c.requires.same
