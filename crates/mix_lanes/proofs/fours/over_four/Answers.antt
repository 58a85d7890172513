use Rattle.std.proofs.Common.{◌∙◌, ap, ap₂, refl}
use Rattle.std.specs.Simd.Lanes.{put_chunk}
use Rattle.mix_model.specs.Blending.{pixels_over}
use Rattle.mix_lanes.proofs.LaneLemmas.{map_same, map_is}
use Rattle.mix_lanes.proofs.fours.over_four.Goals as goal

-- casts leave channels as they are
pub returns : goal.returns
returns g c = ap (put_chunk c.args.at c.args.below.now)
    (map_same _ (λ x h. refl) c.cover.result c.cover.ensures.small ∙ c.cover.ensures.value
    ∙ ap₂ (pixels_over g.M.Mode.blend) (map_is _ (λ x. refl) _) (map_is _ (λ x. refl) _))
