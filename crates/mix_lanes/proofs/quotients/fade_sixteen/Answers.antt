use Rattle.std.proofs.Common.{◌∙◌, ap, ap₂, refl, ◌/◌, map}
use Rattle.std.specs.Simd.Lanes.{put_chunk, zip2}
use Rattle.mix_model.specs.Blending.{faded}
use Rattle.mix_lanes.proofs.LaneLemmas.{map_is}
use Rattle.mix_lanes.proofs.QuotientLemmas.{divided_fade}
use Rattle.mix_lanes.proofs.quotients.fade_sixteen.Goals as goal

pub returns : goal.returns
returns c =
    let t = c.args.t in
    let n = c.args.n in
    ap (put_chunk c.args.at c.args.bytes.now) (c.divide.ensures
    ∙ ap (map (λ x. x / n)) c.weigh.ensures.value
    ∙ divided_fade t n _ _
    ∙ ap₂ (zip2 (faded t n)) (map_is _ (λ x. refl) _) (map_is _ (λ x. refl) _))
