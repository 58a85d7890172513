use Rattle.std.proofs.Common.{◌∙◌, to_z-of_z}
use Rattle.mix_audio.proofs.Scaling.{product_fits, scaled_is}
use Rattle.mix_audio.proofs.share.scaled.Goals as goal

-- the product fits
pub overflow_mul-result-2 : goal.overflow_mul-result-2
overflow_mul-result-2 c = product_fits c.args.sample _ _ _ c.args.volume c.args.w c.args.n
    (c.from.ensures ∙ to_z-of_z c.ranges.sample) c.from-2.ensures c.from-3.ensures
    c.requires.sample c.requires.volume c.requires.weight c.ranges.n.fits

-- and its quotient too
pub returns : goal.returns
returns c = scaled_is c.args.sample _ _ _ _ c.args.volume c.args.w c.args.n
    (c.from.ensures ∙ to_z-of_z c.ranges.sample) c.from-2.ensures c.from-3.ensures
    c.from-4.ensures c.requires.sample c.requires.volume c.requires.weight c.ranges.n.fits
    c.requires.some
