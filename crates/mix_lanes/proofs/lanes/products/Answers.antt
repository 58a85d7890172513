use Rattle.std.proofs.Common.{◌∙◌, sym, ◌*◌, ◌%◌, ◌^◌}
use Rattle.std.proofs.lemmas.Simd.{length-zip2}
use Rattle.mix_lanes.proofs.Sums.{product_is}
use Rattle.mix_lanes.proofs.LaneLemmas.{product_lanes, products_small}
use Rattle.mix_lanes.proofs.lanes.products.Goals as goal

-- products of channels are sums of one product
pub nearest-requires : goal.nearest-requires
nearest-requires c = record {
  long = length-zip2 (λ x y. x * y % 2 ^ 16) c.args.s c.args.d
      (c.requires.above.long ∙ sym c.requires.below.long) ∙ c.requires.above.long;
  small = products_small (λ x y. x * y % 2 ^ 16) product_is c.args.s c.args.d
      c.requires.above.small c.requires.below.small;
}

pub returns : goal.returns
returns c = record {
  value = c.nearest.ensures ∙ product_lanes (λ x y. x * y % 2 ^ 16) product_is c.args.s c.args.d
      c.requires.above.small c.requires.below.small;
}
