use Rattle.std.proofs.Common.{◌≡◌, ◌∙◌, ap, ℕ, ◌+◌, ◌-◌, ◌%◌, ◌^◌, ◌≤◌, arith}
use Rattle.std.specs.Simd.Lanes.{zip2}
use Rattle.mix_model.specs.Blending.{mode_over, product_of}
use Rattle.mix_model.specs.declared.kind.Blend.TheVariants.{Screen}
use Rattle.mix_lanes.proofs.Sums.{product_below}
use Rattle.mix_lanes.proofs.LaneLemmas.{joined_lanes}
use Rattle.mix_lanes.proofs.mode.ScreenMode.meet_lanes.Goals as goal

-- a sum without a part of it
screen_by : (x y part : ℕ) → x ≤ 255 → y ≤ 255 → part ≤ x →
    ((x + y) % 65536 + (65536 - part)) % 65536 ≡ x + y - part
screen_by x y part p q small = omega arith

screen_is : (x y : ℕ) → x ≤ 255 → y ≤ 255 →
    ((x + y) % 65536 + (65536 - product_of x y)) % 65536 ≡ x + y - product_of x y
screen_is x y p q = screen_by x y (product_of x y) p q (product_below x y p q)

pub returns : goal.returns
returns c =
    ap (zip2 (λ x y. (x + (2 ^ 16 - y)) % 2 ^ 16)
    (zip2 (λ x y. (x + y) % 2 ^ 16) c.args.s c.args.d)) c.products.ensures.value
    ∙ joined_lanes (λ x y. (x + (2 ^ 16 - y)) % 2 ^ 16) (λ x y. (x + y) % 2 ^ 16) product_of
    (mode_over Screen) screen_is c.args.s c.args.d c.requires.above.small
    c.requires.below.small
