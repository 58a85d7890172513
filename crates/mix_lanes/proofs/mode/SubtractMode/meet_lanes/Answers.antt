use Rattle.std.proofs.Common.{◌≡◌, ◌∙◌, ap, ℕ, ◌+◌, ◌-◌, ◌%◌, ◌^◌, ◌≤◌, min, arith}
use Rattle.std.specs.Simd.Lanes.{zip2}
use Rattle.mix_model.specs.Blending.{mode_over}
use Rattle.mix_model.specs.declared.kind.Blend.TheVariants.{Subtract}
use Rattle.mix_lanes.proofs.LaneLemmas.{under_lanes}
use Rattle.mix_lanes.proofs.mode.SubtractMode.meet_lanes.Goals as goal

-- what is left of a channel
left_is : (x y : ℕ) → x ≤ 255 → y ≤ 255 → (y + (65536 - min y x)) % 65536 ≡ y - x
left_is x y p q = omega arith

pub returns : goal.returns
returns c = ap (zip2 (λ x y. (x + (2 ^ 16 - y)) % 2 ^ 16) c.args.d) c.least.ensures
    ∙ under_lanes (λ x y. (x + (2 ^ 16 - y)) % 2 ^ 16) min (mode_over Subtract) left_is
    c.args.s c.args.d c.requires.above.small c.requires.below.small
