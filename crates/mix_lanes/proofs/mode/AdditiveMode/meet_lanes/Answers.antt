use Rattle.std.proofs.Common.{◌≡◌, ◌∙◌, ap, sym, ℕ, ◌+◌, ◌%◌, ◌^◌, ◌≤◌, min, arith}
use Rattle.std.proofs.lemmas.Simd.{length-zip2}
use Rattle.mix_model.specs.Blending.{mode_over}
use Rattle.mix_model.specs.declared.kind.Blend.TheVariants.{Additive}
use Rattle.mix_lanes.proofs.Sums.{unwrapped}
use Rattle.mix_lanes.proofs.LaneLemmas.{bounded_lanes}
use Rattle.mix_lanes.proofs.mode.AdditiveMode.meet_lanes.Goals as goal

pub least-requires : goal.least-requires
least-requires c = sym (length-zip2 (λ x y. (x + y) % 2 ^ 16) c.args.s c.args.d
    (c.requires.above.long ∙ sym c.requires.below.long) ∙ c.requires.above.long)

-- a sum of two channels doesn't wrap
sum_is : (x y : ℕ) → x ≤ 255 → y ≤ 255 → min 255 ((x + y) % 2 ^ 16) ≡ min 255 (x + y)
sum_is x y p q = ap (min 255) (unwrapped (x + y) (omega arith))

pub returns : goal.returns
returns c = c.least.ensures ∙ bounded_lanes min (λ x y. (x + y) % 2 ^ 16) (mode_over Additive) 255
    sum_is 16 c.args.s c.args.d c.requires.above.long c.requires.above.small
    c.requires.below.small
