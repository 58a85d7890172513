use Rattle.std.proofs.Common.{◌∙◌, sym, subst, ℕ, ◌+◌, ◌-◌, ◌*◌, ◌%◌, ◌^◌, List}
use Rattle.mix_lanes.specs.Channels.{AreSums}
use Rattle.mix_lanes.proofs.Sums.{weighed_is}
use Rattle.mix_lanes.proofs.LaneLemmas.{weighed_lanes, all_weighed_small, length_weighed}
use Rattle.mix_lanes.proofs.fours.weigh.Goals as goal

pub returns-clause-value : goal.returns-clause-value
returns-clause-value c = weighed_lanes (λ x y. x * y % 2 ^ 16) (λ x y. (x + y) % 2 ^ 16)
    (λ x y. (x + (2 ^ 16 - y)) % 2 ^ 16) weighed_is 16 c.args.f c.args.w c.args.d
    c.requires.weights.long c.requires.above.small c.requires.weights.small
    c.requires.below.small

pub returns-clause-sums : goal.returns-clause-sums
returns-clause-sums c =
    let P : List ℕ → Type 0 = λ xs. AreSums xs in
    subst P (sym (returns-clause-value c)) (record {
      long = length_weighed c.args.f c.args.w c.args.d
          (c.requires.above.long ∙ sym c.requires.weights.long)
          (c.requires.weights.long ∙ sym c.requires.below.long) ∙ c.requires.above.long;
      small = all_weighed_small c.args.f c.args.w c.args.d c.requires.above.small
          c.requires.weights.small c.requires.below.small;
    })
