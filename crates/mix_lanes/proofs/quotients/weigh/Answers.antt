use Rattle.std.proofs.Common.{◌∙◌, sym, subst, ℕ, ◌+◌, ◌-◌, ◌*◌, ◌/◌, ◌%◌, ◌^◌, List}
use Rattle.std.proofs.lemmas.Simd.{length-zip2}
use Rattle.mix_lanes.specs.Quotients.{weighted, AreFadeSums}
use Rattle.mix_lanes.proofs.QuotientLemmas.{weighted_is, weighted_lanes, all_weighted_small}
use Rattle.mix_lanes.proofs.quotients.weigh.Goals as goal

pub returns-clause-value : goal.returns-clause-value
returns-clause-value c =
    let t = c.args.t in
    let n = c.args.n in
    weighted_lanes (λ x y. x * y % 2 ^ 16) (λ x y. (x + y) % 2 ^ 16) (weighted t n) (n - t) t (n / 2)
    (λ x y p q. weighted_is t n x y c.requires.weights c.requires.few p q) 16 c.args.from c.args.to
    c.requires.channels.long c.requires.others.long c.requires.channels.small
    c.requires.others.small

pub returns-clause-sums : goal.returns-clause-sums
returns-clause-sums c =
    let t = c.args.t in
    let n = c.args.n in
    let P : List ℕ → Type 0 = λ xs. AreFadeSums n xs in
    subst P (sym (returns-clause-value c)) (record {
      long = length-zip2 (weighted t n) c.args.from c.args.to
          (c.requires.channels.long ∙ sym c.requires.others.long) ∙ c.requires.channels.long;
      small = all_weighted_small t n c.args.from c.args.to c.requires.weights
          c.requires.channels.small c.requires.others.small;
    })
