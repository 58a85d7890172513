use Rattle.std.proofs.Common.{◌≡◌, ◌∙◌, sym, subst, refl, ℕ, ◌+◌, ◌*◌, ◌/◌, ◌%◌, ◌^◌, ◌≤◌, ◌<◌, List, length, map, arith}
use Rattle.std.specs.Simd.Lanes.{zip2, Each1}
use Rattle.std.specs.Prelude.{replicate}
use Rattle.std.proofs.lemmas.Simd.{Each1-weaker}
use Rattle.mix_lanes.proofs.LaneLemmas.{map_same}
use Rattle.mix_lanes.proofs.QuotientLemmas.{quotient_is, divided_lanes, all_divided_small}
use Rattle.mix_lanes.proofs.quotients.divide.Goals as goal

parts_are : (n r : ℕ) (sums : List ℕ) → 0 < n → n ≤ 256 → r ≡ 16777216 / n + 1 →
    length sums ≡ 16 → Each1 (λ x. x ≤ 255 * n + n / 2) sums →
    zip2 (λ x k. x / 2 ^ k) (zip2 (λ x y. x * y % 2 ^ 32) (map (λ x. x) sums) (replicate 16 r))
    (replicate 16 24) ≡ map (λ x. x / n) sums
parts_are n r sums some few is long small =
    divided_lanes (λ x y. x * y % 2 ^ 32) (λ x k. x / 2 ^ k) (λ x. x) n r
    (λ x h. quotient_is n x r some few is h) 16 sums long small

parts_small : (n r : ℕ) (sums : List ℕ) → 0 < n → n ≤ 256 → r ≡ 16777216 / n + 1 →
    length sums ≡ 16 → Each1 (λ x. x ≤ 255 * n + n / 2) sums →
    Each1 (λ x. x ≤ 255)
    (zip2 (λ x k. x / 2 ^ k) (zip2 (λ x y. x * y % 2 ^ 32) (map (λ x. x) sums) (replicate 16 r))
    (replicate 16 24))
parts_small n r sums some few is long small =
    let P : List ℕ → Type 0 = λ xs. Each1 (λ x. x ≤ 255) xs in
    subst P (sym (parts_are n r sums some few is long small)) (all_divided_small n sums some small)

pub overflow_cast-result : goal.overflow_cast-result
overflow_cast-result c = Each1-weaker (λ x. x ≤ 255) _ (λ x h. record { fits = omega arith }) _
    (parts_small c.args.n c.args.reciprocal c.args.sums c.requires.some c.requires.few
    c.requires.reciprocal c.requires.sums.long c.requires.sums.small)

pub returns : goal.returns
returns c = map_same _ (λ x h. refl) _
    (parts_small c.args.n c.args.reciprocal c.args.sums c.requires.some c.requires.few
    c.requires.reciprocal c.requires.sums.long c.requires.sums.small)
    ∙ parts_are c.args.n c.args.reciprocal c.args.sums c.requires.some c.requires.few
    c.requires.reciprocal c.requires.sums.long c.requires.sums.small
