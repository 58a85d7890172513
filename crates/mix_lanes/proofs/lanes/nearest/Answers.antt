use Rattle.std.proofs.Common.{◌≡◌, ◌∙◌, sym, subst, refl, ℕ, ◌+◌, ◌*◌, ◌/◌, ◌%◌, ◌^◌, ◌≤◌, List, length, map, arith}
use Rattle.std.specs.Prelude.{replicate}
use Rattle.std.specs.Simd.Lanes.{zip2, Each1}
use Rattle.std.proofs.lemmas.Simd.{Each1-weaker}
use Rattle.mix_lanes.specs.Channels.{nearest_of}
use Rattle.mix_lanes.proofs.Sums.{nearest_is}
use Rattle.mix_lanes.proofs.LaneLemmas.{Small, map_same, nearest_lanes, nearest_small}
use Rattle.mix_lanes.proofs.lanes.nearest.Goals as goal

-- what is raised, multiplied and shifted
abbrev parts : List ℕ → List ℕ
parts sums = zip2 (λ x k. x / 2 ^ k) (zip2 (λ x y. x * y % 2 ^ 32)
    (map (λ x. x) (zip2 (λ x y. (x + y) % 2 ^ 16) sums (replicate 16 128))) (replicate 16 257))
    (replicate 16 16)

parts_are : (sums : List ℕ) → length sums ≡ 16 → Each1 (λ x. x ≤ 65025) sums →
    parts sums ≡ map nearest_of sums
parts_are sums long small =
    nearest_lanes (λ x y. (x + y) % 2 ^ 16) (λ x y. x * y % 2 ^ 32) (λ x k. x / 2 ^ k) (λ x. x)
    nearest_is 16 sums long small

parts_small : (sums : List ℕ) → length sums ≡ 16 → Each1 (λ x. x ≤ 65025) sums →
    Small (parts sums)
parts_small sums long small =
    let P : List ℕ → Type 0 = λ xs. Small xs in
    subst P (sym (parts_are sums long small)) (nearest_small sums small)

pub overflow_cast-result : goal.overflow_cast-result
overflow_cast-result c = Each1-weaker (λ x. x ≤ 255) _ (λ x h. record { fits = omega arith }) _
    (parts_small c.args.sums c.requires.long c.requires.small)

pub returns : goal.returns
returns c = map_same _ (λ x h. refl) _ (parts_small c.args.sums c.requires.long c.requires.small)
    ∙ parts_are c.args.sums c.requires.long c.requires.small
