use Rattle.std.proofs.Common.{◌∙◌, ap, sym, subst, ℕ, ◌≤◌, List, map}
use Rattle.std.specs.Simd.Lanes.{zip2, Each1}
use Rattle.std.proofs.lemmas.Simd.{length-zip2}
use Rattle.mix_model.specs.Blending.{mode_over}
use Rattle.mix_lanes.specs.Channels.{AreChannels, nearest_of, weighed}
use Rattle.mix_lanes.proofs.LaneLemmas.{all_met_small, nearest_small}
use Rattle.mix_lanes.proofs.Rows.{whole_over}
use Rattle.mix_lanes.proofs.fours.cover.Goals as goal

-- what a mode makes of channels are channels
pub weigh-requires-clause-above : goal.weigh-requires-clause-above
weigh-requires-clause-above g c =
    let P : List ℕ → Type 0 = λ xs. AreChannels xs in
    subst P (sym c.meet_lanes.ensures) (record {
      long = length-zip2 (mode_over g.M.Mode.blend) c.args.s c.args.d
          (c.requires.above.long ∙ sym c.requires.below.long) ∙ c.requires.above.long;
      small = all_met_small g.M.Mode.blend c.args.s c.args.d c.requires.above.small
          c.requires.below.small;
    })

-- weighed and divided, they lie over those below
pub returns-clause-value : goal.returns-clause-value
returns-clause-value g c =
    let mode = g.M.Mode.blend in
    let s = c.args.s in
    let d = c.args.d in
    c.nearest.ensures ∙ ap (map nearest_of) (c.weigh.ensures.value
    ∙ ap (λ f. weighed f c.weights.result d) c.meet_lanes.ensures
    ∙ ap (λ w. weighed (zip2 (mode_over mode) s d) w d) c.weights.ensures)
    ∙ whole_over mode 4 s d c.requires.above.long c.requires.below.long

pub returns-clause-small : goal.returns-clause-small
returns-clause-small g c =
    let P : List ℕ → Type 0 = λ xs. Each1 (λ x. x ≤ 255) xs in
    subst P (sym c.nearest.ensures) (nearest_small c.weigh.result c.weigh.ensures.sums.small)
