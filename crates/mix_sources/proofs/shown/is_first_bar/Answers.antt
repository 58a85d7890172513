-- The place within two bars tells the bar.
use Rattle.std.proofs.Common.{◌∙◌, ap, ◌%◌, ◌*◌, pos, ◌+ℤ◌, ◌*ℤ◌, SFits, w64, to_z-of_z}
use Rattle.std.specs.Prelude.{int_lt}
use Rattle.std.specs.Int.{int_rem_euclid}
use Rattle.mix_sources.proofs.BarLemmas.{first_bar}
use Rattle.mix_sources.proofs.shown.is_first_bar.Goals as goal

pub returns : goal.returns
returns c =
    let moved : SFits w64 c.moved.result = record { sfits = c.moved.type_inv } in
    let a = c.args in
    record {
      value = c.is_in_first_half.ensures.value
          ∙ ap (λ z. int_lt (int_rem_euclid z (pos (2 * a.bar))) (pos a.bar)) (to_z-of_z moved
          ∙ c.moved.ensures.value
          ∙ ap (λ s. pos a.u +ℤ s *ℤ pos (a.age % c.two_bars.result)) (to_z-of_z c.ranges.speed)
          ∙ ap (λ n. pos a.u +ℤ a.speed *ℤ pos (a.age % n)) c.two_bars.ensures.value)
          ∙ first_bar a.bar a.speed a.age a.u c.requires.some;
    }
