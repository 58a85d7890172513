use Rattle.std.proofs.Common.{ℤ, IsTrue, subst, sym, rules, FitsSigned, w32, to_z-of_z}
use Rattle.mix_model.specs.Values.{is_position}
use Rattle.mix_collection.proofs.Fitting.{place_fits}
use Rattle.mix_collection.proofs.options.place_in.Goals as goal

-- each number is in its range
pub returns-clause-valid : goal.returns-clause-valid
returns-clause-valid c =
    let P : ℤ → Type 0 = λ z. IsTrue (is_position z) in
    let x : FitsSigned w32 c.in_ok-x.x = search rules in
    let y : FitsSigned w32 c.in_ok-y.y = search rules in
    place_fits _ (subst P (sym (to_z-of_z x)) c.in_ok-x.ensures.near)
    (subst P (sym (to_z-of_z y)) c.in_ok-y.ensures.near)
    c.in_ok-scale_x.ensures.within c.in_ok-scale_y.ensures.within c.in_ok-quarter.ensures.few
    c.in_ok-align.ensures.apart c.in_ok-crop_left.ensures.few c.in_ok-crop_top.ensures.few
    c.in_ok-crop_right.ensures.few c.in_ok-crop_bottom.ensures.few
