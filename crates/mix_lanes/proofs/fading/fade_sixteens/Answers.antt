use Rattle.std.proofs.Common.{◌∙◌, refl, ◌+◌, arith}
use Rattle.mix_model.specs.Blending.{faded}
use Rattle.mix_lanes.proofs.Fades.{more_faded}
use Rattle.mix_lanes.proofs.fading.fade_sixteens.Goals as goal

pub sixteens-init : goal.sixteens-init
sixteens-init c = record { within = omega arith; faded = refl }

-- sixteen bytes more
pub sixteens-preserved : goal.sixteens-preserved
sixteens-preserved c =
    let l = c.sixteens in
    let long = l.invariant.within in
    let now = l.invariant.faded in
    record {
      within = omega arith;
      faded = c.fade_sixteen.ensures ∙ rw now (more_faded (faded c.args.t c.args.n) l.at 16 (l.at + 16)
          c.args.bytes.now c.args.to.now refl (omega arith) c.requires.same);
    }
