use Rattle.std.proofs.Common.{◌∙◌, ap, ◌+◌, arith}
use Rattle.std.proofs.Common.{slice_set}
use Rattle.mix_model.specs.Blending.{faded}
use Rattle.mix_lanes.proofs.Fades.{one_faded, all_faded}
use Rattle.mix_lanes.proofs.fading.fade_onto.Goals as goal

pub loop-at-init : goal.loop-at-init
loop-at-init c = c.fade_front-front.ensures.faded

-- one byte more
pub loop-at-preserved : goal.loop-at-preserved
loop-at-preserved c =
    let l = c.loop-at in
    ap (slice_set l.bytes l.at) c.fade.ensures
    ∙ one_faded (faded c.args.t c.args.n) l.at (l.at + 1) c.args.bytes.now c.args.to.now l.bytes
    (omega arith) c.requires.same (omega arith) l.invariant

pub returns : goal.returns
returns c =
    let within = c.fade_front-front.ensures.within in
    record {
      value = c.loop-at.invariant ∙ all_faded (faded c.args.t c.args.n) c.loop-at.at c.args.bytes.now
          c.args.to.now (omega arith) c.requires.same;
    }
