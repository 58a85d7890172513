use Rattle.std.proofs.Common.{◌∙◌, refl, ◌+◌, ◌/◌, arith}
use Rattle.mix_lanes.proofs.Rows.{more_over, whole_row}
use Rattle.mix_lanes.proofs.over.over_by.Goals as goal

pub fours-init : goal.fours-init
fours-init g c = record { within = omega arith; whole = refl; laid = refl }

-- four pixels more
pub fours-preserved : goal.fours-preserved
fours-preserved g c =
    let l = c.fours in
    let long = l.invariant.within in
    let whole = l.invariant.whole in
    let now = l.invariant.laid in
    record {
      within = omega arith;
      whole = omega (arith, whole);
      laid = c.over_four.ensures ∙ rw now (more_over g.M.Mode.blend (l.at / 4) 4 l.at 16 (l.at + 16)
          c.args.below.now c.args.above.now (omega (arith, whole)) refl refl (omega arith)
          c.requires.same);
    }

-- and one more
pub rest-preserved : goal.rest-preserved
rest-preserved g c =
    let l = c.rest in
    let long = l.invariant.within in
    let whole = l.invariant.whole in
    let now = l.invariant.laid in
    record {
      within = omega (arith, whole);
      whole = omega (arith, whole);
      laid = c.over_pixel.ensures ∙ rw now (more_over g.M.Mode.blend (l.at / 4) 1 l.at 4 (l.at + 4)
          c.args.below.now c.args.above.now (omega (arith, whole)) refl refl (omega (arith, whole))
          c.requires.same);
    }

pub returns : goal.returns
returns g c = c.rest.invariant.laid
    ∙ whole_row g.M.Mode.blend c.rest.at c.args.below.now c.args.above.now (omega arith)
    c.requires.same
