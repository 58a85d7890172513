use Rattle.std.proofs.Common.{◌≡◌, ◌<◌, ◌-◌, arith, ap, ◌∙◌, length}
use Rattle.mix_program.proofs.Runs.{whole_ends, whole_goes, end_ends, limit_is, fits_line}
use Rattle.mix_program.proofs.Runs.{second_empty}
use Rattle.mix_program.proofs.running.script.each_line.Goals as goal

pub returns-in-Some-clause-ends : goal.returns-in-Some-clause-ends
returns-in-Some-clause-ends g c = λ s k. whole_ends _ _ _ _ c.args.limits _ _ _ _ _
    (limit_is c.args.limits _ _ _ _ c.lines.invariant.number c.limit_of-limit.ensures.value)
    (c.lines.invariant.goes s k) _ _ _ (c.in-Whole.ensures.lines s) c.in-Whole.ensures.fits
    (rw c.as_slice.ensures.value at (c.in-Some.ensures.turned k))

-- the run ends
pub returns-in_default-clause-ends : goal.returns-in_default-clause-ends
returns-in_default-clause-ends g c = λ s k. end_ends _ _ _ _ c.args.limits _ _ _ _ _
    (limit_is c.args.limits _ _ _ _ c.lines.invariant.number c.limit_of-limit.ensures.value)
    (c.lines.invariant.goes s k) c.next_line.result c.end_at.result c.next_line.new.line.items
    c.lines.number _ c.in_default.not-Whole c.next_line.ensures.fits (c.next_line.ensures.lines s)
    c.lines.invariant.number
    (rw c.as_slice-in_default.ensures.value at (c.end_at.ensures.ends k))

-- nothing is left where the script was done
pub returns-in_default-clause-drained : goal.returns-in_default-clause-drained
returns-in_default-clause-drained g c = λ s done. second_empty _ _
    (c.next_line.ensures.end s (c.end_at.ensures.done done))

pub lines-preserved : goal.lines-preserved
lines-preserved g c =
    let size : length c.as_slice.result.now ≡ length c.next_line.new.line.items =
    ap length c.as_slice.ensures.value in
    let fits : (c.lines.number - 1 < c.args.limits.turns) × (length c.next_line.new.line.items < c.lines.room) =
    fits_line _ _ _ _ _ c.limit_of-limit.ensures.value c.in-Whole.ensures.fits in
    let follows = c.in_default-take_turn.ensures.follows in
    record {
      goes = λ s k. let w = whole_goes _ _ _ _ c.args.limits _ _ _ _ _
          (limit_is c.args.limits _ _ _ _ c.lines.invariant.number c.limit_of-limit.ensures.value)
          (c.lines.invariant.goes s k) _ _ _ (c.in-Whole.ensures.lines s) c.in-Whole.ensures.fits
          (rw c.as_slice.ensures.value at (c.in_default-take_turn.ensures.turned k)) in
          let n : c.len.result ≡ length c.next_line.new.line.items = omega arith in rw (follows.0, n) w;
      number = omega (arith, follows.2);
      bytes = omega (arith, follows.3);
      same = follows.1 ∙ c.lines.invariant.same;
      count = omega arith;
      reads = c.in-Whole.ensures.steady (λ e. absurd (grind arith)) ∙ c.lines.invariant.reads;
      writes = c.in_default-take_turn.ensures.steady (λ e. absurd (grind arith))
          ∙ c.lines.invariant.writes;
    }
