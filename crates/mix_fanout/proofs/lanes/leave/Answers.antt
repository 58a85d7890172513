use Rattle.std.proofs.Common.{rules, not}
use Rattle.std.proofs.lemmas.Fn.{filter_same}
use Rattle.mix_fanout.specs.Keys.{is_line, Lined}
use Rattle.mix_fanout.proofs.lanes.leave.Goals as goal

-- what is kept are the others
pub returns : goal.returns
returns c = record {
  state = filter_same _ (λ (l : Lined). not (is_line c.args.conn l)) _
      (λ x b f' h. (search (rules, h), search (rules, h))) _ _ c.retain.ensures.filtered;
}
