use Rattle.std.proofs.Common.{rules, not}
use Rattle.std.proofs.lemmas.Fn.{filter_same}
use Rattle.mix_audience.specs.declared.member.Member.{Member}
use Rattle.mix_audience.specs.Sides.{is_member}
use Rattle.mix_audience.proofs.members.remove.Goals as goal

-- what is kept are the others
pub returns : goal.returns
returns c = record {
  state = filter_same _ (λ (m : Member). not (is_member c.args.conn m)) _
      (λ x b f' h. (search (rules, h), search (rules, h))) _ _ c.retain.ensures.filtered;
}
