use Rattle.std.proofs.Common.{◌∙◌}
use Rattle.mix_requests.proofs.SoughtLemmas.{name_seen}
use Rattle.mix_requests.proofs.named.name_of.Goals as goal

-- what a look at the row shows
pub returns : goal.returns
returns c = record {
  value = c.share.ensures.value
      ∙ name_seen c.in-Some.row c.args.graph.now.present c.args.serial c.in-Some.ensures.reply;
}
