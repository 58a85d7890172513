use Rattle.std.proofs.Common.{◌∙◌, ap}
use Rattle.std.specs.Bool.{beq}
use Rattle.mix_req_items.proofs.ChangeLemmas.{one_agrees}
use Rattle.mix_req_items.specs.Flags.{flag_of}
use Rattle.mix_req_items.proofs.flags.stands.Goals as goal

pub returns : goal.returns
returns c = record {
  value = ap (λ b. beq b c.args.value) c.flag_of.ensures.value
      ∙ one_agrees (flag_of c.args.flag c.args.found.now.item) c.args.value;
}
