use Rattle.std.proofs.Common.{◌∙◌, ap}
use Rattle.mix_model.specs.Lines.{serial_named}
use Rattle.mix_studio.proofs.FreshLemmas.{serial_found}
use Rattle.mix_studio.proofs.opening.serial_named.Goals as goal

-- the look-up finds a named row, and every row of fresh sources is one
pub returns : goal.returns
returns c = record {
  value = c.unwrap_or-serial.ensures
      ∙ serial_found c.args.graph.now c.requires.fresh c.in_ok-name.name c.find.result
      c.find.ensures.reply
      ∙ ap (serial_named c.args.graph.now.present)
      (c.in_ok-name.ensures.value ∙ c.as_str.ensures.value);
}
