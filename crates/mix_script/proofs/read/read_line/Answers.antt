-- the reader answers what is defined
use Rattle.mix_script.specs.declared.bad_line.BadLine.TheVariants.{Form, Text}
use Rattle.mix_script.specs.Lines.{action_of}
use Rattle.mix_script.proofs.ReadLemmas.{read-value, read-refused}
use Rattle.mix_script.proofs.read.read_line.Goals as goal

pub returns : goal.returns
returns c = record {
  value = read-value (action_of c.args.line.now) c.read_any.result c.read_any.ensures;
  form = read-refused (action_of c.args.line.now) c.read_any.result Form c.read_any.ensures;
  text = read-refused (action_of c.args.line.now) c.read_any.result Text c.read_any.ensures;
}
