use Rattle.std.proofs.Common.{codes}
use Rattle.std.proofs.lemmas.Result.{on_ok_weaker}
use Rattle.mix_base.specs.declared.json.Json as json
use Rattle.mix_events.specs.InputEvents.{input_fields, input_showing}
use Rattle.mix_events.proofs.FieldLemmas.{then_one}
use Rattle.mix_events.proofs.inputs.showing.Goals as goal

-- the input's fields, and then one more
pub returns : goal.returns
unfolding input_showing
returns c = record {
  value = on_ok_weaker c.truth.result
      (then_one (input_fields c.args.input.now c.args.serial) (codes "videoShowing") (json.Bool c.args.showing) c.args.out.now
      c.in_ok-with_input.ensures.value)
      c.truth.ensures.value;
}
