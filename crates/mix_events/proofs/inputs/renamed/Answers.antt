use Rattle.std.proofs.Common.{◌∙◌, ap, codes}
use Rattle.std.proofs.lemmas.Result.{on_ok_weaker}
use Rattle.mix_base.specs.declared.json.Json as json
use Rattle.mix_json.specs.Growing.{more_field}
use Rattle.mix_events.specs.InputEvents.{input_fields, input_renamed}
use Rattle.mix_events.proofs.FieldLemmas.{then_one}
use Rattle.mix_events.proofs.inputs.renamed.Goals as goal

-- the input's fields, and then one more
pub returns : goal.returns
unfolding input_renamed
returns c = record {
  value = on_ok_weaker c.text.result
      (λ last. then_one (input_fields c.args.input.now c.args.serial) (codes "oldInputName") (json.Text c.args.old.now) c.args.out.now
      c.in_ok-with_input.ensures.value (last ∙ ap (λ s. more_field (codes "oldInputName") (json.Text s) c.with_input.new.out) c.as_str.ensures.value))
      c.text.ensures.value;
}
