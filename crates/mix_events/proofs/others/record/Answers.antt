use Rattle.std.proofs.Common.{◌∙◌, ap, codes}
use Rattle.std.proofs.lemmas.Result.{on_ok_weaker}
use Rattle.mix_base.specs.declared.json.Json as json
use Rattle.mix_json.specs.Growing.{more_field}
use Rattle.mix_events.specs.OtherEvents.{output_state, record_fields}
use Rattle.mix_events.proofs.others.record.Goals as goal

-- each field was put in after those before it
pub returns : goal.returns
unfolding record_fields
returns c = record {
  value = on_ok_weaker c.text.result
      (λ last. last
      ∙ ap (λ s. more_field (codes "outputState") (json.Text s) c.null.new.self) c.output_state.ensures
      ∙ ap (more_field (codes "outputState") (json.Text (output_state c.args.word)))
      (c.in_ok-null.ensures.value ∙ ap (more_field (codes "outputPath") json.Null) c.in_ok-truth.ensures.value))
      c.text.ensures.value;
}
