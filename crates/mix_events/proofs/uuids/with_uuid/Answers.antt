use Rattle.std.proofs.Common.{◌∙◌, ap}
use Rattle.std.proofs.lemmas.Result.{on_ok_weaker}
use Rattle.uuid.specs.Text.{hyphenated_text, lower}
use Rattle.mix_base.specs.declared.json.Json as json
use Rattle.mix_json.specs.Growing.{more_field}
use Rattle.mix_events.proofs.uuids.with_uuid.Goals as goal

-- the text that was put in is that of the number made from the serial
pub returns : goal.returns
returns c =
    record {
      value = on_ok_weaker c.text.result
          (λ h. h ∙ ap (λ t. more_field c.args.key.now (json.Text t) c.args.out.now)
          (c.encode_lower-text.ensures.text
          ∙ ap (hyphenated_text lower) (c.hyphenated.ensures ∙ c.number_of-id.ensures)))
          c.text.ensures.value;
    }
