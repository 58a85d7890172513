use Rattle.std.proofs.Common.{◌∙◌, ap}
use Rattle.std.proofs.lemmas.Result.{IfOk-weaker}
use Rattle.uuid.specs.Text.{hyphenated_text, lower}
use Rattle.mix_base.proofs.uuids.uuid_text.Goals as goal

-- the text that was written is that of the number made from the serial
pub returns : goal.returns
returns c =
    record {
      value = IfOk-weaker c.from_str.result _ _
          (λ t h. h ∙ c.encode_lower-text.ensures.text
          ∙ ap (hyphenated_text lower) (c.hyphenated.ensures ∙ c.uuid_of-id.ensures))
          c.from_str.ensures.value;
    }
