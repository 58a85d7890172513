use Rattle.std.proofs.Common.{◌≡◌, ◌∙◌, ◌==◌, drop, slice_index, sym, ap, option_map, true, false, arith, length-drop, take_all}
use Rattle.serde_json.specs.Find.{as_i64}
use Rattle.serde_json.specs.Read.{number_of}
use Rattle.mix_json.proofs.NumberLemmas.{with_sign, without_sign}
use Rattle.mix_json.proofs.number.number.Goals as goal

-- the digits stand behind the sign
pub returns-then-has_minus : goal.returns-then-has_minus
returns-then-has_minus c =
    let s = c.as_bytes-bytes.result.now in
    let sign : (slice_index s 0 == 45) ≡ true = sym c.if-has_minus.ensures.value in
    record {
      value = c.negative.ensures.value
          ∙ with_sign s _ sign (take_all _ (drop 1 s) (omega (arith, length-drop 1 s)))
          ∙ ap (λ t. option_map as_i64 (number_of t)) c.as_bytes-bytes.ensures.value;
    }

-- there is no sign
pub returns-else-has_minus : goal.returns-else-has_minus
returns-else-has_minus c =
    let s = c.as_bytes-bytes.result.now in
    let sign : (slice_index s 0 == 45) ≡ false = sym c.if-has_minus.ensures.value in
    record {
      value = c.positive.ensures.value ∙ without_sign s sign ∙ ap (λ t. option_map as_i64 (number_of t)) c.as_bytes-bytes.ensures.value;
    }
