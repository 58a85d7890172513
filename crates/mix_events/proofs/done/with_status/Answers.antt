use Rattle.std.proofs.Common.{codes}
use Rattle.std.proofs.lemmas.Result.{on_ok_weaker}
use Rattle.mix_events.specs.Texts.{status_fields}
use Rattle.mix_events.proofs.FieldLemmas.{nested, status_rises}
use Rattle.mix_events.proofs.done.with_status.Goals as goal

-- its fields stand in the object, which was opened and closed under the key
pub returns : goal.returns
returns c = record {
  value = on_ok_weaker c.close.result
      (nested (codes "requestStatus") (status_fields c.args.code) c.args.out.now (status_rises c.args.code)
      c.in_ok-key.ensures.value c.in_ok-open.ensures.value c.in_ok-with_code.ensures.value)
      c.close.ensures.value;
}
