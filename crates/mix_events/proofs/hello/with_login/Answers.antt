use Rattle.std.proofs.Common.{codes}
use Rattle.std.proofs.lemmas.Result.{on_ok_weaker}
use Rattle.mix_events.specs.Texts.{login_fields}
use Rattle.mix_events.proofs.FieldLemmas.{nested, login_rises}
use Rattle.mix_events.proofs.hello.with_login.Goals as goal

-- its fields stand in the object, which was opened and closed under the key
pub returns : goal.returns
returns c = record {
  value = on_ok_weaker c.close.result
      (nested (codes "authentication") (login_fields c.args.login.now) c.args.out.now (login_rises c.args.login.now)
      c.in_ok-key.ensures.value c.in_ok-open.ensures.value c.in_ok-with_each.ensures.value)
      c.close.ensures.value;
}
