use Rattle.std.proofs.Common.{codes}
use Rattle.std.proofs.lemmas.Result.{on_ok_weaker}
use Rattle.mix_events.specs.ItemEvents.{transform_fields}
use Rattle.mix_events.proofs.FieldLemmas.{nested, transform_rises}
use Rattle.mix_events.proofs.items.with_transform.Goals as goal

-- its fields stand in the object, which was opened and closed under the key
pub returns : goal.returns
returns c = record {
  value = on_ok_weaker c.close.result
      (nested (codes "sceneItemTransform") (transform_fields c.args.place.now c.args.size.0 c.args.size.1) c.args.out.now (transform_rises c.args.place.now c.args.size.0 c.args.size.1)
      c.in_ok-key.ensures.value c.in_ok-open.ensures.value c.in_ok-with_place.ensures.value)
      c.close.ensures.value;
}
