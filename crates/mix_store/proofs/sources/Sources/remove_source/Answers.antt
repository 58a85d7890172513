-- rows keep their serials, and have no more items
use Rattle.mix_model.specs.Edits.{source_removed}
use Rattle.mix_store.proofs.ChangeLemmas.{order_without}
use Rattle.mix_store.proofs.sources.Sources.remove_source.Goals as goal

pub invariant_of-self : goal.invariant_of-self
invariant_of-self c = rw c.take_users.ensures
    (order_without c.args.serial c.self.inside.rows.items _ _ _ c.self.invariant)

pub returns : goal.returns
unfolding source_removed
returns c = rw (
  ← c.self.view_is,
  c.take_users.ensures,
  c.empty_channels.ensures,
  c.take_serial.ensures,
  c.take_serial-2.ensures,
)
