-- all flags are off at first
use Rattle.mix_model.specs.Walks.{is_active}
use Rattle.mix_store.specs.Searched.{reached_in}
use Rattle.mix_store.proofs.RootLemmas.{flags_reached}
use Rattle.mix_store.proofs.sources.Sources.flag_active.Goals as goal

pub returns : goal.returns
unfolding is_active reached_in
returns c =
    let each = rw (← c.self.view_is) at c.requires in
    rw (
      ← c.self.view_is,
      c.flag_from_channels.ensures,
      c.as_slice.ensures.value,
      c.turn_off.ensures,
      each,
    ) (flags_reached c.self.inside.rows.items _)
