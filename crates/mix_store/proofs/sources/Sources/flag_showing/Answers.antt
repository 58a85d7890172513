-- all flags are off at first; the preview's walks come after those of the channels
use Rattle.std.proofs.Common.{◌∙◌, length, replicate, false}
use Rattle.mix_model.specs.Walks.{is_showing}
use Rattle.mix_store.specs.Searched.{reached_in}
use Rattle.mix_store.proofs.FlagLemmas.{flags_both}
use Rattle.mix_store.proofs.RootLemmas.{flags_reached}
use Rattle.mix_store.proofs.sources.Sources.flag_showing.Goals as goal

pub returns : goal.returns
unfolding is_showing reached_in
returns c =
    let each = rw (← c.self.view_is) at c.requires in
    let shown = rw (← c.self.view_is) at c.preview_row.ensures in
    rw (
      ← c.self.view_is,
      c.flag_from.ensures,
      c.flag_from_channels.ensures,
      c.as_slice.ensures.value,
      c.as_slice-2.ensures.value,
      c.turn_off.ensures,
      each,
      shown,
    ) (flags_both c.self.inside.rows.items _ _ (replicate (length c.self.inside.rows.items) false)
    ∙ flags_reached c.self.inside.rows.items _)
