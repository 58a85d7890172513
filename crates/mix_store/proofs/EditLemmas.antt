-- Edits that take no memory leave the number of rows, and the clock.
use Rattle.std.proofs.Common.{◌≡◌, length, refl}
use Rattle.std.proofs.lemmas.List.{length-map}
use Rattle.mix_model.specs.Items.{without_child}
use Rattle.mix_model.specs.State.{GraphState}
use Rattle.mix_model.specs.Edits.{source_removed, preview_set, hold_released, watch_dropped}
use Rattle.mix_model.specs.Edits.{frame_released}
use Rattle.mix_store.specs.RowEdits.{row_edited}
use Rattle.mix_store.specs.Edited.{edited_by}
use Rattle.mix_store.specs.declared.edits.Edit.{Edit}
use Rattle.mix_store.specs.declared.edits.Edit.TheVariants.{Row, Remove}
use Rattle.mix_store.proofs.ChangeLemmas.{changed_length}

pub edited_count : (edit : Edit) (g : GraphState) → length (edited_by edit g).rows ≡ length g.rows
unfolding source_removed preview_set hold_released watch_dropped frame_released
edited_count (Row serial edit) g = changed_length serial (row_edited edit) g
edited_count (Remove serial) g = length-map g.rows (without_child serial)
edited_count edit g = refl

pub edited_clock : (edit : Edit) (g : GraphState) → (edited_by edit g).clock ≡ g.clock
unfolding source_removed preview_set hold_released watch_dropped frame_released
edited_clock (Row serial edit) g = refl
edited_clock edit g = refl
