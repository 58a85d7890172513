-- What each edit makes of the sources.
use Rattle.mix_model.specs.State.{GraphState}
use Rattle.mix_model.specs.Edits.{row_changed, source_removed, preview_set, hold_released}
use Rattle.mix_model.specs.Edits.{watch_dropped, frame_released}
use Rattle.mix_store.specs.RowEdits.{row_edited}
use Rattle.mix_store.specs.declared.edits.Edit.{Edit}
use Rattle.mix_store.specs.declared.edits.Edit.TheVariants.{Row as RowIs, Remove, Preview, Release}
use Rattle.mix_store.specs.declared.edits.Edit.TheVariants.{Unwatch, End}

abbrev pub edited_by : Edit → GraphState → GraphState
edited_by (RowIs serial edit) = row_changed serial (row_edited edit)
edited_by (Remove serial) = source_removed serial
edited_by (Preview to) = preview_set to
edited_by (Release id) = hold_released id
edited_by (Unwatch id) = watch_dropped id
edited_by (End number) = frame_released number
