-- What unfolds this unfolds every definition: examples are computed under it.
use Rattle.mix_model.specs.Rows.{new_row}
use Rattle.mix_model.specs.Items.{new_item, spec_of, with_item, without_item, without_child}
use Rattle.mix_model.specs.Items.{with_item_changed, with_item_at}
use Rattle.mix_model.specs.Holders.{holders, is_held, is_named_row}
use Rattle.mix_model.specs.Walks.{upgrade, is_active, is_showing}
use Rattle.mix_model.specs.Ranks.{rank, weight, ranks_fall, ranks_within, weights_within}
use Rattle.mix_model.specs.Settle.{newly_dying, with_since, settle, changes_of}
use Rattle.mix_model.specs.Marks.{row_settled, settled_by, actions_begun, edited}
use Rattle.mix_model.specs.Values.{are_valid, are_of_kind, is_sound, new_sound, is_place, new_place}
use Rattle.mix_model.specs.Values.{is_canvas, is_format}
use Rattle.mix_model.specs.Program.{set_program, advance_program, forget_scene, choose_transition}
use Rattle.mix_model.specs.Edits.{scene_created, item_added, group_created, input_created}
use Rattle.mix_model.specs.Edits.{shown_input_created, item_duplicated, item_removed, item_enabled}
use Rattle.mix_model.specs.Edits.{item_locked, item_placed, item_moved, input_set, renamed}
use Rattle.mix_model.specs.Edits.{source_removed, hold_made, watch_made, frame_held, hold_released}
use Rattle.mix_model.specs.Edits.{watch_dropped, frame_released, channel_set, preview_set}
use Rattle.mix_model.specs.Edits.{clock_set, next_destroyed, empty_graph}
use Rattle.mix_model.specs.Causes.{late_cause, source_early, shown_early, item_early, item_late}
use Rattle.mix_model.specs.Causes.{copy_early, copy_late, hold_cause, watch_cause, frame_cause}
use Rattle.mix_model.specs.Recordings.{record_started, record_stopped, record_paused}
use Rattle.mix_model.specs.Recordings.{record_resumed, picture_recorded, block_recorded}
use Rattle.mix_model.specs.Studio.{program_set, transition_chosen, scene_removed, picture_taken}
use Rattle.mix_model.specs.Studio.{video_ticked, audio_ticked, frame_ended, row_destroyed}
use Rattle.mix_model.specs.Studio.{studio_mode_set, scene_previewed, recording_changed}
use Rattle.mix_model.specs.Studio.{studio_settled}
use Rattle.mix_model.specs.Lines.{line_done, line_early, line_late}
use Rattle.mix_model.specs.Opening.{opening_studio, opening_of, opening_state}
use Rattle.mix_model.specs.Fitting.{line_fits}
use Rattle.mix_model.specs.Pictures.{picture_at}
use Rattle.mix_model.specs.Plans.{painted, is_draw, is_shot}
use Rattle.mix_model.specs.Voices.{voices_in, is_voice}
use Rattle.mix_model.specs.Sounds.{mixed, block_at}
use Rattle.mix_model.specs.Encoding.{i420_of, pcm_of}

unfoldable pub every_rule : Unit {0}
unfolding new_row new_item spec_of with_item without_item without_child with_item_changed
    with_item_at holders is_held is_named_row upgrade is_active is_showing rank weight ranks_fall
    ranks_within weights_within newly_dying with_since settle changes_of row_settled settled_by
    actions_begun edited are_valid are_of_kind is_sound new_sound is_place new_place is_canvas
    is_format set_program advance_program forget_scene choose_transition scene_created item_added
    group_created input_created shown_input_created item_duplicated item_removed item_enabled
    item_locked item_placed item_moved input_set renamed source_removed hold_made watch_made
    frame_held hold_released watch_dropped frame_released channel_set preview_set clock_set
    next_destroyed empty_graph late_cause source_early shown_early item_early item_late copy_early
    copy_late hold_cause watch_cause frame_cause record_started record_stopped record_paused
    record_resumed picture_recorded block_recorded program_set transition_chosen scene_removed
    picture_taken video_ticked audio_ticked frame_ended row_destroyed studio_mode_set
    scene_previewed recording_changed studio_settled line_done line_early line_late opening_studio
    opening_of opening_state line_fits picture_at painted is_draw is_shot voices_in is_voice mixed
    block_at i420_of pcm_of
every_rule = tt
