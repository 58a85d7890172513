-- The worked situations have the shape of all states: computed, point by point.
use Rattle.std.proofs.Common.{refl}
use Rattle.mix_model.specs.Shape.{GraphShape}
use Rattle.mix_model.specs.WholeShape.{StudioShape}
use Rattle.mix_model.specs.Worked.{scene_gone, one_scene_studio}
use Rattle.mix_model.proofs.Rules.{every_rule}

pub opened : GraphShape one_scene_studio.graph
unfolding every_rule
opened = record {
  parts = record {
    rows = record {
      serials_rise = refl;
      serials_start = refl;
      serials_below = refl;
      item_ids = refl;
      children_rows = refl;
      inputs_bare = refl;
      settings_fit = refl;
      places_fit = refl;
    };
    registry = record { scenes_scenes = refl; inputs_inputs = refl; registry_once = refl };
    beside = record {
      holds = record { hold_ids = refl; holds_rows = refl; few_holds = refl };
      watches = record { watch_ids = refl; watched_before = refl; few_watches = refl };
      frames = record {
        frame_numbers = refl;
        frames_rows = refl;
        frames_once = refl;
        few_frames = refl;
      };
      channels = record { channel_count = refl; program_channel = refl; side_channels = refl };
      preview_scene = refl;
    };
    dying = record { dying_rows = refl; none_held = refl; dying_once = refl };
  };
  limits = record {
    few_rows = refl;
    few_items = refl;
    light = refl;
    shallow = refl;
    falling = refl;
  };
  names = refl;
  dying_unheld = refl;
  since_past = refl;
}

pub opened_studio : StudioShape one_scene_studio
unfolding every_rule
opened_studio = record {
  sources = opened;
  program = refl;
  fade_running = refl;
  duration = refl;
  frames_past = refl;
  canvas = refl;
  rate = refl;
  format = refl;
}

pub removed : GraphShape scene_gone
unfolding every_rule
removed = record {
  parts = record {
    rows = record {
      serials_rise = refl;
      serials_start = refl;
      serials_below = refl;
      item_ids = refl;
      children_rows = refl;
      inputs_bare = refl;
      settings_fit = refl;
      places_fit = refl;
    };
    registry = record { scenes_scenes = refl; inputs_inputs = refl; registry_once = refl };
    beside = record {
      holds = record { hold_ids = refl; holds_rows = refl; few_holds = refl };
      watches = record { watch_ids = refl; watched_before = refl; few_watches = refl };
      frames = record {
        frame_numbers = refl;
        frames_rows = refl;
        frames_once = refl;
        few_frames = refl;
      };
      channels = record { channel_count = refl; program_channel = refl; side_channels = refl };
      preview_scene = refl;
    };
    dying = record { dying_rows = refl; none_held = refl; dying_once = refl };
  };
  limits = record {
    few_rows = refl;
    few_items = refl;
    light = refl;
    shallow = refl;
    falling = refl;
  };
  names = refl;
  dying_unheld = refl;
  since_past = refl;
}
