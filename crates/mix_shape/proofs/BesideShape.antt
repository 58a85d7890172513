-- Edits that leave the rows and the registry as they are: holds, watches, frames, channels, the
-- preview and the clock.
use Rattle.std.proofs.Common.{◌≡◌, ℕ, true, List, Option, inl, inr}
use Rattle.std.specs.List.{list_any}
use Rattle.mix_model.specs.State.{GraphState, Channel, Hold, Watch, Frame}
use Rattle.mix_model.specs.Lookups.{registry}
use Rattle.mix_model.specs.Holders.{is_held, is_named_row, names, is_on, lists}
use Rattle.mix_model.specs.Ranks.{ranks_fall, ranks_within, weights_within}
use Rattle.mix_model.specs.Shape.{GraphShape, PartsFit, LimitsKept, HoldsFit, WatchesFit, FramesFit}
use Rattle.mix_model.specs.Shape.{ChannelsFit, is_preview}
use Rattle.mix_model.specs.EditedShape.{EditedShape}
use Rattle.mix_model.proofs.SetLemmas.{or_cases}
use Rattle.mix_shape.proofs.ThinnerLemmas.{HeldLess, named_less, unheld_less, differ_fewer}
use Rattle.mix_shape.proofs.ThinnerLemmas.{held_in_registry, item_holds}

module _ (g : GraphState) (channels : List Channel) (preview : Option ℕ) (holds : List Hold)
    (watches : List Watch) (frames : List Frame) (clock next_hold next_watch : ℕ) where
  -- the sources with this beside them
  abbrev pub beside : GraphState
  beside = record g {
    channels = channels;
    preview = preview;
    holds = holds;
    watches = watches;
    frames = frames;
    clock = clock;
    next_hold = next_hold;
    next_watch = next_watch;
  }

  -- what channels stand for, holds and frames, one by one
  held_less : ((y : ℕ) → list_any (names y) channels ≡ true → is_held g y ≡ true) →
      ((y : ℕ) → list_any (is_on y) holds ≡ true → is_held g y ≡ true) →
      ((y : ℕ) → list_any (lists y) frames ≡ true → is_held g y ≡ true) → HeldLess g beside
  unfolding is_held
  held_less channel hold frame y held = elim (or_cases _ _ held) [
    | inl listed ↦ held_in_registry g y listed
    | inr more ↦ elim (or_cases _ _ more) [
      | inl named ↦ channel y named
      | inr more ↦ elim (or_cases _ _ more) [
        | inl shown ↦ item_holds g y shown
        | inr more ↦ elim (or_cases _ _ more) [
          | inl on ↦ hold y on
          | inr taken ↦ frame y taken
        ]
      ]
    ]
  ]

  pub beside_shape : GraphShape g →
      ((y : ℕ) → list_any (names y) channels ≡ true → is_held g y ≡ true) →
      ((y : ℕ) → list_any (is_on y) holds ≡ true → is_held g y ≡ true) →
      ((y : ℕ) → list_any (lists y) frames ≡ true → is_held g y ≡ true) →
      ChannelsFit g channels → is_preview g preview ≡ true → HoldsFit g.rows holds next_hold →
      WatchesFit watches next_watch g.next_serial → FramesFit g.rows frames → EditedShape beside
  unfolding ranks_fall ranks_within weights_within
  beside_shape shape channel_held hold_held frame_held named referred hold watch frame =
      let held : HeldLess g beside = held_less channel_held hold_held frame_held in
      let p : PartsFit g = shape.parts in
      let l : LimitsKept g = shape.limits in
      record {
        parts = record {
          rows = record {
            serials_rise = p.rows.serials_rise;
            serials_start = p.rows.serials_start;
            serials_below = p.rows.serials_below;
            item_ids = p.rows.item_ids;
            children_rows = p.rows.children_rows;
            inputs_bare = p.rows.inputs_bare;
            settings_fit = p.rows.settings_fit;
            places_fit = p.rows.places_fit;
          };
          registry = record {
            scenes_scenes = p.registry.scenes_scenes;
            inputs_inputs = p.registry.inputs_inputs;
            registry_once = p.registry.registry_once;
          };
          beside = record {
            holds = hold;
            watches = watch;
            frames = frame;
            channels = record {
              channel_count = named.channel_count;
              program_channel = named.program_channel;
              side_channels = named.side_channels;
            };
            preview_scene = referred;
          };
          dying = record {
            dying_rows = p.dying.dying_rows;
            none_held = unheld_less g beside held g.dying p.dying.none_held;
            dying_once = p.dying.dying_once;
          };
        };
        limits = record {
          few_rows = l.few_rows;
          few_items = l.few_items;
          light = l.light;
          shallow = l.shallow;
          falling = l.falling;
        };
        names = differ_fewer (is_named_row g) (is_named_row beside)
            (named_less g beside held (λ y listed. listed)) g.rows shape.names;
      }
