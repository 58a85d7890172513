-- What holds of the sources of every mixer.
use Rattle.std.specs.Prelude.{ℕ, ◌==◌, ◌&&◌, ◌||◌, not, nat_lt, nat_le, IsTrue}
use Rattle.std.specs.Prelude.{Bool, true, List, [], ◌∷◌, map, filter, length, is_some}
use Rattle.std.specs.Prelude.{Option, Some, None, bytes_eq, drop, take}
use Rattle.std.specs.List.{list_any, list_all}
use Rattle.mix_base.specs.Limits.{standard}
use Rattle.mix_model.specs.declared.row.Row.{Row}
use Rattle.mix_model.specs.Sets.{has, is_distinct, rises_above, agree}
use Rattle.mix_model.specs.Rows.{is_scene, is_group, is_input, all_items, has_items, serials_of}
use Rattle.mix_model.specs.State.{GraphState, Channel, Hold, Watch, Frame}
use Rattle.mix_model.specs.Lookups.{row_passes, is_row, has_row, registry, named_by}
use Rattle.mix_model.specs.Holders.{is_held, is_named_row}
use Rattle.mix_model.specs.Ranks.{ranks_fall, ranks_within, weights_within}
use Rattle.mix_model.specs.Values.{are_settings, is_sound, is_place}
use Rattle.mix_model.specs.Causes.{item_count}

-- each is a row
abbrev pub are_rows : GraphState → List ℕ → Bool
are_rows g xs = list_all (is_row g) xs

-- no id twice, and all below the next one
abbrev pub ids_below : ℕ → List ℕ → Bool
ids_below next ids = is_distinct ids && list_all (λ id. nat_lt id next) ids

-- in the registry, or a group
abbrev pub is_child : GraphState → ℕ → Bool
is_child g x = has x (registry g) || row_passes g (λ r. is_group r.kind) x

-- inputs have no items
abbrev pub is_bare : Row → Bool
is_bare row = has_items row.kind || (length row.items == 0)

abbrev pub inputs_are_bare : GraphState → Bool
inputs_are_bare g = list_all is_bare g.rows

-- no two of these rows have one name
abbrev pub names_differ : List Row → Bool
names_differ [] = true
names_differ (r ∷ rows) = not (list_any (λ s. bytes_eq s.name r.name) rows) && names_differ rows

-- nothing, or one row that is in the registry or is a group
abbrev pub is_side_channel : GraphState → Channel → Bool
is_side_channel g channel = list_all (is_child g) (named_by channel) && not (is_some channel.1)

-- nothing, one scene of the registry, or two different ones
abbrev pub is_program_channel : GraphState → Channel → Bool
is_program_channel g channel =
    list_all (λ x. has x g.scenes) (named_by channel) && is_distinct (named_by channel)
    && (is_some channel.0 || not (is_some channel.1))

-- the preview is nothing or a serial that was given, and where it is a row it is a scene
abbrev pub is_preview : GraphState → Option ℕ → Bool
is_preview g None = true
is_preview g (Some x) =
    nat_lt x g.next_serial && (not (is_row g x) || row_passes g (λ r. is_scene r.kind) x)

-- the rows, one by one
pub record RowsFit (g : GraphState) : Type 0 where
  -- serials rise from 1 and are below the next one
  pub serials_rise : IsTrue (rises_above 0 (serials_of g.rows))
  pub serials_start : IsTrue (nat_lt 0 g.next_serial)
  pub serials_below : IsTrue (list_all (λ x. nat_lt x g.next_serial) (serials_of g.rows))
  -- the ids of items within their row
  pub item_ids : IsTrue (list_all (λ r. ids_below r.next_item (map (λ i. i.id) r.items)) g.rows)
  -- each item's child is a row, in the registry or a group; inputs have no items
  pub children_rows : IsTrue (all_items (λ r i. is_row g i.child && is_child g i.child) g.rows)
  pub inputs_bare : IsTrue (inputs_are_bare g)
  -- the values of rows and items
  pub settings_fit : IsTrue (list_all (λ r. are_settings r.kind r.settings && is_sound r.sound)
      g.rows)
  pub places_fit : IsTrue (all_items (λ r i. is_place i.place) g.rows)

-- the registry names scenes and inputs, each once
pub record RegistryFits (g : GraphState) : Type 0 where
  pub scenes_scenes : IsTrue (list_all (row_passes g (λ r. is_scene r.kind)) g.scenes)
  pub inputs_inputs : IsTrue (list_all (row_passes g (λ r. is_input r.kind)) g.inputs)
  pub registry_once : IsTrue (is_distinct (registry g))

-- few holds, each under an id of its own and on a row
pub record HoldsFit (rows : List Row) (holds : List Hold) (next : ℕ) : Type 0 where
  pub hold_ids : IsTrue (ids_below next (map (λ h. h.id) holds))
  pub holds_rows : IsTrue (list_all (has_row rows) (map (λ h. h.serial) holds))
  pub few_holds : IsTrue (nat_le (length holds) standard.holds)

-- few watches, each under an id of its own; what is watched was a row
pub record WatchesFit (watches : List Watch) (next next_serial : ℕ) : Type 0 where
  pub watch_ids : IsTrue (ids_below next (map (λ w. w.id) watches))
  pub watched_before : IsTrue (list_all (λ w. nat_lt w.serial next_serial) watches)
  pub few_watches : IsTrue (nat_le (length watches) standard.watches)

-- few frames in flight, each of a number of its own; what they list is rows, each once
pub record FramesFit (rows : List Row) (frames : List Frame) : Type 0 where
  pub frame_numbers : IsTrue (is_distinct (map (λ f. f.number) frames))
  pub frames_rows : IsTrue (list_all (λ f. list_all (has_row rows) f.serials) frames)
  pub frames_once : IsTrue (list_all (λ f. is_distinct f.serials) frames)
  pub few_frames : IsTrue (nat_le (length frames) standard.frames)

-- sixty-four channels, and what they name
pub record ChannelsFit (g : GraphState) (channels : List Channel) : Type 0 where
  pub channel_count : IsTrue (length channels == 64)
  pub program_channel : IsTrue (list_all (is_program_channel g) (take 1 channels))
  pub side_channels : IsTrue (list_all (is_side_channel g) (drop 1 channels))

-- what is beside rows and registry
pub record BesideFits (g : GraphState) : Type 0 where
  pub holds : HoldsFit g.rows g.holds g.next_hold
  pub watches : WatchesFit g.watches g.next_watch g.next_serial
  pub frames : FramesFit g.rows g.frames
  pub channels : ChannelsFit g g.channels
  pub preview_scene : IsTrue (is_preview g g.preview)

-- what dies is rows, each once, and nothing holds them
pub record DyingFits (g : GraphState) : Type 0 where
  pub dying_rows : IsTrue (are_rows g g.dying)
  pub none_held : IsTrue (list_all (λ x. not (is_held g x)) g.dying)
  pub dying_once : IsTrue (is_distinct g.dying)

-- what an edit keeps of itself: all but names and limits
pub record PartsFit (g : GraphState) : Type 0 where
  pub rows : RowsFit g
  pub registry : RegistryFits g
  pub beside : BesideFits g
  pub dying : DyingFits g

-- the limits of rows, and ranks that fall along every item
pub record LimitsKept (g : GraphState) : Type 0 where
  pub few_rows : IsTrue (nat_le (length g.rows) standard.rows)
  pub few_items : IsTrue (nat_le (item_count g.rows) standard.items)
  pub light : IsTrue (weights_within standard.weight g)
  pub shallow : IsTrue (ranks_within standard.rank g)
  pub falling : IsTrue (ranks_fall g)

-- what holds of the sources of every mixer
pub record GraphShape (g : GraphState) : Type 0 where
  pub parts : PartsFit g
  pub limits : LimitsKept g
  -- named rows have different names
  pub names : IsTrue (names_differ (filter (is_named_row g) g.rows))
  -- what dies is exactly the rows without a holder
  pub dying_unheld : IsTrue (list_all (λ r. agree (has r.serial g.dying) (not (is_held g r.serial)))
      g.rows)
  -- nobody became active later than now
  pub since_past : IsTrue (list_all (λ r. nat_le r.since g.clock) g.rows)
