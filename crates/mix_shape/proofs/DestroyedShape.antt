-- The row that is destroyed next: to destroy it keeps what holds of the sources.
use Rattle.std.proofs.Common.{◌≡◌, ℕ, ◌≤◌, Bool, true, not, List, [], ◌∷◌, length, filter, refl}
use Rattle.std.proofs.Common.{sym, ◌∙◌, arith, Some, None, ◌==◌, false, cond, ◌&&◌, ◌||◌, map, drop}
use Rattle.std.proofs.Common.{Option, ap, eqb-true, eq-eqb, is_some, nat_le, le-leb, leb-true}
use Rattle.std.proofs.Common.{ltb-true, option_and_then}
use Rattle.std.specs.Prelude.{slice_get, remove, nat_lt}
use Rattle.std.specs.List.{list_all, list_any}
use Rattle.std.proofs.lemmas.List.Folds.{list_all-map, list_any-append}
use Rattle.std.proofs.lemmas.List.Filters.{length-filter_both}
use Rattle.mix_model.specs.declared.row.Row.{Row}
use Rattle.mix_model.specs.Sets.{is_distinct, has, rises_above}
use Rattle.mix_model.specs.Rows.{is_at, serials_of, is_scene, is_input, is_group, all_items, shows}
use Rattle.mix_model.specs.State.{GraphState, Channel, Hold, Frame}
use Rattle.mix_model.specs.Causes.{item_count}
use Rattle.mix_model.specs.Edits.{without_first, next_destroyed}
use Rattle.mix_model.proofs.DistinctLemmas.{all_filter}
use Rattle.mix_shape.proofs.SumLemmas.{sum_part, all_unless, none_dropped, any_kept, filter_both}
use Rattle.mix_shape.proofs.GrownShape.{times_fewer, filter_length}
use Rattle.std.specs.Option.{option_map_or}
use Rattle.std.proofs.lemmas.Bool.{not-true, not_from_false, or_parts, false_from_ne_true}
use Rattle.std.proofs.lemmas.Bool.{both_ways}
use Rattle.mix_model.specs.declared.kind.Kind.{Kind}
use Rattle.mix_model.specs.declared.item.Item.{Item}
use Rattle.mix_model.specs.Lookups.{is_row, row_passes, registry, named_by, find_row}
use Rattle.mix_model.specs.Holders.{is_held, is_named_row, names, shows_some, is_on, lists}
use Rattle.mix_model.specs.Ranks.{ranks_fall, ranks_within, weights_within, rank_in, weight_in}
use Rattle.mix_model.specs.Ranks.{inside_in, inside_of, shallow_in}
use Rattle.mix_model.specs.Values.{are_settings, is_sound, is_place}
use Rattle.mix_model.specs.Shape.{GraphShape, PartsFit, RowsFit, BesideFits, LimitsKept, are_rows}
use Rattle.mix_model.specs.Shape.{is_child, is_side_channel, is_preview, ids_below, is_bare}
use Rattle.mix_model.specs.Shape.{names_differ}
use Rattle.mix_model.specs.EditedShape.{EditedShape}
use Rattle.mix_model.proofs.SetLemmas.{and_both, and_first, and_second, and_imply, or_imply}
use Rattle.mix_model.proofs.SetLemmas.{or_left, all_imply}
use Rattle.mix_model.proofs.DestroyLemmas.{destroyed_unheld}
use Rattle.mix_model.proofs.FallLemmas.{shallow_falls_in, rises_lower}
use Rattle.mix_model.proofs.EditShape.{edited_of}
use Rattle.mix_shape.proofs.ThinnerLemmas.{Lighter, none_lighter, same_lighter, shallow_lighter}
use Rattle.mix_shape.proofs.ThinnerLemmas.{light_lighter, HeldLess, named_less, differ_fewer}
use Rattle.mix_shape.proofs.ThinnerLemmas.{unheld_less}

none_first : (dying : List ℕ) (g : GraphState) → slice_get dying 0 ≡ None →
    g ≡ without_first dying g
none_first [] g none = refl
none_first (x ∷ rest) g none = cc

-- where nothing dies, nothing is destroyed
pub none_destroyed : (g : GraphState) → slice_get g.dying 0 ≡ None → g ≡ next_destroyed g
unfolding next_destroyed
none_destroyed g none = none_first g.dying g none

first_first : (dying : List ℕ) (x : ℕ) (g : GraphState) → slice_get dying 0 ≡ Some x →
    record g { rows = filter (λ r. not (is_at x r)) g.rows; dying = remove dying 0 }
    ≡ without_first dying g
first_first [] x g found = cc
first_first (y ∷ rest) x g found =
    let same : y ≡ x = cc in rw same refl

-- the first that dies goes, with its row
pub first_destroyed : (g : GraphState) (x : ℕ) → slice_get g.dying 0 ≡ Some x →
    record g { rows = filter (λ r. not (is_at x r)) g.rows; dying = remove g.dying 0 }
    ≡ next_destroyed g
unfolding next_destroyed
first_destroyed g x found = first_first g.dying x g found

-- serials of a part of the rows
pub differ_left : (p : Row → Bool) (rows : List Row) → is_distinct (serials_of rows) ≡ true →
    is_distinct (serials_of (filter p rows)) ≡ true
differ_left p rows = times_fewer (λ (r : Row). r.serial) p rows

pub below_left : (next : ℕ) (p : Row → Bool) (rows : List Row) →
    list_all (λ x. nat_lt x next) (serials_of rows) ≡ true →
    list_all (λ x. nat_lt x next) (serials_of (filter p rows)) ≡ true
below_left next p rows below =
    list_all-map (λ x. nat_lt x next) (λ (r : Row). r.serial) (filter p rows)
    ∙ all_filter (λ (r : Row). nat_lt r.serial next) p rows
    (sym (list_all-map (λ x. nat_lt x next) (λ (r : Row). r.serial) rows) ∙ below)

pub items_left : (p : Row → Bool) (rows : List Row) → item_count (filter p rows) ≤ item_count rows
items_left p rows = sum_part (λ (r : Row). length r.items) p rows

first_less : (dying : List ℕ) (g : GraphState) →
    length (without_first dying g).rows ≤ length g.rows
first_less [] g = omega arith
first_less (x ∷ rest) g = omega (
  arith,
  length-filter_both (λ r. not (is_at x r))
      (λ r. not (not (is_at x r))) (λ r. refl) g.rows,
)

-- no more rows are left
pub destroyed_less : (g : GraphState) → length (next_destroyed g).rows ≤ length g.rows
unfolding next_destroyed
destroyed_less g = first_less g.dying g

-- parts of a list that rises rise
pub rises_kept : (p : Row → Bool) (m : ℕ) (rows : List Row) →
    rises_above m (serials_of rows) ≡ true → rises_above m (serials_of (filter p rows)) ≡ true
rises_kept p m [] h = refl
rises_kept p m (r ∷ rows) h =
    here (p r) (rises_kept p r.serial rows (and_second _ _ h))
  where
    here : (b : Bool) → rises_above r.serial (serials_of (filter p rows)) ≡ true →
        rises_above m (serials_of (cond b (r ∷ filter p rows) (filter p rows))) ≡ true
    here true rest = and_both _ _ (and_first _ _ h) rest
    here false rest = rises_lower m r.serial (serials_of (filter p rows))
        (ltb-true m r.serial (and_first _ _ h)) rest

-- rows without that of one serial
module _ (x : ℕ) where
  pub keep : Row → Bool
  keep r = not (is_at x r)

  -- another row is still found
  pub other_found : (y : ℕ) → (y == x) ≡ false → (rows : List Row) →
      find_row (filter keep rows) y ≡ find_row rows y
  unfolding keep
  other_found y other [] = refl
  other_found y other (r ∷ rows) = here (is_at x r) refl (other_found y other rows)
    where
      here : (b : Bool) → is_at x r ≡ b → find_row (filter keep rows) y ≡ find_row rows y →
          find_row (cond (not b) (r ∷ filter keep rows) (filter keep rows)) y
          ≡ cond (r.serial == y) (Some r) (find_row rows y)
      here true same rest =
          let apart : (r.serial == y) ≡ false = false_from_ne_true _ (λ is. both_ways _ other
          (eq-eqb y x (sym (eqb-true r.serial y is) ∙ eqb-true r.serial x same))) in
          rw apart rest
      here false same rest = ap (cond (r.serial == y) (Some r)) rest

  pub own_gone : (rows : List Row) → find_row (filter keep rows) x ≡ None
  unfolding keep
  own_gone [] = refl
  own_gone (r ∷ rows) = here (is_at x r) refl (own_gone rows)
    where
      here : (b : Bool) → is_at x r ≡ b → find_row (filter keep rows) x ≡ None →
          find_row (cond (not b) (r ∷ filter keep rows) (filter keep rows)) x ≡ None
      here true same rest = rest
      here false same rest = rw same rest

  lighter_case : (rows : List Row) (y : ℕ) (b : Bool) → (y == x) ≡ b →
      Lighter (inside_in (filter keep rows) y) (inside_in rows y)
  lighter_case rows y true same =
      let own : y ≡ x = eqb-true y x same in
      let gone : inside_in (filter keep rows) y ≡ None =
      ap (inside_in (filter keep rows)) own ∙ ap (option_and_then inside_of) (own_gone rows) in
      rw gone (none_lighter (inside_in rows y))
  lighter_case rows y false other =
      rw (other_found y other rows) (same_lighter (inside_in rows y))

  pub lighter_left : (rows : List Row) (y : ℕ) →
      Lighter (inside_in (filter keep rows) y) (inside_in rows y)
  lighter_left rows y = lighter_case rows y (y == x) refl

module _ (x : ℕ) (rest : List ℕ) (g : GraphState) (shape : GraphShape g)
    (first : g.dying ≡ x ∷ rest) where
  abbrev p : PartsFit g
  p = shape.parts

  abbrev left : List Row
  left = filter (keep x) g.rows

  abbrev gone : GraphState
  gone = record g { rows = left; dying = rest }

  -- nothing holds it
  unheld : (has x (registry g) || (list_any (names x) g.channels
      || (list_any (shows_some x) g.rows
      || (list_any (is_on x) g.holds || list_any (lists x) g.frames)))) ≡ false
  unfolding is_held
  unheld = destroyed_unheld g shape x rest first

  unlisted : has x (registry g) ≡ false
  unlisted = (or_parts _ _ unheld).0

  -- neither does a channel, an item, a hold or a frame
  unnamed_on : (list_any (names x) g.channels ≡ false)
      × ((list_any (shows_some x) g.rows || (list_any (is_on x) g.holds || list_any (lists x) g.frames))
      ≡ false)
  unnamed_on = or_parts _ _ (or_parts (has x (registry g)) _ unheld).1

  unshown_on : (list_any (shows_some x) g.rows ≡ false)
      × ((list_any (is_on x) g.holds || list_any (lists x) g.frames) ≡ false)
  unshown_on = or_parts _ _ unnamed_on.1

  row_left : (y : ℕ) → (y == x) ≡ false → is_row gone y ≡ is_row g y
  row_left y other = ap is_some (other_found x y other g.rows)

  kind_left : (test : Kind → Bool) (y : ℕ) → (y == x) ≡ false →
      row_passes gone (λ r. test r.kind) y ≡ row_passes g (λ r. test r.kind) y
  kind_left test y other =
      ap (λ o. option_map_or (λ (r : Row). test r.kind) o false) (other_found x y other g.rows)

  child_left : (y : ℕ) → (y == x) ≡ false → is_child gone y ≡ is_child g y
  child_left y other = ap (λ b. has y (registry g) || b) (kind_left is_group y other)

  rows_left : (xs : List ℕ) → has x xs ≡ false → are_rows g xs ≡ true → are_rows gone xs ≡ true
  rows_left = all_unless (is_row g) (is_row gone) (λ y. y == x)
      (λ y other here. row_left y other ∙ here)

  passes_left : (test : Kind → Bool) (xs : List ℕ) → has x xs ≡ false →
      list_all (row_passes g (λ r. test r.kind)) xs ≡ true →
      list_all (row_passes gone (λ r. test r.kind)) xs ≡ true
  passes_left test = all_unless (row_passes g (λ r. test r.kind))
      (row_passes gone (λ r. test r.kind)) (λ y. y == x)
      (λ y other here. kind_left test y other ∙ here)

  held_less : HeldLess g gone
  unfolding is_held
  held_less y =
      or_imply _ _ _ _ (λ a. a) (or_imply _ _ _ _ (λ b. b)
      (or_imply _ _ _ _ (any_kept (shows_some y) (keep x) g.rows) (λ d. d)))

  any_on : (y : ℕ) (holds : List Hold) → has y (map (λ h. h.serial) holds)
      ≡ list_any (is_on y) holds
  any_on y [] = refl
  any_on y (h ∷ holds) = ap (λ b. (h.serial == y) || b) (any_on y holds)

  children_left : all_items (λ r i. is_row gone i.child && is_child gone i.child) left ≡ true
  children_left =
      all_filter (λ (r : Row). list_all (λ i. is_row gone i.child && is_child gone i.child) r.items)
      (keep x) g.rows
      (all_unless (λ (r : Row). list_all (λ i. is_row g i.child && is_child g i.child) r.items)
      (λ (r : Row). list_all (λ i. is_row gone i.child && is_child gone i.child) r.items)
      (shows_some x)
      (λ r. all_unless (λ (i : Item). is_row g i.child && is_child g i.child)
      (λ (i : Item). is_row gone i.child && is_child gone i.child) (shows x)
      (λ i other. rw (row_left i.child other, child_left i.child other) (λ both. both)) r.items)
      g.rows unshown_on.0 p.rows.children_rows)

  side_left : (c : Channel) → names x c ≡ false → is_side_channel g c ≡ true →
      is_side_channel gone c ≡ true
  side_left c none = and_imply (list_all (is_child g) (named_by c)) (not (is_some c.1)) _ _
      (all_unless (is_child g) (is_child gone) (λ y. y == x)
      (λ y other here. child_left y other ∙ here) (named_by c) none) (λ d. d)

  preview_left : (o : Option ℕ) → is_preview g o ≡ true → is_preview gone o ≡ true
  preview_left None ok = refl
  preview_left (Some y) ok =
      and_both _ _ (and_first _ _ ok) (here (y == x) refl (and_second _ _ ok))
    where
      here : (b : Bool) → (y == x) ≡ b →
          (not (is_row g y) || row_passes g (λ r. is_scene r.kind) y) ≡ true →
          (not (is_row gone y) || row_passes gone (λ r. is_scene r.kind) y) ≡ true
      here true same h = or_left _ _ (not_from_false _
          (ap (is_row gone) (eqb-true y x same) ∙ ap is_some (own_gone x g.rows)))
      here false other h = rw (row_left y other, kind_left is_scene y other) h

  names_left : names_differ (filter (is_named_row gone) left) ≡ true
  names_left = ap names_differ (filter_both (is_named_row gone) (keep x) g.rows)
      ∙ differ_fewer (is_named_row g) (λ r. keep x r && is_named_row gone r)
      (λ r h. named_less g gone held_less (λ y listed. listed) r (and_second _ _ h))
      g.rows shape.names

  limits_left : LimitsKept gone
  unfolding ranks_fall ranks_within weights_within
  limits_left =
      let limits : LimitsKept g = shape.limits in
      let low : shallow_in 16 left ≡ true =
      all_filter (λ (r : Row). nat_le (rank_in left r.serial) 16) (keep x) g.rows
      (all_imply (λ (r : Row). nat_le (rank_in g.rows r.serial) 16)
      (λ (r : Row). nat_le (rank_in left r.serial) 16)
      (shallow_lighter 16 g.rows left (lighter_left x g.rows)) g.rows limits.shallow) in
      record {
        few_rows = filter_length (keep x) 512 g.rows limits.few_rows;
        few_items = le-leb (item_count left) 2048 (omega (
          arith,
          leb-true (item_count g.rows) 2048 limits.few_items,
          sum_part (λ (r : Row). length r.items) (keep x) g.rows,
        ));
        light = all_filter (λ (r : Row). nat_le (weight_in left r.serial) 4096) (keep x) g.rows
            (all_imply (λ (r : Row). nat_le (weight_in g.rows r.serial) 4096)
            (λ (r : Row). nat_le (weight_in left r.serial) 4096)
            (light_lighter 4096 g.rows left (lighter_left x g.rows)) g.rows limits.light);
        shallow = low;
        falling = shallow_falls_in left (rises_kept (keep x) 0 g.rows p.rows.serials_rise)
            (all_filter is_bare (keep x) g.rows p.rows.inputs_bare) low;
      }

  rows_kept : RowsFit gone
  rows_kept = record {
    serials_rise = rises_kept (keep x) 0 g.rows p.rows.serials_rise;
    serials_start = p.rows.serials_start;
    serials_below = below_left g.next_serial (keep x) g.rows p.rows.serials_below;
    item_ids = all_filter (λ (r : Row). ids_below r.next_item (map (λ i. i.id) r.items)) (keep x)
        g.rows p.rows.item_ids;
    children_rows = children_left;
    inputs_bare = all_filter is_bare (keep x) g.rows p.rows.inputs_bare;
    settings_fit = all_filter (λ (r : Row). are_settings r.kind r.settings && is_sound r.sound)
        (keep x) g.rows p.rows.settings_fit;
    places_fit = all_filter (λ (r : Row). list_all (λ i. is_place i.place) r.items) (keep x) g.rows
        p.rows.places_fit;
  }

  beside_kept : BesideFits gone
  beside_kept = record {
    holds = record {
      hold_ids = p.beside.holds.hold_ids;
      holds_rows = rows_left (map (λ h. h.serial) g.holds)
          (any_on x g.holds ∙ (or_parts (list_any (is_on x) g.holds) _ unshown_on.1).0)
          p.beside.holds.holds_rows;
      few_holds = p.beside.holds.few_holds;
    };
    watches = p.beside.watches;
    frames = record {
      frame_numbers = p.beside.frames.frame_numbers;
      frames_rows = all_unless (λ (f : Frame). are_rows g f.serials)
          (λ (f : Frame). are_rows gone f.serials) (lists x) (λ f. rows_left f.serials) g.frames
          (or_parts (list_any (is_on x) g.holds) _ unshown_on.1).1 p.beside.frames.frames_rows;
      frames_once = p.beside.frames.frames_once;
      few_frames = p.beside.frames.few_frames;
    };
    channels = record {
      channel_count = p.beside.channels.channel_count;
      program_channel = p.beside.channels.program_channel;
      side_channels = all_unless (is_side_channel g) (is_side_channel gone) (names x) side_left
          (drop 1 g.channels) (none_dropped (names x) g.channels unnamed_on.0)
          p.beside.channels.side_channels;
    };
    preview_scene = preview_left g.preview p.beside.preview_scene;
  }

  -- the first that dies isn't in the rest
  once_is : is_distinct (x ∷ rest) ≡ true
  once_is = ap is_distinct (sym first) ∙ p.dying.dying_once

  pub destroyed_shape : EditedShape gone
  destroyed_shape =
      let apart = or_parts (has x g.scenes) _
      (sym (list_any-append (λ y. y == x) g.scenes g.inputs) ∙ unlisted) in
      record {
        parts = record {
          rows = rows_kept;
          registry = record {
            scenes_scenes = passes_left is_scene g.scenes apart.0 p.registry.scenes_scenes;
            inputs_inputs = passes_left is_input g.inputs apart.1 p.registry.inputs_inputs;
            registry_once = p.registry.registry_once;
          };
          beside = beside_kept;
          dying = record {
            dying_rows = rows_left rest (not-true _ (and_first _ _ once_is)) (and_second _ _
                (ap (list_all (is_row g)) (sym first) ∙ p.dying.dying_rows));
            none_held = unheld_less g gone held_less rest (and_second _ _
                (ap (list_all (λ y. not (is_held g y))) (sym first) ∙ p.dying.none_held));
            dying_once = and_second _ _ once_is;
          };
        };
        limits = limits_left;
        names = names_left;
      }

first_shape : (g : GraphState) → GraphShape g → (xs : List ℕ) → g.dying ≡ xs →
    EditedShape (without_first xs g)
unfolding keep
first_shape g shape [] none = edited_of g shape
first_shape g shape (x ∷ rest) first = destroyed_shape x rest g shape first

pub next_destroyed_shape : (g : GraphState) → GraphShape g → EditedShape (next_destroyed g)
unfolding next_destroyed
next_destroyed_shape g shape = first_shape g shape g.dying refl

-- a destruction leaves the clock
pub destroyed_clock : (g : GraphState) → (next_destroyed g).clock ≡ g.clock
unfolding next_destroyed
destroyed_clock g = clock_case g.dying
  where
    clock_case : (xs : List ℕ) → (without_first xs g).clock ≡ g.clock
    clock_case [] = refl
    clock_case (x ∷ rest) = refl
