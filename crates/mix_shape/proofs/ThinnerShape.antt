-- To take an item out, to move one, and to remove a source keeps what holds of the sources.
use Rattle.std.proofs.Common.{◌≡◌, ℕ, ◌+◌, ◌≤◌, Bool, true, cond, not, ◌&&◌, List, [], ◌∷◌, ◌++◌}
use Rattle.std.proofs.Common.{map, filter, take, drop, refl, ap, ◌∙◌, arith, nat_le, nat_lt, le-leb}
use Rattle.std.proofs.Common.{leb-true, ◌==◌, false, ◌||◌, sym, is_some, eqb-true}
use Rattle.std.specs.List.{list_all, list_any, sum_by}
use Rattle.std.proofs.lemmas.List.{length-map, take-map, drop-map}
use Rattle.std.proofs.lemmas.List.Sums.{sum_by-append, sum_by-take-drop}
use Rattle.std.proofs.lemmas.List.Filters.{sum_by-filter_both}
use Rattle.mix_model.specs.declared.item.Item.{Item}
use Rattle.mix_model.specs.declared.row.Row.{Row}
use Rattle.mix_model.specs.Sets.{rises_above, has, without, is_distinct}
use Rattle.mix_model.specs.Rows.{is_at, has_id, all_items, shows, is_scene, is_input, is_group}
use Rattle.mix_model.specs.Items.{without_item, without_child, with_item_at}
use Rattle.mix_model.specs.State.{GraphState, Channel}
use Rattle.mix_model.specs.Lookups.{is_row, row_passes, named_by, registry}
use Rattle.mix_model.specs.Holders.{is_held, is_named_row, shows_some, names}
use Rattle.mix_model.specs.Ranks.{ranks_fall, ranks_within, weights_within, rank_in, weight_in}
use Rattle.mix_model.specs.Ranks.{shallow_in}
use Rattle.mix_model.specs.Values.{are_settings, is_sound, is_place}
use Rattle.mix_model.specs.Causes.{item_count}
use Rattle.mix_model.specs.Edits.{item_removed, item_moved, source_removed, emptied_of, no_row}
use Rattle.mix_model.specs.Shape.{GraphShape, RowsFit, LimitsKept, RegistryFits, BesideFits}
use Rattle.mix_model.specs.Shape.{ChannelsFit, DyingFits, is_child, is_bare, ids_below}
use Rattle.mix_model.specs.Shape.{names_differ, is_side_channel, is_program_channel}
use Rattle.mix_model.specs.EditedShape.{EditedShape}
use Rattle.mix_model.proofs.SetLemmas.{or_imply, all_imply, and_both, and_first, and_second}
use Rattle.mix_model.proofs.SetLemmas.{and_imply}
use Rattle.mix_model.proofs.SteadyLemmas.{rows_changed, steady_serials, steady_sees, steady_rows}
use Rattle.mix_model.proofs.SteadyLemmas.{steady_item, steady_registry, steady_beside, holds_seen}
use Rattle.mix_model.proofs.SteadyLemmas.{frames_seen, preview_seen, steady_there, steady_pass}
use Rattle.mix_model.proofs.KeptShape.{filter_changed, differ_changed}
use Rattle.mix_model.proofs.FallLemmas.{shallow_falls_in}
use Rattle.mix_shape.proofs.SumLemmas.{sum_part, all_both}
use Rattle.mix_shape.proofs.ThinnerLemmas.{HeldLess, ListedLess, named_less, differ_fewer}
use Rattle.mix_shape.proofs.ThinnerLemmas.{unheld_less, Thinner, thinner_at, part, ids_kept}
use Rattle.mix_shape.proofs.ThinnerLemmas.{shows_less, count_fewer, bare_kept, lighter_rows}
use Rattle.mix_shape.proofs.ThinnerLemmas.{shallow_lighter, light_lighter}
use Rattle.std.proofs.lemmas.Bool.{not_from_false, false_from_ne_true, both_ways}
use Rattle.std.proofs.lemmas.List.Elements.{filter-append}
use Rattle.std.proofs.lemmas.List.Folds.{list_all-map}
use Rattle.mix_model.specs.declared.kind.Kind.{Kind}
use Rattle.mix_model.proofs.DyingLemmas.{has_filter, all_members, member_passes}
use Rattle.mix_model.proofs.DistinctLemmas.{distinct_filter, all_filter, filter_passes}

-- some row shows it after such a change: some row did before
pub shown_less : (h : Row → Row) → Thinner h → (x : ℕ) (rows : List Row) →
    list_any (shows_some x) (map h rows) ≡ true → list_any (shows_some x) rows ≡ true
shown_less h t x [] shown = shown
shown_less h t x (r ∷ rows) shown =
    or_imply _ _ _ _ (shows_less h t x r) (shown_less h t x rows) shown

-- rows changed so, with a registry and channels
module _ (h : Row → Row) (t : Thinner h) (g : GraphState) (shape : GraphShape g)
    (scenes inputs : List ℕ) (channels : List Channel) where
  abbrev pub thin : GraphState
  thin = record g { rows = map h g.rows; scenes = scenes; inputs = inputs; channels = channels }

  -- a test that all items of all rows passed
  pub item_rows : (p : Item → Bool) → all_items (λ r i. p i) g.rows ≡ true →
      all_items (λ r i. p i) (map h g.rows) ≡ true
  item_rows p = rows_changed h (λ r. list_all p r.items) (λ r. list_all p r.items)
      (part h t p) g.rows

  thin_rows : all_items (λ r i. is_row thin i.child && is_child thin i.child) (map h g.rows)
      ≡ true → RowsFit thin
  thin_rows children =
      let rows : RowsFit g = shape.parts.rows in
      let fits : Row → Bool = λ r. are_settings r.kind r.settings && is_sound r.sound in
      let ids : Row → Bool = λ r. ids_below r.next_item (map (λ i. i.id) r.items) in
      record {
        serials_rise = ap (rises_above 0) (steady_serials h t.steady g.rows) ∙ rows.serials_rise;
        serials_start = rows.serials_start;
        serials_below = ap (list_all (λ x. nat_lt x g.next_serial))
            (steady_serials h t.steady g.rows) ∙ rows.serials_below;
        item_ids = rows_changed h ids ids (ids_kept h t) g.rows rows.item_ids;
        children_rows = children;
        inputs_bare = rows_changed h is_bare is_bare (bare_kept h t) g.rows rows.inputs_bare;
        settings_fit = rows_changed h fits fits
            (λ r ok. rw (t.steady.kind r, t.settings r, t.sound r) ok) g.rows rows.settings_fit;
        places_fit = item_rows (λ i. is_place i.place) rows.places_fit;
      }

  thin_limits : LimitsKept thin
  unfolding ranks_fall ranks_within weights_within
  thin_limits =
      let limits : LimitsKept g = shape.limits in
      let low : shallow_in 16 (map h g.rows) ≡ true =
      rows_changed h (λ r. nat_le (rank_in g.rows r.serial) 16)
      (λ r. nat_le (rank_in (map h g.rows) r.serial) 16)
      (λ r most. rw (t.steady.serial r)
      (shallow_lighter 16 g.rows (map h g.rows) (lighter_rows h t g.rows) r most))
      g.rows limits.shallow in
      record {
        few_rows = ap (λ n. nat_le n 512) (length-map g.rows h) ∙ limits.few_rows;
        few_items = le-leb (item_count (map h g.rows)) 2048 (omega (
          arith,
          leb-true (item_count g.rows) 2048 limits.few_items,
          count_fewer h t g.rows,
        ));
        light = rows_changed h (λ r. nat_le (weight_in g.rows r.serial) 4096)
            (λ r. nat_le (weight_in (map h g.rows) r.serial) 4096)
            (λ r most. rw (t.steady.serial r)
            (light_lighter 4096 g.rows (map h g.rows) (lighter_rows h t g.rows) r most))
            g.rows limits.light;
        shallow = low;
        falling = shallow_falls_in (map h g.rows)
            (ap (rises_above 0) (steady_serials h t.steady g.rows) ∙ shape.parts.rows.serials_rise)
            (rows_changed h is_bare is_bare (bare_kept h t) g.rows shape.parts.rows.inputs_bare)
            low;
      }

  named_kept : (r : Row) → is_named_row g (h r) ≡ true → is_named_row g r ≡ true
  unfolding is_named_row
  named_kept r named = rw (t.steady.serial r, t.steady.kind r) at named

  -- rows with fewer items keep what holds of the sources
  pub thinner_shape : HeldLess g thin → ListedLess g thin →
      all_items (λ r i. is_row thin i.child && is_child thin i.child) (map h g.rows) ≡ true →
      RegistryFits thin → ChannelsFit thin channels → EditedShape thin
  thinner_shape held listed children registry named =
      let b : BesideFits g = shape.parts.beside in
      let d : DyingFits g = shape.parts.dying in
      let s = steady_sees h t.steady g g.dying in
      record {
        parts = record {
          rows = thin_rows children;
          registry = registry;
          beside = record {
            holds = holds_seen g (map h g.rows) g.scenes g.inputs g.dying g.next_serial s b.holds;
            watches = b.watches;
            frames = frames_seen g (map h g.rows) g.scenes g.inputs g.dying g.next_serial s
                b.frames;
            channels = named;
            preview_scene = preview_seen g (map h g.rows) g.scenes g.inputs g.dying g.next_serial
                s g.preview b.preview_scene;
          };
          dying = record {
            dying_rows = steady_rows h t.steady g g.dying g.dying d.dying_rows;
            none_held = unheld_less g thin held g.dying d.none_held;
            dying_once = d.dying_once;
          };
        };
        limits = thin_limits;
        names = ap names_differ (filter_changed (is_named_row thin) (λ r. is_named_row thin (h r)) h
            (λ r. refl) g.rows)
            ∙ differ_changed h t.name (filter (λ r. is_named_row thin (h r)) g.rows)
            ∙ differ_fewer (is_named_row g) (λ r. is_named_row thin (h r))
            (λ r n. named_kept r (named_less g thin held listed (h r) n)) g.rows shape.names;
      }

-- rows changed so, and nothing else
module _ (h : Row → Row) (t : Thinner h) (g : GraphState) (shape : GraphShape g) where
  abbrev fewer_items : GraphState
  fewer_items = record g { rows = map h g.rows }

  held_fewer : HeldLess g fewer_items
  unfolding is_held
  held_fewer y =
      or_imply _ _ _ _ (λ a. a) (or_imply _ _ _ _ (λ b. b)
      (or_imply _ _ _ _ (shown_less h t y g.rows) (λ d. d)))

  fewer_shape : EditedShape fewer_items
  fewer_shape =
      let b : BesideFits fewer_items = steady_beside h t.steady g g.dying shape.parts.beside in
      thinner_shape h t g shape g.scenes g.inputs g.channels held_fewer (λ y listed. listed)
      (item_rows h t g shape g.scenes g.inputs g.channels
      (λ i. is_row fewer_items i.child && is_child fewer_items i.child)
      (all_imply (λ r. list_all (λ i. is_row g i.child && is_child g i.child) r.items)
      (λ r. list_all (λ i. is_row fewer_items i.child && is_child fewer_items i.child) r.items)
      (λ r. all_imply (λ i. is_row g i.child && is_child g i.child)
      (λ i. is_row fewer_items i.child && is_child fewer_items i.child)
      (steady_item h t.steady g g.dying) r.items) g.rows shape.parts.rows.children_rows))
      (steady_registry h t.steady g g.dying shape.parts.registry) b.channels

-- items changed alone: no sum over them may grow
thinner_items : (change : List Item → List Item) →
    ((f : Item → ℕ) (items : List Item) → sum_by f (change items) ≤ sum_by f items) →
    Thinner (λ r. record r { items = change r.items })
thinner_items change less = record {
  steady = record { serial = λ r. refl; kind = λ r. refl };
  name = λ r. refl;
  settings = λ r. refl;
  sound = λ r. refl;
  next = λ r. refl;
  less = λ f r. less f r.items;
}

pub thinner_without : (id : ℕ) → Thinner (without_item id)
unfolding without_item
thinner_without id = thinner_items (filter (λ i. not (has_id id i)))
    (λ f. sum_part f (λ i. not (has_id id i)))

pub thinner_child : (x : ℕ) → Thinner (without_child x)
unfolding without_child
thinner_child x = thinner_items (filter (λ i. not (shows x i)))
    (λ f. sum_part f (λ i. not (shows x i)))

-- a sum doesn't ask where an item lies
moved_less : (f : Item → ℕ) (id index : ℕ) (items : List Item) →
    sum_by f (take index (filter (λ i. not (has_id id i)) items)
    ++ (filter (has_id id) items ++ drop index (filter (λ i. not (has_id id i)) items)))
    ≤ sum_by f items
moved_less f id index items =
    let others : List Item = filter (λ i. not (has_id id i)) items in
    let own : List Item = filter (has_id id) items in
    omega (
      arith,
      sum_by-append f (take index others) (own ++ drop index others),
      sum_by-append f own (drop index others),
      sum_by-take-drop f others index,
      sum_by-filter_both (has_id id) (λ i. not (has_id id i)) (λ i. refl) f items,
    )

pub thinner_moved : (id index : ℕ) → Thinner (with_item_at id index)
unfolding with_item_at
thinner_moved id index = thinner_items
    (λ items. let others : List Item = filter (λ i. not (has_id id i)) items in
    take index others ++ (filter (has_id id) items ++ drop index others))
    (λ f. moved_less f id index)

-- an item goes
pub removed_shape : (x id : ℕ) (g : GraphState) → GraphShape g →
    EditedShape (item_removed x id g)
unfolding item_removed
removed_shape x id g shape = fewer_shape (λ r. cond (is_at x r) (without_item id r) r)
    (thinner_at x (without_item id) (thinner_without id)) g shape

-- an item is moved
pub moved_shape : (x id index : ℕ) (g : GraphState) → GraphShape g →
    EditedShape (item_moved x id index g)
unfolding item_moved
moved_shape x id index g shape = fewer_shape (λ r. cond (is_at x r) (with_item_at id index r) r)
    (thinner_at x (with_item_at id index) (thinner_moved id index)) g shape

module _ (x : ℕ) (g : GraphState) (shape : GraphShape g) where
  abbrev childless : Row → Row
  childless = without_child x

  thinner : Thinner childless
  thinner = thinner_child x

  gone : GraphState
  gone = source_removed x g

  -- the registry is what it was without the source
  listed : registry gone ≡ without x (registry g)
  unfolding gone source_removed
  listed = sym (filter-append (λ y. not (y == x)) g.scenes g.inputs)

  listed_case : (y : ℕ) → has y (registry gone) ≡ (not (y == x) && has y (registry g))
  listed_case y = ap (has y) listed ∙ has_filter (λ z. not (z == x)) y (registry g)

  listed_less : ListedLess g gone
  listed_less y here = and_second _ _ (sym (listed_case y) ∙ here)

  -- an emptied channel names no more than it did
  names_less : (y : ℕ) (channel : Channel) → names y (emptied_of x channel) ≡ true →
      names y channel ≡ true
  names_less y channel named = here (has x (named_by channel)) named
    where
      here : (b : Bool) → names y (cond b no_row channel) ≡ true → names y channel ≡ true
      here true h = cc
      here false h = h

  channels_less : (y : ℕ) (channels : List Channel) →
      list_any (names y) (map (emptied_of x) channels) ≡ true →
      list_any (names y) channels ≡ true
  channels_less y [] named = named
  channels_less y (c ∷ channels) named =
      or_imply _ _ _ _ (names_less y c) (channels_less y channels) named

  held_less : HeldLess g gone
  unfolding is_held gone source_removed
  held_less y =
      or_imply _ _ _ _ (listed_less y) (or_imply _ _ _ _ (channels_less y g.channels)
      (or_imply _ _ _ _ (shown_less childless thinner y g.rows) (λ d. d)))

  there : (y : ℕ) → is_row gone y ≡ is_row g y
  unfolding gone source_removed
  there y = steady_there childless thinner.steady g.rows y

  passes : (test : Kind → Bool) (y : ℕ) → row_passes g (λ r. test r.kind) y ≡ true →
      row_passes gone (λ r. test r.kind) y ≡ true
  unfolding gone source_removed
  passes test y here = steady_pass childless thinner.steady test g.rows y ∙ here

  -- another child is still registered, or a group
  child_left : (y : ℕ) → not (y == x) ≡ true → is_child g y ≡ true → is_child gone y ≡ true
  child_left y other =
      or_imply _ _ _ _ (λ here. listed_case y ∙ and_both _ _ other here)
      (passes is_group y)

  children_left : all_items (λ r i. is_row gone i.child && is_child gone i.child) gone.rows
      ≡ true
  unfolding gone source_removed without_child
  children_left = rows_changed childless
      (λ r. list_all (λ i. is_row g i.child && is_child g i.child) r.items)
      (λ r. list_all (λ i. is_row gone i.child && is_child gone i.child) r.items)
      (λ r all. let left : List Item = filter (λ i. not (shows x i)) r.items in
      all_imply (λ (i : Item). (is_row g i.child && is_child g i.child) && not (shows x i))
      (λ (i : Item). is_row gone i.child && is_child gone i.child)
      (λ i h. and_both _ _ (there i.child ∙ and_first _ _ (and_first _ _ h))
      (child_left i.child (and_second _ _ h) (and_second _ _ (and_first _ _ h)))) left
      (all_both (λ (i : Item). is_row g i.child && is_child g i.child) (λ i. not (shows x i)) left
      (all_filter (λ (i : Item). is_row g i.child && is_child g i.child) (λ i. not (shows x i))
      r.items all) (filter_passes (λ i. not (shows x i)) r.items)))
      g.rows shape.parts.rows.children_rows

  scene_left : (y : ℕ) → not (y == x) ≡ true → has y g.scenes ≡ true →
      has y (without x g.scenes) ≡ true
  scene_left y other here = has_filter (λ z. not (z == x)) y g.scenes ∙ and_both _ _ other here

  not_named : (c : Channel) → has x (named_by c) ≡ false → (y : ℕ) → has y (named_by c) ≡ true →
      not (y == x) ≡ true
  not_named c none y here = not_from_false _ (false_from_ne_true _ (λ same. both_ways _ none
      (ap (λ z. has z (named_by c)) (sym (eqb-true y x same)) ∙ here)))

  -- a channel that doesn't name it names the same rows, and one that does is emptied
  program_kept : (c : Channel) → is_program_channel g c ≡ true →
      is_program_channel gone (emptied_of x c) ≡ true
  unfolding gone source_removed
  program_kept c ok = here (has x (named_by c)) refl
    where
      here : (b : Bool) → has x (named_by c) ≡ b →
          is_program_channel gone (cond b no_row c) ≡ true
      here true named = refl
      here false none = and_imply
          (list_all (λ y. has y g.scenes) (named_by c) && is_distinct (named_by c))
          (is_some c.0 || not (is_some c.1)) _ _
          (and_imply (list_all (λ y. has y g.scenes) (named_by c)) (is_distinct (named_by c)) _ _
          (λ scenes. all_members (λ y. has y (without x g.scenes)) (named_by c) (λ y named.
          scene_left y (not_named c none y named)
          (member_passes (λ z. has z g.scenes) y (named_by c) named scenes))) (λ d. d)) (λ d. d) ok

  side_kept : (c : Channel) → is_side_channel g c ≡ true →
      is_side_channel gone (emptied_of x c) ≡ true
  side_kept c ok = here (has x (named_by c)) refl
    where
      here : (b : Bool) → has x (named_by c) ≡ b → is_side_channel gone (cond b no_row c) ≡ true
      here true named = refl
      here false none = and_imply (list_all (is_child g) (named_by c)) (not (is_some c.1)) _ _
          (λ children. all_members (is_child gone) (named_by c) (λ y named.
          child_left y (not_named c none y named)
          (member_passes (is_child g) y (named_by c) named children))) (λ d. d) ok

  channels_kept : (p q : Channel → Bool) →
      ((c : Channel) → p c ≡ true → q (emptied_of x c) ≡ true) → (cs : List Channel) →
      list_all p cs ≡ true → list_all q (map (emptied_of x) cs) ≡ true
  channels_kept p q kept cs all =
      list_all-map q (emptied_of x) cs ∙ all_imply p (λ c. q (emptied_of x c)) kept cs all

  listed_left : (test : Kind → Bool) (xs : List ℕ) →
      list_all (row_passes g (λ r. test r.kind)) xs ≡ true →
      list_all (row_passes gone (λ r. test r.kind)) (without x xs) ≡ true
  listed_left test xs all = all_filter (row_passes gone (λ r. test r.kind)) (λ y. not (y == x)) xs
      (all_imply (row_passes g (λ r. test r.kind)) (row_passes gone (λ r. test r.kind))
      (passes test) xs all)

  pub source_removed_shape : EditedShape (source_removed x g)
  unfolding gone source_removed
  source_removed_shape =
      let channels : ChannelsFit g g.channels = shape.parts.beside.channels in
      let r : RegistryFits g = shape.parts.registry in
      thinner_shape childless thinner g shape (without x g.scenes) (without x g.inputs)
      (map (emptied_of x) g.channels) held_less listed_less children_left
      (record {
        scenes_scenes = listed_left is_scene g.scenes r.scenes_scenes;
        inputs_inputs = listed_left is_input g.inputs r.inputs_inputs;
        registry_once = ap is_distinct listed
            ∙ distinct_filter (λ y. not (y == x)) (registry g) r.registry_once;
      })
      (record {
        channel_count = ap (λ n. n == 64) (length-map g.channels (emptied_of x))
            ∙ channels.channel_count;
        program_channel = ap (list_all (is_program_channel gone))
            (take-map (emptied_of x) 1 g.channels)
            ∙ channels_kept (is_program_channel g) (is_program_channel gone) program_kept
            (take 1 g.channels) channels.program_channel;
        side_channels = ap (list_all (is_side_channel gone))
            (drop-map (emptied_of x) 1 g.channels)
            ∙ channels_kept (is_side_channel g) (is_side_channel gone) side_kept
            (drop 1 g.channels) channels.side_channels;
      })
