-- What holds of the line of each request on items.
use Rattle.std.proofs.Common.{◌≡◌, ◌∙◌, ◌≤◌, ◌<◌, ◌+◌, ◌==◌, ℕ, ℤ, pos, negsuc, List, [], ◌∷◌, Bool, true}
use Rattle.std.proofs.Common.{false, cond, codes, find, get_or, length, Option, Some, None, Result}
use Rattle.std.proofs.Common.{Ok, Err, All, refl, sym, ap, arith, rules, option_map}
use Rattle.std.proofs.lemmas.Bool.{eqb-true}
use Rattle.std.proofs.lemmas.List.Elements.{All-cons, All-map, All-nil}
use Rattle.mix_base.specs.declared.json.Json.{the_lemmas}
use Rattle.mix_base.specs.declared.json.Json as json
use Rattle.mix_base.specs.Json.{Object, as_bool, as_int, as_text, has_frac, present}
use Rattle.mix_json.specs.Fields.{need_bool, need_int, need_text, opt_bool, opt_text, or_status}
use Rattle.mix_events.specs.Sayable.{IsSayableEvent}
use Rattle.mix_events.specs.Statuses.{status_name}
use Rattle.mix_model.specs.declared.body.Body.{Body}
use Rattle.mix_model.specs.declared.event.Event.{Event}
use Rattle.mix_model.specs.declared.item.Item.{Item}
use Rattle.mix_model.specs.declared.item.ItemSpec.{ItemSpec}
use Rattle.mix_model.specs.declared.kind.Kind.{Kind}
use Rattle.mix_model.specs.declared.notes.Notes.{Notes}
use Rattle.mix_model.specs.declared.row.Row.{Row}
use Rattle.mix_model.specs.Edits.{item_enabled, item_locked, item_moved, item_placed, item_removed}
use Rattle.mix_model.specs.Causes.{copy_cause, item_cause}
use Rattle.mix_model.specs.Edits.{copied_to, item_added, item_duplicated, row_changed}
use Rattle.mix_model.specs.Holders.{find_named, is_named, is_named_row, named_row_or_none}
use Rattle.mix_model.specs.Items.{enabled_as, locked_as, placed_at, with_item_at}
use Rattle.mix_model.specs.Items.{spec_of, with_item, with_item_changed, without_item}
use Rattle.mix_model.specs.Lookups.{item_at, items_of}
use Rattle.mix_model.specs.Rows.{has_id, has_items, is_at}
use Rattle.mix_model.specs.Sets.{agree}
use Rattle.mix_model.specs.Shape.{GraphShape}
use Rattle.mix_model.specs.State.{GraphState, StudioState}
use Rattle.mix_model.specs.Texts.{blend_named, blend_text}
use Rattle.mix_model.specs.Values.{is_between}
use Rattle.mix_model.proofs.SetLemmas.{and_first, found_test}
use Rattle.mix_shape.proofs.MarkedLemmas.{found_row}
use Rattle.mix_studio.specs.Studios.{StudioModel}
use Rattle.mix_requests.specs.declared.caller.Caller.{Caller}
use Rattle.mix_requests.specs.declared.request_type.ItemRequest.TheVariants as item
use Rattle.mix_requests.specs.Effects.{Effect, only_asks}
use Rattle.mix_requests.specs.Laws.{Grows, IsProper, IsProperLine}
use Rattle.mix_requests.specs.Named.{name_at}
use Rattle.mix_requests.specs.NewItems.{next_item}
use Rattle.mix_requests.specs.Read.{needed_fields, sought_name}
use Rattle.mix_requests.specs.Ready.{IsReady}
use Rattle.mix_requests.specs.Refusals.{refused_by}
use Rattle.mix_requests.specs.Sought.{of_sort, scene_sought}
use Rattle.mix_requests.proofs.ProperLemmas.{Gives, Named, OneMore, after, chosen, edit_grows}
use Rattle.mix_requests.proofs.ProperLemmas.{edit_noted, int_whole, line_proper, need_named}
use Rattle.mix_requests.proofs.ProperLemmas.{needed_named, nothing_noted, object_whole}
use Rattle.mix_requests.proofs.ProperLemmas.{opt_bool_named, opt_named, or_named, refused_by_named, scene_below, short_below}
use Rattle.mix_requests.proofs.ProperLemmas.{sought_below, sought_name_named, stays_grow, text_whole}
use Rattle.mix_req_items.specs.declared.asking.Part.{Part}
use Rattle.mix_req_items.specs.declared.asking.Part.TheVariants as part
use Rattle.mix_req_items.specs.declared.changing.Change.{Change}
use Rattle.mix_req_items.specs.declared.changing.Change.TheVariants.{Enabled, Locked, Moved}
use Rattle.mix_req_items.specs.declared.changing.Change.TheVariants.{Placed, Removed}
use Rattle.mix_req_items.specs.declared.creating.Ends.{Ends}
use Rattle.mix_req_items.specs.declared.flags.Flag.{Flag}
use Rattle.mix_req_items.specs.declared.flags.Flag.TheVariants as flag
use Rattle.mix_req_items.specs.declared.found.Found.{Found}
use Rattle.mix_req_items.specs.Changes.{changed, changed_by, unchanged}
use Rattle.mix_req_items.specs.CreateSceneItem.{create_scene_item, created_event, ends_sought}
use Rattle.mix_req_items.specs.CreateSceneItem.{id_answer, item_creation, plain_spec}
use Rattle.mix_req_items.specs.DuplicateSceneItem.{destination, destination_name, item_copy}
use Rattle.mix_req_items.specs.DuplicateSceneItem.{duplicate_scene_item, not_empty}
use Rattle.mix_req_items.specs.Finding.{IsFound, found_at, found_item, holder_sought, index_in}
use Rattle.mix_req_items.specs.Finding.{item_named, item_sought, source_sought}
use Rattle.mix_req_items.specs.Flags.{flag_change, flag_event, flag_key, flag_of, flagged, set_flag}
use Rattle.mix_req_items.specs.Laws.{ItemsAreProper}
use Rattle.mix_req_items.specs.Numbers.{item_id, natural_in}
use Rattle.mix_req_items.specs.Parts.{get_part, part_answer, part_field}
use Rattle.mix_req_items.specs.RemoveSceneItem.{remove_scene_item, removed_event}
use Rattle.mix_req_items.specs.SetSceneItemBlendMode.{blend_mode, set_scene_item_blend_mode}
use Rattle.mix_req_items.proofs.FoundLemmas.{child_short, holder_below, holder_short}

-- ---- what is read and found

natural_named : (least most : ℕ) (z : ℤ) → Named (natural_in least most z)
unfolding status_name
natural_named least most (pos n) = chosen (is_between least most n) (Ok n) (Err 402)
    (record { gives = tt }) (record { gives = refl })
natural_named least most (negsuc n) = record { gives = refl }

item_id_named : (fields : Object) → Named (item_id fields)
unfolding item_id
item_id_named fields = after (need_int (codes "sceneItemId") fields) (natural_in 1 4294967295)
    (need_named as_int (codes "sceneItemId") fields) (λ z read. natural_named 1 4294967295 z)

module _ (g : GraphState) (shape : GraphShape g) where
  named_case : (name : List ℕ) (o : Option Row) → find_named g name ≡ o →
      Gives (λ x. is_named g x ≡ true) (of_sort has_items o)
  unfolding status_name
  named_case name None found = record { gives = refl }
  named_case name (Some r) found = chosen (has_items r.kind) (Ok r.serial) (Err 602) (record {
    gives = ap (named_row_or_none g)
        (found_row _ 0 g.rows r shape.parts.rows.serials_rise found)
        ∙ and_first _ _ (found_test _ g.rows r found);
  }) (record { gives = refl })

  holder_named : (name : List ℕ) → Gives (λ x. is_named g x ≡ true) (holder_sought g name)
  unfolding holder_sought
  holder_named name = named_case name (find_named g name) refl

  found_case : (holder id : ℕ) → is_named g holder ≡ true → (n : ℕ) (o : Option Item) →
      item_at g holder id ≡ o →
      Gives (IsFound g) (or_status 600 (option_map (found_at holder n) o))
  unfolding status_name
  found_case holder id named n None found = record { gives = refl }
  found_case holder id named n (Some i) found = record {
    gives = record {
      named = named;
      item = ap (λ k. item_at g holder k)
          (eqb-true i.id id (found_test (has_id id) (items_of g holder) i found)) ∙ found;
    };
  }

  item_is_found : (holder id : ℕ) → is_named g holder ≡ true →
      Gives (IsFound g) (item_sought g holder id)
  unfolding item_sought
  item_is_found holder id named =
      found_case holder id named (index_in id (items_of g holder)) (item_at g holder id) refl

  named_found : (name : List ℕ) (id : ℕ) → Gives (IsFound g) (item_named g name id)
  unfolding item_named
  named_found name id = after (holder_sought g name) _ (holder_named name)
      (λ holder named. item_is_found holder id named)

  body_found : (body : Body) → Gives (IsFound g) (found_item g body)
  unfolding found_item
  body_found body = after (needed_fields body) _ (needed_named body) (λ fields a.
      after (sought_name (codes "sceneName") fields) _ (sought_name_named (codes "sceneName") fields)
      (λ name b. after (item_id fields) _ (item_id_named fields) (λ id d. named_found name id)))

blend_mode_named : (fields : Object) → Named (blend_mode fields)
unfolding blend_mode status_name
blend_mode_named fields = after (need_text (codes "sceneItemBlendMode") fields) _
    (need_named as_text (codes "sceneItemBlendMode") fields)
    (λ text read. or_named 400 (blend_named text) refl)

empty_named : (name : Option (List ℕ)) → Named (not_empty name)
unfolding status_name
empty_named None = record { gives = tt }
empty_named (Some name) = chosen (length name == 0) (Err 403) (Ok (Some name))
    (record { gives = refl }) (record { gives = tt })

destination_name_named : (fields : Object) → Named (destination_name fields)
unfolding destination_name
destination_name_named fields =
    after (opt_text (codes "destinationSceneName") fields) not_empty
    (opt_named as_text (present (codes "destinationSceneName") fields)) (λ name read. empty_named name)

-- the scene or group to which a copy goes was given its serial
holder_given : (g : GraphState) → GraphShape g → (name : List ℕ) →
    Gives (λ x. x < g.next_serial) (holder_sought g name)
unfolding holder_sought
holder_given g shape name = sought_below g shape has_items name

destination_below : (g : GraphState) → GraphShape g → (own : ℕ) → own < g.next_serial →
    (name : Option (List ℕ)) → Gives (λ x. x < g.next_serial) (destination g own name)
destination_below g shape own below None = record { gives = below }
destination_below g shape own below (Some name) = holder_given g shape name

-- both ends of a new item were given serials
abbrev EndsBelow : GraphState → Ends → Type 0
EndsBelow g ends = (ends.holder < g.next_serial) × (ends.child < g.next_serial)

source_below : (g : GraphState) → GraphShape g → (name : List ℕ) →
    Gives (λ x. x < g.next_serial) (source_sought g name)
unfolding source_sought
source_below g shape name = sought_below g shape (λ (k : Kind). true) name

ends_below : (g : GraphState) → GraphShape g → (name source_name : List ℕ) →
    Gives (EndsBelow g) (ends_sought g name source_name)
unfolding ends_sought
ends_below g shape name source_name =
    after (scene_sought g name) _ (scene_below g shape name) (λ x first.
    after (source_sought g source_name) _ (source_below g shape source_name)
    (λ y second. record { gives = (first, second) }))

-- ---- the next numbers

kept : (b : Bool) (n : ℕ) (r s : Row) → s.next_item ≡ r.next_item → r.next_item ≤ n →
    (cond b s r).next_item ≤ n + 1
kept true n r s same most = omega (arith, same, most)
kept false n r s same most = omega (arith, most)

-- a change of a row that leaves its next id
row_more : (x : ℕ) (change : Row → Row) → ((r : Row) → (change r).next_item ≡ r.next_item) →
    (g : GraphState) → OneMore g (row_changed x change g)
row_more x change same g = record {
  serial = omega arith;
  items = λ n all. All-map (λ (r : Row). r.next_item ≤ n + 1)
      (λ (r : Row). cond (is_at x r) (change r) r) g.rows (λ k d within.
      kept (is_at x (get_or g.rows k d)) n (get_or g.rows k d) (change (get_or g.rows k d))
      (same (get_or g.rows k d)) (all k d within));
  hold = omega arith;
  watch = omega arith;
  holds = refl;
  watches = refl;
  clock = refl;
}

change_more : (change : Change) (holder id : ℕ) (g : GraphState) →
    OneMore g (changed_by change holder id g)
unfolding item_enabled item_locked item_moved item_placed item_removed with_item_changed with_item_at without_item
change_more (Enabled enabled) holder id g =
    row_more holder (with_item_changed id (enabled_as enabled)) (λ r. refl) g
change_more (Locked locked) holder id g =
    row_more holder (with_item_changed id (locked_as locked)) (λ r. refl) g
change_more (Moved index) holder id g = row_more holder (with_item_at id index) (λ r. refl) g
change_more (Placed place blend) holder id g =
    row_more holder (with_item_changed id (placed_at place blend)) (λ r. refl) g
change_more Removed holder id g = row_more holder (without_item id) (λ r. refl) g

-- with an item more
added_row : (b : Bool) (n child : ℕ) (spec : ItemSpec) (r : Row) → r.next_item ≤ n →
    (cond b (with_item child spec r) r).next_item ≤ n + 1
unfolding with_item
added_row true n child spec r most = omega arith
added_row false n child spec r most = omega arith

added_plain : (holder child : ℕ) (spec : ItemSpec) (g : GraphState) →
    OneMore g (row_changed holder (with_item child spec) g)
added_plain holder child spec g = record {
  serial = omega arith;
  items = λ n all. All-map (λ (r : Row). r.next_item ≤ n + 1)
      (λ (r : Row). cond (is_at holder r) (with_item child spec r) r) g.rows (λ k d within.
      added_row (is_at holder (get_or g.rows k d)) n child spec (get_or g.rows k d) (all k d within));
  hold = omega arith;
  watch = omega arith;
  holds = refl;
  watches = refl;
  clock = refl;
}

added_more : (holder child : ℕ) (spec : ItemSpec) (g : GraphState) →
    OneMore g (item_added holder child spec g)
unfolding item_added
added_more holder child spec g = added_plain holder child spec g

copied_more : (to : ℕ) (o : Option Item) (g : GraphState) → OneMore g (copied_to to o g)
copied_more to None g = record {
  serial = omega arith;
  items = λ n all k d within. let most : (get_or g.rows k d).next_item ≤ n = all k d within in
      omega arith;
  hold = omega arith;
  watch = omega arith;
  holds = refl;
  watches = refl;
  clock = refl;
}
copied_more to (Some i) g = added_plain to i.child (spec_of i) g

copy_more : (holder id to : ℕ) (g : GraphState) → OneMore g (item_duplicated holder id to g)
unfolding item_duplicated
copy_more holder id to g = copied_more to (item_at g holder id) g

-- ---- the lines

truth_whole : (truth : Bool) → has_frac (json.Bool truth) ≡ false
truth_whole truth = search (rules, the_lemmas)

part_whole : (asked : Part) (f : Found) → has_frac (part_field asked f).1 ≡ false
part_whole part.BlendMode f = text_whole (blend_text f.item.blend)
part_whole part.Enabled f = truth_whole f.item.enabled
part_whole part.Index f = int_whole (pos f.index)
part_whole part.Locked f = truth_whole f.item.locked

answer_whole : (asked : Part) (f : Found) → has_frac (part_answer asked f) ≡ false
unfolding part_answer
answer_whole asked f = object_whole (part_field asked f ∷ []) (part_whole asked f, tt)

module _ (m : StudioModel) (notes : Notes) (caller : Caller) (ready : IsReady m notes) where
  get_proper : (asked : Part) (body : Body) →
      Gives (IsProper m.present notes caller 0) (get_part asked m.present notes caller body)
  unfolding get_part
  get_proper asked body = after (found_item m.present.graph body) _
      (body_found m.present.graph ready.shape.sources body) (λ f is. record {
        gives = record {
          grows = stays_grow m.present;
          noted = nothing_noted caller.conn m notes ready _ refl refl refl;
          few = omega arith;
          events = All-nil IsSayableEvent;
          answer = answer_whole asked f;
        };
      })

  same_proper : IsProper m.present notes caller 1 (unchanged m.present notes)
  same_proper = record {
    grows = stays_grow m.present;
    noted = nothing_noted caller.conn m notes ready _ refl refl refl;
    few = omega arith;
    events = All-nil IsSayableEvent;
    answer = tt;
  }

  changed_proper : (change : Change) (holder id : ℕ) (e : Event) → IsSayableEvent e →
      IsProper m.present notes caller 1
      (changed m.present notes (changed_by change holder id) (e ∷ []))
  changed_proper change holder id e can = record {
    grows = edit_grows (changed_by change holder id) m.present
        (change_more change holder id m.present.graph);
    noted = edit_noted (changed_by change holder id) caller.conn m notes ready None (e ∷ [])
        (change_more change holder id m.present.graph);
    few = omega arith;
    events = All-cons IsSayableEvent e [] can (All-nil IsSayableEvent);
    answer = tt;
  }

  quiet_proper : (change : Change) (holder id : ℕ) → IsProper m.present notes caller 0
      (changed m.present notes (changed_by change holder id) [])
  quiet_proper change holder id = record {
    grows = edit_grows (changed_by change holder id) m.present
        (change_more change holder id m.present.graph);
    noted = edit_noted (changed_by change holder id) caller.conn m notes ready None []
        (change_more change holder id m.present.graph);
    few = omega arith;
    events = All-nil IsSayableEvent;
    answer = tt;
  }

  flag_sayable : (which : Flag) (value : Bool) (f : Found) → IsFound m.present.graph f →
      IsSayableEvent (flag_event which value f.item.id (name_at m.present.graph f.holder) f.holder)
  flag_sayable flag.Enabled value f is =
      holder_short m.present.graph ready.shape.sources f is ready.serial
  flag_sayable flag.Locked value f is =
      holder_short m.present.graph ready.shape.sources f is ready.serial

  either_proper : (b : Bool) (x y : Effect) → IsProper m.present notes caller 1 x →
      IsProper m.present notes caller 1 y → IsProper m.present notes caller 1 (cond b x y)
  either_proper true x y first second = first
  either_proper false x y first second = second

  flagged_proper : (which : Flag) (f : Found) (value : Bool) → IsFound m.present.graph f →
      IsProper m.present notes caller 1 (flagged which m.present notes f value)
  unfolding flagged
  flagged_proper which f value is = either_proper (agree value (flag_of which f.item)) _ _ same_proper
      (changed_proper (flag_change which value) f.holder f.item.id _ (flag_sayable which value f is))

  set_proper : (which : Flag) (body : Body) →
      Gives (IsProper m.present notes caller 1) (set_flag which m.present notes caller body)
  unfolding set_flag
  set_proper which body =
      after (needed_fields body) _ (needed_named body) (λ fields a.
      after (sought_name (codes "sceneName") fields) _ (sought_name_named (codes "sceneName") fields)
      (λ name b. after (item_id fields) _ (item_id_named fields) (λ id d.
      after (need_bool (flag_key which) fields) _ (need_named as_bool (flag_key which) fields)
      (λ value e. after (item_named m.present.graph name id) _
      (named_found m.present.graph ready.shape.sources name id)
      (λ f is. record { gives = flagged_proper which f value is })))))

  remove_proper : (body : Body) →
      Gives (IsProper m.present notes caller 1) (remove_scene_item m.present notes caller body)
  unfolding remove_scene_item
  remove_proper body = after (found_item m.present.graph body) _
      (body_found m.present.graph ready.shape.sources body) (λ f is. record {
        gives = changed_proper Removed f.holder f.item.id (removed_event m.present.graph f) (
          holder_short m.present.graph ready.shape.sources f is ready.serial,
          child_short m.present.graph ready.shape.sources f is ready.serial,
        );
      })

  blend_proper : (body : Body) → Gives (IsProper m.present notes caller 0)
      (set_scene_item_blend_mode m.present notes caller body)
  unfolding set_scene_item_blend_mode
  blend_proper body =
      after (needed_fields body) _ (needed_named body) (λ fields a.
      after (sought_name (codes "sceneName") fields) _ (sought_name_named (codes "sceneName") fields)
      (λ name b. after (item_id fields) _ (item_id_named fields) (λ id d.
      after (blend_mode fields) _ (blend_mode_named fields) (λ blend e.
      after (item_named m.present.graph name id) _
      (named_found m.present.graph ready.shape.sources name id)
      (λ f is. record { gives = quiet_proper (Placed f.item.place blend) f.holder f.item.id })))))

  created_proper : (ends : Ends) (enabled : Bool) → EndsBelow m.present.graph ends →
      IsProper m.present notes caller 1 (item_creation m.present notes ends enabled)
  unfolding id_answer
  created_proper ends enabled below =
      let more : OneMore m.present.graph
      (item_added ends.holder ends.child (plain_spec enabled) m.present.graph) =
      added_more ends.holder ends.child (plain_spec enabled) m.present.graph in
      let e : Event = created_event m.present.graph ends.holder ends.child in
      record {
        grows = edit_grows (item_added ends.holder ends.child (plain_spec enabled)) m.present more;
        noted = edit_noted (item_added ends.holder ends.child (plain_spec enabled)) caller.conn m notes
            ready _ (e ∷ []) more;
        few = omega arith;
        events = All-cons IsSayableEvent e [] (
          short_below m.present.graph.next_serial ends.holder ready.serial below.0,
          short_below m.present.graph.next_serial ends.child ready.serial below.1,
        )
            (All-nil IsSayableEvent);
        answer = object_whole
            ((codes "sceneItemId", json.Int (pos (next_item m.present.graph ends.holder))) ∷ [])
            (int_whole (pos (next_item m.present.graph ends.holder)), tt);
      }

  create_proper : (body : Body) →
      Gives (IsProper m.present notes caller 1) (create_scene_item m.present notes caller body)
  unfolding create_scene_item
  create_proper body =
      after (needed_fields body) _ (needed_named body) (λ fields a.
      after (sought_name (codes "sceneName") fields) _ (sought_name_named (codes "sceneName") fields)
      (λ name b. after (sought_name (codes "sourceName") fields) _
      (sought_name_named (codes "sourceName") fields) (λ source_name d.
      after (opt_bool true (codes "sceneItemEnabled") fields) _
      (opt_bool_named true (codes "sceneItemEnabled") fields) (λ enabled e.
      after (ends_sought m.present.graph name source_name) _
      (ends_below m.present.graph ready.shape.sources name source_name) (λ ends below.
      after (refused_by (item_cause m.present.graph ends.holder ends.child
      (item_added ends.holder ends.child (plain_spec enabled) m.present.graph))) _
      (refused_by_named (item_cause m.present.graph ends.holder ends.child
      (item_added ends.holder ends.child (plain_spec enabled) m.present.graph)))
      (λ may allowed. record { gives = created_proper ends enabled below }))))))

  copied_proper : (f : Found) → IsFound m.present.graph f → (to : ℕ) →
      to < m.present.graph.next_serial →
      IsProper m.present notes caller 1 (item_copy m.present notes f to)
  unfolding id_answer
  copied_proper f is to below =
      let more : OneMore m.present.graph (item_duplicated f.holder f.item.id to m.present.graph) =
      copy_more f.holder f.item.id to m.present.graph in
      let e : Event = created_event m.present.graph to f.item.child in
      record {
        grows = edit_grows (item_duplicated f.holder f.item.id to) m.present more;
        noted = edit_noted (item_duplicated f.holder f.item.id to) caller.conn m notes ready _
            (e ∷ []) more;
        few = omega arith;
        events = All-cons IsSayableEvent e [] (
          short_below m.present.graph.next_serial to ready.serial below,
          child_short m.present.graph ready.shape.sources f is ready.serial,
        )
            (All-nil IsSayableEvent);
        answer = object_whole
            ((codes "sceneItemId", json.Int (pos (next_item m.present.graph to))) ∷ [])
            (int_whole (pos (next_item m.present.graph to)), tt);
      }

  duplicate_proper : (body : Body) →
      Gives (IsProper m.present notes caller 1) (duplicate_scene_item m.present notes caller body)
  unfolding duplicate_scene_item
  duplicate_proper body =
      after (needed_fields body) _ (needed_named body) (λ fields a.
      after (sought_name (codes "sceneName") fields) _ (sought_name_named (codes "sceneName") fields)
      (λ name b. after (item_id fields) _ (item_id_named fields) (λ id d.
      after (destination_name fields) _ (destination_name_named fields) (λ to_name e.
      after (item_named m.present.graph name id) _
      (named_found m.present.graph ready.shape.sources name id) (λ f is.
      after (destination m.present.graph f.holder to_name) _
      (destination_below m.present.graph ready.shape.sources f.holder
      (holder_below m.present.graph ready.shape.sources f is) to_name) (λ to below.
      after (refused_by (copy_cause m.present.graph f.holder f.item.id to
      (item_duplicated f.holder f.item.id to m.present.graph))) _
      (refused_by_named (copy_cause m.present.graph f.holder f.item.id to
      (item_duplicated f.holder f.item.id to m.present.graph)))
      (λ may allowed. record { gives = copied_proper f is to below })))))))

-- ---- all of them

pub items_are_proper : ItemsAreProper
items_are_proper m notes caller body item.CreateSceneItem ready =
    line_proper m.present notes caller 1 _ (create_proper m notes caller ready body)
items_are_proper m notes caller body item.DuplicateSceneItem ready =
    line_proper m.present notes caller 1 _ (duplicate_proper m notes caller ready body)
items_are_proper m notes caller body item.GetSceneItemBlendMode ready =
    line_proper m.present notes caller 0 _ (get_proper m notes caller ready part.BlendMode body)
items_are_proper m notes caller body item.GetSceneItemEnabled ready =
    line_proper m.present notes caller 0 _ (get_proper m notes caller ready part.Enabled body)
items_are_proper m notes caller body item.GetSceneItemIndex ready =
    line_proper m.present notes caller 0 _ (get_proper m notes caller ready part.Index body)
items_are_proper m notes caller body item.GetSceneItemLocked ready =
    line_proper m.present notes caller 0 _ (get_proper m notes caller ready part.Locked body)
items_are_proper m notes caller body item.RemoveSceneItem ready =
    line_proper m.present notes caller 1 _ (remove_proper m notes caller ready body)
items_are_proper m notes caller body item.SetSceneItemBlendMode ready =
    line_proper m.present notes caller 0 _ (blend_proper m notes caller ready body)
items_are_proper m notes caller body item.SetSceneItemEnabled ready =
    line_proper m.present notes caller 1 _ (set_proper m notes caller ready flag.Enabled body)
items_are_proper m notes caller body item.SetSceneItemLocked ready =
    line_proper m.present notes caller 1 _ (set_proper m notes caller ready flag.Locked body)
items_are_proper m notes caller body request ready = tt
