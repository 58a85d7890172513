-- A new row without items makes no row deeper or heavier; a new source lets no row die.
use Rattle.std.proofs.Common.{◌≡◌, ℕ, ◌+◌, Bool, true, false, cond, ◌&&◌, List, [], ◌∷◌, ◌++◌, map}
use Rattle.std.proofs.Common.{length, Option, Some, None, refl, ap, sym, ◌∙◌, arith, nat_le, nat_lt}
use Rattle.std.proofs.Common.{option_and_then, leb-true, le-ltb, not, ◌||◌, filter, eq-eqb}
use Rattle.std.specs.List.{list_all, list_any}
use Rattle.std.proofs.lemmas.List.{length-append, map-append}
use Rattle.std.proofs.lemmas.List.Folds.{list_all-append, list_all-map, list_any-append}
use Rattle.std.proofs.lemmas.List.Sums.{sum_by_push}
use Rattle.mix_model.specs.declared.kind.Kind.{Kind}
use Rattle.mix_model.specs.declared.kind.Kind.TheVariants.{Scene, Group}
use Rattle.mix_model.specs.declared.settings.Settings.{Settings}
use Rattle.mix_model.specs.declared.settings.Settings.TheVariants.{None as NoSettings}
use Rattle.mix_model.specs.declared.item.Item.{Item}
use Rattle.mix_model.specs.declared.row.Row.{Row}
use Rattle.mix_model.specs.Rows.{is_at, has_items, children_of, new_row, serials_of}
use Rattle.mix_model.specs.State.{GraphState}
use Rattle.mix_model.specs.Lookups.{is_row, row_of, registry, has_row}
use Rattle.mix_model.specs.Holders.{has_name, is_held, shows_some}
use Rattle.mix_model.specs.Ranks.{inside_of, inside_in, rank_by, rank_over, rank_in, rank}
use Rattle.mix_model.specs.Ranks.{weight_by, weight_over, weight_in, weight, ranks_within}
use Rattle.mix_model.specs.Ranks.{weights_within}
use Rattle.mix_model.specs.Values.{new_sound}
use Rattle.mix_model.specs.Causes.{item_count, late_cause, source_early, scene_cause, cause_or}
use Rattle.mix_model.specs.declared.fault.GraphFault.{GraphFault}
use Rattle.mix_model.specs.declared.fault.GraphFault.TheVariants.{Exists, TooMany}
use Rattle.mix_model.specs.Edits.{scene_created, input_created, group_created, shown_input_created}
use Rattle.mix_model.specs.Edits.{item_added}
use Rattle.mix_model.specs.Shape.{GraphShape, is_child}
use Rattle.mix_model.proofs.SetLemmas.{and_both, and_first, found_passes, all_imply, or_imply}
use Rattle.mix_model.proofs.DyingLemmas.{all_members, member_passes}
use Rattle.mix_model.proofs.DistinctLemmas.{row_is_listed}
use Rattle.mix_model.proofs.AlikeLemmas.{Alike, rank_alike, weight_alike, inside_all}
use Rattle.mix_shape.specs.Refused.{bare_cause}
use Rattle.mix_shape.proofs.WithLemmas.{rank_low, weight_low}
use Rattle.mix_shape.proofs.GrownShape.{found_more, new_found, unlisted}
use Rattle.std.proofs.lemmas.Bool.{or_left, or_right, true_from_ne_false, both_ways}
use Rattle.std.proofs.lemmas.List.Elements.{filter-append}
use Rattle.mix_model.specs.declared.item.ItemSpec.{ItemSpec}
use Rattle.mix_model.specs.Sets.{has}
use Rattle.mix_model.specs.Settle.{newly_dying}
use Rattle.mix_model.proofs.SteadyLemmas.{steady_serials}
use Rattle.mix_model.proofs.AddLemmas.{added_held}
use Rattle.mix_shape.specs.Created.{Wanted, input_made}
use Rattle.mix_shape.proofs.ThinnerLemmas.{held_in_registry}
use Rattle.mix_shape.proofs.SetShape.{scene_more, scene_there, input_more, input_there}
use Rattle.mix_shape.proofs.FrameShape.{none_die}
use Rattle.mix_shape.proofs.AddedShape.{at_parent, steady_parent}

-- what is inside a row is rows
children_there : (p : ℕ → Bool) (items : List Item) → list_all (λ i. p i.child) items ≡ true →
    list_all p (map (λ i. i.child) items) ≡ true
children_there p items all = list_all-map p (λ (i : Item). i.child) items ∙ all

module _ (name : List ℕ) (kind : Kind) (settings : Settings) (g : GraphState)
    (shape : GraphShape g) where
  abbrev row : Row
  row = new_row g.next_serial name kind settings new_sound

  abbrev rows : List Row
  rows = g.rows ++ row ∷ []

  inside_case : (x : ℕ) (o : Option Row) → row_of g x ≡ o →
      inside_all (is_row g) (option_and_then inside_of o) ≡ true
  inside_case x None found = refl
  inside_case x (Some r) found = kind_case (has_items r.kind)
    where
      items : list_all (λ i. is_row g i.child) r.items ≡ true
      items = all_imply (λ (i : Item). is_row g i.child && is_child g i.child)
          (λ (i : Item). is_row g i.child) (λ i h. and_first _ _ h) r.items
          (found_passes (is_at x)
          (λ (s : Row). list_all (λ i. is_row g i.child && is_child g i.child) s.items) g.rows r
          found shape.parts.rows.children_rows).1

      kind_case : (b : Bool) →
          inside_all (is_row g) (cond b (Some (children_of r)) None) ≡ true
      kind_case true = children_there (is_row g) r.items items
      kind_case false = refl

  inside_same : (x : ℕ) → is_row g x ≡ true → inside_in rows x ≡ inside_in g.rows x
  inside_same x there = ap (option_and_then inside_of)
      (found_more (unlisted name kind settings g) g shape.parts x (row_of g x) refl there)

  alike_here : (x : ℕ) → is_row g x ≡ true → Alike (inside_in rows x) (inside_in g.rows x)
  alike_here x there f =
      (ap (rank_over f) (inside_same x there), ap (weight_over f) (inside_same x there))

  rank_same : (x : ℕ) → is_row g x ≡ true → rank_in rows x ≡ rank_in g.rows x
  rank_same = rank_alike (is_row g) (inside_in rows) (inside_in g.rows) alike_here
      (λ y here. inside_case y (row_of g y) refl) 17

  weight_same : (x : ℕ) → is_row g x ≡ true → weight_in rows x ≡ weight_in g.rows x
  weight_same = weight_alike (is_row g) (inside_in rows) (inside_in g.rows) alike_here
      (λ y here. inside_case y (row_of g y) refl) 17

  own_inside : inside_in rows g.next_serial ≡ cond (has_items kind) (Some []) None
  unfolding new_row
  own_inside = ap (option_and_then inside_of)
      (new_found (unlisted name kind settings g) g shape.parts)

  -- a test of serials that all rows pass as before, and the new one
  serials_pass : (p q : ℕ → Bool) → ((x : ℕ) → is_row g x ≡ true → q x ≡ p x) →
      list_all (λ r. p r.serial) g.rows ≡ true → q g.next_serial ≡ true →
      list_all (λ r. q r.serial) rows ≡ true
  unfolding new_row
  serials_pass p q same all own =
      list_all-append (λ (r : Row). q r.serial) g.rows (row ∷ [])
      ∙ and_both _ _
      (sym (list_all-map q (λ (r : Row). r.serial) g.rows)
      ∙ all_members q (serials_of g.rows) (λ x here. same x (row_is_listed g.rows x ∙ here)
      ∙ member_passes p x (serials_of g.rows) here
      (list_all-map p (λ (r : Row). r.serial) g.rows ∙ all)))
      (and_both _ _ own refl)

  ranks_low : list_all (λ r. nat_le (rank_in rows r.serial) 16) rows ≡ true
  unfolding ranks_within
  ranks_low = serials_pass (λ x. nat_le (rank_in g.rows x) 16) (λ x. nat_le (rank_in rows x) 16)
      (λ x there. ap (λ n. nat_le n 16) (rank_same x there)) shape.limits.shallow
      (rw own_inside (rank_low (λ c. rank_by (inside_in rows) 16 c) (has_items kind)))

  weights_low : list_all (λ r. nat_le (weight_in rows r.serial) 4096) rows ≡ true
  unfolding weights_within
  weights_low = serials_pass (λ x. nat_le (weight_in g.rows x) 4096)
      (λ x. nat_le (weight_in rows x) 4096)
      (λ x there. ap (λ n. nat_le n 4096) (weight_same x there)) shape.limits.light
      (rw own_inside (weight_low (λ c. weight_by (inside_in rows) 16 c) (has_items kind)))

  items_low : nat_lt 2048 (item_count rows) ≡ false
  unfolding new_row
  items_low =
      let same : item_count rows ≡ item_count g.rows + length row.items =
      sum_by_push (λ (r : Row). length r.items) g.rows row in
      le-ltb 2048 (item_count rows)
      (omega (arith, same, leb-true (item_count g.rows) 2048 shape.limits.few_items))

  -- only the name and the number of rows are left to ask
  pub bare_is : (after : GraphState) → after.rows ≡ rows →
      scene_cause g name after ≡ bare_cause g name
  unfolding source_early late_cause ranks_within weights_within rank weight
  bare_is after same =
      let deep : list_all (λ r. nat_le (rank_in after.rows r.serial) 16) after.rows ≡ true =
      ap (λ rs. list_all (λ (r : Row). nat_le (rank_in rs r.serial) 16) rs) same ∙ ranks_low in
      let heavy : list_all (λ r. nat_le (weight_in after.rows r.serial) 4096) after.rows ≡ true =
      ap (λ rs. list_all (λ (r : Row). nat_le (weight_in rs r.serial) 4096) rs) same
      ∙ weights_low in
      let many : nat_lt 2048 (item_count after.rows) ≡ false =
      ap (λ rs. nat_lt 2048 (item_count rs)) same ∙ items_low in
      let long : length after.rows ≡ length g.rows + 1 =
      ap length same ∙ length-append g.rows (row ∷ []) in
      rw (deep, heavy, many, long) (name_case (has_name g name)
      (cond (nat_lt 512 (length g.rows + 1)) (Some (TooMany 512)) None))
    where
      name_case : (b : Bool) (rest : Option GraphFault) →
          cause_or (cond b (Some Exists) None) rest ≡ cond b (Some Exists) rest
      name_case true rest = refl
      name_case false rest = refl

pub bare_scene : (name : List ℕ) (g : GraphState) → GraphShape g →
    scene_cause g name (scene_created name g) ≡ bare_cause g name
unfolding scene_created
bare_scene name g shape = bare_is name Scene NoSettings g shape (scene_created name g) refl

pub bare_input : (name : List ℕ) (kind : Kind) (settings : Settings) (g : GraphState) →
    GraphShape g → scene_cause g name (input_created name kind settings g) ≡ bare_cause g name
unfolding input_created
bare_input name kind settings g shape =
    bare_is name kind settings g shape (input_created name kind settings g) refl

neither : (xs ys : List ℕ) → xs ≡ [] → ys ≡ [] → xs ++ ys ≡ []
neither xs ys first second = rw (first, second) refl

-- no row begins to die where one more is held, and what was held is
none_begin : (g h : GraphState) → GraphShape g →
    serials_of h.rows ≡ serials_of g.rows ++ g.next_serial ∷ [] → h.dying ≡ g.dying →
    ((x : ℕ) → is_held g x ≡ true → is_held h x ≡ true) → is_held h g.next_serial ≡ true →
    newly_dying h ≡ []
unfolding newly_dying
none_begin g h shape serials dying held own =
    ap (filter (λ x. not (is_held h x) && not (has x h.dying))) serials
    ∙ filter-append (λ x. not (is_held h x) && not (has x h.dying)) (serials_of g.rows)
    (g.next_serial ∷ [])
    ∙ neither (filter (λ x. not (is_held h x) && not (has x h.dying)) (serials_of g.rows))
    (filter (λ x. not (is_held h x) && not (has x h.dying)) (g.next_serial ∷ []))
    (ap (λ ds. filter (λ x. not (is_held h x) && not (has x ds)) (serials_of g.rows)) dying
    ∙ none_die (is_held g) (is_held h) (λ x. has x g.dying) held g.rows shape.dying_unheld)
    (last (is_held h g.next_serial) own)
  where
    last : (b : Bool) → b ≡ true →
        cond (not b && not (has g.next_serial h.dying)) (g.next_serial ∷ []) [] ≡ []
    last true is = refl
    last false is = cc

module _ (g : GraphState) (row : Row) (scenes inputs : List ℕ) where
  -- the sources with a new row, and a registry that has it or not
  abbrev bigger : GraphState
  bigger = record g {
    rows = g.rows ++ row ∷ [];
    next_serial = g.next_serial + 1;
    scenes = scenes;
    inputs = inputs;
  }

  module _ (more : (y : ℕ) → has y (registry g) ≡ true → has y (scenes ++ inputs) ≡ true) where
    held_more : (y : ℕ) → is_held g y ≡ true → is_held bigger y ≡ true
    unfolding is_held
    held_more y = or_imply _ _ _ _ (more y) (or_imply _ _ _ _ (λ a. a) (or_imply _ _ _ _
        (λ shown. list_any-append (shows_some y) g.rows (row ∷ []) ∙ or_left _ _ shown)
        (λ d. d)))

    module _ (shape : GraphShape g) (own : row.serial ≡ g.next_serial) where
      serials_are : serials_of bigger.rows ≡ serials_of g.rows ++ g.next_serial ∷ []
      serials_are = map-append (λ (r : Row). r.serial) g.rows (row ∷ [])
          ∙ ap (λ n. serials_of g.rows ++ n ∷ []) own

      bigger_lives : is_held bigger g.next_serial ≡ true → newly_dying bigger ≡ []
      bigger_lives = none_begin g bigger shape serials_are refl held_more

      -- and with an item that shows it
      shown_lives : (parent : ℕ) (spec : ItemSpec) →
          is_held (item_added parent g.next_serial spec bigger) g.next_serial ≡ true →
          newly_dying (item_added parent g.next_serial spec bigger) ≡ []
      unfolding item_added at_parent
      shown_lives parent spec = none_begin g (item_added parent g.next_serial spec bigger) shape
          (steady_serials (at_parent parent g.next_serial spec)
          (steady_parent parent g.next_serial spec) bigger.rows ∙ serials_are)
          refl
          (λ x held. added_held bigger parent g.next_serial spec x
          ∙ or_left _ _ (held_more x held))

serials_any : (x : ℕ) (rows : List Row) → has x (serials_of rows) ≡ list_any (is_at x) rows
serials_any x [] = refl
serials_any x (r ∷ rows) = ap (λ b. is_at x r || b) (serials_any x rows)

-- a row that is there is among the rows
row_among : (x : ℕ) (rows : List Row) → has_row rows x ≡ true → list_any (is_at x) rows ≡ true
row_among x rows there = true_from_ne_false _ (λ none. both_ways _
    (row_is_listed rows x ∙ serials_any x rows ∙ none) there)

pub scene_lets_live : (name : List ℕ) (g : GraphState) → GraphShape g →
    newly_dying (scene_created name g) ≡ []
unfolding scene_created new_row
scene_lets_live name g shape =
    bigger_lives g (new_row g.next_serial name Scene NoSettings new_sound)
    (g.scenes ++ g.next_serial ∷ []) g.inputs
    (λ y. scene_more g.next_serial y g.scenes g.inputs) shape refl
    (held_in_registry (scene_created name g) g.next_serial
    (scene_there g.next_serial g.scenes g.inputs))

pub group_lets_live : (name : List ℕ) (parent : ℕ) (spec : ItemSpec) (g : GraphState) →
    GraphShape g → is_row g parent ≡ true → newly_dying (group_created name parent spec g) ≡ []
unfolding group_created new_row
group_lets_live name parent spec g shape there =
    let row : Row = new_row g.next_serial name Group NoSettings new_sound in
    shown_lives g row g.scenes g.inputs (λ y here. here) shape refl parent spec
    (added_held (bigger g row g.scenes g.inputs) parent g.next_serial spec g.next_serial
    ∙ or_right _ _ (and_both _ _
    (list_any-append (is_at parent) g.rows (row ∷ []) ∙ or_left _ _ (row_among parent g.rows there))
    (eq-eqb g.next_serial g.next_serial refl)))

-- an input, shown or not
pub input_lets_live : (name : List ℕ) (kind : Kind) (settings : Settings) (wanted : Wanted)
    (g : GraphState) → GraphShape g → newly_dying (input_made name kind settings wanted g) ≡ []
unfolding shown_input_created input_created new_row
input_lets_live name kind settings None g shape =
    bigger_lives g (new_row g.next_serial name kind settings new_sound)
    g.scenes (g.inputs ++ g.next_serial ∷ [])
    (λ y. input_more g.next_serial y g.scenes g.inputs) shape refl
    (held_in_registry (input_created name kind settings g) g.next_serial
    (input_there g.next_serial g.scenes g.inputs))
input_lets_live name kind settings (Some w) g shape =
    let row : Row = new_row g.next_serial name kind settings new_sound in
    let more : List ℕ = g.inputs ++ g.next_serial ∷ [] in
    shown_lives g row g.scenes more (λ y. input_more g.next_serial y g.scenes g.inputs) shape refl
    w.0 w.1 (added_held (bigger g row g.scenes more) w.0 g.next_serial w.1 g.next_serial
    ∙ or_left _ _ (held_in_registry (bigger g row g.scenes more) g.next_serial
    (input_there g.next_serial g.scenes g.inputs)))
