-- Channels, holds, watches, the preview and the clock: each edit of these keeps what holds of the
-- sources.
use Rattle.std.proofs.Common.{◌≡◌, ℕ, ◌+◌, ◌==◌, Bool, true, false, not, List, [], ◌∷◌, ◌++◌, map}
use Rattle.std.proofs.Common.{filter, length, Option, Some, None, refl, ap, sym, ◌∙◌, arith, nat_le}
use Rattle.std.proofs.Common.{nat_lt, le-leb, eqb-true, subst, option_to_list, ltb-false, zero, suc}
use Rattle.std.proofs.Common.{◌&&◌, ◌||◌, take, drop, set, is_some, inl, inr}
use Rattle.std.specs.List.{list_all, list_any}
use Rattle.std.proofs.lemmas.Bool.{not-false, or_parts, not-true, both_ways, and_left, cond-true}
use Rattle.std.proofs.lemmas.Bool.{cond-false, ne_eqb}
use Rattle.std.proofs.lemmas.List.{length-append, map-append, length-set}
use Rattle.std.proofs.lemmas.List.Folds.{list_all-append, list_all-map, list_any-append}
use Rattle.mix_model.specs.Sets.{has, is_distinct}
use Rattle.mix_model.specs.Rows.{serials_of, is_scene, is_input, is_group}
use Rattle.mix_model.specs.State.{GraphState, Hold, Watch, Channel}
use Rattle.mix_model.specs.Lookups.{is_row, row_passes, registry, named_by}
use Rattle.mix_model.specs.Holders.{is_held, is_named, is_on, is_named_row, names}
use Rattle.mix_model.specs.Causes.{hold_cause, watch_cause}
use Rattle.mix_model.specs.Edits.{hold_made, watch_made, hold_released, watch_dropped, preview_set}
use Rattle.mix_model.specs.Edits.{clock_set, let_go, channel_set}
use Rattle.mix_model.specs.Shape.{GraphShape, BesideFits, HoldsFit, WatchesFit, is_preview}
use Rattle.mix_model.specs.Shape.{ids_below, are_rows, is_child, is_side_channel}
use Rattle.mix_model.specs.Shape.{is_program_channel}
use Rattle.mix_model.specs.EditedShape.{EditedShape}
use Rattle.mix_model.proofs.SetLemmas.{and_both, and_first, and_second, or_cases, or_left, or_right}
use Rattle.mix_model.proofs.SetLemmas.{all_imply}
use Rattle.mix_model.proofs.DyingLemmas.{member_passes, all_members}
use Rattle.mix_model.proofs.DistinctLemmas.{row_is_listed, all_filter}
use Rattle.mix_shape.specs.Refused.{is_missing, is_no_other, may_be_set}
use Rattle.mix_shape.proofs.SumLemmas.{any_kept, any_last, none_all}
use Rattle.mix_shape.proofs.ThinnerLemmas.{channel_holds, hold_holds, frame_holds}
use Rattle.mix_shape.proofs.BesideShape.{beside_shape}
use Rattle.mix_shape.proofs.GrownShape.{named_is_held, named_is_row, no_cause, ids_more, ids_fewer}
use Rattle.mix_shape.proofs.GrownShape.{filter_length, Named, named_row, named_is_child}
use Rattle.std.specs.Option.{option_map_or}
use Rattle.mix_model.specs.declared.kind.Kind.{Kind}
use Rattle.mix_model.specs.declared.kind.Kind.TheVariants.{Scene, Group, Color, Checker, Scroll}
use Rattle.mix_model.specs.declared.kind.Kind.TheVariants.{Raster, Tone}
use Rattle.mix_model.specs.declared.row.Row.{Row}

pub length_more : {X : Type 0} (xs : List X) (x : X) (most : ℕ) →
    nat_lt most (length xs + 1) ≡ false → nat_le (length (xs ++ x ∷ [])) most ≡ true
length_more {X} xs x most none = le-leb (length (xs ++ x ∷ [])) most
    (omega (arith, length-append xs (x ∷ []), ltb-false most (length xs + 1) none))

-- what a hold on a held row holds is held
pub held_on : (g : GraphState) (x y : ℕ) → is_held g x ≡ true → (x == y) ≡ true →
    is_held g y ≡ true
held_on g x y held same = subst (λ z. is_held g z ≡ true) (eqb-true x y same) held

pub serial_below : (g : GraphState) → GraphShape g → (x : ℕ) → is_row g x ≡ true →
    nat_lt x g.next_serial ≡ true
serial_below g shape x there =
    member_passes (λ y. nat_lt y g.next_serial) x (serials_of g.rows)
    (sym (row_is_listed g.rows x) ∙ there) shape.parts.rows.serials_below

module _ (g : GraphState) (shape : GraphShape g) where
  abbrev b : BesideFits g
  b = shape.parts.beside

  -- a hold more
  hold_shape : (x : ℕ) → is_named g x ≡ true → nat_lt 256 (length g.holds + 1) ≡ false →
      EditedShape (hold_made x g)
  unfolding hold_made
  hold_shape x named few =
      let new : Hold = record { id = g.next_hold; serial = x } in
      let holds : List Hold = g.holds ++ new ∷ [] in
      beside_shape g g.channels g.preview holds g.watches g.frames g.clock (g.next_hold + 1)
      g.next_watch shape
      (channel_holds g) (λ y. any_last (is_on y) g.holds new (is_held g y ≡ true) (hold_holds g y)
      (held_on g x y (named_is_held g x named))) (frame_holds g)
      b.channels b.preview_scene
      (record {
        hold_ids = ap (ids_below (g.next_hold + 1))
            (map-append (λ (h : Hold). h.id) g.holds (new ∷ []))
            ∙ ids_more g.next_hold (map (λ (h : Hold). h.id) g.holds) b.holds.hold_ids;
        holds_rows = ap (are_rows g) (map-append (λ (h : Hold). h.serial) g.holds (new ∷ []))
            ∙ list_all-append (is_row g) (map (λ (h : Hold). h.serial) g.holds) (x ∷ [])
            ∙ and_both _ _ b.holds.holds_rows (and_both _ _ (named_is_row g x named) refl);
        few_holds = length_more g.holds new 256 few;
      })
      b.watches b.frames

  -- a watch more
  watch_shape : (x : ℕ) → is_named g x ≡ true → nat_lt 256 (length g.watches + 1) ≡ false →
      EditedShape (watch_made x g)
  unfolding watch_made
  watch_shape x named few =
      let new : Watch = record { id = g.next_watch; serial = x } in
      let watches : List Watch = g.watches ++ new ∷ [] in
      beside_shape g g.channels g.preview g.holds watches g.frames g.clock g.next_hold
      (g.next_watch + 1) shape
      (channel_holds g) (hold_holds g) (frame_holds g)
      b.channels b.preview_scene b.holds
      (record {
        watch_ids = ap (ids_below (g.next_watch + 1))
            (map-append (λ (w : Watch). w.id) g.watches (new ∷ []))
            ∙ ids_more g.next_watch (map (λ (w : Watch). w.id) g.watches) b.watches.watch_ids;
        watched_before = list_all-append (λ (w : Watch). nat_lt w.serial g.next_serial) g.watches
            (new ∷ [])
            ∙ and_both _ _ b.watches.watched_before
            (and_both _ _ (serial_below g shape x (named_is_row g x named)) refl);
        few_watches = length_more g.watches new 256 few;
      })
      b.frames

  -- the clock, and the preview
  beside_only : (clock : ℕ) (preview : Option ℕ) → is_preview g preview ≡ true →
      EditedShape (record g { clock = clock; preview = preview })
  beside_only clock preview fits =
      beside_shape g g.channels preview g.holds g.watches g.frames clock g.next_hold g.next_watch
      shape
      (channel_holds g) (hold_holds g) (frame_holds g)
      b.channels fits b.holds b.watches b.frames

pub hold_made_shape : (x : ℕ) (g : GraphState) → GraphShape g → hold_cause g x ≡ None →
    EditedShape (hold_made x g)
unfolding hold_cause
hold_made_shape x g shape none =
    let first = no_cause (not (is_named g x)) _ _ none in
    hold_shape g shape x (not-false (is_named g x) first.0)
    (no_cause (nat_lt 256 (length g.holds + 1)) _ _ first.1).0

pub watch_made_shape : (x : ℕ) (g : GraphState) → GraphShape g → watch_cause g x ≡ None →
    EditedShape (watch_made x g)
unfolding watch_cause
watch_made_shape x g shape none =
    let first = no_cause (not (is_named g x)) _ _ none in
    watch_shape g shape x (not-false (is_named g x) first.0)
    (no_cause (nat_lt 256 (length g.watches + 1)) _ _ first.1).0

-- holds and watches fewer
holds_kept : (kept : Hold → Bool) (g : GraphState) → GraphShape g →
    HoldsFit g.rows (filter kept g.holds) g.next_hold
holds_kept kept g shape =
    let b : BesideFits g = shape.parts.beside in
    record {
      hold_ids = ids_fewer (λ (h : Hold). h.id) kept g.next_hold g.holds b.holds.hold_ids;
      holds_rows = list_all-map (is_row g) (λ (h : Hold). h.serial) (filter kept g.holds)
          ∙ all_filter (λ (h : Hold). is_row g h.serial) kept g.holds
          (sym (list_all-map (is_row g) (λ (h : Hold). h.serial) g.holds) ∙ b.holds.holds_rows);
      few_holds = filter_length kept 256 g.holds b.holds.few_holds;
    }

watches_kept : (kept : Watch → Bool) (g : GraphState) → GraphShape g →
    WatchesFit (filter kept g.watches) g.next_watch g.next_serial
watches_kept kept g shape =
    let b : BesideFits g = shape.parts.beside in
    record {
      watch_ids = ids_fewer (λ (w : Watch). w.id) kept g.next_watch g.watches b.watches.watch_ids;
      watched_before = all_filter (λ (w : Watch). nat_lt w.serial g.next_serial) kept g.watches
          b.watches.watched_before;
      few_watches = filter_length kept 256 g.watches b.watches.few_watches;
    }

pub hold_released_shape : (id : ℕ) (g : GraphState) → GraphShape g →
    EditedShape (hold_released id g)
unfolding hold_released
hold_released_shape id g shape =
    let b : BesideFits g = shape.parts.beside in
    let kept : Hold → Bool = λ h. not (h.id == id) in
    beside_shape g g.channels g.preview (filter kept g.holds) g.watches g.frames g.clock
    g.next_hold g.next_watch shape
    (channel_holds g) (λ y on. hold_holds g y (any_kept (is_on y) kept g.holds on)) (frame_holds g)
    b.channels b.preview_scene (holds_kept kept g shape) b.watches b.frames

pub watch_dropped_shape : (id : ℕ) (g : GraphState) → GraphShape g →
    EditedShape (watch_dropped id g)
unfolding watch_dropped
watch_dropped_shape id g shape =
    let b : BesideFits g = shape.parts.beside in
    let kept : Watch → Bool = λ w. not (w.id == id) in
    beside_shape g g.channels g.preview g.holds (filter kept g.watches) g.frames g.clock
    g.next_hold g.next_watch shape (channel_holds g) (hold_holds g) (frame_holds g)
    b.channels b.preview_scene b.holds (watches_kept kept g shape) b.frames

pub let_go_shape : (holds watches : List ℕ) (g : GraphState) → GraphShape g →
    EditedShape (let_go holds watches g)
unfolding let_go
let_go_shape holds watches g shape =
    let b : BesideFits g = shape.parts.beside in
    let held : Hold → Bool = λ h. not (has h.id holds) in
    let watched : Watch → Bool = λ w. not (has w.id watches) in
    beside_shape g g.channels g.preview (filter held g.holds) (filter watched g.watches) g.frames
    g.clock g.next_hold g.next_watch shape
    (channel_holds g) (λ y on. hold_holds g y (any_kept (is_on y) held g.holds on)) (frame_holds g)
    b.channels b.preview_scene (holds_kept held g shape) (watches_kept watched g shape) b.frames

pub clock_set_shape : (clock : ℕ) (g : GraphState) → GraphShape g →
    EditedShape (clock_set clock g)
unfolding clock_set
clock_set_shape clock g shape =
    beside_only g shape clock g.preview shape.parts.beside.preview_scene

-- the preview refers to nothing, or to a scene
preview_fits : (g : GraphState) → GraphShape g → (to : Option ℕ) →
    list_any (is_missing g) (option_to_list to) ≡ false →
    list_all (is_no_other g) (option_to_list to) ≡ true → is_preview g to ≡ true
preview_fits g shape None there scene = refl
preview_fits g shape (Some x) there scene =
    and_both _ _ (serial_below g shape x
    (named_is_row g x (not-false (is_named g x) (or_parts _ _ there).0)))
    (and_first _ _ scene)

pub preview_set_shape : (to : Option ℕ) (g : GraphState) → GraphShape g →
    list_any (is_missing g) (option_to_list to) ≡ false →
    list_all (is_no_other g) (option_to_list to) ≡ true → EditedShape (preview_set to g)
unfolding preview_set
preview_set_shape to g shape there scene =
    beside_only g shape g.clock to (preview_fits g shape to there scene)

-- what a list with one element written passes
all_set : {X : Type 0} (p : X → Bool) (xs : List X) (n : ℕ) (x : X) → list_all p xs ≡ true →
    p x ≡ true → list_all p (set xs n x) ≡ true
all_set p [] n x all here = refl
all_set p (y ∷ xs) zero x all here = and_both _ _ here (and_second _ _ all)
all_set p (y ∷ xs) (suc n) x all here =
    and_both _ _ (and_first _ _ all) (all_set p xs n x (and_second _ _ all) here)

any_set : {X : Type 0} (p : X → Bool) (xs : List X) (n : ℕ) (x : X) (P : Type 0) →
    (list_any p xs ≡ true → P) → (p x ≡ true → P) → list_any p (set xs n x) ≡ true → P
any_set p [] n x P old new h = cc
any_set p (y ∷ xs) zero x P old new h = elim (or_cases _ _ h) [
  | inl here ↦ new here
  | inr later ↦ old (or_right (p y) _ later)
]
any_set p (y ∷ xs) (suc n) x P old new h = elim (or_cases _ _ h) [
  | inl here ↦ old (or_left (p y) _ here)
  | inr later ↦ any_set p xs n x P (λ rest. old (or_right (p y) _ rest)) new later
]

-- the first channel and the others, where one is written
first_set : (p : Channel → Bool) (cs : List Channel) (n : ℕ) (c : Channel) →
    list_all p (take 1 cs) ≡ true → ((n == 0) ≡ true → p c ≡ true) →
    list_all p (take 1 (set cs n c)) ≡ true
first_set p [] n c all here = refl
first_set p (d ∷ cs) zero c all here = and_both _ _ (here refl) refl
first_set p (d ∷ cs) (suc n) c all here = all

others_set : (p : Channel → Bool) (cs : List Channel) (n : ℕ) (c : Channel) →
    list_all p (drop 1 cs) ≡ true → ((n == 0) ≡ false → p c ≡ true) →
    list_all p (drop 1 (set cs n c)) ≡ true
others_set p [] n c all here = refl
others_set p (d ∷ cs) zero c all here = all
others_set p (d ∷ cs) (suc n) c all here =
    all_set p cs n c all (here (ne_eqb (suc n) 0 (λ same. omega (arith, same))))

-- the one that holds of two
pub or_only : (a b : Bool) → b ≡ false → (a || b) ≡ true → a ≡ true
or_only true b none some = refl
or_only false b none some = absurd (both_ways b none some)

-- a scene is no input and no group
not_both : (scene group : Bool) → not (scene || group) ≡ true → scene ≡ true → ⊥
not_both true group input scene = cc
not_both false group input scene = cc

scene_no_group : (kind : Kind) → is_scene kind ≡ true → is_group kind ≡ false
scene_no_group Scene scene = refl
scene_no_group Group scene = cc
scene_no_group Color scene = refl
scene_no_group Checker scene = refl
scene_no_group Scroll scene = refl
scene_no_group Raster scene = refl
scene_no_group Tone scene = refl

-- a named scene is in the registry's list of scenes
pub scene_listed : (g : GraphState) → GraphShape g → (x : ℕ) → is_named g x ≡ true →
    is_no_other g x ≡ true → has x g.scenes ≡ true
unfolding is_named_row
scene_listed g shape x named other =
    let n : Named g x = named_row g x named in
    let passes : row_passes g (λ r. is_scene r.kind) x ≡ true =
    passed (is_row g x) (named_is_row g x named) other in
    let scene : is_scene n.row.kind ≡ true =
    sym (ap (λ o. option_map_or (λ (r : Row). is_scene r.kind) o false) n.found) ∙ passes in
    let here : has x (registry g) ≡ true = subst (λ y. has y (registry g) ≡ true) n.serial
    (or_only (has n.row.serial (registry g)) _ (and_left _ _ (scene_no_group n.row.kind scene))
    n.named) in
    elim (or_cases (has x g.scenes) (has x g.inputs)
    (sym (list_any-append (λ y. y == x) g.scenes g.inputs) ∙ here)) [
      | inl listed ↦ listed
      | inr listed ↦
          let input : is_input n.row.kind ≡ true =
          sym (ap (λ o. option_map_or (λ (r : Row). is_input r.kind) o false) n.found)
          ∙ member_passes (row_passes g (λ r. is_input r.kind)) x g.inputs listed
          shape.parts.registry.inputs_inputs in
          absurd (not_both (is_scene n.row.kind) (is_group n.row.kind) input scene)
    ]
  where
    passed : (b : Bool) → b ≡ true → (not b || row_passes g (λ r. is_scene r.kind) x) ≡ true →
        row_passes g (λ r. is_scene r.kind) x ≡ true
    passed true there h = h
    passed false there h = cc

module _ (number : ℕ) (channel : Channel) (g : GraphState) (shape : GraphShape g)
    (given : may_be_set g number channel ≡ true)
    (there : list_any (is_missing g) (named_by channel) ≡ false) where
  all_named : list_all (is_named g) (named_by channel) ≡ true
  all_named = all_imply (λ x. not (is_missing g x)) (is_named g)
      (λ x kept. not-false (is_named g x) (not-true _ kept)) (named_by channel)
      (none_all (is_missing g) (named_by channel) there)

  -- what it names is held
  newly_held : (y : ℕ) → names y channel ≡ true → is_held g y ≡ true
  newly_held y named = named_is_held g y
      (member_passes (is_named g) y (named_by channel) named all_named)

  program_fits : (number == 0) ≡ true → is_program_channel g channel ≡ true
  program_fits program =
      let ok : ((is_some channel.0 && is_distinct (named_by channel))
      && list_all (is_no_other g) (named_by channel)) ≡ true =
      sym (cond-true (number == 0) _ (not (is_some channel.1)) program) ∙ given in
      and_both _ _ (and_both _ _
      (all_members (λ x. has x g.scenes) (named_by channel) (λ x here.
      scene_listed g shape x (member_passes (is_named g) x (named_by channel) here all_named)
      (member_passes (is_no_other g) x (named_by channel) here (and_second _ _ ok))))
      (and_second (is_some channel.0) (is_distinct (named_by channel)) (and_first _ _ ok)))
      (or_left (is_some channel.0) (not (is_some channel.1))
      (and_first (is_some channel.0) (is_distinct (named_by channel)) (and_first _ _ ok)))

  side_fits : (number == 0) ≡ false → is_side_channel g channel ≡ true
  side_fits apart =
      and_both _ _ (all_imply (is_named g) (is_child g) (named_is_child g) (named_by channel)
      all_named) (sym (cond-false (number == 0) (is_some channel.0
      && is_distinct (named_by channel) && list_all (is_no_other g) (named_by channel)) _ apart)
      ∙ given)

  pub channel_set_shape : EditedShape (channel_set number channel g)
  unfolding channel_set
  channel_set_shape =
      let b : BesideFits g = shape.parts.beside in
      let channels : List Channel = set g.channels number channel in
      beside_shape g channels g.preview g.holds g.watches g.frames g.clock g.next_hold
      g.next_watch shape
      (λ y. any_set (names y) g.channels number channel (is_held g y ≡ true) (channel_holds g y)
      (newly_held y)) (hold_holds g) (frame_holds g)
      (record {
        channel_count = ap (λ n. n == 64) (length-set g.channels number channel)
            ∙ b.channels.channel_count;
        program_channel = first_set (is_program_channel g) g.channels number channel
            b.channels.program_channel program_fits;
        side_channels = others_set (is_side_channel g) g.channels number channel
            b.channels.side_channels side_fits;
      })
      b.preview_scene b.holds b.watches b.frames

-- neither of two that may be given is missing
pub neither_passes : (t : ℕ → Bool) (first second : Option ℕ) →
    list_any t (option_to_list first) ≡ false → list_any t (option_to_list second) ≡ false →
    list_any t (named_by (first, second)) ≡ false
neither_passes t first second one two =
    list_any-append t (option_to_list first) (option_to_list second) ∙ rw (one, two)
