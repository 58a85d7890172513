-- The test for a holder, and the list of places.
use Rattle.std.proofs.Common.{◌≡◌, ℕ, suc, ◌+◌, Bool, true, false, ◌||◌, List, [], ◌∷◌, ◌++◌, map}
use Rattle.std.proofs.Common.{filter, flat_map, length, nat_lt, refl, sym, cond, ◌∙◌, lt-ltb, arith}
use Rattle.std.specs.List.{list_any}
use Rattle.mix_model.specs.declared.row.Row.{Row}
use Rattle.mix_model.specs.Sets.{has}
use Rattle.mix_model.specs.Rows.{shows}
use Rattle.mix_model.specs.State.{GraphState, Channel}
use Rattle.mix_model.specs.Lookups.{registry}
use Rattle.mix_model.specs.Holders.{Holder, InChannel, InRegistry, InItem, InHold, InFrame, holders}
use Rattle.mix_model.specs.Holders.{is_held, place_if, channel_places, item_places, hold_place}
use Rattle.mix_model.specs.Holders.{frame_place, names, shows_some, is_on, lists}

-- whether there is some element
some : {X : Type 0} → List X → Bool
some [] = false
some (x ∷ xs) = true

some_length : {X : Type 0} (xs : List X) → some xs ≡ nat_lt 0 (length xs)
unfolding some
some_length [] = refl
some_length (x ∷ xs) = sym (lt-ltb 0 (suc (length xs)) (omega arith))

some_append : {X : Type 0} (xs ys : List X) → some (xs ++ ys) ≡ (some xs || some ys)
unfolding some
some_append [] ys = refl
some_append (x ∷ xs) ys = refl

some_place : (b : Bool) (place : Holder) → some (place_if b place) ≡ b
unfolding some
some_place true place = refl
some_place false place = refl

some_channel : (x number : ℕ) (channels : List Channel) →
    some (channel_places x number channels) ≡ list_any (names x) channels
unfolding some
some_channel x number [] = refl
some_channel x number (channel ∷ channels) =
    rw (
      some_append (place_if (names x channel) (InChannel number))
          (channel_places x (number + 1) channels),
      some_place (names x channel) (InChannel number),
      some_channel x (number + 1) channels,
    )

some_map : {X Y : Type 0} (f : X → Y) (xs : List X) → some (map f xs) ≡ some xs
unfolding some
some_map f [] = refl
some_map f (x ∷ xs) = refl

some_filter : {X : Type 0} (p : X → Bool) (xs : List X) → some (filter p xs) ≡ list_any p xs
unfolding some
some_filter p [] = refl
some_filter {X} p (x ∷ xs) = (elim (p x) as (λ b. some (cond b (x ∷ filter p xs) (filter p xs))
    ≡ (b || list_any p xs)) [ true ↦ refl | false ↦ some_filter p xs ])

some_flat : {X Y : Type 0} (f : X → List Y) (p : X → Bool) → ((x : X) → some (f x) ≡ p x) →
    (xs : List X) → some (flat_map f xs) ≡ list_any p xs
unfolding some
some_flat f p same [] = refl
some_flat f p same (x ∷ xs) =
    rw (some_append (f x) (flat_map f xs), same x, some_flat f p same xs)

some_item : (x : ℕ) (row : Row) → some (item_places x row) ≡ shows_some x row
some_item x row = rw (some_map (λ i. InItem row.serial i.id) (filter (shows x) row.items))
    (some_filter (shows x) row.items)

some_holder : (g : GraphState) (x : ℕ) → some (holders g x) ≡ is_held g x
unfolding holders is_held
some_holder g x =
    let channels : List Holder = channel_places x 0 g.channels in
    let items : List Holder = flat_map (item_places x) g.rows in
    let holds : List Holder = flat_map (hold_place x) g.holds in
    let frames : List Holder = flat_map (frame_place x) g.frames in
    rw (
      some_append (place_if (has x (registry g)) InRegistry)
          (channels ++ (items ++ (holds ++ frames))),
      some_place (has x (registry g)) InRegistry,
      some_append channels (items ++ (holds ++ frames)),
      some_channel x 0 g.channels,
      some_append items (holds ++ frames),
      some_flat (item_places x) (shows_some x) (some_item x) g.rows,
      some_append holds frames,
      some_flat (hold_place x) (is_on x) (λ h. some_place (is_on x h) (InHold h.id)) g.holds,
      some_flat (frame_place x) (lists x) (λ f. some_place (lists x f) (InFrame f.number))
          g.frames,
    )

pub held_is_placed : (g : GraphState) (x : ℕ) → is_held g x ≡ nat_lt 0 (length (holders g x))
held_is_placed g x = sym (some_holder g x) ∙ some_length (holders g x)
