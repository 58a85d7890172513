-- A removed source is held by holds and frames alone.
use Rattle.std.proofs.Common.{◌≡◌, ℕ, Bool, true, false, cond, not, ◌==◌, List, [], ◌∷◌, ◌++◌, ◌+◌}
use Rattle.std.proofs.Common.{map, filter, flat_map, refl, ap}
use Rattle.std.proofs.lemmas.List.Folds.{list_any-append}
use Rattle.mix_model.specs.declared.row.Row.{Row}
use Rattle.mix_model.specs.declared.item.Item.{Item}
use Rattle.mix_model.specs.Sets.{has, without}
use Rattle.mix_model.specs.Rows.{shows}
use Rattle.mix_model.specs.Items.{without_child}
use Rattle.mix_model.specs.State.{GraphState, Channel}
use Rattle.mix_model.specs.Lookups.{named_by}
use Rattle.mix_model.specs.Holders.{holders, channel_places, item_places, hold_place, frame_place}
use Rattle.mix_model.specs.Holders.{InItem}
use Rattle.mix_model.specs.Edits.{source_removed, emptied_of, no_row}

-- a number that is taken out isn't there
without_head : (b : Bool) (x y : ℕ) (xs : List ℕ) → (y == x) ≡ b → has x xs ≡ false →
    has x (cond (not b) (y ∷ xs) xs) ≡ false
without_head true x y xs same none = none
without_head false x y xs other none = rw (other, none)

without_none : (x : ℕ) (xs : List ℕ) → has x (without x xs) ≡ false
without_none x [] = refl
without_none x (y ∷ xs) = without_head (y == x) x y (without x xs) refl (without_none x xs)

-- an emptied channel names nothing of it
emptied_names : (x : ℕ) (channel : Channel) (b : Bool) → has x (named_by channel) ≡ b →
    has x (named_by (cond b no_row channel)) ≡ false
emptied_names x channel true named = refl
emptied_names x channel false named = named

emptied_places : (x number : ℕ) (channels : List Channel) →
    channel_places x number (map (emptied_of x) channels) ≡ []
emptied_places x number [] = refl
emptied_places x number (channel ∷ channels) =
    rw (emptied_names x channel (has x (named_by channel)) refl)
    (emptied_places x (number + 1) channels)

-- a row without the items that show it has no place for it
item_head : (b : Bool) (x : ℕ) (i : Item) (items : List Item) → shows x i ≡ b →
    filter (shows x) items ≡ [] → filter (shows x) (cond (not b) (i ∷ items) items) ≡ []
item_head true x i items same none = none
item_head false x i items other none = rw (other) none

no_item : (x : ℕ) (items : List Item) →
    filter (shows x) (filter (λ i. not (shows x i)) items) ≡ []
no_item x [] = refl
no_item x (i ∷ items) =
    item_head (shows x i) x i (filter (λ j. not (shows x j)) items) refl (no_item x items)

no_place : (x : ℕ) (row : Row) → item_places x (without_child x row) ≡ []
unfolding without_child
no_place x row = ap (map (λ i. InItem row.serial i.id)) (no_item x row.items)

no_places : (x : ℕ) (rows : List Row) →
    flat_map (item_places x) (map (without_child x) rows) ≡ []
no_places x [] = refl
no_places x (row ∷ rows) = rw (no_place x row, no_places x rows)

pub removed_held : (g : GraphState) (x : ℕ) → holders (source_removed x g) x
    ≡ flat_map (hold_place x) g.holds ++ flat_map (frame_place x) g.frames
unfolding source_removed holders
removed_held g x =
    rw (
      list_any-append (λ y. y == x) (without x g.scenes) (without x g.inputs),
      without_none x g.scenes,
      without_none x g.inputs,
      emptied_places x 0 g.channels,
      no_places x g.rows,
    )
