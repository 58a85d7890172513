-- What the settling leaves as it was.
use Rattle.std.proofs.Common.{◌≡◌, ℕ, zero, suc, Bool, true, false, cond, ◌&&◌, ◌||◌, List, [], ◌∷◌}
use Rattle.std.proofs.Common.{map, find, flat_map, ◌==◌, Option, Some, None, refl, ap, is_some}
use Rattle.std.proofs.Common.{option_map, option_and_then}
use Rattle.std.specs.List.{list_any}
use Rattle.std.specs.Option.{option_map_or}
use Rattle.mix_model.specs.Rows.{is_at, visible_children_of}
use Rattle.mix_model.specs.State.{GraphState}
use Rattle.mix_model.specs.Lookups.{row_of, is_row, visible_children, channel_roots}
use Rattle.mix_model.specs.Holders.{shows_some, holders, is_held, item_places}
use Rattle.mix_model.specs.Walks.{leads, is_walked, is_reached, is_active, is_showing, upgrade}
use Rattle.mix_model.specs.Walks.{showing_roots}
use Rattle.mix_model.specs.Settle.{settle, with_since}

-- a change of each element that a function doesn't see
unseen_flat_map : {X Y : Type 0} (f : X → List Y) (h : X → X) → ((x : X) → f (h x) ≡ f x) →
    (xs : List X) → flat_map f (map h xs) ≡ flat_map f xs
unseen_flat_map f h unseen [] = refl
unseen_flat_map f h unseen (x ∷ xs) = rw (unseen x, unseen_flat_map f h unseen xs)

-- a look-up finds the changed element where the change isn't seen by the test
pub find_changed : {X : Type 0} (p : X → Bool) (h : X → X) → ((x : X) → p (h x) ≡ p x) → (xs : List X) →
    find p (map h xs) ≡ option_map h (find p xs)
find_changed p h same [] = refl
find_changed {X} p h same (x ∷ xs) =
    rw (same x) ((elim (p x) as (λ b. cond b (Some (h x)) (find p (map h xs))
    ≡ option_map h (cond b (Some x) (find p xs))) [
      | true ↦ refl
      | false ↦ find_changed p h same xs
    ]))

-- what isn't seen of a change of what was found
pub unseen_option : {X Y : Type 0} (f : X → Y) (d : Y) (h : X → X) → ((x : X) → f (h x) ≡ f x) →
    (o : Option X) → option_map_or f (option_map h o) d ≡ option_map_or f o d
unseen_option f d h unseen None = refl
unseen_option f d h unseen (Some x) = unseen x

pub some_changed : {X : Type 0} (h : X → X) (o : Option X) → is_some (option_map h o) ≡ is_some o
some_changed h None = refl
some_changed h (Some x) = refl

any_congr : (p q : ℕ → Bool) → ((x : ℕ) → p x ≡ q x) → (xs : List ℕ) →
    list_any p xs ≡ list_any q xs
any_congr p q same [] = refl
any_congr p q same (x ∷ xs) = rw (same x, any_congr p q same xs)

-- equal next rows give equal walks
leads_congr : (next other : ℕ → List ℕ) → ((y : ℕ) → next y ≡ other y) → (n from to : ℕ) →
    leads next n from to ≡ leads other n from to
leads_congr next other same zero from to = refl
leads_congr next other same (suc n) from to =
    rw (same from) (ap (λ b. (from == to) || b)
    (any_congr (λ x. leads next n x to) (λ x. leads other n x to)
    (λ x. leads_congr next other same n x to) (other from)))

-- the settled rows have the visible children, and the presence, that they had
settled_children : (old new : GraphState) (y : ℕ) →
    visible_children (settle old new) y ≡ visible_children new y
unfolding settle with_since
settled_children old new y =
    rw (find_changed (is_at y) (with_since old new) (λ r. refl) new.rows)
    (unseen_option visible_children_of [] (with_since old new) (λ r. refl) (row_of new y))

settled_row : (old new : GraphState) (y : ℕ) → is_row (settle old new) y ≡ is_row new y
unfolding settle with_since
settled_row old new y =
    rw (find_changed (is_at y) (with_since old new) (λ r. refl) new.rows)
    (some_changed (with_since old new) (row_of new y))

-- the settling changes nobody's holders
pub settled_holders : (old new : GraphState) (x : ℕ) →
    holders (settle old new) x ≡ holders new x
unfolding settle with_since holders
settled_holders old new x =
    rw (unseen_flat_map (item_places x) (with_since old new) (λ r. refl) new.rows)

pub any_changed : {X : Type 0} (p : X → Bool) (h : X → X) → ((x : X) → p (h x) ≡ p x) → (xs : List X) →
    list_any p (map h xs) ≡ list_any p xs
any_changed p h same [] = refl
any_changed p h same (x ∷ xs) = rw (same x, any_changed p h same xs)

pub settled_held : (old new : GraphState) (x : ℕ) → is_held (settle old new) x ≡ is_held new x
unfolding is_held settle with_since
settled_held old new x =
    rw (any_changed (shows_some x) (with_since old new) (λ r. refl) new.rows)

-- nor what is reached from some roots
settled_reached : (old new : GraphState) (roots : List ℕ) (x : ℕ) →
    is_reached (settle old new) roots x ≡ is_reached new roots x
settled_reached old new roots x = rw (settled_row old new x) (ap (λ b. is_row new x && b)
    (any_congr (λ root. is_walked (settle old new) root x) (λ root. is_walked new root x)
    (λ root. leads_congr (visible_children (settle old new)) (visible_children new)
    (settled_children old new) 17 root x) roots))

pub settled_active : (old new : GraphState) (x : ℕ) →
    is_active (settle old new) x ≡ is_active new x
unfolding settle is_active
settled_active old new x = settled_reached old new (channel_roots new) x

-- a weak reference yields what it did
settled_upgrade : (old new : GraphState) (x : ℕ) → upgrade (settle old new) x ≡ upgrade new x
unfolding upgrade
settled_upgrade old new x = rw (settled_row old new x, settled_held old new x)

settled_preview : (old new : GraphState) (o : Option ℕ) →
    option_and_then (upgrade (settle old new)) o ≡ option_and_then (upgrade new) o
settled_preview old new None = refl
settled_preview old new (Some x) = settled_upgrade old new x

pub settled_showing : (old new : GraphState) (x : ℕ) →
    is_showing (settle old new) x ≡ is_showing new x
unfolding settle is_showing
settled_showing old new x =
    rw (settled_preview old new new.preview) (settled_reached old new (showing_roots new) x)
