-- Lists under a map.
use Rattle.std.proofs.Common.{◌≡◌, Bool, true, false, cond, List, [], ◌∷◌, map, filter, find}
use Rattle.std.proofs.Common.{Option, Some, None, is_some, refl, ap, option_map}

-- a map of a map
pub map_same : {A B C : Type 0} (f : B → C) (g : A → B) (h : A → C) →
    ((a : A) → f (g a) ≡ h a) → (xs : List A) → map f (map g xs) ≡ map h xs
map_same f g h same [] = refl
map_same f g h same (x ∷ xs) = rw (same x, map_same f g h same xs) refl

-- two maps that do the same
pub map_alike : {X Y : Type 0} (f g : X → Y) → ((x : X) → f x ≡ g x) → (xs : List X) →
    map f xs ≡ map g xs
map_alike f g same [] = refl
map_alike f g same (x ∷ xs) = rw (same x, map_alike f g same xs) refl

-- what is found under a map is the image of what is found, where the test means the same
pub find_under : {X Y : Type 0} (p : Y → Bool) (q : X → Bool) (f : X → Y) →
    ((x : X) → p (f x) ≡ q x) → (xs : List X) → find p (map f xs) ≡ option_map f (find q xs)
find_under p q f same [] = refl
find_under p q f same (x ∷ xs) = rw (same x) (elim (q x)
    as (λ b. cond b (Some (f x)) (find p (map f xs)) ≡ option_map f (cond b (Some x) (find q xs)))
    [ true ↦ refl | false ↦ find_under p q f same xs ])

-- a filter under a map, likewise
pub filter_under : {X Y : Type 0} (p : Y → Bool) (q : X → Bool) (f : X → Y) →
    ((x : X) → p (f x) ≡ q x) → (xs : List X) → filter p (map f xs) ≡ map f (filter q xs)
filter_under p q f same [] = refl
filter_under p q f same (x ∷ xs) = rw (same x) (elim (q x)
    as (λ b. cond b (f x ∷ filter p (map f xs)) (filter p (map f xs))
    ≡ map f (cond b (x ∷ filter q xs) (filter q xs))) [
      | true ↦ ap (λ l. f x ∷ l) (filter_under p q f same xs)
      | false ↦ filter_under p q f same xs
    ])

-- what is mapped is there where it was
pub is_some_map : {X Y : Type 0} (f : X → Y) (o : Option X) → is_some (option_map f o) ≡ is_some o
is_some_map f None = refl
is_some_map f (Some x) = refl
