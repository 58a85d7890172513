-- Values under distinct keys, in rising byte order of the keys.
use Rattle.std.specs.Prelude.{ℕ, List, [], ◌∷◌, Bool, true, false, ◌&&◌, nat_eq}
use Rattle.std.specs.Prelude.{Option, Some, None, if◌then◌else◌}
use Rattle.std.specs.List.{list_any}
use Rattle.std.specs.Ordering.{nat_cmp, match_ordering}
use Rattle.std.specs.declared.cmp.Ordering.{Ordering}
use Rattle.std.specs.Cmp.Lexicographic.{slice_cmp, pointwise}
use Rattle.mix_base.specs.declared.members.Member.{Member}

-- two keys are one and the same
abbrev pub is_same : List ℕ → List ℕ → Bool
is_same = pointwise nat_eq

-- the byte order of two keys
abbrev pub key_order : List ℕ → List ℕ → Ordering
key_order = slice_cmp nat_cmp

-- the key stands before the first of these members
abbrev pub is_before : {V : Type 0} → List ℕ → List (Member V) → Bool
is_before key [] = true
is_before key (m ∷ ms) = match_ordering (key_order key m.key) true false false

-- each key stands before the next one, so that none stands twice
abbrev pub is_rising : {V : Type 0} → List (Member V) → Bool
is_rising [] = true
is_rising (m ∷ ms) = is_before m.key ms && is_rising ms

-- a member has this key
abbrev pub has_key : {V : Type 0} → List ℕ → List (Member V) → Bool
has_key key ms = list_any (λ m. is_same key m.key) ms

-- the value under a key
abbrev pub get_of : {V : Type 0} → List ℕ → List (Member V) → Option V
get_of key [] = None
get_of key (m ∷ ms) = if is_same key m.key then Some m.value else get_of key ms

abbrev pub member : {V : Type 0} → List ℕ → V → Member V
member key value = record { key = key; value = value }

-- this value under this key, and every other member as it was: in place of the member of this
-- key, or else before the first member of a greater key
abbrev pub put_of : {V : Type 0} → List ℕ → V → List (Member V) → List (Member V)
put_of key value [] = member key value ∷ []
put_of key value (m ∷ ms) = match_ordering (key_order key m.key)
    (member key value ∷ (m ∷ ms))
    (member key value ∷ ms)
    (m ∷ put_of key value ms)
