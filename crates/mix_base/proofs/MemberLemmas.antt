-- Members place by place, and what `put_of` leaves.
use Rattle.std.proofs.Common.{◌≡◌, ◌≢◌, ◌∙◌, sym, ap, refl, ℕ, zero, suc, ◌<◌, List, [], ◌∷◌, ◌++◌, Bool, true, false, ◌&&◌, ◌||◌, take, drop, length, get_or, slice_set, Some, None, Option, Less, Equal, Greater, arith, true≢false, if◌then◌else◌}
use Rattle.std.proofs.lemmas.Option.{none-some}
use Rattle.std.specs.declared.cmp.Ordering.{Ordering}
use Rattle.std.specs.Ordering.{match_ordering, is_eq, ordering_reverse}
use Rattle.std.specs.Cmp.Lexicographic.{same_text, texts_ties, nat_list_cmp_total, nat_list_eq_equiv}
use Rattle.mix_base.specs.declared.members.Member.{Member}
use Rattle.mix_base.specs.Members.{is_same, key_order, is_before, is_rising, has_key, get_of, member, put_of}

-- ---- reading

then_none : {V : Type 0} (b : Bool) (x : V) {h : Bool} {r : Option V} → b || h ≡ false → (h ≡ false → r ≡ None) → (if b then Some x else r) ≡ None
then_none true x e k = absurd (true≢false e)
then_none false x e k = k e

then_missing : {V : Type 0} (b : Bool) (x : V) {h : Bool} {r : Option V} → (if b then Some x else r) ≡ None → (r ≡ None → h ≡ false) → b || h ≡ false
then_missing true x e k = absurd (none-some x (sym e))
then_missing false x e k = k e

module _ {V : Type 0} (key : List ℕ) where
  pub get_here : (ms : List (Member V)) (i : ℕ) (d : Member V) → i < length ms
      → is_same key (get_or ms i d).key ≡ true → get_of key (drop i ms) ≡ Some (get_or ms i d).value
  get_here [] i d h e = absurd (omega arith)
  get_here (m ∷ ms) zero d h e = rw e refl
  get_here (m ∷ ms) (suc i) d h e = get_here ms i d (omega arith) e

  pub get_past : (ms : List (Member V)) (i : ℕ) (d : Member V) → i < length ms
      → is_same key (get_or ms i d).key ≡ false → get_of key (drop i ms) ≡ get_of key (drop (suc i) ms)
  get_past [] i d h e = absurd (omega arith)
  get_past (m ∷ ms) zero d h e = rw e refl
  get_past (m ∷ ms) (suc i) d h e = get_past ms i d (omega arith) e

  pub missing_none : (ms : List (Member V)) → has_key key ms ≡ false → get_of key ms ≡ None
  missing_none [] e = refl
  missing_none (m ∷ ms) e = then_none (is_same key m.key) m.value e (missing_none ms)

  pub none_missing : (ms : List (Member V)) → get_of key ms ≡ None → has_key key ms ≡ false
  none_missing [] e = refl
  none_missing (m ∷ ms) e = then_missing (is_same key m.key) m.value e (none_missing ms)

-- ---- putting

same_itself : (k : List ℕ) → is_same k k ≡ true
same_itself k = nat_list_eq_equiv.refl k

by_same : (k l : List ℕ) (b : Bool) → b ≡ is_same k l → k ≢ l → b ≡ false
by_same k l true e apart = absurd (apart (same_text k l e))
by_same k l false e apart = refl

other_false : (k l : List ℕ) → k ≢ l → is_same k l ≡ false
other_false k l apart = by_same k l (is_same k l) refl apart

pub order_equal : (k l : List ℕ) → key_order k l ≡ Equal → k ≡ l
order_equal k l e = same_text k l (sym (texts_ties k l ∙ ap is_eq e))

greater_other : (k l : List ℕ) → key_order k l ≡ Greater → is_same k l ≡ false
greater_other k l e = texts_ties k l ∙ ap is_eq e

turned : (k l : List ℕ) → key_order k l ≡ Greater → key_order l k ≡ Less
turned k l e = nat_list_cmp_total.antisymm l k ∙ ap ordering_reverse e

chosen : {A B : Type 0} (f : A → B) (y : B) (o : Ordering) (a b c : A) → (o ≡ Less → f a ≡ y) → (o ≡ Equal → f b ≡ y) → (o ≡ Greater → f c ≡ y) → f (match_ordering o a b c) ≡ y
chosen f y Less a b c p q r = p refl
chosen f y Equal a b c p q r = q refl
chosen f y Greater a b c p q r = r refl

both : (a b : Bool) → a ≡ true → b ≡ true → a && b ≡ true
both a b p q = rw (p, q) refl

left : (a b : Bool) → a && b ≡ true → a ≡ true
left true b e = refl
left false b e = e

right : (a b : Bool) → a && b ≡ true → b ≡ true
right true b e = e
right false b e = absurd (true≢false (sym e))

module _ {V : Type 0} (key : List ℕ) (value : V) where
  -- at the member with the key, its value is set
  pub put_here : (ms : List (Member V)) (i : ℕ) (d : Member V) → i < length ms
      → key_order key (get_or ms i d).key ≡ Equal
      → take i ms ++ put_of key value (drop i ms) ≡ slice_set ms i (member key value)
  put_here [] i d h e = absurd (omega arith)
  put_here (m ∷ ms) zero d h e = rw e refl
  put_here (m ∷ ms) (suc i) d h e = ap (λ r. m ∷ r) (put_here ms i d (omega arith) e)

  -- what stands before the key stands before the members with it
  before_put : (k : List ℕ) → key_order k key ≡ Less → (ms : List (Member V)) → is_before k ms ≡ true → is_before k (put_of key value ms) ≡ true
  before_put k less [] e = rw less refl
  before_put k less (m ∷ ms) e = chosen (is_before k) true (key_order key m.key) _ _ _ (λ o. rw less refl) (λ o. rw less refl) (λ o. e)

  pub put_rising : (ms : List (Member V)) → is_rising ms ≡ true → is_rising (put_of key value ms) ≡ true
  put_rising [] e = refl
  put_rising (m ∷ ms) e = chosen is_rising true (key_order key m.key) _ _ _
      (λ o. both (is_before key (m ∷ ms)) _ (rw o refl) e)
      (λ o. rw (order_equal key m.key o) e)
      (λ o. both (is_before m.key (put_of key value ms)) _
      (before_put m.key (turned key m.key o) ms (left (is_before m.key ms) _ e))
      (put_rising ms (right (is_before m.key ms) _ e)))

  pub get_put : (ms : List (Member V)) → get_of key (put_of key value ms) ≡ Some value
  get_put [] = rw (same_itself key) refl
  get_put (m ∷ ms) = chosen (get_of key) (Some value) (key_order key m.key) _ _ _
      (λ o. rw (same_itself key) refl)
      (λ o. rw (same_itself key) refl)
      (λ o. rw (greater_other key m.key o) (get_put ms))

  pub get_other : (other : List ℕ) → other ≢ key → (ms : List (Member V)) → get_of other (put_of key value ms) ≡ get_of other ms
  get_other other apart [] = rw (other_false other key apart) refl
  get_other other apart (m ∷ ms) = chosen (get_of other) (get_of other (m ∷ ms)) (key_order key m.key) _ _ _
      (λ o. rw (other_false other key apart) refl)
      (λ o. rw (other_false other key apart, ← order_equal key m.key o) (rw (other_false other key apart) refl))
      (λ o. ap (λ (r : Option V). if is_same other m.key then Some m.value else r) (get_other other apart ms))
