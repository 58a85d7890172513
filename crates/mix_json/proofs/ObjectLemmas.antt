-- Members put in one after another, and their keys in order.
use Rattle.std.proofs.Common.{◌≡◌, ◌∙◌, sym, ap, refl, ℕ, zero, suc, ◌<◌, List, [], ◌∷◌, ◌++◌, drop, length, get_or, Bool, true, false, ◌&&◌, Ordering, Less, Equal, Greater, String, Global, string_bytes, string_cmp, append_assoc, append-nil, arith, true≢false}
use Rattle.std.specs.Ordering.{match_ordering, ordering_reverse}
use Rattle.std.specs.Cmp.Lexicographic.{nat_list_cmp_total}
use Rattle.std.specs.BTreeMap.{insert_entry}
use Rattle.std.specs.Map.{keys_of}
use Rattle.std.specs.List.Sorted.{IsStrictlySortedBy}
use Rattle.mix_base.specs.declared.members.Member.{Member}
use Rattle.mix_base.specs.declared.json.Json.{Json}
use Rattle.mix_base.specs.Json.{Object}
use Rattle.mix_base.specs.Members.{is_before, is_rising, key_order, member, put_of}
use Rattle.mix_base.proofs.MemberLemmas.{order_equal}
use Rattle.mix_json.specs.Tokens.{members_of, put_members}

-- ---- members that rise already stay as they are

less : (o : Ordering) → match_ordering o true false false ≡ true → o ≡ Less
less Less e = refl
less Equal e = absurd (true≢false (sym e))
less Greater e = absurd (true≢false (sym e))

first : (a b : Bool) → a && b ≡ true → a ≡ true
first true b e = refl
first false b e = e

second : (a b : Bool) → a && b ≡ true → b ≡ true
second true b e = e
second false b e = absurd (true≢false (sym e))

-- a key stands before all that come later
before_later : (d : Member Json) (done : Object) (m : Member Json) (ms : Object) → is_rising (d ∷ (done ++ m ∷ ms)) ≡ true → key_order d.key m.key ≡ Less
before_later d [] m ms e = less (key_order d.key m.key) (first (is_before d.key (m ∷ ms)) _ e)
before_later d (x ∷ done) m ms e =
    nat_list_cmp_total.trans d.key x.key m.key
    (less (key_order d.key x.key) (first (is_before d.key (x ∷ (done ++ m ∷ ms))) _ e))
    (before_later x done m ms (second (is_before d.key (x ∷ (done ++ m ∷ ms))) _ e))

put_last : (done : Object) (m : Member Json) (ms : Object) → is_rising (done ++ m ∷ ms) ≡ true → put_of m.key m.value done ≡ done ++ m ∷ []
put_last [] m ms e = refl
put_last (d ∷ done) m ms e =
    let after : key_order m.key d.key ≡ Greater = nat_list_cmp_total.antisymm m.key d.key ∙ ap ordering_reverse (before_later d done m ms e) in
    rw after (ap (λ r. d ∷ r) (put_last done m ms (second (is_before d.key (done ++ m ∷ ms)) _ e)))

put_after : (done ms : Object) → is_rising (done ++ ms) ≡ true → put_members ms done ≡ done ++ ms
put_after done [] e = sym (append-nil done)
put_after done (m ∷ ms) e =
    let all : (done ++ m ∷ []) ++ ms ≡ done ++ m ∷ ms = append_assoc done (m ∷ []) ms in
    ap (put_members ms) (put_last done m ms e)
    ∙ put_after (done ++ m ∷ []) ms (ap is_rising all ∙ e)
    ∙ all

pub put_rising_members : (ms : Object) → is_rising ms ≡ true → put_members ms [] ≡ ms
put_rising_members ms e = put_after [] ms e

-- ---- whether members rise, place by place

pub rising_from : (ms : Object) (i : ℕ) (d : Member Json) → i < length ms → is_rising (drop i ms) ≡ is_before (get_or ms i d).key (drop (suc i) ms) && is_rising (drop (suc i) ms)
rising_from [] i d h = absurd (omega arith)
rising_from (m ∷ ms) zero d h = refl
rising_from (m ∷ ms) (suc i) d h = rising_from ms i d (omega arith)

-- ---- members in a map

chosen : (o : Ordering) (a b c : List (String Global × Json)) (x y z : Object) → (members_of a ≡ x) → (o ≡ Equal → members_of b ≡ y) → members_of c ≡ z → members_of (match_ordering o a b c) ≡ match_ordering o x y z
chosen Less a b c x y z p q r = p
chosen Equal a b c x y z p q r = q refl
chosen Greater a b c x y z p q r = r

-- an entry is put in a map as a member in an object
pub put_entry : (es : List (String Global × Json)) (k : String Global) (v : Json) → members_of (insert_entry string_cmp es k v) ≡ put_of (string_bytes k) v (members_of es)
put_entry [] k v = refl
put_entry (e ∷ es) k v =
    chosen (string_cmp k e.0) _ _ _ _ _ _ refl
    (λ o. ap (λ key. member key v ∷ members_of es) (sym (order_equal (string_bytes k) (string_bytes e.0) o)))
    (ap (λ r. member (string_bytes e.0) e.1 ∷ r) (put_entry es k v))

-- the keys of a map rise
pub entries_rise : (es : List (String Global × Json)) → IsStrictlySortedBy string_cmp (keys_of es) → is_rising (members_of es) ≡ true
unfolding IsStrictlySortedBy
entries_rise [] s = refl
entries_rise (e ∷ []) s = refl
entries_rise (e ∷ f ∷ es) s = let below : key_order (string_bytes e.0) (string_bytes f.0) ≡ Less = s.0.0 in rw below (entries_rise (f ∷ es) s.1)

pub members_push : (es : List (String Global × Json)) (e : String Global × Json) → members_of (es ++ e ∷ []) ≡ members_of es ++ member (string_bytes e.0) e.1 ∷ []
members_push [] e = refl
members_push (x ∷ es) e = ap (λ r. member (string_bytes x.0) x.1 ∷ r) (members_push es e)
