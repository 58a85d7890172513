-- What the tokens stand for, a token at a time: each value by its first token, a list and an object
-- by their first item and member.
use Rattle.std.proofs.Common.{◌≡◌, ◌∙◌, sym, ap, refl, ℕ, ℤ, zero, suc, ◌-◌, ◌<◌, ◌≤◌, List, [], ◌∷◌, ◌++◌, length, Option, Some, None, option_map, option_and_then, append_assoc, append-nil, arith}
use Rattle.std.specs.Option.{unwrap_or}
use Rattle.json.specs.Token.{Token}
use Rattle.json.specs.Json as tree
use Rattle.json.specs.Json.{Parse, parse_map, after_end_array, read_key, items_step, members_step, items, members, value}
use Rattle.json.proofs.Grammar.{left, Takes, value_is, read_key-shorter, items_end, items_more, members_end, members_no_key, members_more, skip_value-shorter}
use Rattle.serde_json.specs.Read.{converted}
use Rattle.mix_base.specs.declared.members.Member.{Member}
use Rattle.mix_base.specs.declared.json.Json.{Json}
use Rattle.mix_base.specs.declared.json.Json as json
use Rattle.mix_base.specs.Members.{member}
use Rattle.mix_json.specs.Tokens.{put_members, number_seen, seen, seen_items, seen_members, value_at, items_at, members_at, object_at}

-- ---- what is read and then seen

kept : {B : Type 0} (s r : List Token) (x : Option B) (b : B) → option_map {U = B × List Token} (λ y. (y, s)) x ≡ Some (b, r) → (s ≡ r) × (x ≡ Some b)
kept s r None b e = absurd (cc)
kept s r (Some y) b e = let same : (y, s) ≡ (b, r) = ap (λ o. unwrap_or o (y, s)) e in (ap (λ p. p.1) same, ap (λ p. Some p.0) same)

-- what was seen was read first
pub taken : {A B : Type 0} (f : A → Option B) (o : Option (A × List Token)) (b : B) (r : List Token) → converted f o ≡ Some (b, r) → (a : A) × (o ≡ Some (a, r)) × (f a ≡ Some b)
taken f None b r e = absurd (cc)
taken f (Some p) b r e = let both = kept p.1 r (f p.0) b e in (p.0, ap (λ s. Some (p.0, s)) both.0, both.1)

pub unseen : {B : Type 0} (r : List Token) (x : Option B) → option_map {U = B × List Token} (λ y. (y, r)) x ≡ None → x ≡ None
unseen r None e = refl
unseen r (Some y) e = absurd (cc)

moved : {A B : Type 0} (g : A → B) (r : List Token) (x : Option A) → option_map {U = B × List Token} (λ b. (b, r)) (option_map g x) ≡ parse_map g (option_map (λ a. (a, r)) x)
moved g r None = refl
moved g r (Some a) = refl

-- ---- more turns than tokens change nothing

module _ (p : Parse tree.Json) (takes : Takes p) where
  nothing : (o : Option (tree.Json × List Token)) → p [] ≡ o → p [] ≡ None
  nothing None e = e
  nothing (Some q) e = let never : length q.1 < 0 = takes [] q.1 (ap left e) in absurd (omega arith)

  same_turn : {B : Type 0} (f : tree.Json → B → B) (a b : Parse B) (x : Option (tree.Json × List Token)) → ((q : tree.Json × List Token) → x ≡ Some q → a q.1 ≡ b q.1)
      → option_and_then (λ q. parse_map (f q.0) (a q.1)) x ≡ option_and_then (λ q. parse_map (f q.0) (b q.1)) x
  same_turn f a b None h = refl
  same_turn f a b (Some q) h = ap (parse_map (f q.0)) (h q refl)

  same_item : (a b : Parse tree.Items) (ts : List Token) (o : Option (List Token)) → ((q : tree.Json × List Token) → p ts ≡ Some q → a q.1 ≡ b q.1) → items_step p a ts o ≡ items_step p b ts o
  same_item a b ts (Some r) h = refl
  same_item a b ts None h = same_turn tree.item a b (p ts) h

  same_member : (a b : Parse tree.Members) (o : Option (Option (List ℕ) × List Token)) → ((k : List ℕ) (s : List Token) (q : tree.Json × List Token) → o ≡ Some (Some k, s) → p s ≡ Some q → a q.1 ≡ b q.1)
      → option_and_then (λ q. members_step p a q.0 q.1) o ≡ option_and_then (λ q. members_step p b q.0 q.1) o
  same_member a b None h = refl
  same_member a b (Some (None, s)) h = refl
  same_member a b (Some (Some k, s)) h = same_turn (tree.member k) a b (p s) (λ q e. h k s q refl e)

  no_items_left : (n : ℕ) → items p n [] ≡ None
  unfolding items
  no_items_left zero = refl
  no_items_left (suc n) = rw (nothing (p []) refl) refl

  no_members_left : (n : ℕ) → members p n [] ≡ None
  unfolding members
  no_members_left zero = refl
  no_members_left (suc n) = refl

  items_enough : (m n : ℕ) (ts : List Token) → length ts ≤ m → length ts ≤ n → items p m ts ≡ items p n ts
  unfolding items
  items_enough m n [] g h = no_items_left m ∙ sym (no_items_left n)
  items_enough zero n (t ∷ ts) g h = absurd (omega arith)
  items_enough (suc m) zero (t ∷ ts) g h = absurd (omega arith)
  items_enough (suc m) (suc n) (t ∷ ts) g h =
      same_item (items p m) (items p n) (t ∷ ts) (after_end_array (t ∷ ts))
      (λ q e. let less : length q.1 < length (t ∷ ts) = takes (t ∷ ts) q.1 (ap left e) in items_enough m n q.1 (omega arith) (omega arith))

  members_enough : (m n : ℕ) (ts : List Token) → length ts ≤ m → length ts ≤ n → members p m ts ≡ members p n ts
  unfolding members
  members_enough m n [] g h = no_members_left m ∙ sym (no_members_left n)
  members_enough zero n (t ∷ ts) g h = absurd (omega arith)
  members_enough (suc m) zero (t ∷ ts) g h = absurd (omega arith)
  members_enough (suc m) (suc n) (t ∷ ts) g h =
      same_member (members p m) (members p n) (read_key (t ∷ ts))
      (λ k s q e f. let less : length s < length (t ∷ ts) = read_key-shorter (t ∷ ts) (Some k) s e in
      let lesser : length q.1 < length s = takes s q.1 (ap left f) in
      members_enough m n q.1 (omega arith) (omega arith))

-- ---- a list

with_item : (j : tree.Json) (v : Json) → seen j ≡ Some v → (o : Option (tree.Items × List Token)) → converted seen_items (parse_map (tree.item j) o) ≡ parse_map (λ vs. v ∷ vs) (converted seen_items o)
with_item j v e None = refl
with_item j v e (Some p) = rw e (moved (λ vs. v ∷ vs) p.1 (seen_items p.0))

without_item : (j : tree.Json) → seen j ≡ None → (o : Option (tree.Items × List Token)) → converted seen_items (parse_map (tree.item j) o) ≡ None
without_item j e None = refl
without_item j e (Some p) = rw e refl

item_unseen : (more : Parse tree.Items) (o : Option (tree.Json × List Token)) → converted seen o ≡ None → converted seen_items (option_and_then (λ q. parse_map (tree.item q.0) (more q.1)) o) ≡ None
item_unseen more None e = refl
item_unseen more (Some q) e = without_item q.0 (unseen q.1 (seen q.0) e) (more q.1)

item_refused : (p : Parse tree.Json) (n : ℕ) (ts : List Token) → after_end_array ts ≡ None → converted seen (p ts) ≡ None → converted seen_items (items p n ts) ≡ None
unfolding items
item_refused p zero ts going e = refl
item_refused p (suc n) ts going e = ap (λ o. converted seen_items (items_step p (items p n) ts o)) going ∙ item_unseen (items p n) (p ts) e

pub no_more_items : (depth : ℕ) (ts r : List Token) → after_end_array ts ≡ Some r → items_at depth ts ≡ Some ([], r)
unfolding items_at
no_more_items depth ts r e = ap (converted seen_items) (items_end (value depth) (length ts) ts r (omega arith) e)

pub one_item : (depth : ℕ) (ts r : List Token) (v : Json) → after_end_array ts ≡ None → value_at depth ts ≡ Some (v, r) → items_at depth ts ≡ parse_map (λ vs. v ∷ vs) (items_at depth r)
unfolding items_at value_at
one_item depth ts r v going e =
    let p = value depth in
    let j = taken seen (p ts) v r e in
    let less : length r < length ts = skip_value-shorter depth ts r (ap left j.1) in
    let read = items_more p (length ts) ts r j.0 (omega arith) going j.1 in
    let enough = items_enough p (skip_value-shorter depth) (length ts - 1) (length r) r (omega arith) (omega arith) in
    ap (converted seen_items) (read ∙ ap (parse_map (tree.item j.0)) enough) ∙ with_item j.0 v j.2 (items p (length r) r)

pub bad_item : (depth : ℕ) (ts : List Token) → after_end_array ts ≡ None → value_at depth ts ≡ None → items_at depth ts ≡ None
unfolding items_at value_at
bad_item depth ts going e = item_refused (value depth) (length ts) ts going e

-- ---- an object

with_member : (k : List ℕ) (j : tree.Json) (v : Json) → seen j ≡ Some v → (o : Option (tree.Members × List Token)) → converted seen_members (parse_map (tree.member k j) o) ≡ parse_map (λ vs. member k v ∷ vs) (converted seen_members o)
with_member k j v e None = refl
with_member k j v e (Some p) = rw e (moved (λ vs. member k v ∷ vs) p.1 (seen_members p.0))

without_member : (k : List ℕ) (j : tree.Json) → seen j ≡ None → (o : Option (tree.Members × List Token)) → converted seen_members (parse_map (tree.member k j) o) ≡ None
without_member k j e None = refl
without_member k j e (Some p) = rw e refl

member_unseen : (k : List ℕ) (more : Parse tree.Members) (o : Option (tree.Json × List Token)) → converted seen o ≡ None → converted seen_members (option_and_then (λ q. parse_map (tree.member k q.0) (more q.1)) o) ≡ None
member_unseen k more None e = refl
member_unseen k more (Some q) e = without_member k q.0 (unseen q.1 (seen q.0) e) (more q.1)

member_refused : (p : Parse tree.Json) (n : ℕ) (k : List ℕ) (ts s : List Token) → read_key ts ≡ Some (Some k, s) → converted seen (p s) ≡ None → converted seen_members (members p n ts) ≡ None
unfolding members
member_refused p zero k ts s key e = refl
member_refused p (suc n) k ts s key e = rw key (member_unseen k (members p n) (p s) e)

pub no_more_members : (depth : ℕ) (ts r : List Token) → read_key ts ≡ Some (None, r) → members_at depth ts ≡ Some ([], r)
unfolding members_at
no_more_members depth ts r e = ap (converted seen_members) (members_end (value depth) (length ts) ts r (omega arith) e)

pub one_member : (depth : ℕ) (k : List ℕ) (ts s r : List Token) (v : Json) → read_key ts ≡ Some (Some k, s) → value_at depth s ≡ Some (v, r) → members_at depth ts ≡ parse_map (λ vs. member k v ∷ vs) (members_at depth r)
unfolding members_at value_at
one_member depth k ts s r v key e =
    let p = value depth in
    let j = taken seen (p s) v r e in
    let less : length s < length ts = read_key-shorter ts (Some k) s key in
    let lesser : length r < length s = skip_value-shorter depth s r (ap left j.1) in
    let read = members_more p (length ts) k ts s r j.0 (omega arith) key j.1 in
    let enough = members_enough p (skip_value-shorter depth) (length ts - 1) (length r) r (omega arith) (omega arith) in
    ap (converted seen_members) (read ∙ ap (parse_map (tree.member k j.0)) enough) ∙ with_member k j.0 v j.2 (members p (length r) r)

pub bad_member : (depth : ℕ) (k : List ℕ) (ts s : List Token) → read_key ts ≡ Some (Some k, s) → value_at depth s ≡ None → members_at depth ts ≡ None
unfolding members_at value_at
bad_member depth k ts s key e = member_refused (value depth) (length ts) k ts s key e

pub bad_key : (depth : ℕ) (ts : List Token) → read_key ts ≡ None → members_at depth ts ≡ None
unfolding members_at
bad_key depth ts e = ap (converted seen_members) (members_no_key (value depth) (length ts) ts e)

-- ---- a list that grows at its end

pub none_yet : {A : Type 0} (o : Option (List A × List Token)) → o ≡ parse_map (λ vs. [] ++ vs) o
none_yet None = refl
none_yet (Some p) = refl

pub one_more : {A : Type 0} (xs : List A) (x : A) (o : Option (List A × List Token)) → parse_map (λ vs. xs ++ vs) (parse_map (λ vs. x ∷ vs) o) ≡ parse_map (λ vs. (xs ++ x ∷ []) ++ vs) o
one_more xs x None = refl
one_more xs x (Some p) = ap (λ vs. Some (vs, p.1)) (sym (append_assoc xs (x ∷ []) p.0))

pub all_of_them : {A : Type 0} (xs : List A) (r : List Token) → parse_map (λ vs. xs ++ vs) (Some ([], r)) ≡ Some (xs, r)
all_of_them xs r = ap (λ vs. Some (vs, r)) (append-nil xs)

-- ---- a value by its first token

-- what the values inside give, where one more list or object may stand there
abbrev pub inside : {A : Type 0} → (ℕ → List Token → Option (A × List Token)) → ℕ → List Token → Option (A × List Token)
inside read zero ts = None
inside read (suc depth) ts = read depth ts

pub inside_is : {A : Type 0} (read : ℕ → List Token → Option (A × List Token)) (depth : ℕ) (ts : List Token) → 0 < depth → inside read depth ts ≡ read (depth - 1) ts
inside_is read zero ts h = absurd (omega arith)
inside_is read (suc depth) ts h = let e : depth ≡ suc depth - 1 = omega arith in ap (λ n. read n ts) e

-- the value of a token, and of those behind it that belong to it
abbrev pub by_token : ℕ → Token → List Token → Option (Json × List Token)
by_token depth Token.begin_object ts = parse_map (λ obj. json.Obj obj) (inside object_at depth ts)
by_token depth Token.end_object ts = None
by_token depth Token.begin_array ts = parse_map (λ vs. json.List vs) (inside items_at depth ts)
by_token depth Token.end_array ts = None
by_token depth (Token.key s) ts = None
by_token depth (Token.string s) ts = Some (json.Text s, ts)
by_token depth (Token.number s) ts = option_map (λ v. (v, ts)) (number_seen s)
by_token depth (Token.boolean b) ts = Some (json.Bool b, ts)
by_token depth Token.null ts = Some (json.Null, ts)
by_token depth Token.bad ts = None

list_seen : (o : Option (tree.Items × List Token)) → converted seen (parse_map tree.array o) ≡ parse_map (λ vs. json.List vs) (converted seen_items o)
list_seen None = refl
list_seen (Some p) = moved (λ vs. json.List vs) p.1 (seen_items p.0)

object_moved : (r : List Token) (x : Option (List (Member Json)))
    → option_map {U = Json × List Token} (λ b. (b, r)) (option_map (λ vs. json.Obj (put_members vs [])) x) ≡ parse_map (λ obj. json.Obj obj) (parse_map (λ vs. put_members vs []) (option_map (λ vs. (vs, r)) x))
object_moved r None = refl
object_moved r (Some vs) = refl

object_seen : (o : Option (tree.Members × List Token)) → converted seen (parse_map tree.object o) ≡ parse_map (λ obj. json.Obj obj) (parse_map (λ vs. put_members vs []) (converted seen_members o))
object_seen None = refl
object_seen (Some p) = object_moved p.1 (seen_members p.0)

list_by_token : (depth : ℕ) (ts : List Token) → value_at depth (Token.begin_array ∷ ts) ≡ parse_map (λ vs. json.List vs) (inside items_at depth ts)
unfolding value_at items_at value
list_by_token zero ts = refl
list_by_token (suc depth) ts = list_seen (items (value depth) (length ts) ts)

object_by_token : (depth : ℕ) (ts : List Token) → value_at depth (Token.begin_object ∷ ts) ≡ parse_map (λ obj. json.Obj obj) (inside object_at depth ts)
unfolding value_at members_at value
object_by_token zero ts = refl
object_by_token (suc depth) ts = object_seen (members (value depth) (length ts) ts)

pub no_token : (depth : ℕ) → value_at depth [] ≡ None
unfolding value_at
no_token depth = ap (converted seen) (value_is depth [])

pub value_by_token : (depth : ℕ) (t : Token) (ts : List Token) → value_at depth (t ∷ ts) ≡ by_token depth t ts
unfolding value_at
value_by_token depth Token.begin_object ts = object_by_token depth ts
value_by_token depth Token.end_object ts = ap (converted seen) (value_is depth (Token.end_object ∷ ts))
value_by_token depth Token.begin_array ts = list_by_token depth ts
value_by_token depth Token.end_array ts = ap (converted seen) (value_is depth (Token.end_array ∷ ts))
value_by_token depth (Token.key s) ts = ap (converted seen) (value_is depth (Token.key s ∷ ts))
value_by_token depth (Token.string s) ts = ap (converted seen) (value_is depth (Token.string s ∷ ts))
value_by_token depth (Token.number s) ts = ap (converted seen) (value_is depth (Token.number s ∷ ts))
value_by_token depth (Token.boolean b) ts = ap (converted seen) (value_is depth (Token.boolean b ∷ ts))
value_by_token depth Token.null ts = ap (converted seen) (value_is depth (Token.null ∷ ts))
value_by_token depth Token.bad ts = ap (converted seen) (value_is depth (Token.bad ∷ ts))

-- ---- short values

-- a whole number
pub int_by_token : (depth : ℕ) (s : List ℕ) (n : ℤ) (ts : List Token) → number_seen s ≡ Some (json.Int n) → value_at depth (Token.number s ∷ ts) ≡ Some (json.Int n, ts)
int_by_token depth s n ts e = value_by_token depth (Token.number s) ts ∙ ap (option_map (λ v. (v, ts))) e

-- an empty list
pub nothing_by_token : (depth : ℕ) (ts r : List Token) → 0 < depth → after_end_array ts ≡ Some r → value_at depth (Token.begin_array ∷ ts) ≡ Some (json.List [], r)
nothing_by_token depth ts r inner over =
    list_by_token depth ts ∙ ap (parse_map (λ vs. json.List vs)) (inside_is items_at depth ts inner ∙ no_more_items (depth - 1) ts r over)
