-- What is seen of a text is the data that it stands for.
use Rattle.std.proofs.Common.{◌≡◌, ◌∙◌, sym, ap, refl, ℕ, List, [], ◌∷◌, Bool, true, false, Option, Some, None, option_map, option_and_then, Ordering, Less, Equal, Greater}
use Rattle.std.specs.Str.{IsUtf8, is_utf8}
use Rattle.std.proofs.lemmas.Str.{IsUtf8-from_is_utf8, is_utf8-from_IsUtf8}
use Rattle.std.specs.Ordering.{match_ordering}
use Rattle.json.specs.Token.{Token}
use Rattle.json.specs.Lex.{tokens}
use Rattle.json.specs.Json as tree
use Rattle.serde_json.specs.Data as content
use Rattle.serde_json.specs.Data.{Data}
use Rattle.serde_json.specs.Read.{converted, max_depth, number_of, read}
use Rattle.serde_json.specs.Read as reading
use Rattle.mix_base.specs.declared.members.Member.{Member}
use Rattle.mix_base.specs.declared.json.Json.{Json}
use Rattle.mix_base.specs.declared.json.Json as json
use Rattle.mix_base.specs.Json.{Object}
use Rattle.mix_base.specs.Members.{key_order, member, put_of}
use Rattle.mix_base.proofs.MemberLemmas.{order_equal}
use Rattle.mix_json.specs.Reading.{json_of, of_data, of_items, of_members, of_number}
use Rattle.mix_json.specs.Tokens.{put_members, seen, seen_items, seen_members, value_at}
use Rattle.mix_json.proofs.TokenLemmas.{taken, unseen}

-- ---- a member is put in data as in an object

put_chosen : (o : Ordering) (a b c : content.Members) → of_members (match_ordering o a b c) ≡ match_ordering o (of_members a) (of_members b) (of_members c)
put_chosen Less a b c = refl
put_chosen Equal a b c = refl
put_chosen Greater a b c = refl

same_choice : (o : Ordering) (a b c d e : Object) → (o ≡ Equal → b ≡ d) → c ≡ e → match_ordering o a b c ≡ match_ordering o a d e
same_choice Less a b c d e f g = refl
same_choice Equal a b c d e f g = f refl
same_choice Greater a b c d e f g = g

of_put : (k : List ℕ) (d : Data) (ms : content.Members) → of_members (content.put k d ms) ≡ put_of k (of_data d) (of_members ms)
of_put k d content.no_members = refl
of_put k d (content.member l x ms) =
    put_chosen (key_order k l) _ _ _
    ∙ same_choice (key_order k l) _ _ _ _ _
    (λ e. ap (λ key. member key (of_data d) ∷ of_members ms) (sym (order_equal k l e)))
    (ap (λ r. member l (of_data x) ∷ r) (of_put k d ms))

-- ---- the tree of tokens, level by level

twice : {A B C : Type 0} (f : A → B) (g : B → C) (h : A → C) → ((a : A) → g (f a) ≡ h a) → (x : Option A) → option_map g (option_map f x) ≡ option_map h x
twice f g h e None = refl
twice f g h e (Some a) = ap Some (e a)

item_law : (js : tree.Items) (d : Option Data) (ds : Option content.Items) → seen_items js ≡ option_map of_items ds
    → option_and_then (λ v. option_map (λ vs. v ∷ vs) (seen_items js)) (option_map of_data d) ≡ option_map of_items (option_and_then (λ x. option_map (content.item x) ds) d)
item_law js None ds e = refl
item_law js (Some d) ds e = rw e (twice of_items (λ vs. of_data d ∷ vs) (λ xs. of_data d ∷ of_items xs) (λ xs. refl) ds ∙ sym (twice (content.item d) of_items (λ xs. of_data d ∷ of_items xs) (λ xs. refl) ds))

object_law : (x : Option (List (Member Json))) (d : Option content.Members) → option_map (λ vs. put_members vs []) x ≡ option_map of_members d
    → option_map (λ vs. json.Obj (put_members vs [])) x ≡ option_map of_data (option_map content.object d)
object_law x d e =
    sym (twice (λ vs. put_members vs []) (λ obj. json.Obj obj) (λ vs. json.Obj (put_members vs [])) (λ vs. refl) x)
    ∙ ap (option_map (λ obj. json.Obj obj)) e
    ∙ twice of_members (λ obj. json.Obj obj) (λ ms. json.Obj (of_members ms)) (λ ms. refl) d
    ∙ sym (twice content.object of_data (λ ms. json.Obj (of_members ms)) (λ ms. refl) d)

member_law : (k : List ℕ) (ms : tree.Members) (found : content.Members) (d : Option Data)
    → ((more : content.Members) → option_map (λ vs. put_members vs (of_members more)) (seen_members ms) ≡ option_map of_members (reading.of_members ms more))
    → option_map (λ vs. put_members vs (of_members found)) (option_and_then (λ v. option_map (λ vs. member k v ∷ vs) (seen_members ms)) (option_map of_data d))
    ≡ option_map of_members (option_and_then (λ x. reading.of_members ms (content.put k x found)) d)
member_law k ms found None h = refl
member_law k ms found (Some d) h =
    twice (λ vs. member k (of_data d) ∷ vs) (λ vs. put_members vs (of_members found)) (λ vs. put_members vs (put_of k (of_data d) (of_members found))) (λ vs. refl) (seen_members ms)
    ∙ ap (λ obj. option_map (λ vs. put_members vs obj) (seen_members ms)) (sym (of_put k d found))
    ∙ h (content.put k d found)

mutual
  pub seen_is : (j : tree.Json) → seen j ≡ option_map of_data (reading.of_json j)
  seen_is tree.null = refl
  seen_is (tree.boolean b) = refl
  seen_is (tree.number s) = sym (twice content.number of_data of_number (λ n. refl) (number_of s))
  seen_is (tree.string s) = refl
  seen_is (tree.array js) =
      ap (option_map (λ vs. json.List vs)) (items_are js)
      ∙ twice of_items (λ vs. json.List vs) (λ ds. json.List (of_items ds)) (λ ds. refl) (reading.of_items js)
      ∙ sym (twice content.array of_data (λ ds. json.List (of_items ds)) (λ ds. refl) (reading.of_items js))
  seen_is (tree.object ms) = object_law (seen_members ms) (reading.of_members ms content.no_members) (members_are ms content.no_members)

  items_are : (js : tree.Items) → seen_items js ≡ option_map of_items (reading.of_items js)
  items_are tree.no_items = refl
  items_are (tree.item j js) = rw (seen_is j) (item_law js (reading.of_json j) (reading.of_items js) (items_are js))

  members_are : (ms : tree.Members) (found : content.Members) → option_map (λ vs. put_members vs (of_members found)) (seen_members ms) ≡ option_map of_members (reading.of_members ms found)
  members_are tree.no_members found = refl
  members_are (tree.member k j ms) found = rw (seen_is j) (member_law k ms found (reading.of_json j) (λ more. members_are ms more))

-- ---- a whole text

abbrev whole : Option (tree.Json × List Token) → Option Json
whole o = option_map of_data (option_and_then reading.of_json (option_and_then (λ p. tree.if_last p.0 p.1) o))

last : (j : tree.Json) (ts : List Token) → seen j ≡ None → whole (Some (j, ts)) ≡ None
last j [] e = sym (seen_is j) ∙ e
last j (t ∷ ts) e = refl

refused : (o : Option (tree.Json × List Token)) → converted seen o ≡ None → whole o ≡ None
refused None e = refl
refused (Some p) e = last p.0 p.1 (unseen p.1 (seen p.0) e)

-- the value is the only one
pub whole_value : (text : List ℕ) (v : Json) → value_at max_depth (tokens text) ≡ Some (v, []) → option_map of_data (read text) ≡ Some v
unfolding value_at
whole_value text v e =
    let j = taken seen (tree.value max_depth (tokens text)) v [] e in
    ap whole j.1 ∙ sym (seen_is j.0) ∙ j.2

-- something stands behind it
pub whole_and_more : (text : List ℕ) (v : Json) (t : Token) (ts : List Token) → value_at max_depth (tokens text) ≡ Some (v, t ∷ ts) → option_map of_data (read text) ≡ None
unfolding value_at
whole_and_more text v t ts e = ap whole (taken seen (tree.value max_depth (tokens text)) v (t ∷ ts) e).1

-- there is none
pub whole_refused : (text : List ℕ) → value_at max_depth (tokens text) ≡ None → option_map of_data (read text) ≡ None
unfolding value_at
whole_refused text e = refused (tree.value max_depth (tokens text)) e

-- ---- bytes

-- bytes in UTF-8 that have a reading
pub json_of_reads : (bytes : List ℕ) (v : Json) → IsUtf8 bytes → option_map of_data (read bytes) ≡ Some v → json_of bytes ≡ Some v
json_of_reads bytes v utf8 e = rw (is_utf8-from_IsUtf8 bytes utf8) e

by_test : (bytes : List ℕ) (test : Bool) → is_utf8 bytes ≡ test → (IsUtf8 bytes → option_map of_data (read bytes) ≡ None) → json_of bytes ≡ None
by_test bytes true e none = rw e (none (IsUtf8-from_is_utf8 bytes e))
by_test bytes false e none = rw e refl

-- and all others
pub json_of_none : (bytes : List ℕ) → (IsUtf8 bytes → option_map of_data (read bytes) ≡ None) → json_of bytes ≡ None
json_of_none bytes none = by_test bytes (is_utf8 bytes) refl none
