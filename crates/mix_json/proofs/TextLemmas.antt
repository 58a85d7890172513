-- Texts that grow: that tokens one after another are those of the whole value.
use Rattle.std.proofs.Common.{rules, ◌≡◌, ◌∙◌, sym, ap, refl, ℕ, ℤ, pos, negsuc, List, [], ◌∷◌, ◌++◌, Bool, true, ◌&&◌, map, append_assoc, append-nil, Less, Equal, Greater}
use Rattle.std.specs.declared.cmp.Ordering.{Ordering}
use Rattle.std.specs.Ordering.{match_ordering}
use Rattle.std.specs.Fmt.{signed_decimal}
use Rattle.json.specs.Token.{Token, begin_object, end_object, begin_array, end_array}
use Rattle.json.specs.Token as token
use Rattle.json.specs.Tree.{json_tokens, items_tokens, members_tokens}
use Rattle.serde_json.specs.Data.{Data, Items, Members, no_items, item, no_members, put, object, array, number}
use Rattle.serde_json.specs.Data as data_form
use Rattle.serde_json.specs.Find.{of_integer}
use Rattle.serde_json.specs.Written.{outline, items_outline, members_outline, number_text}
use Rattle.serde_json.proofs.Texts.{print-outline}
use Rattle.mix_base.specs.Json.{Object}
use Rattle.mix_base.specs.declared.members.Member.{Member}
use Rattle.mix_base.specs.declared.json.Json.{Json, the_lemmas}
use Rattle.mix_base.specs.declared.json.Json as json
use Rattle.mix_base.specs.Members.{is_before, is_rising, key_order, member, put_of}
use Rattle.mix_base.proofs.MemberLemmas.{order_equal}
use Rattle.mix_json.specs.Trees.{obj_of, put_fields, with_field}
use Rattle.mix_json.specs.Writing.{data_of, items_data, json_text, member_data, members_data, put_all}
use Rattle.mix_json.specs.Growing.{tokens_of, more_item, more_items, after_key, more_field, more_fields, open_object, close_object, open_list, close_list, Grown, grown_text, as_member, as_field, are_rising}
use Rattle.mix_json.proofs.RisingLemmas.{put_members, put_rising}

-- ---- single values

pub data_of-List : (items : List Json) → data_of (json.List items) ≡ array (items_data items)
data_of-List items = search (rules, the_lemmas)

pub data_of-Obj : (members : Object) → data_of (json.Obj members) ≡ object (members_data members)
data_of-Obj members = search (rules, the_lemmas)

pub data_of-Int : (z : ℤ) → data_of (json.Int z) ≡ number (of_integer z)
data_of-Int z = search (rules, the_lemmas)

pub data_of-Bool : (b : Bool) → data_of (json.Bool b) ≡ data_form.boolean b
data_of-Bool b = search (rules, the_lemmas)

pub data_of-Text : (t : List ℕ) → data_of (json.Text t) ≡ data_form.string t
data_of-Text t = search (rules, the_lemmas)

pub data_of-Null : data_of json.Null ≡ data_form.null
data_of-Null = search (rules, the_lemmas)

pub data_of-Frac : data_of json.Frac ≡ data_form.null
data_of-Frac = search (rules, the_lemmas)

digits_of : (z : ℤ) → number_text (of_integer z) ≡ signed_decimal z
digits_of (pos n) = refl
digits_of (negsuc n) = refl

pub more_null : (text : Grown) → text ++ token.null ∷ [] ≡ more_item json.Null text
unfolding more_item tokens_of
more_null text = ap (λ d. text ++ json_tokens (outline d)) (sym data_of-Null)

pub more_frac : (text : Grown) → text ++ token.null ∷ [] ≡ more_item json.Frac text
unfolding more_item tokens_of
more_frac text = ap (λ d. text ++ json_tokens (outline d)) (sym data_of-Frac)

pub more_truth : (b : Bool) (text : Grown) → text ++ token.boolean b ∷ [] ≡ more_item (json.Bool b) text
unfolding more_item tokens_of
more_truth b text = ap (λ d. text ++ json_tokens (outline d)) (sym (data_of-Bool b))

pub more_int : (z : ℤ) (text : Grown) → text ++ token.number (signed_decimal z) ∷ [] ≡ more_item (json.Int z) text
unfolding more_item tokens_of
more_int z text =
    ap (λ s. text ++ token.number s ∷ []) (sym (digits_of z))
    ∙ ap (λ d. text ++ json_tokens (outline d)) (sym (data_of-Int z))

pub more_text : (t : List ℕ) (text : Grown) → text ++ token.string t ∷ [] ≡ more_item (json.Text t) text
unfolding more_item tokens_of
more_text t text = ap (λ d. text ++ json_tokens (outline d)) (sym (data_of-Text t))

-- a key and then its value are a field
pub keyed : (key : List ℕ) (value : Json) (text : Grown) → more_item value (after_key key text) ≡ more_field key value text
unfolding more_item after_key more_field
keyed key value text = append_assoc text (token.key key ∷ []) (tokens_of value)

-- the bytes of one value are its text
pub whole : (value : Json) → grown_text (more_item value []) ≡ json_text value
unfolding grown_text more_item tokens_of json_text
whole value = print-outline (data_of value)

-- ---- lists

-- one more item, the last
pub more_items_push : (vs : List Json) (v : Json) (text : Grown) → more_items (vs ++ v ∷ []) text ≡ more_item v (more_items vs text)
more_items_push [] v text = refl
more_items_push (w ∷ vs) v text = more_items_push vs v (more_item w text)

abbrev all_tokens : List Json → List Token
all_tokens [] = []
all_tokens (v ∷ vs) = tokens_of v ++ all_tokens vs

more_all : (vs : List Json) (text : Grown) → more_items vs text ≡ text ++ all_tokens vs
unfolding more_item
more_all [] text = sym (append-nil text)
more_all (v ∷ vs) text = more_all vs (text ++ tokens_of v) ∙ append_assoc text (tokens_of v) (all_tokens vs)

items_end : (vs : List Json) → items_tokens (items_outline (items_data vs)) ≡ all_tokens vs ++ end_array ∷ []
unfolding tokens_of
items_end [] = refl
items_end (v ∷ vs) = ap (λ ts. json_tokens (outline (data_of v)) ++ ts) (items_end vs) ∙ sym (append_assoc (json_tokens (outline (data_of v))) (all_tokens vs) (end_array ∷ []))

enclosed : (text middle : List Token) (first last : Token) → ((text ++ first ∷ []) ++ middle) ++ last ∷ [] ≡ text ++ first ∷ (middle ++ last ∷ [])
enclosed text middle first last = append_assoc (text ++ first ∷ []) middle (last ∷ []) ∙ append_assoc text (first ∷ []) (middle ++ last ∷ [])

-- a list that was opened, filled and closed is one value
pub closed_list : (vs : List Json) (text : Grown) → close_list (more_items vs (open_list text)) ≡ more_item (json.List vs) text
unfolding close_list open_list more_item tokens_of
closed_list vs text =
    ap (λ ts. ts ++ end_array ∷ []) (more_all vs (text ++ begin_array ∷ []))
    ∙ enclosed text (all_tokens vs) begin_array end_array
    ∙ ap (λ ts. text ++ begin_array ∷ ts) (sym (items_end vs))
    ∙ ap (λ d. text ++ json_tokens (outline d)) (sym (data_of-List vs))

-- ---- objects

-- one more member, the last
pub members_push : (ms : List (Member Json)) (m : Member Json) (text : Grown) → more_fields (map as_field (ms ++ m ∷ [])) text ≡ more_field m.key m.value (more_fields (map as_field ms) text)
members_push [] m text = refl
members_push (p ∷ ms) m text = members_push ms m (more_field p.key p.value text)

-- fields, and then others
pub more_fields_append : (first rest : List (List ℕ × Json)) (text : Grown) → more_fields (first ++ rest) text ≡ more_fields rest (more_fields first text)
more_fields_append [] rest text = refl
more_fields_append (f ∷ first) rest text = more_fields_append first rest (more_field f.0 f.1 text)

-- the data of members, in their order
abbrev pub in_order : List (Member Data) → Members
in_order [] = no_members
in_order (m ∷ ms) = data_form.member m.key m.value (in_order ms)

by_order : (k : List ℕ) (d : Data) (m : Member Data) (ms : List (Member Data)) (o : Ordering) → key_order k m.key ≡ o
    → put k d (in_order ms) ≡ in_order (put_of k d ms)
    → match_ordering o (data_form.member k d (in_order (m ∷ ms))) (data_form.member m.key d (in_order ms)) (data_form.member m.key m.value (put k d (in_order ms)))
    ≡ in_order (match_ordering o (member k d ∷ (m ∷ ms)) (member k d ∷ ms) (m ∷ put_of k d ms))
by_order k d m ms Less e rest = refl
by_order k d m ms Equal e rest = ap (λ l. data_form.member l d (in_order ms)) (sym (order_equal k m.key e))
by_order k d m ms Greater e rest = ap (data_form.member m.key m.value) rest

put_in_order : (k : List ℕ) (d : Data) (ms : List (Member Data)) → put k d (in_order ms) ≡ in_order (put_of k d ms)
put_in_order k d [] = refl
put_in_order k d (m ∷ ms) = by_order k d m ms (key_order k m.key) refl (put_in_order k d ms)

pub put_all_in_order : (ps found : List (Member Data)) → put_all ps (in_order found) ≡ in_order (put_members ps found)
put_all_in_order [] found = refl
put_all_in_order (p ∷ ps) found = ap (put_all ps) (put_in_order p.key p.value found) ∙ put_all_in_order ps (put_of p.key p.value found)

same_before : (key : List ℕ) (ms : List (Member Json)) → is_before key (map member_data ms) ≡ is_before key ms
same_before key [] = refl
same_before key (m ∷ ms) = refl

pub same_rising : (ms : List (Member Json)) → is_rising (map member_data ms) ≡ is_rising ms
same_rising [] = refl
same_rising (m ∷ ms) = λ i. same_before m.key ms i && same_rising ms i

pub rising_data : (ms : List (Member Json)) → is_rising ms ≡ true → members_data ms ≡ in_order (map member_data ms)
rising_data ms e = put_all_in_order (map member_data ms) [] ∙ ap in_order (put_rising (map member_data ms) [] (same_rising ms ∙ e))

abbrev member_tokens : List (Member Json) → List Token
member_tokens [] = []
member_tokens (m ∷ ms) = token.key m.key ∷ (tokens_of m.value ++ member_tokens ms)

more_members : (ms : List (Member Json)) (text : Grown) → more_fields (map as_field ms) text ≡ text ++ member_tokens ms
unfolding more_field
more_members [] text = sym (append-nil text)
more_members (m ∷ ms) text =
    more_members ms (text ++ token.key m.key ∷ tokens_of m.value)
    ∙ append_assoc text (token.key m.key ∷ tokens_of m.value) (member_tokens ms)

members_end : (ms : List (Member Json)) → members_tokens (members_outline (in_order (map member_data ms))) ≡ member_tokens ms ++ end_object ∷ []
unfolding tokens_of
members_end [] = refl
members_end (m ∷ ms) =
    let own = json_tokens (outline (data_of m.value)) in
    ap (λ ts. token.key m.key ∷ (own ++ ts)) (members_end ms)
    ∙ ap (λ ts. token.key m.key ∷ ts) (sym (append_assoc own (member_tokens ms) (end_object ∷ [])))

-- an object that was opened, filled with its members and closed is one value
pub closed_members : (ms : List (Member Json)) (text : Grown) → is_rising ms ≡ true → close_object (more_fields (map as_field ms) (open_object text)) ≡ more_item (json.Obj ms) text
unfolding close_object open_object more_item tokens_of
closed_members ms text e =
    ap (λ ts. ts ++ end_object ∷ []) (more_members ms (text ++ begin_object ∷ []))
    ∙ enclosed text (member_tokens ms) begin_object end_object
    ∙ ap (λ ts. text ++ begin_object ∷ ts) (sym (members_end ms))
    ∙ ap (λ d. text ++ json_tokens (outline d)) (sym (data_of-Obj ms ∙ ap object (rising_data ms e)))

fields_back : (fs : List (List ℕ × Json)) → map as_field (map as_member fs) ≡ fs
fields_back [] = refl
fields_back (f ∷ fs) = ap (λ r. f ∷ r) (fields_back fs)

put_fields-members : (fs : List (List ℕ × Json)) (found : Object) → put_fields fs found ≡ put_members (map as_member fs) found
unfolding with_field
put_fields-members [] found = refl
put_fields-members (f ∷ fs) found = put_fields-members fs (put_of f.0 f.1 found)

-- fields whose keys rise are the members of their object
pub obj_of-rising : (fs : List (List ℕ × Json)) → are_rising fs ≡ true → obj_of fs ≡ map as_member fs
obj_of-rising fs e = put_fields-members fs [] ∙ put_rising (map as_member fs) [] e

-- an object that was opened, filled with fields whose keys rise and closed is the object of these
pub closed_object : (fs : List (List ℕ × Json)) (text : Grown) → are_rising fs ≡ true → close_object (more_fields fs (open_object text)) ≡ more_item (json.Obj (obj_of fs)) text
closed_object fs text e =
    ap (λ gs. close_object (more_fields gs (open_object text))) (sym (fields_back fs))
    ∙ closed_members (map as_member fs) text e
    ∙ ap (λ ms. more_item (json.Obj ms) text) (sym (obj_of-rising fs e))

-- the same under a key
pub object_under : (key : List ℕ) (fs : List (List ℕ × Json)) (text : Grown) → are_rising fs ≡ true → close_object (more_fields fs (open_object (after_key key text))) ≡ more_field key (json.Obj (obj_of fs)) text
object_under key fs text e = closed_object fs (after_key key text) e ∙ keyed key (json.Obj (obj_of fs)) text

pub list_under : (key : List ℕ) (vs : List Json) (text : Grown) → close_list (more_items vs (open_list (after_key key text))) ≡ more_field key (json.List vs) text
list_under key vs text = closed_list vs (after_key key text) ∙ keyed key (json.List vs) text
