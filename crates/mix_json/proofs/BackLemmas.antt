-- What was written is read as the same value.
use Rattle.std.proofs.Common.{rules, arith, ◌≡◌, ◌∙◌, sym, ap, ap₂, subst, refl, ℕ, suc, ◌<◌, ◌≤◌, ◌^◌, max, ℤ, pos, negsuc, List, [], ◌∷◌, ◌++◌, Bool, true, false, ◌||◌, map, Option, Some, option_map, option_and_then, lt-ltb, append-nil, true≢false}
use Rattle.std.specs.Str.{IsUtf8}
use Rattle.std.proofs.lemmas.Int.{ints}
use mir.Val.{SFits}
use mir.Syntax.{w64}
use Rattle.json.specs.Token.{Token}
use Rattle.json.specs.Lex.{tokens}
use Rattle.json.specs.Json as tree
use Rattle.json.specs.Tree.{json_tokens}
use Rattle.json.specs.Tree as tree_depth
use Rattle.serde_json.specs.Data.{Data, Items, Members, no_items, item, no_members, put, object, array, number, depth, items_depth, members_depth}
use Rattle.serde_json.specs.Data as form
use Rattle.serde_json.specs.Find.{of_integer}
use Rattle.serde_json.specs.Read as reading
use Rattle.serde_json.specs.Read.{of_json, read, number_of, max_depth}
use Rattle.serde_json.specs.Written.{outline, items_outline, members_outline}
use Rattle.serde_json.proofs.Numbers.{number_of-decimal, number_of-negative}
use Rattle.json.proofs.Printed.Trees.{value-json_tokens}
use Rattle.mix_base.specs.Json.{has_frac, list_has_frac, obj_has_frac}
use Rattle.mix_base.proofs.JsonLemmas.{frac_in_list, frac_in_obj}
use Rattle.mix_base.specs.declared.members.Member.{Member}
use Rattle.mix_base.specs.declared.json.Json.{Json}
use Rattle.mix_base.specs.declared.json.Json as json
use Rattle.mix_base.specs.Members.{is_rising, member}
use Rattle.mix_json.specs.Back.{ComesBack}
use Rattle.mix_json.specs.Growing.{tokens_of, grown_text, more_item}
use Rattle.mix_json.specs.Reading.{json_of, of_data, of_items, of_members, of_number}
use Rattle.mix_json.specs.Writing.{data_of, items_data, members_data, member_data, put_all}
use Rattle.mix_json.proofs.ReadLemmas.{json_of_reads}
use Rattle.mix_json.proofs.TextLemmas.{data_of-Null, data_of-Frac, data_of-Bool, data_of-Int, data_of-Text, data_of-List, data_of-Obj, in_order, rising_data}

-- ---- the JSON of data is as deep as the data, and has its integers
mutual
  depth_same : (d : Data) → tree_depth.depth (outline d) ≡ depth d
  depth_same form.null = refl
  depth_same (form.boolean b) = refl
  depth_same (number n) = refl
  depth_same (form.string s) = refl
  depth_same (array ds) = ap suc (items_depth_same ds)
  depth_same (object ms) = ap suc (members_depth_same ms)

  items_depth_same : (ds : Items) → tree_depth.items_depth (items_outline ds) ≡ items_depth ds
  items_depth_same no_items = refl
  items_depth_same (item d ds) = ap₂ max (depth_same d) (items_depth_same ds)

  members_depth_same : (ms : Members) → tree_depth.members_depth (members_outline ms) ≡ members_depth ms
  members_depth_same no_members = refl
  members_depth_same (form.member k d ms) = ap₂ max (depth_same d) (members_depth_same ms)

-- ---- single values
module _ (value : Json) (d : Data) (e : data_of value ≡ d) where
  from_data : of_json (outline d) ≡ Some d → (has_frac value ≡ false → of_data d ≡ value) → ComesBack value
  from_data back same = record {
    reads = subst (λ x. of_json (outline x) ≡ Some x) (sym e) back;
    same = λ h. ap of_data e ∙ same h;
  }

pub back_null : ComesBack json.Null
back_null = from_data json.Null form.null data_of-Null refl (λ h. refl)

frac_is_one : has_frac json.Frac ≡ true
frac_is_one = search (rules, json.the_lemmas)

pub back_frac : ComesBack json.Frac
back_frac = from_data json.Frac form.null data_of-Frac refl (λ h. absurd (true≢false (sym frac_is_one ∙ h)))

pub back_truth : (b : Bool) → ComesBack (json.Bool b)
back_truth b = from_data (json.Bool b) (form.boolean b) (data_of-Bool b) refl (λ h. refl)

pub back_text : (t : List ℕ) → ComesBack (json.Text t)
back_text t = from_data (json.Text t) (form.string t) (data_of-Text t) refl (λ h. refl)

small : (n : ℕ) → n < 2 ^ 63 → of_number (of_integer (pos n)) ≡ json.Int (pos n)
small n h = rw (lt-ltb _ _ h)

pub back_int : (z : ℤ) → SFits w64 z → ComesBack (json.Int z)
back_int (pos n) fits =
    let below : n < 2 ^ 63 = omega (arith, ints) in
    let within : n < 2 ^ 64 = omega arith in
    from_data (json.Int (pos n)) (number (of_integer (pos n))) (data_of-Int (pos n)) (ap (option_map number) (number_of-decimal n within)) (λ h. small n below)
back_int (negsuc n) fits =
    let below : n < 2 ^ 63 = omega (arith, ints) in
    from_data (json.Int (negsuc n)) (number (of_integer (negsuc n))) (data_of-Int (negsuc n)) (ap (option_map number) (number_of-negative n below)) (λ h. refl)

-- ---- lists
abbrev pub AllBack : List Json → Type 0
AllBack [] = Unit {0}
AllBack (v ∷ vs) = ComesBack v × AllBack vs

pub AllBack-push : (vs : List Json) (v : Json) → AllBack vs → ComesBack v → AllBack (vs ++ v ∷ [])
AllBack-push [] v h back = (back, tt)
AllBack-push (w ∷ vs) v h back = (h.0, AllBack-push vs v h.1 back)

or_left : (a b : Bool) → a || b ≡ false → a ≡ false
or_left true b e = e
or_left false b e = refl

or_right : (a b : Bool) → a || b ≡ false → b ≡ false
or_right true b e = absurd (true≢false e)
or_right false b e = e

items_read : (vs : List Json) → AllBack vs → reading.of_items (items_outline (items_data vs)) ≡ Some (items_data vs)
items_read [] h = refl
items_read (v ∷ vs) h =
    ap (option_and_then (λ d. option_map (item d) (reading.of_items (items_outline (items_data vs))))) h.0.reads
    ∙ ap (option_map (item (data_of v))) (items_read vs h.1)

items_same : (vs : List Json) → AllBack vs → list_has_frac vs ≡ false → of_items (items_data vs) ≡ vs
items_same [] h e = refl
items_same (v ∷ vs) h e = ap₂ (λ x xs. x ∷ xs) (h.0.same (or_left (has_frac v) _ e)) (items_same vs h.1 (or_right (has_frac v) _ e))

pub back_list : (vs : List Json) → AllBack vs → ComesBack (json.List vs)
back_list vs h =
    from_data (json.List vs) (array (items_data vs)) (data_of-List vs) (ap (option_map array) (items_read vs h))
    (λ e. ap json.List (items_same vs h (sym (frac_in_list vs) ∙ e)))

-- ---- objects
abbrev pub MembersBack : List (Member Json) → Type 0
MembersBack [] = Unit {0}
MembersBack (m ∷ ms) = ComesBack m.value × MembersBack ms

pub MembersBack-push : (ms : List (Member Json)) (m : Member Json) → MembersBack ms → ComesBack m.value → MembersBack (ms ++ m ∷ [])
MembersBack-push [] m h back = (back, tt)
MembersBack-push (w ∷ ms) m h back = (h.0, MembersBack-push ms m h.1 back)

members_read : (ms : List (Member Json)) (found : Members) → MembersBack ms → reading.of_members (members_outline (in_order (map member_data ms))) found ≡ Some (put_all (map member_data ms) found)
members_read [] found h = refl
members_read (m ∷ ms) found h =
    ap (option_and_then (λ d. reading.of_members (members_outline (in_order (map member_data ms))) (put m.key d found))) h.0.reads
    ∙ members_read ms (put m.key (data_of m.value) found) h.1

members_same : (ms : List (Member Json)) → MembersBack ms → obj_has_frac ms ≡ false → of_members (in_order (map member_data ms)) ≡ ms
members_same [] h e = refl
members_same (m ∷ ms) h e =
    ap₂ (λ v xs. member m.key v ∷ xs) (h.0.same (or_left (has_frac m.value) _ e)) (members_same ms h.1 (or_right (has_frac m.value) _ e))

pub back_obj : (ms : List (Member Json)) → is_rising ms ≡ true → MembersBack ms → ComesBack (json.Obj ms)
back_obj ms e h =
    let sorted : members_data ms ≡ in_order (map member_data ms) = rising_data ms e in
    from_data (json.Obj ms) (object (in_order (map member_data ms))) (data_of-Obj ms ∙ ap object sorted)
    (ap (option_map object) (members_read ms no_members h ∙ ap Some sorted))
    (λ g. ap json.Obj (members_same ms h (sym (frac_in_obj ms) ∙ g)))

-- ---- the whole
abbrev whole : Option (tree.Json × List Token) → Option Data
whole found = option_and_then of_json (option_and_then (λ p. tree.if_last p.0 p.1) found)

pub comes_back : (value : Json) (text : List ℕ) (written : List Token)
    → written ≡ more_item value [] → text ≡ grown_text written → tokens text ≡ written → IsUtf8 text
    → ComesBack value → has_frac value ≡ false → depth (data_of value) ≤ max_depth → json_of text ≡ Some value
unfolding more_item tokens_of
comes_back value text written is_value is_text again utf8 back no_frac shallow =
    let d = data_of value in
    let within : tree_depth.depth (outline d) ≤ max_depth = subst (λ n. n ≤ max_depth) (sym (depth_same d)) shallow in
    let seen : tokens text ≡ json_tokens (outline d) ++ [] = again ∙ is_value ∙ sym (append-nil (json_tokens (outline d))) in
    let reads : read text ≡ Some d =
    ap whole (ap (tree.value max_depth) seen ∙ value-json_tokens (outline d) max_depth [] within) ∙ back.reads in
    json_of_reads text value utf8 (ap (option_map of_data) reads ∙ ap Some (back.same no_frac))
