-- What a reader of a key gives is in its range, where what stands is; and what is in its range is
-- read again.
use Rattle.std.proofs.Common.{◌≡◌, ℕ, ℤ, pos, negsuc, Bool, true, false, cond, List, refl, arith}
use Rattle.std.proofs.Common.{Option, Some, None, Result, Ok, Err, subst, ap, ◌∙◌, rules}
use Rattle.std.proofs.lemmas.Bool.Decides.{nat_tests}
use Rattle.mix_base.specs.declared.json.Json.{Json, the_lemmas}
use Rattle.mix_base.specs.declared.json.Json as json
use Rattle.mix_base.specs.Json.{Object, as_int, as_text}
use Rattle.mix_base.specs.Members.{get_of}
use Rattle.mix_json.specs.Fields.{◌>>=◌, in_range, opt_in, or_status, out_of_range, wrong_type}
use Rattle.mix_model.specs.Values.{is_between, is_color, is_within}
use Rattle.mix_sources.specs.Keys.{at_key, color_at, number_at, number_in, number_of}
use Rattle.mix_sources.specs.Keys.{or_standing, side_at, speed_at, speed_of, text_at}

-- a test that was passed on the way to an Ok
pub passed : {A E : Type 0} (test : Bool) (x : A) (e : E) (y : A) (P : A → Bool) →
    P x ≡ test → cond {A = Result A E} test (Ok x) (Err e) ≡ Ok y → P y ≡ true
passed true x e y P is found = let same : x ≡ y = cc in subst (λ z. P z ≡ true) same is
passed false x e y P is found = cc

read_at : {A : Type 0} (key : List ℕ) (r : Result A ℕ) (x : A) → at_key key r ≡ Ok x → r ≡ Ok x
read_at key (Ok y) x found = let same : y ≡ x = cc in cc
read_at key (Err status) x found = cc

whole_within : (least most n : ℕ) (z : Option ℤ) →
    (or_status wrong_type z >>= number_in least most) ≡ Ok n → is_between least most n ≡ true
whole_within least most n None found = cc
whole_within least most n (Some (pos m)) found =
    passed (is_between least most m) m out_of_range n (is_between least most) refl found
whole_within least most n (Some (negsuc m)) found = cc

value_within : (least most standing n : ℕ) (value : Option Json) →
    or_standing standing (number_of least most) value ≡ Ok n →
    is_between least most standing ≡ true → is_between least most n ≡ true
value_within least most standing n None found stands =
    let same : standing ≡ n = cc in subst (λ m. is_between least most m ≡ true) same stands
value_within least most standing n (Some value) found stands =
    whole_within least most n (as_int value) found

-- a number is in its range
pub number_within : (key : List ℕ) (least most standing n : ℕ) (given : Object) →
    number_at key least most standing given ≡ Ok n →
    is_between least most standing ≡ true → is_between least most n ≡ true
unfolding number_at
number_within key least most standing n given found stands =
    value_within least most standing n (get_of key given) (read_at key _ n found) stands

-- a colour has four bytes
pub color_within : (key : List ℕ) (standing n : ℕ) (given : Object) →
    color_at key standing given ≡ Ok n → is_color standing ≡ true → is_color n ≡ true
unfolding color_at
color_within key standing n given found stands =
    let range : is_between 0 4294967295 n ≡ true =
    number_within key 0 4294967295 standing n given found (grind (arith, nat_tests)) in
    grind (arith, nat_tests)

-- a side has its pixels
pub side_within : (key : List ℕ) (standing n : ℕ) (given : Object) →
    side_at key standing given ≡ Ok n →
    is_between 1 4096 standing ≡ true → is_between 1 4096 n ≡ true
unfolding side_at
side_within key standing n given found stands =
    number_within key 1 4096 standing n given found stands

slow_within : (z : ℤ) (read : Option ℤ) →
    (or_status wrong_type read >>= in_range (negsuc 63) (pos 64)) ≡ Ok z →
    is_within (negsuc 63) (pos 64) z ≡ true
slow_within z None found = cc
slow_within z (Some y) found = passed (is_within (negsuc 63) (pos 64) y) y out_of_range z
    (is_within (negsuc 63) (pos 64)) refl found

speed_read : (standing z : ℤ) (value : Option Json) → or_standing standing speed_of value ≡ Ok z →
    is_within (negsuc 63) (pos 64) standing ≡ true → is_within (negsuc 63) (pos 64) z ≡ true
speed_read standing z None found stands = let same : standing ≡ z = cc in
    subst (λ y. is_within (negsuc 63) (pos 64) y ≡ true) same stands
speed_read standing z (Some value) found stands = slow_within z (as_int value) found

-- a speed is slow
pub speed_within : (key : List ℕ) (standing z : ℤ) (given : Object) →
    speed_at key standing given ≡ Ok z →
    is_within (negsuc 63) (pos 64) standing ≡ true → is_within (negsuc 63) (pos 64) z ≡ true
unfolding speed_at
speed_within key standing z given found stands =
    speed_read standing z (get_of key given) (read_at key _ z found) stands

int_read : (z : ℤ) → as_int (json.Int z) ≡ Some z
int_read z = search (rules, the_lemmas)

text_read : (text : List ℕ) → as_text (json.Text text) ≡ Some text
text_read text = search (rules, the_lemmas)

-- a number that is in its range is read again
pub number_again : (key : List ℕ) (least most standing n : ℕ) (given : Object) →
    get_of key given ≡ Some (json.Int (pos n)) → is_between least most n ≡ true →
    number_at key least most standing given ≡ Ok n
unfolding number_at
number_again key least most standing n given there within =
    ap (λ value. at_key key (or_standing standing (number_of least most) value)) there
    ∙ ap (λ z. at_key key (or_status wrong_type z >>= number_in least most)) (int_read (pos n))
    ∙ ap (λ t. at_key key (cond t (Ok n) (Err out_of_range))) within

-- a colour is read again
pub color_again : (key : List ℕ) (standing n : ℕ) (given : Object) →
    get_of key given ≡ Some (json.Int (pos n)) → is_color n ≡ true →
    color_at key standing given ≡ Ok n
unfolding color_at
color_again key standing n given there within =
    number_again key 0 4294967295 standing n given there (grind (arith, nat_tests))

-- a side is read again
pub side_again : (key : List ℕ) (standing n : ℕ) (given : Object) →
    get_of key given ≡ Some (json.Int (pos n)) → is_between 1 4096 n ≡ true →
    side_at key standing given ≡ Ok n
unfolding side_at
side_again key standing n given there within =
    number_again key 1 4096 standing n given there within

-- a speed is read again
pub speed_again : (key : List ℕ) (standing z : ℤ) (given : Object) →
    get_of key given ≡ Some (json.Int z) → is_within (negsuc 63) (pos 64) z ≡ true →
    speed_at key standing given ≡ Ok z
unfolding speed_at
speed_again key standing z given there within =
    ap (λ value. at_key key (or_standing standing speed_of value)) there
    ∙ ap (λ y. at_key key (or_status wrong_type y >>= in_range (negsuc 63) (pos 64))) (int_read z)
    ∙ ap (λ t. at_key key (cond t (Ok z) (Err out_of_range))) within

-- a text is read again
pub text_again : (key text : List ℕ) (given : Object) →
    get_of key given ≡ Some (json.Text text) → text_at key given ≡ Ok (Some text)
unfolding text_at
text_again key text given there = ap (λ value. at_key key (opt_in as_text value)) there
    ∙ ap (λ t. at_key key (or_status wrong_type t >>= (λ x. Ok (Some x)))) (text_read text)
