-- What is put together of values without a fraction has none.
use Rattle.std.proofs.Common.{◌≡◌, ◌∙◌, ℕ, List, [], ◌∷◌, Bool, true, false, ◌||◌, refl, true≢false}
use Rattle.std.specs.declared.cmp.Ordering.{Ordering}
use Rattle.std.specs.declared.cmp.Ordering.TheVariants.{Less, Equal, Greater}
use Rattle.std.specs.Ordering.{match_ordering}
use Rattle.mix_base.specs.declared.json.Json.{Json}
use Rattle.mix_base.specs.declared.json.Json as json
use Rattle.mix_base.specs.Json.{Object, has_frac, list_has_frac, obj_has_frac}
use Rattle.mix_base.specs.Members.{key_order, put_of}
use Rattle.mix_base.proofs.JsonLemmas.{frac_in_list, frac_in_obj}

pub obj_whole : (members : Object) → obj_has_frac members ≡ false → has_frac (json.Obj members) ≡ false
obj_whole members e = frac_in_obj members ∙ e

pub list_whole : (items : List Json) → list_has_frac items ≡ false → has_frac (json.List items) ≡ false
list_whole items e = frac_in_list items ∙ e

neither : (a b : Bool) → a ≡ false → b ≡ false → a || b ≡ false
neither a b p q = rw (p, q) refl

left : (a b : Bool) → a || b ≡ false → a ≡ false
left true b e = e
left false b e = refl

right : (a b : Bool) → a || b ≡ false → b ≡ false
right true b e = absurd (true≢false e)
right false b e = e

chosen : (o : Ordering) (a b c : Object) → obj_has_frac a ≡ false → obj_has_frac b ≡ false → obj_has_frac c ≡ false → obj_has_frac (match_ordering o a b c) ≡ false
chosen Less a b c p q r = p
chosen Equal a b c p q r = q
chosen Greater a b c p q r = r

pub put_whole : (key : List ℕ) (value : Json) (members : Object) → has_frac value ≡ false → obj_has_frac members ≡ false → obj_has_frac (put_of key value members) ≡ false
put_whole key value [] e g = neither (has_frac value) false e refl
put_whole key value (m ∷ ms) e g = chosen (key_order key m.key) _ _ _
    (neither (has_frac value) _ e g)
    (neither (has_frac value) _ e (right (has_frac m.value) _ g))
    (neither (has_frac m.value) _ (left (has_frac m.value) _ g) (put_whole key value ms e (right (has_frac m.value) _ g)))
