-- Lemmas on histories: their entries by pass, their beginnings, and facts of each element of a list.
use Rattle.std.proofs.Common.{◌≡◌, ◌≢◌, ℕ, zero, suc, ◌+◌, ◌≤◌, eqb, eq-eqb, ne_eqb, cond, Bool, true, false, List, [], ◌∷◌, ◌++◌, length, map, get_or, refl, sym, ap, subst, ◌∙◌, append-nil, append_assoc, length-append, le_refl, lt-ltb, le-ltb, All, arith}
use Rattle.std.proofs.lemmas.List.{nil_from_length}
use mathlib.Core.List.{IsPrefix}
use mathlib.Core.Logic.{dite}
use native.Mathlib.Decide.{dec_lt}
use Rattle.mix_turn.specs.declared.entered.Entered.{Entered}
use Rattle.mix_turn.specs.Entries.{pass_no, entered, entries_of, numbered_from, longer, shorter}
use Rattle.mix_turn.specs.Views.{entry_in}

module _ {X : Type 0} where
  pub prefix_whole : (xs : List X) → IsPrefix xs xs
  prefix_whole xs = ([], append-nil xs)

  pub prefix_nothing : (xs : List X) → IsPrefix [] xs
  prefix_nothing xs = (xs, refl)

  pub prefix_on : (xs ys zs : List X) → IsPrefix xs ys → IsPrefix ys zs → IsPrefix xs zs
  prefix_on xs ys zs a b = (a.0 ++ b.0, sym (append_assoc xs a.0 b.0) ∙ (ap (λ l. l ++ b.0) a.1 ∙ b.1))

  cons≢nil : {x : X} {l : List X} → x ∷ l ≡ [] → ⊥
  cons≢nil e = let n = ap length e in omega arith

  abbrev head_or : X → List X → X
  head_or d [] = d
  head_or d (x ∷ xs) = x

  abbrev tail_of : List X → List X
  tail_of [] = []
  tail_of (x ∷ xs) = xs

  -- of two beginnings of one list the shorter begins the longer
  pub begins : (xs ys all : List X) → IsPrefix xs all → IsPrefix ys all → length xs ≤ length ys → IsPrefix xs ys
  begins [] ys all a b l = (ys, refl)
  begins (x ∷ xs) [] all a b l = absurd (omega arith)
  begins (x ∷ xs) (y ∷ ys) [] a b l = absurd (cons≢nil a.1)
  begins (x ∷ xs) (y ∷ ys) (z ∷ all) a b l =
      let same : x ≡ y = ap (head_or x) a.1 ∙ sym (ap (head_or y) b.1) in
      let rest = begins xs ys all (a.0, ap tail_of a.1) (b.0, ap tail_of b.1) (omega arith) in
      (rest.0, λ i. same i ∷ rest.1 i)

  pub all_nothing : (P : X → Type 0) → All P []
  all_nothing P k d below = absurd (omega arith)

  pub all_cons : (P : X → Type 0) (x : X) (xs : List X) → P x → All P xs → All P (x ∷ xs)
  all_cons P x xs here there zero d below = here
  all_cons P x xs here there (suc k) d below = there k d (omega arith)

  pub all_head : (P : X → Type 0) (x : X) (xs : List X) → All P (x ∷ xs) → P x
  all_head P x xs all = all 0 x (omega arith)

  pub all_rest : (P : X → Type 0) (x : X) (xs : List X) → All P (x ∷ xs) → All P xs
  all_rest P x xs all k d below = all (suc k) d (omega arith)

  pub all_append : (P : X → Type 0) (xs ys : List X) → All P xs → All P ys → All P (xs ++ ys)
  all_append P [] ys a b = b
  all_append P (x ∷ xs) ys a b = all_cons P x (xs ++ ys) (all_head P x xs a) (all_append P xs ys (all_rest P x xs a) b)

  pub all_map : (P Q : X → Type 0) (xs : List X) → ((x : X) → P x → Q x) → All P xs → All Q xs
  all_map P Q xs f all k d below = f (get_or xs k d) (all k d below)

module _ {E : Type 0} where
  append_step : (b : Bool) (x : Entered E) (l m n : List (Entered E)) → l ≡ m ++ n → cond b (x ∷ l) l ≡ cond b (x ∷ m) m ++ n
  append_step true x l m n e = ap (λ k. x ∷ k) e
  append_step false x l m n e = e

  pub entries_of-append : (p : ℕ) (xs ys : List (Entered E)) → entries_of p (xs ++ ys) ≡ entries_of p xs ++ entries_of p ys
  entries_of-append p [] ys = refl
  entries_of-append p (x ∷ xs) ys = append_step (eqb x.from.pass p) x (entries_of p (xs ++ ys)) (entries_of p xs) (entries_of p ys) (entries_of-append p xs ys)

  -- a further entry of the pass comes last
  pub entries_of-own : (p : ℕ) (xs : List (Entered E)) (x : Entered E) → x.from.pass ≡ p → entries_of p (xs ++ x ∷ []) ≡ entries_of p xs ++ x ∷ []
  entries_of-own p xs x is = entries_of-append p xs (x ∷ []) ∙ ap (λ b. entries_of p xs ++ cond b (x ∷ []) []) (eq-eqb x.from.pass p is)

  -- one of another pass changes nothing
  pub entries_of-else : (p : ℕ) (xs : List (Entered E)) (x : Entered E) → p ≢ x.from.pass → entries_of p (xs ++ x ∷ []) ≡ entries_of p xs
  entries_of-else p xs x not =
      entries_of-append p xs (x ∷ []) ∙ (ap (λ b. entries_of p xs ++ cond b (x ∷ []) []) (ne_eqb x.from.pass p (λ e. not (sym e))) ∙ append-nil (entries_of p xs))

  short_step : (b : Bool) (x : Entered E) (l : List (Entered E)) (n : ℕ) → length l ≤ n → length (cond b (x ∷ l) l) ≤ suc n
  short_step true x l n h = omega arith
  short_step false x l n h = omega arith

  pub entries_of-short : (p : ℕ) (xs : List (Entered E)) → length (entries_of p xs) ≤ length xs
  entries_of-short p [] = le_refl 0
  entries_of-short p (x ∷ xs) = short_step (eqb x.from.pass p) x (entries_of p xs) (length xs) (entries_of-short p xs)

  -- between a beginning that has all entries of a pass and the whole, each beginning has them all
  pub squeezed : (p : ℕ) (xs ys all : List (Entered E)) → IsPrefix xs ys → IsPrefix ys all → entries_of p all ≡ entries_of p xs → entries_of p ys ≡ entries_of p xs
  squeezed p xs ys all a b e =
      let one : entries_of p ys ≡ entries_of p xs ++ entries_of p a.0 = ap (entries_of p) (sym a.1) ∙ entries_of-append p xs a.0 in
      let two : entries_of p all ≡ entries_of p ys ++ entries_of p b.0 = ap (entries_of p) (sym b.1) ∙ entries_of-append p ys b.0 in
      let l1 = ap length one in
      let l2 = ap length two in
      let l3 = ap length e in
      let n1 = length-append (entries_of p xs) (entries_of p a.0) in
      let n2 = length-append (entries_of p ys) (entries_of p b.0) in
      one ∙ (ap (λ l. entries_of p xs ++ l) (nil_from_length (entries_of p a.0) (omega arith)) ∙ append-nil (entries_of p xs))

  -- a pass that has no entry in the whole has none in a beginning
  pub none_before : (p : ℕ) (xs all : List (Entered E)) → IsPrefix xs all → entries_of p all ≡ [] → entries_of p xs ≡ []
  none_before p xs all a e =
      let one : entries_of p all ≡ entries_of p xs ++ entries_of p a.0 = ap (entries_of p) (sym a.1) ∙ entries_of-append p xs a.0 in
      let l1 = ap length one in
      let l2 = ap length e in
      let n1 = length-append (entries_of p xs) (entries_of p a.0) in
      nil_from_length (entries_of p xs) (omega arith)

  pub numbered-snoc : (n p : ℕ) (es : List E) (e : E) → numbered_from n p (es ++ e ∷ []) ≡ numbered_from n p es ++ entered (pass_no p (n + length es)) e ∷ []
  numbered-snoc n p [] e = let same : n ≡ n + 0 = omega arith in ap (λ k. entered (pass_no p k) e ∷ []) same
  numbered-snoc n p (x ∷ xs) e =
      let same : suc n + length xs ≡ n + length (x ∷ xs) = omega arith in
      ap (λ l. entered (pass_no p n) x ∷ l) (numbered-snoc (suc n) p xs e ∙ ap (λ k. numbered_from (suc n) p xs ++ entered (pass_no p k) e ∷ []) same)

  pub map-numbered : (n p : ℕ) (es : List E) → map entry_in (numbered_from n p es) ≡ es
  map-numbered n p [] = refl
  map-numbered n p (e ∷ es) = ap (λ l. e ∷ l) (map-numbered (suc n) p es)

  pub length-numbered : (n p : ℕ) (es : List E) → length (numbered_from n p es) ≡ length es
  length-numbered n p [] = refl
  length-numbered n p (e ∷ es) = ap suc (length-numbered (suc n) p es)

  -- the longer of two beginnings of one history is one of it, and both begin it
  pub record Longest (xs ys all : List (Entered E)) : Type 0 where
    pub begins_all : IsPrefix (longer xs ys) all
    pub first : IsPrefix xs (longer xs ys)
    pub second : IsPrefix ys (longer xs ys)
    pub shorter_first : IsPrefix (shorter xs ys) (longer xs ys)

  pub longest : (xs ys all : List (Entered E)) → IsPrefix xs all → IsPrefix ys all → Longest xs ys all
  longest xs ys all a b = dite (dec_lt (length xs) (length ys))
      (λ l. let t = sym (lt-ltb (length xs) (length ys) l) in record {
        begins_all = subst (λ q. IsPrefix (cond q ys xs) all) t b;
        first = subst (λ q. IsPrefix xs (cond q ys xs)) t (begins xs ys all a b (omega arith));
        second = subst (λ q. IsPrefix ys (cond q ys xs)) t (prefix_whole ys);
        shorter_first = subst (λ q. IsPrefix (cond q xs ys) (cond q ys xs)) t (begins xs ys all a b (omega arith));
      })
      (λ l. let t = sym (le-ltb (length xs) (length ys) (omega arith)) in record {
        begins_all = subst (λ q. IsPrefix (cond q ys xs) all) t a;
        first = subst (λ q. IsPrefix xs (cond q ys xs)) t (prefix_whole xs);
        second = subst (λ q. IsPrefix ys (cond q ys xs)) t (begins ys xs all b a (omega arith));
        shorter_first = subst (λ q. IsPrefix (cond q xs ys) (cond q ys xs)) t (begins ys xs all b a (omega arith));
      })
