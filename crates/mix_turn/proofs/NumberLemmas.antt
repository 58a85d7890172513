-- Lemmas on the numbers of passes and on the parts of the right to close: each step leaves every number with one view.
use Rattle.std.proofs.Common.{◌≡◌, ◌≢◌, ◌⊎◌, ℕ, zero, suc, ◌+◌, ◌-◌, ◌/◌, ◌<◌, ◌≤◌, eqb, eq-eqb, ne_eqb, cond, Bool, true, false, List, [], ◌∷◌, ◌++◌, length, set, refl, sym, ap, subst, ◌∙◌, inl, inr, ⊎_elim, Option, Some, None, is_some, unwrap_or, All, sum_by, arith}
use Rattle.std.proofs.lemmas.Bool.{false≢true}
use Rattle.std.proofs.lemmas.List.Sums.{sum_by-cons}
use mathlib.Core.Option.{some, some-injective, some-ne-none}
use mathlib.Core.Logic.{dite}
use native.Mathlib.Decide.{ℕ_discrete, dec_lt}
use lib.ListN.{get_elem?}
use Rattle.atomic_table.proofs.Lists.{at_set}
use Rattle.mix_turn.specs.declared.entered.Entered.{Entered}
use Rattle.mix_turn.specs.declared.entered.PassEntries.{PassEntries}
use Rattle.mix_turn.specs.declared.view.Tally.{Tally}
use Rattle.mix_turn.specs.declared.view.View.{View}
use Rattle.mix_turn.specs.Entries.{entries_of, HasAllOf, times}
use Rattle.mix_turn.specs.Parts.{doubled, least_parts, all_parts, weigh}
use Rattle.mix_turn.specs.Views.{IsLive, spare_lines, if_started, own_line, other_lines, held_lines, live_lines, parts_of, first_view, tallied, sparing, splitter_view, child_view, both_views, spent_view}
use Rattle.mix_turn.specs.Rule.{Numbers}
use Rattle.mix_turn.proofs.HistoryLemmas.{all_nothing, all_cons, all_head, all_rest, length-numbered}

least_step : (k : ℕ) → k < 4294967295 → least_parts k ≡ least_parts (k + 1) + least_parts (k + 1)
unfolding doubled
least_step k small = let e : 4294967296 - k ≡ suc (4294967296 - (k + 1)) = omega arith in ap doubled e

doubled_some : (n : ℕ) → 0 < doubled n
unfolding doubled
doubled_some zero = omega arith
doubled_some (suc n) = let h = doubled_some n in omega arith

abbrev bit : Bool → ℕ
bit b = cond b 1 0

one_more : (b : Bool) (n : ℕ) → b ≡ true → 1 ≤ bit b + n
one_more b n e = subst (λ (c : Bool). 1 ≤ bit c + n) (sym e) (omega arith)

turned_eqb : (m n : ℕ) → eqb m n ≡ eqb n m
turned_eqb m n = dite (ℕ_discrete m n)
    (λ e. eq-eqb m n e ∙ sym (eq-eqb n m (sym e)))
    (λ ne. ne_eqb m n ne ∙ sym (ne_eqb n m (λ e. ne (sym e))))

some≢none : {X : Type 0} (x : X) → ◌≡◌ {A = Option X} None (Some x) → ⊥
some≢none x e = false≢true (ap is_some e)

module _ {A : Type 0} where
  pub snoc_at : (l : List A) (a b : A) (j : ℕ) → get_elem? (l ++ a ∷ []) j ≡ some b → (get_elem? l j ≡ some b) ⊎ ((j ≡ length l) × (a ≡ b))
  snoc_at [] a b zero e = inr (refl, some-injective a b e)
  snoc_at [] a b (suc j) e = absurd (some-ne-none b (sym e))
  snoc_at (x ∷ xs) a b zero e = inl e
  snoc_at (x ∷ xs) a b (suc j) e = ⊎_elim (λ h. inl h) (λ h. let q = h.0 in inr (omega arith, h.1)) (snoc_at xs a b j e)

  weigh_set : (w : A → ℕ) (l : List A) (i : ℕ) (a b : A) → get_elem? l i ≡ some a → weigh w (set l i b) + w a ≡ weigh w l + w b
  weigh_set w [] i a b e = absurd (some-ne-none a (sym e))
  weigh_set w (x ∷ xs) zero a b e = let p : w x ≡ w a = ap w (some-injective x a e) in omega arith
  weigh_set w (x ∷ xs) (suc i) a b e = let h = weigh_set w xs i a b e in omega arith

  weigh_snoc : (w : A → ℕ) (l : List A) (b : A) → weigh w (l ++ b ∷ []) ≡ weigh w l + w b
  weigh_snoc w [] b = omega arith
  weigh_snoc w (x ∷ xs) b = let h = weigh_snoc w xs b in omega arith

  weigh_at : (w : A → ℕ) (l : List A) (i : ℕ) (a : A) → get_elem? l i ≡ some a → w a ≤ weigh w l
  weigh_at w [] i a e = absurd (some-ne-none a (sym e))
  weigh_at w (x ∷ xs) zero a e = let p : w x ≡ w a = ap w (some-injective x a e) in omega arith
  weigh_at w (x ∷ xs) (suc i) a e = let h = weigh_at w xs i a e in omega arith

  weigh_two : (w : A → ℕ) (l : List A) (i j : ℕ) (a b : A) → i ≢ j → get_elem? l i ≡ some a → get_elem? l j ≡ some b → w a + w b ≤ weigh w l
  weigh_two w [] i j a b ne e f = absurd (some-ne-none a (sym e))
  weigh_two w (x ∷ xs) zero zero a b ne e f = absurd (ne refl)
  weigh_two w (x ∷ xs) zero (suc j) a b ne e f = let p : w x ≡ w a = ap w (some-injective x a e) in let h = weigh_at w xs j b f in omega arith
  weigh_two w (x ∷ xs) (suc i) zero a b ne e f = let p : w x ≡ w b = ap w (some-injective x b f) in let h = weigh_at w xs i a e in omega arith
  weigh_two w (x ∷ xs) (suc i) (suc j) a b ne e f = let h = weigh_two w xs i j a b (λ q. ne (ap suc q)) e f in omega arith

  weigh_nothing : (w : A → ℕ) (l : List A) → ((j : ℕ) (d : A) → get_elem? l j ≡ some d → w d ≡ 0) → weigh w l ≡ 0
  weigh_nothing w [] light = refl
  weigh_nothing w (x ∷ xs) light = let here = light 0 x refl in let rest = weigh_nothing w xs (λ j d e. light (suc j) d e) in omega arith

  -- where all others weigh nothing, one weighs all
  weigh_alone : (w : A → ℕ) (l : List A) (i : ℕ) (a : A) → get_elem? l i ≡ some a → ((j : ℕ) (d : A) → j ≢ i → get_elem? l j ≡ some d → w d ≡ 0) → weigh w l ≡ w a
  weigh_alone w [] i a e light = absurd (some-ne-none a (sym e))
  weigh_alone w (x ∷ xs) zero a e light =
      let p : w x ≡ w a = ap w (some-injective x a e) in
      let rest = weigh_nothing w xs (λ j d f. light (suc j) d (λ q. omega arith) f) in omega arith
  weigh_alone w (x ∷ xs) (suc i) a e light =
      let here = light 0 x (λ q. omega arith) refl in
      let rest = weigh_alone w xs i a e (λ j d ne f. light (suc j) d (λ q. ne (omega arith)) f) in omega arith

module _ {E : Type 0} where
  times-append : (p : ℕ) (xs ys : List (PassEntries E)) → times p (xs ++ ys) ≡ times p xs + times p ys
  times-append p [] ys = omega arith
  times-append p (x ∷ xs) ys = let h = times-append p xs ys in omega arith

  -- facts of lines that are of other passes, where the history grew by one pass alone
  pub others_have_all : (p : ℕ) (old new : List (Entered E)) (lines : List (PassEntries E)) → times p lines ≡ 0
      → ((q : ℕ) → q ≢ p → entries_of q new ≡ entries_of q old) → All (HasAllOf old) lines → All (HasAllOf new) lines
  others_have_all p old new [] absent same all = all_nothing (HasAllOf new)
  others_have_all p old new (x ∷ xs) absent same all =
      let other : x.pass ≢ p = λ e. let more = one_more (eqb x.pass p) (times p xs) (eq-eqb x.pass p e) in omega arith in
      all_cons (HasAllOf new) x xs (same x.pass other ∙ all_head (HasAllOf old) x xs all)
      (others_have_all p old new xs (omega arith) same (all_rest (HasAllOf old) x xs all))

  more_step : (b : Bool) (x : Entered E) (l : List (Entered E)) → length (cond b (x ∷ l) l) ≡ bit b + length l
  more_step true x l = omega arith
  more_step false x l = omega arith

  -- how many entries of a line's pass there are
  abbrev pub length_in : List (Entered E) → PassEntries E → ℕ
  length_in xs line = length (entries_of line.pass xs)

  -- one entry more makes each line of its pass one longer
  lengths_step : (lines : List (PassEntries E)) (x : Entered E) (xs : List (Entered E)) → sum_by (length_in (x ∷ xs)) lines ≡ times x.from.pass lines + sum_by (length_in xs) lines
  lengths_step [] x xs = refl
  lengths_step (line ∷ lines) x xs =
      let h = lengths_step lines x xs in
      let a = sum_by-cons (length_in (x ∷ xs)) line lines in
      let b = sum_by-cons (length_in xs) line lines in
      let m = more_step (eqb x.from.pass line.pass) x (entries_of line.pass xs) in
      let t : bit (eqb x.from.pass line.pass) ≡ bit (eqb line.pass x.from.pass) = ap bit (turned_eqb x.from.pass line.pass) in omega arith

  no_lengths : (lines : List (PassEntries E)) → sum_by (length_in []) lines ≡ 0
  no_lengths [] = refl
  no_lengths (line ∷ lines) = let a = sum_by-cons (length_in []) line lines in let h = no_lengths lines in omega arith

  nothing_step : (b : Bool) (x : Entered E) (l : List (Entered E)) → cond b (x ∷ l) l ≡ [] → (b ≡ false) × (l ≡ [])
  nothing_step true x l e = absurd (let n = ap length e in omega arith)
  nothing_step false x l e = (refl, e)

  -- where each pass that has an entry has one line, the lines' entries are all that there are
  pub all_counted : (lines : List (PassEntries E)) (xs : List (Entered E)) → ((p : ℕ) → (times p lines ≡ 1) ⊎ (entries_of p xs ≡ [])) → length xs ≡ sum_by (length_in xs) lines
  all_counted lines [] each = sym (no_lengths lines)
  all_counted lines (x ∷ xs) each =
      let h = all_counted lines xs (λ p. ⊎_elim (λ one. inl one) (λ e. inr (nothing_step (eqb x.from.pass p) x (entries_of p xs) e).1) (each p)) in
      let s = lengths_step lines x xs in
      let one : times x.from.pass lines ≡ 1 = ⊎_elim (λ one. one) (λ e. absurd (false≢true (sym (nothing_step (eqb x.from.pass x.from.pass) x (entries_of x.from.pass xs) e).0 ∙ eq-eqb x.from.pass x.from.pass refl))) (each x.from.pass) in omega arith

  -- a line's own length
  abbrev pub length_of : PassEntries E → ℕ
  length_of line = length line.entries

  -- where the history has just these lines' entries, their lengths are the lengths there
  pub lengths_are : (xs : List (Entered E)) (lines : List (PassEntries E)) → All (HasAllOf xs) lines → sum_by (length_in xs) lines ≡ sum_by length_of lines
  lengths_are xs [] all = refl
  lengths_are xs (line ∷ lines) all =
      let a = sum_by-cons (length_in xs) line lines in
      let b = sum_by-cons length_of line lines in
      let h = lengths_are xs lines (all_rest (HasAllOf xs) line lines all) in
      let here = ap length (all_head (HasAllOf xs) line lines all) in
      let n = length-numbered 0 line.pass line.entries in omega arith

module _ {E S : Type 0} where
  live_is : (o : Option S) (xs : List (PassEntries E)) → is_some o ≡ true → if_started o xs ≡ xs
  live_is None xs live = absurd (false≢true live)
  live_is (Some s) xs live = refl

  pub counts_same : (p : ℕ) (o : Option S) (xs ys : List (PassEntries E)) → times p xs ≡ times p ys → times p (if_started o xs) ≡ times p (if_started o ys)
  counts_same p None xs ys e = refl
  counts_same p (Some s) xs ys e = e

  abbrev count : ℕ → View E S → ℕ
  count p v = times p (live_lines v)

  -- the count of a live view
  count_live : (p : ℕ) (v : View E S) → IsLive v → count p v ≡ times p (held_lines v)
  count_live p v live = ap (times p) (live_is v.start (held_lines v) live)

  dead_counts : (o : Option S) (p : ℕ) (xs : List (PassEntries E)) → (is_some o ≡ true → ⊥) → times p (if_started o xs) ≡ 0
  dead_counts None p xs dead = refl
  dead_counts (Some s) p xs dead = absurd (dead refl)

  count_own : (v : View E S) → IsLive v → 1 ≤ count v.number v
  count_own v live = let c = count_live v.number v live in let more = one_more (eqb v.number v.number) (times v.number (other_lines v)) (eq-eqb v.number v.number refl) in omega arith

  no_more : (made p : ℕ) (views : List (View E S)) → Numbers made views → weigh (count p) views ≤ 1
  no_more made p views n = dite (dec_lt p made) (λ l. let h = n.given p l in omega arith) (λ l. let h = n.free p (omega arith) in omega arith)

  -- who holds all parts is alone
  pub alone : (made : ℕ) (views : List (View E S)) (id j : ℕ) (v d : View E S) → Numbers made views → get_elem? views id ≡ some v → v.parts ≡ all_parts → get_elem? views j ≡ some d → IsLive d → j ≡ id
  alone made views id j v d n at all there live = dite (ℕ_discrete j id) (λ e. e) (λ ne.
      let two = weigh_two parts_of views id j v d (λ e. ne (sym e)) at there in
      let least = n.least j d there live in
      let some_parts = doubled_some (4294967296 - made) in
      let whole = n.whole in absurd (omega arith))

  -- a live view's own number was given
  pub own_given : (made : ℕ) (views : List (View E S)) (id : ℕ) (v : View E S) → Numbers made views → get_elem? views id ≡ some v → IsLive v → v.number < made
  own_given made views id v n at live = dite (dec_lt v.number made) (λ l. l) (λ l.
      let none = n.free v.number (omega arith) in
      let here = weigh_at (count v.number) views id v at in
      let own = count_own v live in absurd (omega arith))

  -- and stands in no other line of the view
  pub own_once : (made : ℕ) (views : List (View E S)) (id : ℕ) (v : View E S) → Numbers made views → get_elem? views id ≡ some v → IsLive v → times v.number (other_lines v) ≡ 0
  own_once made views id v n at live =
      let most = no_more made v.number views n in
      let here = weigh_at (count v.number) views id v at in
      let c = count_live v.number v live in
      let one : bit (eqb v.number v.number) ≡ 1 = ap (λ (b : Bool). bit b) (eq-eqb v.number v.number refl) in omega arith

  -- and in no line of another view
  pub own_apart : (made : ℕ) (views : List (View E S)) (id j : ℕ) (v d : View E S) → Numbers made views → j ≢ id → get_elem? views id ≡ some v → IsLive v → get_elem? views j ≡ some d → IsLive d → times v.number (held_lines d) ≡ 0
  own_apart made views id j v d n ne at live there alive =
      let two = weigh_two (count v.number) views id j v d (λ e. ne (sym e)) at there in
      let most = no_more made v.number views n in
      let own = count_own v live in
      let c = count_live v.number d alive in omega arith

  -- the one live view has a line of each number that was given
  pub has_all_lines : (made p : ℕ) (views : List (View E S)) (id : ℕ) (v : View E S) → Numbers made views → get_elem? views id ≡ some v → IsLive v → v.parts ≡ all_parts → p < made → times p (held_lines v) ≡ 1
  has_all_lines made p views id v n at live all small =
      let c = count_live p v live in
      let w = weigh_alone (count p) views id v at (λ j d ne there. dead_counts d.start p (held_lines d) (λ alive. ne (alone made views id j v d n at all there alive))) in
      let one = n.given p small in omega arith

  -- a view changes that keeps its numbers, its parts and the number in its hand
  pub numbers_same : (made : ℕ) (views : List (View E S)) (id : ℕ) (v w : View E S) → get_elem? views id ≡ some v → w.start ≡ v.start → w.parts ≡ v.parts → w.spare ≡ v.spare
      → ((p : ℕ) → times p (live_lines w) ≡ times p (live_lines v)) → Numbers made views → Numbers made (set views id w)
  numbers_same made views id v w at start parts spare counts n = record {
    few = n.few;
    given = λ p l. let s = weigh_set (count p) views id v w at in let c = counts p in let h = n.given p l in omega arith;
    free = λ p l. let s = weigh_set (count p) views id v w at in let c = counts p in let h = n.free p l in omega arith;
    least = λ j d e live. ⊎_elim
        (λ x. let q : w.parts ≡ d.parts = ap parts_of x.1 in let h = n.least id v at (ap is_some (sym start) ∙ (ap (λ (z : View E S). is_some z.start) x.1 ∙ live)) in omega arith)
        (λ x. n.least j d x.1 live) (at_set views id j w d e);
    spare = λ j d e live k is. ⊎_elim
        (λ x. let q : w.parts ≡ d.parts = ap parts_of x.1 in
        let h = n.spare id v at (ap is_some (sym start) ∙ (ap (λ (z : View E S). is_some z.start) x.1 ∙ live)) k (sym spare ∙ (ap (λ (z : View E S). z.spare) x.1 ∙ is)) in omega arith)
        (λ x. n.spare j d x.1 live k is) (at_set views id j w d e);
    whole = let s = weigh_set parts_of views id v w at in let h = n.whole in omega arith;
  }

  count_sparing : (p k : ℕ) (m : Tally) (v : View E S) → IsLive v → v.spare ≡ None → count p (sparing k (tallied m v)) ≡ count p v + bit (eqb k p)
  count_sparing p k m v live empty =
      let c = count_live p v live in
      let d = count_live p (sparing k (tallied m v)) live in
      let e : times p (other_lines v) ≡ times p v.joined = ap (λ (o : Option ℕ). times p (spare_lines o ++ v.joined)) empty in omega arith

  -- a view takes the next number into its hand
  pub numbers_spared : (k : ℕ) (m : Tally) (views : List (View E S)) (id : ℕ) (v : View E S) → k < 4294967295 → get_elem? views id ≡ some v → IsLive v → v.spare ≡ None → Numbers k views
      → Numbers (k + 1) (set views id (sparing k (tallied m v)))
  numbers_spared k m views id v small at live empty n = let step = least_step k small in let w : View E S = sparing k (tallied m v) in record {
    few = omega arith;
    given = λ p l. let s = weigh_set (count p) views id v w at in let c = count_sparing p k m v live empty in dite (ℕ_discrete k p)
        (λ e. let one : bit (eqb k p) ≡ 1 = ap (λ (b : Bool). bit b) (eq-eqb k p e) in let h = n.free p (omega arith) in omega arith)
        (λ ne. let zero_of : bit (eqb k p) ≡ 0 = ap (λ (b : Bool). bit b) (ne_eqb k p ne) in let h = n.given p (omega arith) in omega arith);
    free = λ p l. let s = weigh_set (count p) views id v w at in let c = count_sparing p k m v live empty in
        let zero_of : bit (eqb k p) ≡ 0 = ap (λ (b : Bool). bit b) (ne_eqb k p (λ e. omega arith)) in let h = n.free p (omega arith) in omega arith;
    least = λ j d e alive. ⊎_elim
        (λ x. let q : v.parts ≡ d.parts = ap parts_of x.1 in let h = n.least id v at live in omega arith)
        (λ x. let h = n.least j d x.1 alive in omega arith) (at_set views id j w d e);
    spare = λ j d e alive m is. ⊎_elim
        (λ x. let q : v.parts ≡ d.parts = ap parts_of x.1 in let h = n.least id v at live in omega arith)
        (λ x. let h = n.spare j d x.1 alive m is in omega arith) (at_set views id j w d e);
    whole = let s = weigh_set parts_of views id v w at in let h = n.whole in omega arith;
  }

  count_split : (p k : ℕ) (v : View E S) → IsLive v → v.spare ≡ Some k → count p (splitter_view v) + count p (child_view v) ≡ count p v
  count_split p k v live has =
      let c = count_live p v live in
      let d = count_live p (splitter_view v) live in
      let f = count_live p (child_view v) live in
      let e : times p (other_lines v) ≡ bit (eqb k p) + times p v.joined = ap (λ (o : Option ℕ). times p (spare_lines o ++ v.joined)) has in
      let g : bit (eqb (child_view v).number p) ≡ bit (eqb k p) = ap (λ (o : Option ℕ). bit (eqb (unwrap_or o 0) p)) has in omega arith

  -- the number in a view's hand goes to a new view
  pub numbers_split : (made k : ℕ) (views : List (View E S)) (id : ℕ) (v : View E S) → get_elem? views id ≡ some v → IsLive v → v.spare ≡ Some k → Numbers made views
      → Numbers made (set views id (splitter_view v) ++ child_view v ∷ [])
  numbers_split made k views id v at live has n = let l : View E S = splitter_view v in let r : View E S = child_view v in let vs : List (View E S) = set views id l in
      let enough = n.spare id v at live k has in let half = v.parts / 2 in let halves : half + half ≤ v.parts = omega arith in let each : least_parts made ≤ half = omega arith in record {
        few = n.few;
        given = λ p low. let s = weigh_set (count p) views id v l at in let t = weigh_snoc (count p) vs r in let c = count_split p k v live has in let h = n.given p low in omega arith;
        free = λ p high. let s = weigh_set (count p) views id v l at in let t = weigh_snoc (count p) vs r in let c = count_split p k v live has in let h = n.free p high in omega arith;
        least = λ j d e alive. ⊎_elim
            (λ x. ⊎_elim
            (λ y. let q : v.parts - half ≡ d.parts = ap parts_of y.1 in omega arith)
            (λ y. n.least j d y.1 alive) (at_set views id j l d x))
            (λ x. let q : half ≡ d.parts = ap parts_of x.1 in omega arith)
            (snoc_at vs r d j e);
        spare = λ j d e alive m is. ⊎_elim
            (λ x. ⊎_elim
            (λ y. absurd (some≢none m (ap (λ (z : View E S). z.spare) y.1 ∙ is)))
            (λ y. n.spare j d y.1 alive m is) (at_set views id j l d x))
            (λ x. absurd (some≢none m (ap (λ (z : View E S). z.spare) x.1 ∙ is)))
            (snoc_at vs r d j e);
        whole = let s = weigh_set parts_of views id v l at in let t = weigh_snoc parts_of vs r in let h = n.whole in omega arith;
      }

  count_both : (p : ℕ) (v w : View E S) → IsLive v → IsLive w → w.spare ≡ None → count p (both_views v w) ≡ count p v + count p w
  count_both p v w live alive empty =
      let c = count_live p v live in
      let d = count_live p w alive in
      let f = count_live p (both_views v w) live in
      let e : times p (other_lines w) ≡ times p w.joined = ap (λ (o : Option ℕ). times p (spare_lines o ++ w.joined)) empty in
      let a = times-append p (spare_lines v.spare) (v.joined ++ own_line w ∷ w.joined) in
      let b = times-append p v.joined (own_line w ∷ w.joined) in
      let g = times-append p (spare_lines v.spare) v.joined in omega arith

  -- two views become one
  pub numbers_joined : (made : ℕ) (views : List (View E S)) (id other : ℕ) (v w : View E S) → get_elem? views id ≡ some v → other ≢ id → get_elem? (set views id (both_views v w)) other ≡ some w
      → IsLive v → IsLive w → w.spare ≡ None → Numbers made views → Numbers made (set (set views id (both_views v w)) other spent_view)
  numbers_joined made views id other v w at apart there live alive empty n = let b : View E S = both_views v w in let vs : List (View E S) = set views id b in record {
    few = n.few;
    given = λ p low. let s = weigh_set (count p) views id v b at in let t = weigh_set (count p) vs other w spent_view there in let c = count_both p v w live alive empty in let h = n.given p low in omega arith;
    free = λ p high. let s = weigh_set (count p) views id v b at in let t = weigh_set (count p) vs other w spent_view there in let c = count_both p v w live alive empty in let h = n.free p high in omega arith;
    least = λ j d e lives. ⊎_elim
        (λ x. absurd (false≢true (ap (λ (z : View E S). is_some z.start) x.1 ∙ lives)))
        (λ x. ⊎_elim
        (λ y. let q : v.parts + w.parts ≡ d.parts = ap parts_of y.1 in let h = n.least id v at live in omega arith)
        (λ y. n.least j d y.1 lives) (at_set views id j b d x.1))
        (at_set vs other j spent_view d e);
    spare = λ j d e lives m is. ⊎_elim
        (λ x. absurd (false≢true (ap (λ (z : View E S). is_some z.start) x.1 ∙ lives)))
        (λ x. ⊎_elim
        (λ y. let q : v.parts + w.parts ≡ d.parts = ap parts_of y.1 in let h = n.spare id v at live m (ap (λ (z : View E S). z.spare) y.1 ∙ is) in omega arith)
        (λ y. n.spare j d y.1 lives m is) (at_set views id j b d x.1))
        (at_set vs other j spent_view d e);
    whole = let s = weigh_set parts_of views id v b at in let t = weigh_set parts_of vs other w spent_view there in let h = n.whole in omega arith;
  }

  only : (s : S) (j : ℕ) (d : View E S) → get_elem? (first_view s ∷ []) j ≡ some d → first_view s ≡ d
  only s zero d e = some-injective (first_view s) d e
  only s (suc j) d e = absurd (some-ne-none d (sym e))

  -- at the start there is the number 0
  pub numbers_first : (s : S) → Numbers {E = E} 1 (first_view s ∷ [])
  numbers_first s = record {
    few = omega arith;
    given = λ p low. let is : p ≡ 0 = omega arith in ap (λ (q : ℕ). bit (eqb 0 q) + 0 + 0) is;
    free = λ p high. ap (λ (b : Bool). bit b + 0 + 0) (ne_eqb 0 p (λ e. omega arith));
    least = λ j d e live. let q : all_parts ≡ d.parts = ap parts_of (only s j d e) in omega arith;
    spare = λ j d e live m is. absurd (some≢none m (ap (λ (z : View E S). z.spare) (only s j d e) ∙ is));
    whole = omega arith;
  }
