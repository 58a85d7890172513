-- Each step keeps the lock's rule, and tells what its play says.
use Rattle.std.proofs.Common.{◌≡◌, ◌≢◌, ◌⊎◌, ℕ, suc, ◌+◌, ◌%◌, ◌^◌, ◌<◌, ◌≤◌, eqb, eq-eqb, ne_eqb, Bool, true, false, ◌||◌, List, [], ◌∷◌, ◌++◌, length, set, get_or, refl, sym, ap, subst, ◌∙◌, inl, inr, ⊎_elim, Option, Some, None, unwrap_or, All, sum_by, lt-ltb, le-ltb, cond, le_refl, arith, zero}
use Rattle.std.proofs.lemmas.Bool.{false≢true}
use mathlib.Core.Option.{some, none, some-injective, some-ne-none}
use mathlib.Core.List.{IsPrefix}
use mathlib.Core.Logic.{dite}
use native.Mathlib.Decide.{ℕ_discrete, dec_lt}
use prog.Atomic.{either}
use lib.ListN.{get_elem?}
use Rattle.atomic_table.specs.Table.{State, Act, step, Allows, Splits, Joins, Final, Seen, keeps, takes, gives, Valid, carried_after, homes_after, rest, opening}
use Rattle.atomic_table.proofs.Lists.{set_here, set_else}
use Rattle.mix_turn.specs.declared.entered.Entered.{Entered}
use Rattle.mix_turn.specs.declared.entered.PassEntries.{PassEntries}
use Rattle.mix_turn.specs.declared.view.View.{View}
use Rattle.mix_turn.specs.Entries.{entries_of, HasAllOf}
use Rattle.mix_turn.specs.Known.{greater}
use Rattle.mix_turn.specs.Tally.{with_look, with_try, with_count, with_take}
use Rattle.mix_turn.specs.Parts.{all_parts}
use Rattle.mix_turn.specs.Views.{IsLive, spare_lines, own_line, other_lines, held_lines, first_view, looking, trying, counting, finding, turning, rested, sparing, splitter_view, child_view, both_views, spent_view}
use Rattle.mix_turn.specs.Rule.{Slots, Knows, Free, Held, Between, Rule}
use Rattle.mix_turn.specs.Steps.{Hand, looked, counted, spared, advanced, tried}
use Rattle.mix_turn.proofs.HistoryLemmas.{prefix_nothing, squeezed, none_before, all_nothing, all_cons, all_head, all_rest, all_append, all_map, longest}
use Rattle.mix_turn.proofs.NumberLemmas.{alone, has_all_lines, all_counted, lengths_are, length_in, length_of, numbers_spared, numbers_split, numbers_joined, numbers_first}
use Rattle.mix_turn.proofs.RuleLemmas.{at_length, same_at, each_after, each_more, turn_idle, turn_more, idle_changes, tally_changes, takes_turn, ahead_of, GoesOn, gives_back}

lt_of_ne : (a b : ℕ) → a ≤ b → b ≢ a → a < b
lt_of_ne a b l ne = dite (ℕ_discrete b a) (λ e. absurd (ne e)) (λ _. omega arith)

or_cases : (a b : Bool) → (a || b) ≡ true → (a ≡ true) ⊎ (b ≡ true)
or_cases true b e = inl refl
or_cases false b e = inr e

greater_left : (m n : ℕ) → m ≤ greater m n
greater_left m n = dite (dec_lt m n)
    (λ l. subst (λ q. m ≤ cond q n m) (sym (lt-ltb m n l)) (omega arith))
    (λ l. subst (λ q. m ≤ cond q n m) (sym (le-ltb m n (omega arith))) (omega arith))

greater_right : (m n : ℕ) → n ≤ greater m n
greater_right m n = dite (dec_lt m n)
    (λ l. subst (λ q. n ≤ cond q n m) (sym (lt-ltb m n l)) (omega arith))
    (λ l. subst (λ q. n ≤ cond q n m) (sym (le-ltb m n (omega arith))) (omega arith))

greater_most : (m n k : ℕ) → m ≤ k → n ≤ k → greater m n ≤ k
greater_most m n k a b = dite (dec_lt m n)
    (λ l. subst (λ q. cond q n m ≤ k) (sym (lt-ltb m n l)) b)
    (λ l. subst (λ q. cond q n m ≤ k) (sym (le-ltb m n (omega arith))) a)

module _ {E : Type 0} where
  -- lines whose entries a beginning has are the history's lines: so each longer beginning has them too
  lines_seen : (lines : List (PassEntries E)) (xs ys log : List (Entered E)) → IsPrefix xs ys → IsPrefix ys log → All (HasAllOf xs) lines → All (HasAllOf log) lines → All (HasAllOf ys) lines
  lines_seen [] xs ys log a b p q = all_nothing (HasAllOf ys)
  lines_seen (line ∷ lines) xs ys log a b p q =
      let old = all_head (HasAllOf xs) line lines p in
      let now = all_head (HasAllOf log) line lines q in
      all_cons (HasAllOf ys) line lines (squeezed line.pass xs ys log a b (now ∙ sym old) ∙ old)
      (lines_seen lines xs ys log a b (all_rest (HasAllOf xs) line lines p) (all_rest (HasAllOf log) line lines q))

module _ {E S : Type 0} where
  -- a view with no number in hand answers for its own number, and for those of the passes joined into it
  pub spared_lines : (P : PassEntries E → Type 0) (v : View E S) → v.spare ≡ None → All P (held_lines v) → All P (own_line v ∷ v.joined)
  spared_lines P v empty all = subst (λ (o : Option ℕ). All P (own_line v ∷ (spare_lines o ++ v.joined))) empty all

  -- what is left of the lines of a view without the number in its hand
  joined_lines : (P : PassEntries E → Type 0) (v : View E S) (o : Option ℕ) → All P (own_line v ∷ (spare_lines o ++ v.joined)) → All P (own_line v ∷ v.joined)
  joined_lines P v None all = all
  joined_lines P v (Some k) all =
      let spare : PassEntries E = record { pass = k; entries = [] } in
      let rest = all_rest P (own_line v) (spare ∷ v.joined) all in
      all_cons P (own_line v) v.joined (all_head P (own_line v) (spare ∷ v.joined) all) (all_rest P spare v.joined rest)

  -- the lines of two views together
  both_lines : (P : PassEntries E → Type 0) (v w : View E S) → w.spare ≡ None → All P (held_lines v) → All P (held_lines w) → All P (held_lines (both_views v w))
  both_lines P v w empty a b =
      let ws = spared_lines P w empty b in
      let own = all_head P (own_line v) (other_lines v) a in
      let others = all_rest P (own_line v) (other_lines v) a in
      let go : (o : Option ℕ) → All P (spare_lines o ++ v.joined) → All P (spare_lines o ++ (v.joined ++ own_line w ∷ w.joined)) =
      elim [
        | None ↦ λ l. all_append P v.joined (own_line w ∷ w.joined) l ws
        | Some k ↦ λ l. let spare : PassEntries E = record { pass = k; entries = [] } in
            all_cons P spare (v.joined ++ own_line w ∷ w.joined) (all_head P spare v.joined l) (all_append P v.joined (own_line w ∷ w.joined) (all_rest P spare v.joined l) ws)
      ] in
      all_cons P (own_line v) (spare_lines v.spare ++ (v.joined ++ own_line w ∷ w.joined)) own (go v.spare others)

module _ {V E S : Type 0} (journal : V → List (Entered E)) (misses : V → ℕ) (start_of : V → S) (full_of : V → Bool) (start : S) where
  abbrev Table : Type 0
  Table = State (Option V) (View E S)

  abbrev M : Type 0
  M = Hand V E S

  abbrev Law : Table → Type 0
  Law = Rule journal misses start_of full_of start

  abbrev Middle : ℕ → ℕ → ℕ → Slots V → List (View E S) → Type 0
  Middle = Between journal misses start_of full_of start

  abbrev first_or : Option V → List (ℕ × Option V) → Option V
  first_or d [] = d
  first_or d (x ∷ xs) = x.1

  somes : (x y : V) → ◌≡◌ {A = Option V} (Some x) (Some y) → x ≡ y
  somes x y e = cc

  -- a look at the serving number
  abbrev Looks : ℕ → ℕ → M → Table → List ℕ → Type 0
  Looks slots id me s ws = (w : View E S) × (a : Act (Option V)) × Valid s.homes me.1 a
      × Law (record { words = set ws 2 (get_or ws 2 0); homes = homes_after s.homes me.1 a; views = set s.views id w })
      × looked (step slots 2 0 0 none) me (get_or ws 2 0) (w, carried_after me.1 a)

  pub looks : (slots id : ℕ) (me : M) → me.0.turn ≡ false → Allows Law slots id me 2 (λ n. n) (looked (step slots 2 0 0 none) me)
  looks slots id me idle s r _ at _ =
      subst (Looks slots id me s) (sym r.words) (
        looking r.serving me.0,
        keeps,
        tt,
        record {
          made = r.made;
          ticket = r.ticket;
          serving = r.serving;
          words = refl;
          between = tally_changes journal misses start_of full_of start r.made r.ticket r.serving s.homes s.views id me.0 (with_look r.serving me.0.tally) at idle r.between (λ _. le_refl r.serving);
        },
        (refl, refl),
      )

  -- a look at the count of numbers
  abbrev Looks0 : ℕ → ℕ → M → Table → List ℕ → Type 0
  Looks0 slots id me s ws = (w : View E S) × (a : Act (Option V)) × Valid s.homes me.1 a
      × Law (record { words = set ws 0 (get_or ws 0 0); homes = homes_after s.homes me.1 a; views = set s.views id w })
      × counted (step slots 0 0 0 none) me (get_or ws 0 0) (w, carried_after me.1 a)

  pub counts : (slots id : ℕ) (me : M) → IsLive me.0 → me.0.turn ≡ false → Allows Law slots id me 0 (λ n. n) (counted (step slots 0 0 0 none) me)
  counts slots id me live idle s r _ at _ = let c = r.between in let o = c.knows id me.0 at live in
      subst (Looks0 slots id me s) (sym r.words) (
        counting r.made me.0,
        keeps,
        tt,
        record {
          made = r.made;
          ticket = r.ticket;
          serving = r.serving;
          words = refl;
          between = tally_changes journal misses start_of full_of start r.made r.ticket r.serving s.homes s.views id me.0 (with_count r.made me.0.tally) at idle c (λ _. o.looked);
        },
        (refl, record { after = refl; few = c.numbers.few; shorter = o.shorter; entries = o.seen_entries; below = o.below }),
      )

  -- a try for a ticket
  abbrev Tries : ℕ → ℕ → ℕ → M → Table → List ℕ → Type 0
  Tries slots id old me s ws = (w : View E S) × (a : Act (Option V)) × Valid s.homes me.1 a
      × Law (record { words = set ws 1 (either (eqb (get_or ws 1 0) old) (old + 1) (get_or ws 1 0)); homes = homes_after s.homes me.1 a; views = set s.views id w })
      × tried journal misses start_of full_of (step slots 1 old (old + 1) none) me (get_or ws 1 0) (w, carried_after me.1 a)

  pub tries : (slots id old : ℕ) (me : M) → me.1 ≡ [] → IsLive me.0 → me.0.turn ≡ false → me.0.tally.serving ≡ old → old < 9223372036854775808
      → Allows Law slots id me 1 (λ n. either (eqb n old) (old + 1) n) (tried journal misses start_of full_of (step slots 1 old (old + 1) none) me)
  tries slots id old me empty live idle looked_is small s r _ at _ =
      let t : ℕ = r.ticket in let n : ℕ = r.serving in let c = r.between in let o = c.knows id me.0 at live in let l : me.0.tally.serving ≤ n = o.looked in
      subst (Tries slots id old me s) (sym r.words) (dite (ℕ_discrete t old)
      (λ hit. ⊎_elim
      (λ (f : Free journal misses start_of full_of t n s.homes s.views c.history c.full start).
      let x : V = f.value in let w : View E S = turning (journal x) (full_of x) (misses x) (trying t me.0) in
      let len : length (journal x) ≡ length c.history = ap length f.history_is in let served = f.served in let even = f.even in (
        w,
        takes 0 (Some x),
        ap (λ h. get_elem? h 0) f.slot,
        record {
          made = r.made;
          ticket = old + 1;
          serving = n;
          words = ap (λ b. r.made ∷ either b (old + 1) t ∷ n ∷ []) (eq-eqb t old hit);
          between = subst (λ h. Middle r.made (old + 1) n (set h 0 none) (set s.views id w)) (sym f.slot)
              (takes_turn journal misses start_of full_of start r.made t n (old + 1) s.homes s.views id me.0 (with_try t me.0.tally) c f at live o.looked (omega arith) (omega arith));
        },
        (
          refl,
          (λ _. record {
            value = x;
            after = ap (λ l. (w, (0, Some x) ∷ l)) empty;
            start = o.starts ∙ ap Some (sym f.start_is);
            seen = subst (λ l. IsPrefix me.0.seen l) (sym f.history_is) o.seen;
            entries = subst (λ l. All (HasAllOf l) (held_lines me.0)) (sym f.history_is) o.entries;
            below = o.below;
            full = λ e. f.full_is ∙ o.refused e;
            small = omega arith;
          }),
          λ miss. absurd (miss hit),
        ),
      ))
      (λ (h : Held journal misses start_of full_of t n s.homes s.views c.history c.full). let up = h.ahead in absurd (omega arith))
      c.turn)
      (λ miss. (
        trying t me.0,
        keeps,
        tt,
        record {
          made = r.made;
          ticket = t;
          serving = n;
          words = ap (λ b. r.made ∷ either b (old + 1) t ∷ n ∷ []) (ne_eqb t old miss);
          between = tally_changes journal misses start_of full_of start r.made t n s.homes s.views id me.0 (with_try t me.0.tally) at idle c (λ _. o.looked);
        },
        (refl, (λ hit. absurd (miss hit)), λ _. (lt_of_ne old t (ahead_of journal misses start_of full_of start r.made t n s.homes s.views old c (omega arith)) miss, refl)),
      )))

  -- the next ticket is served
  abbrev Advances : ℕ → ℕ → M → Table → List ℕ → Type 0
  Advances slots id me s ws = (w : View E S) × (a : Act (Option V)) × Valid s.homes me.1 a
      × Law (record { words = set ws 2 ((get_or ws 2 0 + 1) % 2 ^ 64); homes = homes_after s.homes me.1 a; views = set s.views id w })
      × advanced journal full_of (step slots 2 1 0 none) me (get_or ws 2 0) (w, carried_after me.1 a)

  firsts : (x y : Option V) → ◌≡◌ {A = List (ℕ × Option V)} ((0, x) ∷ []) ((0, y) ∷ []) → x ≡ y
  firsts x y e = ap (λ (l : List (ℕ × Option V)). first_or x l) e

  pub advances : (slots id : ℕ) (me : M) (y : V) → me.1 ≡ (0, Some y) ∷ [] → IsLive me.0 → me.0.turn ≡ true → GoesOn journal misses start_of full_of me.0 y
      → Allows Law slots id me 2 (λ n. (n + 1) % 2 ^ 64) (advanced journal full_of (step slots 2 1 0 none) me)
  advances slots id me y held live turns on s r _ at _ =
      let t : ℕ = r.ticket in let n : ℕ = r.serving in let c = r.between in let small : t ≤ 9223372036854775808 = c.small in
      subst (Advances slots id me s) (sym r.words) (⊎_elim
      (λ (f : Free journal misses start_of full_of t n s.homes s.views c.history c.full start). absurd (false≢true (sym (f.nobody id me.0 at) ∙ turns)))
      (λ (h : Held journal misses start_of full_of t n s.homes s.views c.history c.full).
      let w : View E S = rested (journal y) (full_of y) me.0 in let ahead = h.ahead in
      let after : Middle r.made t (n + 1) (some (Some y) ∷ []) (set s.views id w) = gives_back journal misses start_of full_of start r.made t n s.homes s.views id me.0 y c h at live turns on in
      let told = after.knows id w (set_here s.views id w (at_length s.views id me.0 at)) live in (
        w,
        gives,
        tt,
        record {
          made = r.made;
          ticket = t;
          serving = n + 1;
          words = ap (λ k. r.made ∷ t ∷ k ∷ []) (omega arith);
          between = subst (λ (p : Slots V × List (ℕ × Option V)). Middle r.made t (n + 1) (homes_after p.0 p.1 gives) (set s.views id w)) (λ i. (sym h.slot i, sym held i)) after;
        },
        λ z e. let p : y ≡ z = somes y z (firsts (Some y) (Some z) (sym held ∙ e)) in
            record { after = λ i. (rested (journal (p i)) (full_of (p i)) me.0, rest (held i)); entries = told.seen_entries },
      ))
      c.turn)

  -- a number is taken for a new pass
  abbrev TakesNumber : ℕ → ℕ → ℕ → M → Table → List ℕ → Type 0
  TakesNumber slots id k me s ws = (w : View E S) × (a : Act (Option V)) × Valid s.homes me.1 a
      × Law (record { words = set ws 0 (either (eqb (get_or ws 0 0) k) (k + 1) (get_or ws 0 0)); homes = homes_after s.homes me.1 a; views = set s.views id w })
      × spared (step slots 0 k (k + 1) none) me (get_or ws 0 0) (w, carried_after me.1 a)

  spares_hit : (q t n : ℕ) (slots : Slots V) (views : List (View E S)) (id : ℕ) (v : View E S) (c : Middle q t n slots views) → q < 4294967295 → get_elem? views id ≡ some v → IsLive v → v.turn ≡ false → v.spare ≡ None
      → Middle (q + 1) t n slots (set views id (sparing q (finding q v)))
  spares_hit q t n slots views id v c small at live idle empty =
      let o = c.knows id v at live in let w : View E S = sparing q (finding q v) in
      let spare : PassEntries E = record { pass = q; entries = [] } in
      let with_spare : (P : PassEntries E → Type 0) → P spare → All P (held_lines v) → All P (held_lines w) = λ P new all. let old = spared_lines P v empty all in
      all_cons P (own_line v) (spare ∷ v.joined) (all_head P (own_line v) v.joined old) (all_cons P spare v.joined new (all_rest P (own_line v) v.joined old)) in
      let unborn : entries_of q c.history ≡ [] = c.unborn q (le_refl q) in
      let above = o.above in
      let under : ℕ → PassEntries E → Type 0 = λ k line. line.pass < k in
      idle_changes journal misses start_of full_of start q (q + 1) t n slots views id v w c (omega arith) at idle idle
      (λ _. record {
        starts = o.starts;
        seen = o.seen;
        shorter = o.shorter;
        entries = with_spare (HasAllOf c.history) unborn o.entries;
        seen_entries = with_spare (HasAllOf v.seen) (none_before q v.seen c.history o.seen unborn) o.seen_entries;
        looked = o.looked;
        above = le_refl (q + 1);
        below = with_spare (under (q + 1)) (omega arith) (all_map (under v.above) (under (q + 1)) (held_lines v) (λ line l. omega arith) o.below);
        refused = o.refused;
      })
      (numbers_spared q (with_take q v.tally) views id v small at live empty c.numbers)

  pub spares : (slots id k : ℕ) (me : M) → me.1 ≡ [] → IsLive me.0 → me.0.turn ≡ false → me.0.spare ≡ None → k < 4294967295
      → Allows Law slots id me 0 (λ n. either (eqb n k) (k + 1) n) (spared (step slots 0 k (k + 1) none) me)
  spares slots id k me empty live off no_spare small s r _ at _ =
      let c = r.between in let o = c.knows id me.0 at live in
      subst (TakesNumber slots id k me s) (sym r.words) (dite (ℕ_discrete r.made k)
      (λ hit. let w : View E S = sparing k (finding k me.0) in let above = o.above in (
        w,
        keeps,
        tt,
        record {
          made = k + 1;
          ticket = r.ticket;
          serving = r.serving;
          words = ap (λ b. either b (k + 1) r.made ∷ r.ticket ∷ r.serving ∷ []) (eq-eqb r.made k hit);
          between = subst (λ q. Middle (q + 1) r.ticket r.serving s.homes (set s.views id (sparing q (finding q me.0)))) hit
              (spares_hit r.made r.ticket r.serving s.homes s.views id me.0 c (omega arith) at live off no_spare);
        },
        (
          refl,
          (λ e. record {
            after = ap (λ (j : ℕ). (sparing j (finding j me.0), me.1)) (sym e);
            above = omega arith;
            unborn = none_before r.made me.0.seen c.history o.seen (c.unborn r.made (le_refl r.made));
          }),
          λ miss. absurd (miss hit),
        ),
      ))
      (λ miss. (
        finding r.made me.0,
        keeps,
        tt,
        record {
          made = r.made;
          ticket = r.ticket;
          serving = r.serving;
          words = ap (λ b. either b (k + 1) r.made ∷ r.ticket ∷ r.serving ∷ []) (ne_eqb r.made k miss);
          between = tally_changes journal misses start_of full_of start r.made r.ticket r.serving s.homes s.views id me.0 (with_take r.made me.0.tally) at off c (λ _. o.looked);
        },
        (refl, (λ hit. absurd (miss hit)), λ _. refl),
      )))

  -- a number in a pass's hand goes to a new pass
  pub splits : (id k : ℕ) (v : View E S) → IsLive v → v.spare ≡ Some k → v.turn ≡ false → Splits Law id v (splitter_view v) (child_view v)
  splits id k v live has off s r at =
      let c = r.between in let o = c.knows id v at live in
      let l : View E S = splitter_view v in let u : View E S = child_view v in let vs : List (View E S) = set s.views id l in
      let spare : PassEntries E = record { pass = k; entries = [] } in
      let in_hand : (P : PassEntries E → Type 0) → All P (held_lines v) → P spare = λ P all.
      all_head P spare v.joined (subst (λ (x : Option ℕ). All P (spare_lines x ++ v.joined)) has (all_rest P (own_line v) (other_lines v) all)) in
      let child : (P : PassEntries E → Type 0) → All P (held_lines v) → All P (held_lines u) = λ P all.
      all_cons P (own_line u) [] (subst (λ (x : Option ℕ). P (record { pass = unwrap_or x 0; entries = [] })) (sym has) (in_hand P all)) (all_nothing P) in
      let under : PassEntries E → Type 0 = λ line. line.pass < v.above in
      record {
        made = r.made;
        ticket = r.ticket;
        serving = r.serving;
        words = r.words;
        between = record {
          history = c.history;
          full = c.full;
          small = c.small;
          turn = turn_more journal misses start_of full_of r.ticket r.serving s.homes vs c.history c.full start u refl
              (turn_idle journal misses start_of full_of r.ticket r.serving s.homes s.views c.history c.full start id v l at off off c.turn);
          knows = each_more (Knows c.history r.serving r.made c.full start) vs u
              (λ _. record {
                starts = o.starts;
                seen = o.seen;
                shorter = prefix_nothing v.seen;
                entries = child (HasAllOf c.history) o.entries;
                seen_entries = child (HasAllOf v.seen) o.seen_entries;
                looked = omega arith;
                above = o.above;
                below = child under o.below;
                refused = o.refused;
              })
              (each_after (Knows c.history r.serving r.made c.full start) s.views id l
              (λ _. record {
                starts = o.starts;
                seen = o.seen;
                shorter = o.shorter;
                entries = joined_lines (HasAllOf c.history) v v.spare o.entries;
                seen_entries = joined_lines (HasAllOf v.seen) v v.spare o.seen_entries;
                looked = o.looked;
                above = o.above;
                below = joined_lines under v v.spare o.below;
                refused = o.refused;
              })
              (λ j d _ e alive. c.knows j d e alive));
          numbers = numbers_split r.made k s.views id v at live has c.numbers;
          unborn = c.unborn;
        };
      }

  -- two passes become one
  pub joins : (id : ℕ) (v : View E S) (other : ℕ) (w : View E S) → IsLive v → IsLive w → v.turn ≡ false → w.turn ≡ false → w.spare ≡ None
      → Joins Law id v other w (both_views v w) spent_view
  joins id v other w vl wl voff woff empty s r at apart there =
      let c = r.between in let o = c.knows id v at vl in
      let b : View E S = both_views v w in let vs : List (View E S) = set s.views id b in
      let was : get_elem? s.views other ≡ some w = sym (set_else s.views id other b apart) ∙ there in
      let p = c.knows other w was wl in
      let long = longest v.seen w.seen c.history o.seen p.seen in
      let under : ℕ → PassEntries E → Type 0 = λ k line. line.pass < k in
      let up : (k : ℕ) (ls : List (PassEntries E)) → k ≤ b.above → All (under k) ls → All (under b.above) ls = λ k ls le all. all_map (under k) (under b.above) ls (λ line l. omega arith) all in
      record {
        made = r.made;
        ticket = r.ticket;
        serving = r.serving;
        words = r.words;
        between = record {
          history = c.history;
          full = c.full;
          small = c.small;
          turn = turn_idle journal misses start_of full_of r.ticket r.serving s.homes vs c.history c.full start other w spent_view there woff refl
              (turn_idle journal misses start_of full_of r.ticket r.serving s.homes s.views c.history c.full start id v b at voff voff c.turn);
          knows = each_after (Knows c.history r.serving r.made c.full start) vs other spent_view (λ l. absurd (false≢true l))
              (λ j d ne e alive. each_after (Knows c.history r.serving r.made c.full start) s.views id b
              (λ _. record {
                starts = o.starts;
                seen = long.begins_all;
                shorter = long.shorter_first;
                entries = both_lines (HasAllOf c.history) v w empty o.entries p.entries;
                seen_entries = both_lines (HasAllOf b.seen) v w empty
                    (lines_seen (held_lines v) v.seen b.seen c.history long.first long.begins_all o.seen_entries o.entries)
                    (lines_seen (held_lines w) w.seen b.seen c.history long.second long.begins_all p.seen_entries p.entries);
                looked = o.looked;
                above = greater_most v.above w.above r.made o.above p.above;
                below = both_lines (under b.above) v w empty (up v.above (held_lines v) (greater_left v.above w.above) o.below) (up w.above (held_lines w) (greater_right v.above w.above) p.below);
                refused = λ e. ⊎_elim (λ x. o.refused x) (λ x. p.refused x) (or_cases v.full w.full e);
              })
              (λ j d _ e alive. c.knows j d e alive) j d e alive);
          numbers = numbers_joined r.made s.views id other v w at apart there vl wl empty c.numbers;
          unborn = c.unborn;
        };
      }

  -- what the last pass finds when the table is closed
  pub record Closes (v : View E S) (xs : List (Option V)) : Type 0 where
    pub value : V
    pub there : get_elem? xs 0 ≡ some (Some value)
    pub starts : v.start ≡ Some (start_of value)
    pub seen : IsPrefix v.seen (journal value)
    pub entries : All (HasAllOf (journal value)) (own_line v ∷ v.joined)
    pub every : length (journal value) ≡ sum_by length_of (own_line v ∷ v.joined)
    pub full : v.full ≡ true → full_of value ≡ true

  pub closes : (id : ℕ) (v : View E S) (ws : List ℕ) (xs : List (Option V)) → IsLive v → v.turn ≡ false → v.spare ≡ None → v.parts ≡ all_parts → Final (Seen Law id v) ws xs → Closes v xs
  closes id v ws xs live off empty all f =
      let s = f.0 in let r = f.1.0 in let at = f.1.1 in let c = r.between in let o = c.knows id v at live in ⊎_elim
      (λ (g : Free journal misses start_of full_of r.ticket r.serving s.homes s.views c.history c.full start).
      let entries : All (HasAllOf (journal g.value)) (held_lines v) = subst (λ l. All (HasAllOf l) (held_lines v)) (sym g.history_is) o.entries in
      let counted : length c.history ≡ sum_by (length_in c.history) (held_lines v) = all_counted (held_lines v) c.history
      (λ p. dite (dec_lt p r.made) (λ l. inl (has_all_lines r.made p s.views id v c.numbers at live all l)) (λ l. inr (c.unborn p (omega arith)))) in
      let sums = lengths_are c.history (held_lines v) o.entries in
      record {
        value = g.value;
        there = f.4 0 (Some g.value) (ap (λ h. get_elem? h 0) g.slot);
        starts = o.starts ∙ ap Some (sym g.start_is);
        seen = subst (λ l. IsPrefix v.seen l) (sym g.history_is) o.seen;
        entries = spared_lines (HasAllOf (journal g.value)) v empty entries;
        every = ap length g.history_is ∙ (counted ∙ (sums ∙ ap (λ (x : Option ℕ). sum_by length_of (own_line v ∷ (spare_lines x ++ v.joined))) empty));
        full = λ e. g.full_is ∙ o.refused e;
      })
      (λ (h : Held journal misses start_of full_of r.ticket r.serving s.homes s.views c.history c.full).
      let is = alone r.made s.views id h.seat v h.holder c.numbers at all h.there h.live in
      absurd (false≢true (sym off ∙ (ap (λ (z : View E S). z.turn) (same_at s.views id v h.holder at (subst (λ i. get_elem? s.views i ≡ some h.holder) is h.there)) ∙ h.turn))))
      c.turn

  only : (j : ℕ) (d : View E S) → get_elem? (first_view start ∷ []) j ≡ some d → first_view start ≡ d
  only zero d e = some-injective (first_view start) d e
  only (suc j) d e = absurd (some-ne-none d (sym e))

  -- the table at the start
  pub opens : (x : V) → journal x ≡ [] → misses x ≡ 0 → start_of x ≡ start → Law (opening (1 ∷ 0 ∷ 0 ∷ []) (Some x ∷ []) (first_view start))
  opens x empty none_missed is = record {
    made = 1;
    ticket = 0;
    serving = 0;
    words = refl;
    between = record {
      history = [];
      full = full_of x;
      small = omega arith;
      turn = inl (record {
        value = x;
        slot = refl;
        history_is = empty;
        full_is = refl;
        start_is = is;
        served = omega arith;
        even = refl;
        nobody = λ j d e. ap (λ (z : View E S). z.turn) (sym (only j d e));
      });
      knows = λ j d e live. subst (λ (z : View E S). Knows [] 0 1 (full_of x) start z) (only j d e) (
          let line : PassEntries E = own_line (first_view start) in
          let under : PassEntries E → Type 0 = λ l. l.pass < 1 in
          record {
            starts = refl;
            seen = prefix_nothing [];
            shorter = prefix_nothing [];
            entries = all_cons (HasAllOf []) line [] refl (all_nothing (HasAllOf []));
            seen_entries = all_cons (HasAllOf []) line [] refl (all_nothing (HasAllOf []));
            looked = le_refl 0;
            above = le_refl 1;
            below = all_cons under line [] (omega arith) (all_nothing under);
            refused = λ b. absurd (false≢true b);
          });
      numbers = numbers_first start;
      unborn = λ p _. refl;
    };
  }
