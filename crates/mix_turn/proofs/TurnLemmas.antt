-- A turn from its try to its end, as the pass that took it sees it.
use Rattle.std.proofs.Common.{◌≡◌, ◌≢◌, ℕ, ◌+◌, ◌<◌, Bool, true, false, ◌||◌, List, [], ◌∷◌, ◌++◌, length, map, refl, sym, ap, subst, ◌∙◌, Option, Some, None, is_some, All, length-append, append-nil, arith}
use Rattle.std.proofs.lemmas.Bool.{false≢true}
use mathlib.Core.List.{IsPrefix}
use Rattle.atomic_table.specs.Table.{rest}
use Rattle.mix_base.specs.declared.numbers.PassNo.{PassNo}
use Rattle.mix_turn.specs.declared.entered.Entered.{Entered}
use Rattle.mix_turn.specs.declared.entered.PassEntries.{PassEntries}
use Rattle.mix_turn.specs.declared.turn.Turn.{Turn}
use Rattle.mix_turn.specs.declared.turn.Turn.TheVariants.{Done, Missed}
use Rattle.mix_turn.specs.declared.view.Tally.{Tally}
use Rattle.mix_turn.specs.declared.view.View.{View}
use Rattle.mix_turn.specs.Entries.{pass_no, entered, entries_of, numbered_from, HasAllOf}
use Rattle.mix_turn.specs.Tally.{with_look, with_try, IsWon}
use Rattle.mix_turn.specs.Turns.{OnDone, OnMissed, done_entries, done_turns, missed_turns, is_full}
use Rattle.mix_turn.specs.Views.{IsLive, entry_in, own_line, other_lines, held_lines, tallied, looking, trying, turning, rested}
use Rattle.mix_turn.specs.Steps.{Hand, Wins, Rests, Takes, IsAtRest}
use Rattle.mix_turn.proofs.HistoryLemmas.{entries_of-own, entries_of-else, numbered-snoc, map-numbered, length-numbered, entries_of-short, prefix_on, all_head, all_rest, all_cons}
use Rattle.mix_turn.proofs.RuleLemmas.{GoesOn}
use Rattle.mix_turn.proofs.StepLemmas.{spared_lines}

or_right : (a b : Bool) → b ≡ true → (a || b) ≡ true
or_right true b e = refl
or_right false b e = e

or_left : (a b : Bool) → a ≡ true → (a || b) ≡ true
or_left true b e = refl
or_left false b e = absurd (false≢true e)

-- a try that found the number looked at has won
won_by : (k j : ℕ) (old new : Tally) → j ≡ k → new ≡ with_try j (with_look k old) → IsWon old new
won_by k j old new hit e =
    let same : k ≡ new.serving = sym (ap (λ (m : Tally). m.serving) e) in subst (λ n. new ≡ with_try n (with_look n old)) same (e ∙ ap (λ n. with_try n (with_look k old)) hit)

module _ {E : Type 0} where
  -- the entry of a done turn stands behind the pass's own
  own_grows : {A : Type 0} (log log' : List (Entered E)) (p : PassNo) (own : List E) (e : E) (r : Turn A) → length own ≡ p.number → entries_of p.pass log ≡ numbered_from 0 p.pass own
      → log' ≡ log ++ done_entries r (entered p e) → entries_of p.pass log' ≡ numbered_from 0 p.pass (own ++ done_entries r e)
  own_grows log log' p own e (Done a) count has is =
      let same : entered p e ≡ entered (pass_no p.pass (0 + length own)) e = ap (λ (n : ℕ). entered (pass_no p.pass n) e) (let c : p.number ≡ 0 + length own = omega arith in c) in
      ap (entries_of p.pass) is ∙ (entries_of-own p.pass log (entered p e) refl ∙ (ap (λ l. l ++ entered p e ∷ []) has
      ∙ (ap (λ x. numbered_from 0 p.pass own ++ x ∷ []) same ∙ sym (numbered-snoc 0 p.pass own e))))
  own_grows log log' p own e (Missed m) count has is =
      ap (entries_of p.pass) (is ∙ append-nil log) ∙ (has ∙ ap (numbered_from 0 p.pass) (sym (append-nil own)))

  others_same : {A : Type 0} (log log' : List (Entered E)) (p : PassNo) (e : E) (r : Turn A) → log' ≡ log ++ done_entries r (entered p e) → (q : ℕ) → q ≢ p.pass → entries_of q log' ≡ entries_of q log
  others_same log log' p e (Done a) is q ne = ap (entries_of q) is ∙ entries_of-else q log (entered p e) ne
  others_same log log' p e (Missed m) is q ne = ap (entries_of q) (is ∙ append-nil log)

  counts_one : {A : Type 0} (x y : Entered E) (log log' : List (Entered E)) (m m' : ℕ) (r : Turn A) → log' ≡ log ++ done_entries r x → m' ≡ m + missed_turns r → length log' + m' ≡ (length log + m) + 1
  counts_one x y log log' m m' (Done a) is miss = let l = ap length is in let n = length-append log (x ∷ []) in omega arith
  counts_one x y log log' m m' (Missed k) is miss = let l = ap length is in let n = length-append log [] in omega arith

  on_done : {A : Type 0} (r : Turn A) (own own' : List E) (e : E) → own' ≡ own ++ done_entries r e → OnDone r (own' ≡ own ++ e ∷ [])
  on_done (Done a) own own' e is = is
  on_done (Missed m) own own' e is = tt

  on_missed : {A : Type 0} (r : Turn A) (own own' : List E) (e : E) → own' ≡ own ++ done_entries r e → OnMissed r (own' ≡ own)
  on_missed (Done a) own own' e is = tt
  on_missed (Missed m) own own' e is = is ∙ append-nil own

  one_or_none : {A : Type 0} (r : Turn A) (own : List E) (e : E) → length (own ++ done_entries r e) ≡ length own + done_turns r
  one_or_none (Done a) own e = let n = length-append own (e ∷ []) in omega arith
  one_or_none (Missed m) own e = let n = length-append own [] in omega arith

module _ {V E S : Type 0} (journal : V → List (Entered E)) (misses : V → ℕ) (start_of : V → S) (full_of : V → Bool) where
  abbrev first_or : Option V → List (ℕ × Option V) → Option V
  first_or d [] = d
  first_or d (x ∷ xs) = x.1

  -- what the seat holds after the value was taken and put back
  pub held_after : (m1 m2 m3 : Hand V E S) (r z : Option V) → m1.1 ≡ (0, z) ∷ [] → m2 ≡ (m1.0, (0, None) ∷ rest m1.1) → m3 ≡ (m2.0, (0, r) ∷ rest m2.1) → m3 ≡ (m1.0, (0, r) ∷ [])
  held_after m1 m2 m3 r z a b d = d ∙ (ap (λ (m : Hand V E S). (m.0, (0, r) ∷ rest m.1)) b ∙ ap (λ (l : List (ℕ × Option V)). (m1.0, (0, r) ∷ rest l)) a)

  -- the value that was taken is the one that the try told of
  pub found_is : (l : List (ℕ × Option V)) (x v : V) (r : Option V) → l ≡ (0, Some x) ∷ [] → l ≡ (0, r) ∷ rest l → r ≡ Some v → x ≡ v
  found_is l x v r a b d = let f : Option V → List (ℕ × Option V) → Option V = first_or in let e : Some x ≡ Some v = ap (f (Some x)) (sym a ∙ b) ∙ d in cc

  -- the value goes on from what the view found
  pub goes : {A : Type 0} (v w : View E S) (x y : V) (p : PassNo) (e : E) (r : Turn A) → w ≡ turning (journal x) (full_of x) (misses x) v → v.number ≡ p.pass → length v.own ≡ p.number
      → v.start ≡ Some (start_of x) → All (HasAllOf (journal x)) (held_lines v) → journal y ≡ journal x ++ done_entries r (entered p e) → misses y ≡ misses x + missed_turns r
      → start_of y ≡ start_of x → full_of y ≡ (full_of x || is_full r) → GoesOn journal misses start_of full_of w y
  goes v w x y p e r is number count starts entries more missed same full =
      let own : entries_of v.number (journal x) ≡ numbered_from 0 v.number v.own = all_head (HasAllOf (journal x)) (own_line v) (other_lines v) entries in
      let own' : entries_of p.pass (journal x) ≡ numbered_from 0 p.pass v.own = subst (λ q. entries_of q (journal x) ≡ numbered_from 0 q v.own) number own in
      subst (λ (z : View E S). GoesOn journal misses start_of full_of z y) (sym is) (record {
        longer = (done_entries r (entered p e), sym more);
        others = λ q ne. others_same (journal x) (journal y) p e r more q (λ t. ne (t ∙ sym number));
        own = v.own ++ done_entries r e;
        own_is = subst (λ q. entries_of q (journal y) ≡ numbered_from 0 q (v.own ++ done_entries r e)) (sym number) (own_grows (journal x) (journal y) p v.own e r count own' more);
        counted = counts_one (entered p e) (entered p e) (journal x) (journal y) (misses x) (misses y) r more missed;
        starts = starts ∙ ap Some (sym same);
        kept = λ t. full ∙ or_left (full_of x) (is_full r) t;
      })

  some_is : (x y : S) → ◌≡◌ {A = Option S} (Some x) (Some y) → x ≡ y
  some_is x y e = cc

  -- what the whole turn is to the view that took it
  pub took : {A : Type 0} (says : S → List (Entered E) → Entered E → Turn A → Type 0) (v u w : View E S) (x y : V) (p : PassNo) (e : E) (r : Turn A) (m : Tally) → u ≡ turning (journal x) (full_of x) (misses x) (tallied m v)
      → w ≡ rested (journal y) (full_of y) u → v.start ≡ Some (start_of x) → IsPrefix v.seen (journal x) → All (HasAllOf (journal x)) (held_lines v) → (v.full ≡ true → full_of x ≡ true)
      → length (journal x) + misses x < 9223372036854775808 → journal y ≡ journal x ++ done_entries r (entered p e) → full_of y ≡ (full_of x || is_full r) → says (start_of x) (journal x) (entered p e) r
      → All (HasAllOf w.seen) (held_lines w) → Takes says v (entered p e) r w
  took says v u w x y p e r m turns rests starts seen entries kept small more full agrees all_seen = record {
    found = journal x;
    full = full_of y;
    tally = m;
    after = rests ∙ (ap (rested (journal y) (full_of y)) turns ∙ ap (λ l. rested l (full_of y) (tallied m v)) more);
    seen = seen;
    entries = entries;
    kept = λ t. full ∙ or_left (full_of x) (is_full r) (kept t);
    refused = λ t. full ∙ or_right (full_of x) (is_full r) t;
    all_seen = all_seen;
    agrees = λ s is. subst (λ (z : S). says z (journal x) (entered p e) r) (some_is (start_of x) s (sym starts ∙ is)) agrees;
    small = omega arith;
  }

  -- A pass whose try won, once the value has done its turn and is back in the slot that the pass holds
  pub record Ready {A : Type 0} (says : S → List (Entered E) → Entered E → Turn A → Type 0) (old now : Hand V E S) (p : PassNo) (e : E) (r : Turn A) (y : V) : Type 0 where
    pub held : now.1 ≡ (0, Some y) ∷ []
    pub live : IsLive now.0
    pub turn : now.0.turn ≡ true
    pub goes_on : GoesOn journal misses start_of full_of now.0 y
    pub after : (m : Hand V E S) → Rests journal full_of y now m → Takes says old.0 (entered p e) r m.0
    pub won : (m : Hand V E S) → Rests journal full_of y now m → IsWon old.0.tally m.0.tally

  -- k is the serving number looked at, and j the ticket found; m0 is the seat before the look, m1 after it, m2 after the try, m3 after the value was taken, m4 after it was put back
  pub ready : {A : Type 0} (says : S → List (Entered E) → Entered E → Turn A → Type 0) (m0 m1 m2 m3 m4 : Hand V E S) (k j : ℕ) (p : PassNo) (e : E) (r : Turn A) (x y : V) (z : Option V)
      → m1 ≡ (looking k m0.0, m0.1) → j ≡ k → Wins journal misses start_of full_of (trying j m1.0, m1.1) m2 → m2.1 ≡ (0, z) ∷ rest m2.1 → z ≡ Some x → m3 ≡ (m2.0, (0, None) ∷ rest m2.1) → m4 ≡ (m3.0, (0, Some y) ∷ rest m3.1)
      → IsLive m0.0 → IsAtRest m0 p.pass p.number → says (start_of x) (journal x) (entered p e) r → journal y ≡ journal x ++ done_entries r (entered p e) → misses y ≡ misses x + missed_turns r
      → start_of y ≡ start_of x → full_of y ≡ (full_of x || is_full r) → Ready says m0 m4 p e r y
  ready says m0 m1 m2 m3 m4 k j p e r x y z look hit win out is taken back live rests agrees more missed same full =
      let v : View E S = trying j (looking k m0.0) in
      let u1 : View E S = trying j m1.0 in
      let seated : u1 ≡ v = ap (λ (m : Hand V E S). trying j m.0) look in
      let one : win.value ≡ x = found_is m2.1 win.value x z (ap (λ (m : Hand V E S). m.1) win.after) out is in
      let now : m4 ≡ (m2.0, (0, Some y) ∷ []) = held_after m2 m3 m4 (Some y) (Some win.value) (ap (λ (m : Hand V E S). m.1) win.after) taken back in
      let turns : m4.0 ≡ turning (journal x) (full_of x) (misses x) v =
      ap (λ (m : Hand V E S). m.0) now ∙ (ap (λ (m : Hand V E S). m.0) win.after ∙ (λ i. turning (journal (one i)) (full_of (one i)) (misses (one i)) (seated i))) in
      let starts : v.start ≡ Some (start_of x) = ap (λ (u : View E S). u.start) (sym seated) ∙ (win.start ∙ ap (λ (u : V). Some (start_of u)) one) in
      let entries : All (HasAllOf (journal x)) (held_lines v) = subst (λ (u : View E S). All (HasAllOf (journal x)) (held_lines u)) seated (subst (λ (u : V). All (HasAllOf (journal u)) (held_lines u1)) one win.entries) in
      let seen : IsPrefix v.seen (journal x) = subst (λ (u : View E S). IsPrefix u.seen (journal x)) seated (subst (λ (u : V). IsPrefix u1.seen (journal u)) one win.seen) in
      let kept : v.full ≡ true → full_of x ≡ true = λ t. ap full_of (sym one) ∙ win.full (ap (λ (u : View E S). u.full) seated ∙ t) in
      let small : length (journal x) + misses x < 9223372036854775808 = subst (λ (u : V). length (journal u) + misses u < 9223372036854775808) one win.small in
      record {
        held = ap (λ (m : Hand V E S). m.1) now;
        live = ap (λ (u : View E S). is_some u.start) turns ∙ live;
        turn = ap (λ (u : View E S). u.turn) turns;
        goes_on = goes v m4.0 x y p e r turns rests.number_is rests.count_is starts entries more missed same full;
        after = λ m rested_is. took says m0.0 m4.0 m.0 x y p e r v.tally turns (ap (λ (n : Hand V E S). n.0) rested_is.after) starts seen entries kept small more full agrees rested_is.entries;
        won = λ m rested_is. won_by k j m0.0.tally m.0.tally hit (ap (λ (n : Hand V E S). n.0.tally) rested_is.after ∙ ap (λ (u : View E S). u.tally) turns);
      }

module _ {V E S : Type 0} where
  -- a pass whose tally alone changed is at rest as before
  pub rests_tallied : (me me' : Hand V E S) (m : Tally) (p n : ℕ) → me'.0 ≡ tallied m me.0 → me'.1 ≡ [] → IsAtRest me p n → IsAtRest me' p n
  rests_tallied me me' m p n view empty rests = record {
    empty = empty;
    idle = ap (λ (z : View E S). z.turn) view ∙ rests.idle;
    spent = ap (λ (z : View E S). z.spare) view ∙ rests.spent;
    number_is = ap (λ (z : View E S). z.number) view ∙ rests.number_is;
    count_is = ap (λ (z : View E S). length z.own) view ∙ rests.count_is;
    entries = subst (λ (z : View E S). All (HasAllOf z.seen) (held_lines z)) (sym view) rests.entries;
    below = subst (λ (z : View E S). All (λ (line : PassEntries E). line.pass < z.above) (held_lines z)) (sym view) rests.below;
  }

  -- a pass that waits: it has looked and tried, and nothing else of it has changed
  pub record Waits (old now : Hand V E S) : Type 0 where
    pub tally : Tally
    pub view : now.0 ≡ tallied tally old.0
    pub empty : now.1 ≡ []

  pub waits_first : (me : Hand V E S) → me.1 ≡ [] → Waits me me
  waits_first me empty = record { tally = me.0.tally; view = refl; empty = empty }

  pub waits_on : (old now next : Hand V E S) (m : Tally) → Waits old now → next.0 ≡ tallied m now.0 → next.1 ≡ [] → Waits old next
  waits_on old now next m w view empty = record { tally = m; view = view ∙ ap (tallied m) w.view; empty = empty }

  -- a turn of a pass that waited is one of the pass as it was
  pub took_waiting : {A : Type 0} (says : S → List (Entered E) → Entered E → Turn A → Type 0) (old now : Hand V E S) (e : Entered E) (r : Turn A) (w : View E S) → Waits old now → Takes says now.0 e r w → Takes says old.0 e r w
  took_waiting says old now e r w waits took = record {
    found = took.found;
    full = took.full;
    tally = took.tally;
    after = took.after ∙ ap (λ (z : View E S). rested (took.found ++ done_entries r e) took.full (tallied took.tally z)) waits.view;
    seen = subst (λ (z : View E S). IsPrefix z.seen took.found) waits.view took.seen;
    entries = subst (λ (z : View E S). All (HasAllOf took.found) (held_lines z)) waits.view took.entries;
    kept = λ t. took.kept (ap (λ (z : View E S). z.full) waits.view ∙ t);
    refused = took.refused;
    all_seen = took.all_seen;
    agrees = λ s is. took.agrees s (ap (λ (z : View E S). z.start) waits.view ∙ is);
    small = took.small;
  }

  -- What a pass is after its turn
  pub record Ended {A : Type 0} (old now : Hand V E S) (p : PassNo) (e : E) (r : Turn A) : Type 0 where
    pub rests : IsAtRest now p.pass (p.number + done_turns r)
    pub small : p.number < 9223372036854775808
    pub done : OnDone r (now.0.own ≡ old.0.own ++ e ∷ [])
    pub missed : OnMissed r (now.0.own ≡ old.0.own)
    pub seen : IsPrefix old.0.seen now.0.seen
    pub entries : All (HasAllOf now.0.seen) (own_line now.0 ∷ now.0.joined)

  pub ended : {A : Type 0} (says : S → List (Entered E) → Entered E → Turn A → Type 0) (old now : Hand V E S) (p : PassNo) (e : E) (r : Turn A)
      → IsAtRest old p.pass p.number → Takes says old.0 (entered p e) r now.0 → now.1 ≡ [] → Ended old now p e r
  ended says old now p e r rests took empty =
      let v : View E S = old.0 in
      let log' : List (Entered E) = took.found ++ done_entries r (entered p e) in
      let has : entries_of v.number took.found ≡ numbered_from 0 v.number v.own = all_head (HasAllOf took.found) (own_line v) (other_lines v) took.entries in
      let has' : entries_of p.pass took.found ≡ numbered_from 0 p.pass v.own = subst (λ q. entries_of q took.found ≡ numbered_from 0 q v.own) rests.number_is has in
      let grown : entries_of v.number log' ≡ numbered_from 0 v.number (v.own ++ done_entries r e) =
      subst (λ q. entries_of q log' ≡ numbered_from 0 q (v.own ++ done_entries r e)) (sym rests.number_is) (own_grows took.found log' p v.own e r rests.count_is has' refl) in
      let own : now.0.own ≡ v.own ++ done_entries r e =
      ap (λ (z : View E S). z.own) took.after ∙ (ap (map entry_in) grown ∙ map-numbered 0 v.number (v.own ++ done_entries r e)) in
      let spare : now.0.spare ≡ None = ap (λ (z : View E S). z.spare) took.after ∙ rests.spent in
      let short = entries_of-short v.number took.found in
      let len = ap length has in
      let len' = length-numbered 0 v.number v.own in
      let small = took.small in
      let count = rests.count_is in
      let under : View E S → PassEntries E → Type 0 = λ z line. line.pass < z.above in
      record {
        rests = record {
          empty = empty;
          idle = ap (λ (z : View E S). z.turn) took.after;
          spent = spare;
          number_is = ap (λ (z : View E S). z.number) took.after ∙ rests.number_is;
          count_is = ap length own ∙ (one_or_none r v.own e ∙ ap (λ n. n + done_turns r) count);
          entries = took.all_seen;
          below = subst (λ (z : View E S). All (under z) (held_lines z)) (sym took.after)
              (all_cons (under v) (own_line (rested log' took.full v)) (other_lines v) (all_head (under v) (own_line v) (other_lines v) rests.below) (all_rest (under v) (own_line v) (other_lines v) rests.below));
        };
        small = omega arith;
        done = on_done r v.own now.0.own e own;
        missed = on_missed r v.own now.0.own e own;
        seen = subst (λ (z : View E S). IsPrefix v.seen z.seen) (sym took.after) (prefix_on v.seen took.found log' took.seen (done_entries r (entered p e), refl));
        entries = spared_lines (HasAllOf now.0.seen) now.0 spare took.all_seen;
      }
