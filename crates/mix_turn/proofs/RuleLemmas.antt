-- Lemmas on the lock's rule: what stays when one view changes, when a turn begins and when it ends.
use Rattle.std.proofs.Common.{◌≡◌, ◌≢◌, ◌⊎◌, ℕ, ◌+◌, ◌<◌, ◌≤◌, Bool, true, false, List, [], ◌∷◌, ◌++◌, length, map, set, refl, sym, ap, subst, ◌∙◌, inl, inr, ⊎_elim, Option, Some, All, arith, zero, suc, le_refl}
use Rattle.std.proofs.lemmas.Bool.{false≢true}
use mathlib.Core.Option.{some, none, some-injective, some-ne-none}
use mathlib.Core.List.{IsPrefix}
use lib.ListN.{get_elem?}
use Rattle.atomic_table.proofs.Lists.{at_set, set_here, set_else, at_longer}
use Rattle.mix_turn.specs.declared.entered.Entered.{Entered}
use Rattle.mix_turn.specs.declared.entered.PassEntries.{PassEntries}
use Rattle.mix_turn.specs.declared.view.Tally.{Tally}
use Rattle.mix_turn.specs.declared.view.View.{View}
use Rattle.mix_turn.specs.Entries.{entries_of, numbered_from, HasAllOf}
use Rattle.mix_turn.specs.Views.{IsLive, entry_in, own_line, other_lines, held_lines, tallied, turning, rested}
use Rattle.mix_turn.specs.Rule.{Slots, EachLive, Knows, Numbers, Free, Held, Between}
use Rattle.mix_turn.proofs.HistoryLemmas.{prefix_whole, prefix_nothing, prefix_on, all_cons, all_head, all_rest, map-numbered}
use Rattle.mix_turn.proofs.NumberLemmas.{snoc_at, others_have_all, own_given, own_once, own_apart, counts_same, numbers_same}

bool_cases : (P : Type 0) (b : Bool) → (b ≡ true → P) → (b ≡ false → P) → P
bool_cases P true = λ yes no. yes refl
bool_cases P false = λ yes no. no refl

module _ {X : Type 0} where
  -- a place where something stands is in the list
  pub at_length : (l : List X) (i : ℕ) (a : X) → get_elem? l i ≡ some a → i < length l
  at_length [] i a e = absurd (some-ne-none a (sym e))
  at_length (x ∷ xs) zero a e = omega arith
  at_length (x ∷ xs) (suc i) a e = let h = at_length xs i a e in omega arith

  -- what stands at one place is one
  pub same_at : (l : List X) (i : ℕ) (a b : X) → get_elem? l i ≡ some a → get_elem? l i ≡ some b → a ≡ b
  same_at l i a b x y = some-injective a b (sym x ∙ y)

module _ {E S : Type 0} where
  -- a fact of each live view, after one view changed
  pub each_after : (P : View E S → Type 0) (views : List (View E S)) (id : ℕ) (w : View E S) → (IsLive w → P w)
      → ((j : ℕ) (d : View E S) → j ≢ id → get_elem? views j ≡ some d → IsLive d → P d) → EachLive (set views id w) P
  each_after P views id w new old j d at = ⊎_elim
      (λ x. subst (λ (z : View E S). IsLive z → P z) x.1 new)
      (λ x. old j d x.0 x.1) (at_set views id j w d at)

  -- and after one came
  pub each_more : (P : View E S → Type 0) (views : List (View E S)) (u : View E S) → (IsLive u → P u) → EachLive views P → EachLive (views ++ u ∷ []) P
  each_more P views u new old j d at = ⊎_elim
      (λ x. old j d x)
      (λ x. subst (λ (z : View E S). IsLive z → P z) x.1 new) (snoc_at views u d j at)

  -- more numbers were given
  pub knows_more : (history : List (Entered E)) (serving made made' : ℕ) (full : Bool) (start : S) (v : View E S) → made ≤ made' → Knows history serving made full start v → Knows history serving made' full start v
  knows_more history serving made made' full start v more k = record {
    starts = k.starts;
    seen = k.seen;
    shorter = k.shorter;
    entries = k.entries;
    seen_entries = k.seen_entries;
    looked = k.looked;
    above = let a = k.above in omega arith;
    below = k.below;
    refused = k.refused;
  }

module _ {V E S : Type 0} (journal : V → List (Entered E)) (misses : V → ℕ) (start_of : V → S) (full_of : V → Bool) where
  abbrev pub Turns : ℕ → ℕ → Slots V → List (View E S) → List (Entered E) → Bool → S → Type 0
  Turns ticket serving slots views history full start =
      Free journal misses start_of full_of ticket serving slots views history full start ⊎ Held journal misses start_of full_of ticket serving slots views history full

  -- a view without a turn stays without one
  pub turn_idle : (t n : ℕ) (slots : Slots V) (views : List (View E S)) (log : List (Entered E)) (full : Bool) (start : S) (id : ℕ) (v w : View E S)
      → get_elem? views id ≡ some v → v.turn ≡ false → w.turn ≡ false → Turns t n slots views log full start → Turns t n slots (set views id w) log full start
  turn_idle t n slots views log full start id v w at off still turn = ⊎_elim
      (λ (f : Free journal misses start_of full_of t n slots views log full start). inl (record {
        value = f.value;
        slot = f.slot;
        history_is = f.history_is;
        full_is = f.full_is;
        start_is = f.start_is;
        served = f.served;
        even = f.even;
        nobody = λ j d e. ⊎_elim (λ x. ap (λ (z : View E S). z.turn) (sym x.1) ∙ still) (λ x. f.nobody j d x.1) (at_set views id j w d e);
      }))
      (λ (h : Held journal misses start_of full_of t n slots views log full).
      let other : h.seat ≢ id = λ is. absurd (false≢true (sym off ∙ (ap (λ (z : View E S). z.turn) (same_at views id v h.holder at (subst (λ i. get_elem? views i ≡ some h.holder) is h.there)) ∙ h.turn))) in inr (record {
        seat = h.seat;
        holder = h.holder;
        there = set_else views id h.seat w other ∙ h.there;
        live = h.live;
        turn = h.turn;
        slot = h.slot;
        history_is = h.history_is;
        full_is = h.full_is;
        served = h.served;
        ahead = h.ahead;
        alone = λ j d e u. ⊎_elim (λ x. absurd (false≢true (sym still ∙ (ap (λ (z : View E S). z.turn) x.1 ∙ u)))) (λ x. h.alone j d x.1 u) (at_set views id j w d e);
      }))
      turn

  -- a view comes that has no turn
  pub turn_more : (t n : ℕ) (slots : Slots V) (views : List (View E S)) (log : List (Entered E)) (full : Bool) (start : S) (u : View E S)
      → u.turn ≡ false → Turns t n slots views log full start → Turns t n slots (views ++ u ∷ []) log full start
  turn_more t n slots views log full start u off turn = ⊎_elim
      (λ (f : Free journal misses start_of full_of t n slots views log full start). inl (record {
        value = f.value;
        slot = f.slot;
        history_is = f.history_is;
        full_is = f.full_is;
        start_is = f.start_is;
        served = f.served;
        even = f.even;
        nobody = λ j d e. ⊎_elim (λ x. f.nobody j d x) (λ x. ap (λ (z : View E S). z.turn) (sym x.1) ∙ off) (snoc_at views u d j e);
      }))
      (λ (h : Held journal misses start_of full_of t n slots views log full). inr (record {
        seat = h.seat;
        holder = h.holder;
        there = at_longer views (u ∷ []) h.seat h.holder h.there;
        live = h.live;
        turn = h.turn;
        slot = h.slot;
        history_is = h.history_is;
        full_is = h.full_is;
        served = h.served;
        ahead = h.ahead;
        alone = λ j d e r. ⊎_elim (λ x. h.alone j d x r) (λ x. absurd (false≢true (sym off ∙ (ap (λ (z : View E S). z.turn) x.1 ∙ r)))) (snoc_at views u d j e);
      }))
      turn

  -- a view without a turn changes, and perhaps a number more is given
  pub idle_changes : (start : S) (q q' t n : ℕ) (slots : Slots V) (views : List (View E S)) (id : ℕ) (v w : View E S) → (c : Between journal misses start_of full_of start q t n slots views) → q ≤ q'
      → get_elem? views id ≡ some v → v.turn ≡ false → w.turn ≡ false → (IsLive w → Knows c.history n q' c.full start w) → Numbers q' (set views id w)
      → Between journal misses start_of full_of start q' t n slots (set views id w)
  idle_changes start q q' t n slots views id v w c more at off still new numbers = record {
    history = c.history;
    full = c.full;
    small = c.small;
    turn = turn_idle t n slots views c.history c.full start id v w at off still c.turn;
    knows = each_after (Knows c.history n q' c.full start) views id w new (λ j d _ e live. knows_more c.history n q q' c.full start d more (c.knows j d e live));
    numbers = numbers;
    unborn = λ p up. c.unborn p (omega arith);
  }

  -- the tally of a view without a turn changes, and the serving number in it was served already
  pub tally_changes : (start : S) (q t n : ℕ) (slots : Slots V) (views : List (View E S)) (id : ℕ) (v : View E S) (m : Tally) → get_elem? views id ≡ some v → v.turn ≡ false
      → (c : Between journal misses start_of full_of start q t n slots views) → (IsLive v → m.serving ≤ n) → Between journal misses start_of full_of start q t n slots (set views id (tallied m v))
  tally_changes start q t n slots views id v m at off c served =
      idle_changes start q q t n slots views id v (tallied m v) c (le_refl q) at off off
      (λ live. let o = c.knows id v at live in record {
        starts = o.starts;
        seen = o.seen;
        shorter = o.shorter;
        entries = o.entries;
        seen_entries = o.seen_entries;
        looked = served live;
        above = o.above;
        below = o.below;
        refused = o.refused;
      })
      (numbers_same q views id v (tallied m v) at refl refl refl (λ p. refl) c.numbers)

  -- the ticket of a free lock is taken
  pub takes_turn : (start : S) (q t n t' : ℕ) (slots : Slots V) (views : List (View E S)) (id : ℕ) (v : View E S) (m : Tally) (c : Between journal misses start_of full_of start q t n slots views)
      (f : Free journal misses start_of full_of t n slots views c.history c.full start) → get_elem? views id ≡ some v → IsLive v → m.serving ≤ n → t < 9223372036854775808 → t' ≡ t + 1
      → Between journal misses start_of full_of start q t' n (none ∷ []) (set views id (turning (journal f.value) (full_of f.value) (misses f.value) (tallied m v)))
  takes_turn start q t n t' slots views id v m c f at live served small next =
      let w : View E S = turning (journal f.value) (full_of f.value) (misses f.value) (tallied m v) in
      let o = c.knows id v at live in
      let even = f.even in record {
        history = c.history;
        full = c.full;
        small = omega arith;
        turn = inr (record {
          seat = id;
          holder = w;
          there = set_here views id w (at_length views id v at);
          live = live;
          turn = refl;
          slot = refl;
          history_is = f.history_is;
          full_is = f.full_is;
          served = f.served;
          ahead = omega arith;
          alone = λ j d e r. ⊎_elim (λ x. x.0) (λ x. absurd (false≢true (sym (f.nobody j d x.1) ∙ r))) (at_set views id j w d e);
        });
        knows = each_after (Knows c.history n q c.full start) views id w
            (λ _. record {
              starts = o.starts;
              seen = subst (λ l. IsPrefix l c.history) (sym f.history_is) (prefix_whole c.history);
              shorter = prefix_nothing (journal f.value);
              entries = o.entries;
              seen_entries = subst (λ l. All (HasAllOf l) (held_lines v)) (sym f.history_is) o.entries;
              looked = served;
              above = o.above;
              below = o.below;
              refused = λ e. sym f.full_is ∙ e;
            })
            (λ j d _ e alive. c.knows j d e alive);
        numbers = numbers_same q views id v w at refl refl refl (λ p. refl) c.numbers;
        unborn = c.unborn;
      }

  -- a number that was looked at is not above the ticket
  pub ahead_of : (start : S) (q t n : ℕ) (slots : Slots V) (views : List (View E S)) (old : ℕ) → Between journal misses start_of full_of start q t n slots views → old ≤ n → old ≤ t
  ahead_of start q t n slots views old c l = ⊎_elim
      (λ (f : Free journal misses start_of full_of t n slots views c.history c.full start). let even = f.even in omega arith)
      (λ (h : Held journal misses start_of full_of t n slots views c.history c.full). let up = h.ahead in omega arith)
      c.turn

  -- The value that is given back goes on from what the view found: only the view's own entries grew
  pub record GoesOn (v : View E S) (y : V) : Type 0 where
    pub longer : IsPrefix v.seen (journal y)
    pub others : (p : ℕ) → p ≢ v.number → entries_of p (journal y) ≡ entries_of p v.seen
    pub own : List E
    pub own_is : entries_of v.number (journal y) ≡ numbered_from 0 v.number own
    pub counted : length (journal y) + misses y ≡ (length v.seen + v.missed) + 1
    pub starts : v.start ≡ Some (start_of y)
    pub kept : v.full ≡ true → full_of y ≡ true

  options : (x y : S) → ◌≡◌ {A = Option S} (Some x) (Some y) → x ≡ y
  options x y e = cc

  -- the value comes back to its slot, and the next ticket is served
  pub gives_back : (start : S) (q t n : ℕ) (slots : Slots V) (views : List (View E S)) (id : ℕ) (v : View E S) (y : V) (c : Between journal misses start_of full_of start q t n slots views)
      (h : Held journal misses start_of full_of t n slots views c.history c.full) → get_elem? views id ≡ some v → IsLive v → v.turn ≡ true → GoesOn v y
      → Between journal misses start_of full_of start q t (n + 1) (some (Some y) ∷ []) (set views id (rested (journal y) (full_of y) v))
  gives_back start q t n slots views id v y c h at live turns on =
      let w : View E S = rested (journal y) (full_of y) v in
      let here : id ≡ h.seat = h.alone id v at turns in
      let same : v ≡ h.holder = same_at views id v h.holder at (subst (λ i. get_elem? views i ≡ some h.holder) (sym here) h.there) in
      let seen : v.seen ≡ c.history = ap (λ (z : View E S). z.seen) same ∙ h.history_is in
      let full : v.full ≡ c.full = ap (λ (z : View E S). z.full) same ∙ h.full_is in
      let len : length v.seen ≡ length c.history = ap length seen in
      let served : length c.history + v.missed ≡ n = ap (λ (z : View E S). length c.history + z.missed) same ∙ h.served in
      let ahead = h.ahead in
      let counts = on.counted in
      let o = c.knows id v at live in
      let looked : v.tally.serving ≤ n = o.looked in
      let others : (p : ℕ) → p ≢ v.number → entries_of p (journal y) ≡ entries_of p c.history = λ p ne. on.others p ne ∙ ap (entries_of p) seen in
      let own : HasAllOf (journal y) (own_line w) = on.own_is ∙ ap (numbered_from 0 v.number) (sym (ap (map entry_in) on.own_is ∙ map-numbered 0 v.number on.own)) in
      let all : All (HasAllOf (journal y)) (held_lines w) =
      all_cons (HasAllOf (journal y)) (own_line w) (other_lines v) own
      (others_have_all v.number c.history (journal y) (other_lines v) (own_once q views id v c.numbers at live) others (all_rest (HasAllOf c.history) (own_line v) (other_lines v) o.entries)) in
      let under : View E S → PassEntries E → Type 0 = λ z line. line.pass < z.above in
      record {
        history = journal y;
        full = full_of y;
        small = c.small;
        turn = inl (record {
          value = y;
          slot = refl;
          history_is = refl;
          full_is = refl;
          start_is = options (start_of y) start (sym on.starts ∙ o.starts);
          served = omega arith;
          even = omega arith;
          nobody = λ j d e. ⊎_elim
              (λ x. ap (λ (z : View E S). z.turn) (sym x.1))
              (λ x. bool_cases (d.turn ≡ false) d.turn (λ yes. absurd (x.0 (h.alone j d x.1 yes ∙ sym here))) (λ no. no))
              (at_set views id j w d e);
        });
        knows = each_after (Knows (journal y) (n + 1) q (full_of y) start) views id w
            (λ _. record {
              starts = o.starts;
              seen = prefix_whole (journal y);
              shorter = prefix_nothing (journal y);
              entries = all;
              seen_entries = all;
              looked = omega arith;
              above = o.above;
              below = all_cons (under v) (own_line w) (other_lines v) (all_head (under v) (own_line v) (other_lines v) o.below) (all_rest (under v) (own_line v) (other_lines v) o.below);
              refused = λ e. e;
            })
            (λ j d other e alive. let k = c.knows j d e alive in let old : d.tally.serving ≤ n = k.looked in record {
              starts = k.starts;
              seen = prefix_on d.seen c.history (journal y) k.seen (subst (λ l. IsPrefix l (journal y)) seen on.longer);
              shorter = k.shorter;
              entries = others_have_all v.number c.history (journal y) (held_lines d) (own_apart q views id j v d c.numbers other at live e alive) others k.entries;
              seen_entries = k.seen_entries;
              looked = omega arith;
              above = k.above;
              below = k.below;
              refused = λ e. on.kept (full ∙ k.refused e);
            });
        numbers = numbers_same q views id v w at refl refl refl (λ p. counts_same p v.start (held_lines w) (held_lines v) refl) c.numbers;
        unborn = λ p up. let b = own_given q views id v c.numbers at live in others p (λ e. absurd (omega arith)) ∙ c.unborn p up;
      }
