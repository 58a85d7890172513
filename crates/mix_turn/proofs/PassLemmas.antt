-- What a pass knows after it was split or joined, and what the last pass finds at the close.
use Rattle.std.proofs.Common.{◌≡◌, ℕ, ◌<◌, List, ◌∷◌, length, sym, subst, ◌∙◌, Option, Some, None, is_some, IsSome, All, sum_by, Bool, true, refl, ◌≤◌, arith}
use Rattle.std.proofs.lemmas.Bool.{false≢true}
use mathlib.Core.Option.{some, some-injective}
use mathlib.Core.List.{IsPrefix}
use lib.ListN.{get_elem?}
use Rattle.atomic_table.specs.Seated.{TableId}
use Rattle.mix_turn.specs.declared.entered.Entered.{Entered}
use Rattle.mix_turn.specs.declared.entered.PassEntries.{PassEntries}
use Rattle.mix_turn.specs.declared.view.View.{View}
use Rattle.mix_turn.specs.Entries.{HasAllOf}
use Rattle.mix_turn.specs.Known.{Known, lines_of}
use Rattle.mix_turn.specs.Views.{IsLive, own_line, held_lines, start_in, known_of}
use Rattle.mix_turn.specs.Steps.{Hand, Counts, IsAtRest}
use Rattle.mix_turn.proofs.HistoryLemmas.{all_map}
use Rattle.mix_turn.proofs.StepLemmas.{spared_lines, Closes}

module _ {V E S : Type 0} where
  -- a look at the count of numbers tells that the pass has seen all entries that it answers for
  pub told_entries : (me new : Hand V E S) (n : ℕ) → Counts me n new → me.0.spare ≡ None → All (HasAllOf new.0.seen) (own_line new.0 ∷ new.0.joined)
  told_entries me new n told empty = subst (λ (m : Hand V E S). All (HasAllOf m.0.seen) (own_line m.0 ∷ m.0.joined)) (sym told.after) (spared_lines (HasAllOf me.0.seen) me.0 empty told.entries)

  -- and that it knows a number above all of them
  pub told_below : (me new : Hand V E S) (n : ℕ) → Counts me n new → me.0.spare ≡ None → All (λ line. line.pass < new.0.above) (own_line new.0 ∷ new.0.joined)
  told_below me new n told empty = subst (λ (m : Hand V E S). All (λ (line : PassEntries E). line.pass < m.0.above) (own_line m.0 ∷ m.0.joined)) (sym told.after)
      (spared_lines (λ (line : PassEntries E). line.pass < me.0.above) me.0 empty told.below)

  -- a number from the one above on is none that the pass answers for
  pub numbers_apart : (me : Hand V E S) (p n k : ℕ) → IsAtRest me p n → me.0.above ≤ k → All (λ line. line.pass < k) (own_line me.0 ∷ me.0.joined)
  numbers_apart me p n k rests above =
      let under : ℕ → PassEntries E → Type 0 = λ m line. line.pass < m in
      spared_lines (under k) me.0 rests.spent (all_map (under me.0.above) (under k) (held_lines me.0) (λ line l. omega arith) rests.below)

module _ {V : Type 0} where
  -- what is taken out of the slot is the value that is there
  pub is_there : (xs : List (Option V)) (r : Option V) (x : V) → get_elem? xs 0 ≡ some r → get_elem? xs 0 ≡ some (Some x) → r ≡ Some x
  is_there xs r x a b = some-injective r (Some x) (sym a ∙ b)

  pub some_is_there : (r : Option V) (x : V) → r ≡ Some x → IsSome r
  some_is_there r x e = subst (λ (z : Option V). IsSome z) (sym e) refl

  pub one_value : (r : Option V) (x y : V) → r ≡ Some x → r ≡ Some y → x ≡ y
  one_value r x y a b = let e : Some x ≡ Some y = sym a ∙ b in cc

module _ {S : Type 0} where
  -- the start that a live view shows
  pub start_shown : (o : Option S) (s : S) (live : is_some o ≡ true) → o ≡ Some s → start_in o live ≡ s
  start_shown None s live e = absurd (false≢true live)
  start_shown (Some x) s live e = cc

module _ {V E S : Type 0} (journal : V → List (Entered E)) (misses : V → ℕ) (start_of : V → S) (full_of : V → Bool) where
  -- What holds of the value that comes back, by what the last pass shows
  pub record Finds (pass : Known E S) (value : V) : Type 0 where
    pub start : start_of value ≡ pass.start
    pub seen : IsPrefix pass.seen (journal value)
    pub entries : All (HasAllOf (journal value)) (lines_of pass)
    pub every : length (journal value) ≡ sum_by (λ line. length line.entries) (lines_of pass)
    pub full : pass.full ≡ true → full_of value ≡ true

  pub finds : (start : S) (id : TableId) (v : View E S) (live : IsLive v) (pass : Known E S) (xs : List (Option V)) (r : Option V) (y : V) → known_of id v live ≡ pass
      → Closes journal misses start_of full_of start v xs → get_elem? xs 0 ≡ some r → r ≡ Some y → Finds pass y
  finds start id v live pass xs r y shows k there is =
      let same : k.value ≡ y = one_value r k.value y (is_there xs r k.value there k.there) is in
      subst (λ (z : Known E S). Finds z y) shows (subst (Finds (known_of id v live)) same (record {
        start = sym (start_shown v.start (start_of k.value) live k.starts);
        seen = k.seen;
        entries = k.entries;
        every = k.every;
        full = k.full;
      }))
