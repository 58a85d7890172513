-- The rule of the lock: what holds between any two steps.
use Rattle.std.specs.Prelude.{◌≡◌, ◌⊎◌, ℕ, ◌+◌, ◌<◌, ◌≤◌, Bool, true, false, List, [], ◌∷◌, length, Option, Some, All}
use mathlib.Core.Option.{some, none}
use mathlib.Core.Option as maybe
use mathlib.Core.List.{IsPrefix}
use lib.ListN.{get_elem?}
use Rattle.atomic_table.specs.Table.{State}
use Rattle.mix_turn.specs.declared.entered.Entered.{Entered}
use Rattle.mix_turn.specs.declared.view.View.{View}
use Rattle.mix_turn.specs.Entries.{entries_of, HasAllOf, times}
use Rattle.mix_turn.specs.Parts.{least_parts, all_parts, weigh}
use Rattle.mix_turn.specs.Views.{IsLive, held_lines, live_lines, parts_of}

-- what the slot holds: the value, or nothing while the slot is out with a pass
abbrev pub Slots : Type 0 → Type 0
Slots V = List (maybe.Option (Option V))

module _ {E S : Type 0} where
  -- a fact of each view that is live
  abbrev pub EachLive : List (View E S) → (View E S → Type 0) → Type 0
  EachLive views P = (seat : ℕ) (v : View E S) → get_elem? views seat ≡ some v → IsLive v → P v

  -- What the rule says of one live view, of the history, the serving number, the word `made`, whether a turn was refused as full, and the start
  pub record Knows (history : List (Entered E)) (serving made : ℕ) (full : Bool) (start : S) (v : View E S) : Type 0 where
    -- all live views and the value have one start
    pub starts : v.start ≡ Some start
    -- what it has seen begins the history, and the shorter of two that were joined begins the longer
    pub seen : IsPrefix v.seen history
    pub shorter : IsPrefix v.shorter v.seen
    -- of each number that it answers for, the history has just that number's entries, and it has seen them all
    pub entries : All (HasAllOf history) (held_lines v)
    pub seen_entries : All (HasAllOf v.seen) (held_lines v)
    -- the serving number that it looked at was served already
    pub looked : v.tally.serving ≤ serving
    -- the numbers that it knows of were given
    pub above : v.above ≤ made
    pub below : All (λ line. line.pass < v.above) (held_lines v)
    -- it has seen a turn refused as full only where there was one
    pub refused : v.full ≡ true → full ≡ true

  -- The numbers of passes. Each number that was given stands with one view and once, and the parts of the right to close are all there
  pub record Numbers (made : ℕ) (views : List (View E S)) : Type 0 where
    pub few : made ≤ 4294967295
    pub given : (p : ℕ) → p < made → weigh (λ v. times p (live_lines v)) views ≡ 1
    pub free : (p : ℕ) → made ≤ p → weigh (λ v. times p (live_lines v)) views ≡ 0
    -- a live view can be split until there are no more numbers
    pub least : EachLive views (λ v. least_parts made ≤ v.parts)
    pub spare : EachLive views (λ v. (k : ℕ) → v.spare ≡ Some k → least_parts made + least_parts made ≤ v.parts)
    pub whole : weigh parts_of views ≡ all_parts

module _ {V E S : Type 0} (journal : V → List (Entered E)) (misses : V → ℕ) (start_of : V → S) (full_of : V → Bool) where
  -- The value is in its slot and no pass's turn has come: the history is its journal, and as many were served as turns were done or missed
  pub record Free (ticket serving : ℕ) (slots : Slots V) (views : List (View E S)) (history : List (Entered E)) (full : Bool) (start : S) : Type 0 where
    pub value : V
    pub slot : slots ≡ some (Some value) ∷ []
    pub history_is : journal value ≡ history
    pub full_is : full_of value ≡ full
    pub start_is : start_of value ≡ start
    pub served : length history + misses value ≡ serving
    pub even : ticket ≡ serving
    pub nobody : (seat : ℕ) (v : View E S) → get_elem? views seat ≡ some v → v.turn ≡ false

  -- The turn of just one pass has come, and it has the value: the history is what it has seen
  pub record Held (ticket serving : ℕ) (slots : Slots V) (views : List (View E S)) (history : List (Entered E)) (full : Bool) : Type 0 where
    pub seat : ℕ
    pub holder : View E S
    pub there : get_elem? views seat ≡ some holder
    pub live : IsLive holder
    pub turn : holder.turn ≡ true
    pub slot : slots ≡ none ∷ []
    pub history_is : holder.seen ≡ history
    pub full_is : holder.full ≡ full
    pub served : length history + holder.missed ≡ serving
    pub ahead : ticket ≡ serving + 1
    pub alone : (seat' : ℕ) (v : View E S) → get_elem? views seat' ≡ some v → v.turn ≡ true → seat' ≡ seat

  -- The words, the slot and the views, at a start that never changes
  pub record Between (start : S) (made ticket serving : ℕ) (slots : Slots V) (views : List (View E S)) : Type 0 where
    -- the history, and whether a turn was refused as full
    pub history : List (Entered E)
    pub full : Bool
    -- no word runs over
    pub small : ticket ≤ 9223372036854775808
    pub turn : Free ticket serving slots views history full start ⊎ Held ticket serving slots views history full
    pub knows : EachLive views (Knows history serving made full start)
    pub numbers : Numbers made views
    -- a number that was not given has no entry
    pub unborn : (p : ℕ) → made ≤ p → entries_of p history ≡ []

  -- The table has three words, `made`, `ticket` and `serving`, and one slot
  pub record Rule (start : S) (table : State (Option V) (View E S)) : Type 0 where
    pub made : ℕ
    pub ticket : ℕ
    pub serving : ℕ
    pub words : table.words ≡ made ∷ ticket ∷ serving ∷ []
    pub between : Between start made ticket serving table.homes table.views
