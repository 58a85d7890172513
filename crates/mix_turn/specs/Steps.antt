-- What each step of the lock tells the pass that makes it.
use Rattle.std.specs.Prelude.{◌≡◌, ◌≢◌, ℕ, ◌+◌, ◌<◌, ◌≤◌, Bool, true, false, List, [], ◌∷◌, ◌++◌, length, Option, Some, None, All}
use mathlib.Core.List.{IsPrefix}
use Rattle.atomic_table.specs.Table.{Me, Step}
use Rattle.mix_turn.specs.declared.entered.Entered.{Entered}
use Rattle.mix_turn.specs.declared.turn.Turn.{Turn}
use Rattle.mix_turn.specs.declared.view.Tally.{Tally}
use Rattle.mix_turn.specs.declared.view.View.{View}
use Rattle.mix_turn.specs.Entries.{entries_of, HasAllOf}
use Rattle.mix_turn.specs.Tally.{made_word, ticket_word, serving_word}
use Rattle.mix_turn.specs.Turns.{done_entries, is_full}
use Rattle.mix_turn.specs.Views.{held_lines, tallied, looking, trying, counting, finding, turning, rested, sparing}

-- a seat of the lock's table: the pass's view, and the slots that it has taken
abbrev pub Hand : Type 0 → Type 0 → Type 0 → Type 0
Hand V E S = Me (Option V) (View E S)

module _ {V E S : Type 0} where
  -- look at serving: the view remembers the number
  abbrev pub looked : Step (Option V) → Hand V E S → ℕ → Hand V E S → Type 0
  looked step me found new = (step.word ≡ serving_word) × (new ≡ (looking found me.0, me.1))

  -- look at made: the view remembers it, it is below two to the power of 32, and the view says as much of its own numbers as the rule does
  pub record Counts (me : Hand V E S) (found : ℕ) (new : Hand V E S) : Type 0 where
    pub after : new ≡ (counting found me.0, me.1)
    pub few : found ≤ 4294967295
    pub shorter : IsPrefix me.0.shorter me.0.seen
    pub entries : All (HasAllOf me.0.seen) (held_lines me.0)
    pub below : All (λ line. line.pass < me.0.above) (held_lines me.0)

  abbrev pub counted : Step (Option V) → Hand V E S → ℕ → Hand V E S → Type 0
  counted step me found new = (step.word ≡ made_word) × Counts me found new

  -- take a number for a new pass: it is none that the pass knows of, and it has no entry
  pub record Spares (k : ℕ) (me new : Hand V E S) : Type 0 where
    pub after : new ≡ (sparing k me.0, me.1)
    pub above : me.0.above ≤ k
    pub unborn : entries_of k me.0.seen ≡ []

  -- the view remembers what it found, whether it took the number or not
  abbrev pub spared : Step (Option V) → Hand V E S → ℕ → Hand V E S → Type 0
  spared step me found new =
      let tried : Hand V E S = (finding found me.0, me.1) in
      (step.word ≡ made_word) × (found ≡ step.first → Spares found tried new) × (found ≢ step.first → new ≡ tried)

  -- serve the next: the view rests, with what the value that was given back tells, and its journal has all entries that the view answers for
  pub record Rests (journal : V → List (Entered E)) (full : V → Bool) (value : V) (me new : Hand V E S) : Type 0 where
    pub after : new ≡ (rested (journal value) (full value) me.0, [])
    pub entries : All (HasAllOf new.0.seen) (held_lines new.0)

  abbrev pub advanced : (V → List (Entered E)) → (V → Bool) → Step (Option V) → Hand V E S → ℕ → Hand V E S → Type 0
  advanced journal full step me found new = (value : V) → me.1 ≡ (0, Some value) ∷ [] → Rests journal full value me new

module _ {V E S : Type 0} (journal : V → List (Entered E)) (misses : V → ℕ) (start_of : V → S) (full_of : V → Bool) where
  -- a try that won: the turn has come, and the value is in hand. It goes on from what the view has seen
  pub record Wins (me new : Hand V E S) : Type 0 where
    pub value : V
    pub after : new ≡ (turning (journal value) (full_of value) (misses value) me.0, (0, Some value) ∷ [])
    pub start : me.0.start ≡ Some (start_of value)
    pub seen : IsPrefix me.0.seen (journal value)
    pub entries : All (HasAllOf (journal value)) (held_lines me.0)
    pub below : All (λ line. line.pass < me.0.above) (held_lines me.0)
    pub full : me.0.full ≡ true → full_of value ≡ true
    pub small : length (journal value) + misses value < 9223372036854775808

  -- try a ticket: it wins where it is the number that was looked at, and else the ticket is above that. The view remembers the ticket in both cases
  abbrev pub tried : Step (Option V) → Hand V E S → ℕ → Hand V E S → Type 0
  tried step me found new =
      let after : Hand V E S = (trying found me.0, me.1) in
      (step.word ≡ ticket_word) × (found ≡ step.first → Wins after new) × (found ≢ step.first → (step.first < found) × (new ≡ after))

module _ {E S A : Type 0} (says : S → List (Entered E) → Entered E → Turn A → Type 0) where
  -- a whole turn, of one view: it found a journal, gave its entry, and rests; its looks and tries left it this tally
  pub record Takes (v : View E S) (entry : Entered E) (reply : Turn A) (w : View E S) : Type 0 where
    pub found : List (Entered E)
    pub full : Bool
    pub tally : Tally
    pub after : w ≡ rested (found ++ done_entries reply entry) full (tallied tally v)
    pub seen : IsPrefix v.seen found
    pub entries : All (HasAllOf found) (held_lines v)
    pub kept : v.full ≡ true → full ≡ true
    pub refused : is_full reply ≡ true → full ≡ true
    pub all_seen : All (HasAllOf w.seen) (held_lines w)
    pub agrees : (start : S) → v.start ≡ Some start → says start found entry reply
    pub small : length found < 9223372036854775808

module _ {V E S : Type 0} where
  -- a pass between two calls: it has no slot and no turn, no number in hand, its own number and the count of its entries, has seen all entries that it answers for, and knows a number above all its numbers
  pub record IsAtRest (me : Hand V E S) (number count : ℕ) : Type 0 where
    pub empty : me.1 ≡ []
    pub idle : me.0.turn ≡ false
    pub spent : me.0.spare ≡ None
    pub number_is : me.0.number ≡ number
    pub count_is : length me.0.own ≡ count
    pub entries : All (HasAllOf me.0.seen) (held_lines me.0)
    pub below : All (λ line. line.pass < me.0.above) (held_lines me.0)
