-- The view of a pass, which the lock's rule reads, and how the steps change it.
use Rattle.std.specs.Prelude.{◌≡◌, ℕ, ◌+◌, ◌-◌, ◌/◌, Bool, true, false, ◌||◌, List, [], ◌∷◌, ◌++◌, map, Option, Some, None, is_some, unwrap_or}
use Rattle.std.proofs.lemmas.Bool.{false≢true}
use Rattle.atomic_table.specs.Seated.{TableId}
use Rattle.mix_turn.specs.declared.entered.Entered.{Entered}
use Rattle.mix_turn.specs.declared.entered.PassEntries.{PassEntries}
use Rattle.mix_turn.specs.declared.view.Tally.{Tally}
use Rattle.mix_turn.specs.declared.view.View.{View}
use Rattle.mix_turn.specs.Entries.{entries_of, longer, shorter}
use Rattle.mix_turn.specs.Known.{Known, greater}
use Rattle.mix_turn.specs.Tally.{no_tally, with_look, with_try, with_count, with_take}
use Rattle.mix_turn.specs.Parts.{all_parts}

module _ {E : Type 0} where
  -- the entry alone
  abbrev pub entry_in : Entered E → E
  entry_in x = x.entry

  -- a number that was taken and has no pass yet has no entries
  abbrev pub spare_lines : Option ℕ → List (PassEntries E)
  spare_lines None = []
  spare_lines (Some k) = record { pass = k; entries = [] } ∷ []

-- nothing, but in a live view
abbrev pub if_started : {S A : Type 0} → Option S → List A → List A
if_started None xs = []
if_started (Some s) xs = xs

module _ {S : Type 0} where
  -- the start that a live view shows
  abbrev pub start_in : (o : Option S) → is_some o ≡ true → S
  start_in None none = absurd (false≢true none)
  start_in (Some s) some = s

module _ {E S : Type 0} where
  -- a view that was joined into another has no start
  abbrev pub IsLive : View E S → Type 0
  IsLive v = is_some v.start ≡ true

  -- the numbers that a view answers for, each with its entries: its own, the one that it took for a new pass, and those of the passes joined into it
  abbrev pub own_line : View E S → PassEntries E
  own_line v = record { pass = v.number; entries = v.own }

  abbrev pub other_lines : View E S → List (PassEntries E)
  other_lines v = spare_lines v.spare ++ v.joined

  abbrev pub held_lines : View E S → List (PassEntries E)
  held_lines v = own_line v ∷ other_lines v

  -- the same where the view is live, and none where it is spent
  abbrev pub live_lines : View E S → List (PassEntries E)
  live_lines v = if_started v.start (held_lines v)

  -- its parts of the right to close
  abbrev pub parts_of : View E S → ℕ
  parts_of v = v.parts

  -- what a pass shows of its view
  abbrev pub known_of : TableId → (v : View E S) → IsLive v → Known E S
  known_of id v live =
      record {
        of = id;
        start = start_in v.start live;
        number = v.number;
        own = v.own;
        joined = v.joined;
        seen = v.seen;
        full = v.full;
        above = v.above;
        parts = v.parts;
        tally = v.tally;
      }

  -- the first pass has number 0, all parts and no entries
  abbrev pub first_view : S → View E S
  first_view s =
      record {
        start = Some s;
        number = 0;
        own = [];
        joined = [];
        seen = [];
        shorter = [];
        full = false;
        above = 1;
        parts = all_parts;
        spare = None;
        tally = no_tally;
        turn = false;
        missed = 0;
      }

  -- the view with this tally
  abbrev pub tallied : Tally → View E S → View E S
  tallied t v = record v { tally = t }

  -- it looked at the serving number
  abbrev pub looking : ℕ → View E S → View E S
  looking n v = tallied (with_look n v.tally) v

  -- it tried for a ticket
  abbrev pub trying : ℕ → View E S → View E S
  trying n v = tallied (with_try n v.tally) v

  -- it looked at how many numbers were given
  abbrev pub counting : ℕ → View E S → View E S
  counting n v = tallied (with_count n v.tally) v

  -- it tried for a number of a pass
  abbrev pub finding : ℕ → View E S → View E S
  finding n v = tallied (with_take n v.tally) v

  -- its turn has come: it has seen the whole journal, and whether the value tells a turn refused as full
  abbrev pub turning : List (Entered E) → Bool → ℕ → View E S → View E S
  turning journal full misses v =
      record v { seen = journal; shorter = []; full = full; missed = misses; turn = true }

  -- its turn is over: its own entries are those that the journal has of it
  abbrev pub rested : List (Entered E) → Bool → View E S → View E S
  rested journal full v =
      record v { own = map entry_in (entries_of v.number journal); seen = journal; shorter = []; full = full; missed = 0; turn = false }

  -- it took a number for a new pass
  abbrev pub sparing : ℕ → View E S → View E S
  sparing k v = record v { spare = Some k; above = k + 1 }

  -- the splitter keeps half of its parts, and no number in hand
  abbrev pub splitter_view : View E S → View E S
  splitter_view v = record v { parts = v.parts - v.parts / 2; spare = None }

  -- the new pass has the number, the other half, what the splitter has seen, no entries, and an empty tally
  abbrev pub child_view : View E S → View E S
  child_view v =
      record {
        start = v.start;
        number = unwrap_or v.spare 0;
        own = [];
        joined = [];
        seen = v.seen;
        shorter = [];
        full = v.full;
        above = v.above;
        parts = v.parts / 2;
        spare = None;
        tally = no_tally;
        turn = false;
        missed = 0;
      }

  -- the kept pass has the longer beginning, a full turn where either has one, both passes' parts, and the other's entries and those joined into it
  abbrev pub both_views : View E S → View E S → View E S
  both_views v w =
      record v {
        joined = v.joined ++ own_line w ∷ w.joined;
        seen = longer v.seen w.seen;
        shorter = shorter v.seen w.seen;
        full = v.full || w.full;
        above = greater v.above w.above;
        parts = v.parts + w.parts;
      }

  -- of the other pass nothing is left
  abbrev pub spent_view : View E S
  spent_view =
      record {
        start = None;
        number = 0;
        own = [];
        joined = [];
        seen = [];
        shorter = [];
        full = false;
        above = 0;
        parts = 0;
        spare = None;
        tally = no_tally;
        turn = false;
        missed = 0;
      }
