-- What the readers of a collection answer, over the lines that were left and are left.
use Rattle.std.specs.Prelude.{◌≡◌, ℕ, ◌++◌, codes, true, false, List, []}
use Rattle.std.specs.Prelude.{Option, Some, None, option_map, Result, Ok, Err, IsTrue}
use Rattle.mix_base.specs.Rates.{is_rate}
use Rattle.mix_outside.specs.Lines.{Lines, Whole}
use Rattle.mix_model.specs.Fitting.{channel_number}
use Rattle.mix_model.specs.Values.{is_canvas, is_format}
use Rattle.mix_model.specs.declared.collection.Collection.{Collection}
use Rattle.mix_model.specs.declared.collection.Line.{Line}
use Rattle.mix_collection.specs.Collections.{next, is_end, head_in, login_in, lines_in, collection_in}
use Rattle.mix_collection.specs.Collections.{part_in, where_it, is_format_line, rate_in, record_in}
use Rattle.mix_collection.specs.Collections.{name_in, last_in, collection_from, ◌>>=◌}
use Rattle.mix_collection.specs.Collections.{Head as HeadLines}
use Rattle.mix_collection.specs.declared.collection_fault.CollectionFault.{CollectionFault}
use Rattle.mix_collection.specs.declared.collection_fault.CollectionFault.TheVariants.{NotBuilt}
use Rattle.mix_collection.specs.declared.head.Head.{Head}
use Rattle.mix_collection.specs.declared.registry.Registry.{Registry}

-- what was read is what is defined, and nothing is built exactly where nothing is defined. A source that
-- fails, and want of memory, say nothing of it
abbrev pub Reads : {A : Type 0} → Result A CollectionFault → Option A → Type 0
Reads (Ok a) defined = defined ≡ Some a
Reads (Err fault) defined = fault ≡ NotBuilt → defined ≡ None

-- a whole line stood first, and is taken
abbrev pub Takes : Result (Unit {0}) CollectionFault → List ℕ → Lines → Lines → Type 0
Takes (Ok done) line old new = old ≡ Whole line new
Takes (Err fault) line old new = fault ≡ NotBuilt → next old ≡ None

-- nothing is left
abbrev pub IsAtEnd : Result (Unit {0}) CollectionFault → Lines → Type 0
IsAtEnd (Ok done) lines = is_end lines ≡ true
IsAtEnd (Err fault) lines = fault ≡ NotBuilt → is_end lines ≡ false

-- what the head said, with the lines behind it
abbrev pub with_rest : Head → Lines → HeadLines
with_rest head rest = record {
  canvas = head.canvas;
  rate = head.rate;
  i420 = head.i420;
  tracks = head.tracks;
  rest = rest;
}

-- the first line names the format, and is taken
abbrev pub Formats : Result (Unit {0}) CollectionFault → List ℕ → Lines → Lines → Type 0
Formats (Ok done) line old new = part_in (where_it is_format_line) old ≡ Some (line, new)
Formats (Err fault) line old new = fault ≡ NotBuilt → part_in (where_it is_format_line) old ≡ None

-- the first line says this by a reading, and is taken
abbrev pub Says : {A : Type 0} → (List ℕ → Option A) → Result A CollectionFault → Lines → Lines →
    Type 0
Says read (Ok a) old new = part_in read old ≡ Some (a, new)
Says read (Err fault) old new = fault ≡ NotBuilt → part_in read old ≡ None

-- what the two lines behind a canvas say, and the lines behind them
abbrev pub behind_canvas : ℕ × ℕ → Lines → Option HeadLines
behind_canvas canvas lines = part_in rate_in lines >>= (λ rate.
    part_in (record_in canvas) rate.1 >>= (λ recorded. Some (record {
      canvas = canvas;
      rate = rate.0;
      i420 = recorded.0.0;
      tracks = recorded.0.1;
      rest = recorded.1;
    })))

-- the line sets no channel
abbrev pub SetsNoChannel : Line → Type 0
SetsNoChannel line = channel_number line ≡ []

-- the head was read that is defined, and these lines are left
abbrev pub IsHead : Option HeadLines → Result Head CollectionFault → Lines → Type 0
IsHead defined (Ok head) new = defined ≡ Some (with_rest head new)
IsHead defined (Err fault) new = fault ≡ NotBuilt → defined ≡ None

-- the values of a head are in their ranges
pub record IsHeadFitting (head : Head) : Type 0 where
  pub canvas : IsTrue (is_canvas head.canvas)
  pub rate : IsTrue (is_rate head.rate)
  pub format : IsTrue (is_format head.canvas head.i420 head.tracks)

abbrev pub Heads : Result Head CollectionFault → Lines → Lines → Type 0
Heads result old new = IsHead (head_in old) result new

-- the login is read, and the first line behind it
abbrev pub LogsIn : Result (Option (List ℕ × List ℕ)) CollectionFault → List ℕ → Lines → Lines →
    Type 0
LogsIn (Ok secret) line old new = login_in old ≡ (secret, Whole line new)
LogsIn (Err fault) line old new = fault ≡ NotBuilt → next (login_in old).1 ≡ None

-- lines of a collection, and behind them those of the registry
abbrev pub behind_lines : List Line → Registry → Registry
behind_lines lines registry = record registry { lines = lines ++ registry.lines }

-- these lines were pushed up to the program's line, and the name in that
abbrev pub Pushes : ℕ × ℕ → Result (List ℕ) CollectionFault → List Line → Lines → Type 0
Pushes canvas (Ok program) pushed lines =
    lines_in canvas lines ≡ Some (record { lines = pushed; program = program })
Pushes canvas (Err fault) pushed lines = fault ≡ NotBuilt → lines_in canvas lines ≡ None

abbrev pub Registers : ℕ × ℕ → Result Registry CollectionFault → Lines → Type 0
Registers canvas result lines = Reads result (lines_in canvas lines)

-- the name of the program's scene, where the line names it and nothing is left
abbrev pub Ends : Result (List ℕ) CollectionFault → List ℕ → Lines → Type 0
Ends result line left = Reads result (option_map (λ registry. registry.program)
    (last_in (name_in (codes "program") line) left))

-- what stands behind a head writes the rest of a collection
abbrev pub CollectsBehind : Head → Result Collection CollectionFault → Lines → Type 0
CollectsBehind head result lines = Reads result (lines_in head.canvas (login_in lines).1
    >>= (λ registry. Some (collection_from (with_rest head lines) (login_in lines).0 registry)))

abbrev pub Collects : Result Collection CollectionFault → Lines → Type 0
Collects result lines = Reads result (collection_in lines)
