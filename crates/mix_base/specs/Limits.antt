-- How much a mixer holds at most.
use Rattle.std.specs.Prelude.{ℕ}
use Rattle.mix_base.specs.declared.limits.Limits.{Limits}

-- the most sources, those that die included
abbrev pub most_rows : ℕ
most_rows = 512

-- the most items of all sources together
abbrev pub most_items : ℕ
most_items = 2048

-- the greatest weight of a source
abbrev pub most_weight : ℕ
most_weight = 4096

-- the most holds of all connections together, and the most watches
abbrev pub most_holds : ℕ
most_holds = 256

-- the last number that a source, an item, a hold or a watch may have: numbers count up, and none is
-- used again
abbrev pub last_number : ℕ
last_number = 4294967295

-- the limits of every mixer that runs
abbrev pub standard : Limits
standard = record {
  rows = most_rows;
  items = most_items;
  weight = most_weight;
  rank = 16;
  conns = 64;
  frames = 4;
  waiting = 4096;
  entries = 256;
  batches = 16;
  holds = most_holds;
  watches = most_holds;
  turns = 16777216;
  bytes = 1073741824;
}
