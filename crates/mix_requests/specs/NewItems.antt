-- What a new item of a scene or group gets.
use Rattle.std.specs.Prelude.{ℕ}
use Rattle.std.specs.Option.{option_map_or}
use Rattle.mix_model.specs.Lookups.{row_of}
use Rattle.mix_model.specs.State.{GraphState}

-- the id that the next item of a row gets
abbrev pub next_item : GraphState → ℕ → ℕ
next_item g x = option_map_or (λ r. r.next_item) (row_of g x) 0
