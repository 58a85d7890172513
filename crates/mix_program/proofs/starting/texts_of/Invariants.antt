use Rattle.std.proofs.Common.{◌≡◌, ◌++◌, drop, map}
use Rattle.std.proofs.Common.{string_bytes}
use Rattle.std.specs.Vec.Iter.{into_iter_items}
use Rattle.mix_program.proofs.starting.texts_of.Given as goal

-- the texts so far, and then those of the words left, are those of all words
abbrev pub invariant-words : goal.invariant-words
invariant-words l = l.texts.items ++ map string_bytes (into_iter_items l.word-iterator)
    ≡ map string_bytes (drop 1 (into_iter_items l.fn.args))
