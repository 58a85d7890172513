use Rattle.std.proofs.Common.{◌≡◌, ◌++◌, Ok}
use Rattle.std.specs.Vec.Iter.{into_iter_items}
use Rattle.mix_json.specs.Fields.{◌>>=◌}
use Rattle.mix_session.specs.Hear.{entry_of}
use Rattle.mix_session.specs.Table.{for_each}
use Rattle.mix_session.proofs.request.each.Given as goal

-- the asks so far, and then those of the entries left, are those of all entries
abbrev pub invariant-entries : goal.invariant-entries
invariant-entries l = for_each entry_of l.fn.entries.items
    ≡ (for_each entry_of (into_iter_items l.entry-iterator) >>= λ rest. Ok (l.asks.items ++ rest))
