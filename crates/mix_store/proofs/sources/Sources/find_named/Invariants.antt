-- what the rows that are left decide is what all of them decide
use Rattle.std.proofs.Common.{◌≡◌, ◌&&◌, drop, find, bytes_eq}
use Rattle.mix_model.specs.Holders.{is_named_row, find_named}
use Rattle.mix_store.proofs.sources.Sources.find_named.Given as goal

abbrev pub invariant-loop-row : goal.invariant-loop-row
invariant-loop-row l =
    find (λ r. is_named_row l.self r && bytes_eq r.name l.name) (drop l.row-index l.row-items)
    ≡ find_named l.self l.name
