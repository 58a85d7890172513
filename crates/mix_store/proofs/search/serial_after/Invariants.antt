-- the next serial of the rows so far
use Rattle.std.proofs.Common.{◌≡◌, true, take}
use Rattle.mix_model.specs.Rows.{serials_of}
use Rattle.mix_model.specs.Sets.{is_next}
use Rattle.mix_store.proofs.search.serial_after.Given as goal

abbrev pub invariant-loop-row : goal.invariant-loop-row
invariant-loop-row l =
    is_next l.serial (serials_of (take l.row-index l.rows)) l.next ≡ true
