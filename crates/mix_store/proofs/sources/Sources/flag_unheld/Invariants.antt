-- the flags so far, and then those of the rows that are left, are all
use Rattle.std.proofs.Common.{◌≡◌, ◌++◌, take, drop, map}
use Rattle.mix_store.specs.Settling.{begins_to_die}
use Rattle.mix_store.proofs.sources.Sources.flag_unheld.Given as goal

abbrev pub invariant-loop-index : goal.invariant-loop-index
invariant-loop-index l =
    take l.index l.flags
    ++ map (λ r. begins_to_die l.self r.serial) (drop l.index l.self.rows)
    ≡ map (λ r. begins_to_die l.self r.serial) l.self.rows
