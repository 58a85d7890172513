-- the channels so far, and then those that are left as they are emptied, are all
use Rattle.std.proofs.Common.{◌≡◌, ◌++◌, take, drop, map}
use Rattle.mix_model.specs.Edits.{emptied_of}
use Rattle.mix_store.proofs.removed.empty_channels.Given as goal

abbrev pub invariant-loop-index : goal.invariant-loop-index
invariant-loop-index l =
    take l.index l.channels ++ map (emptied_of l.fn.serial) (drop l.index l.channels)
    ≡ map (emptied_of l.fn.serial) l.fn.channels
