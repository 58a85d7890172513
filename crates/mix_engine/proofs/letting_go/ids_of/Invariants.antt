use Rattle.std.proofs.Common.{◌≡◌, ◌++◌, drop}
use Rattle.mix_engine.specs.Leaving.{ids_of}
use Rattle.mix_engine.proofs.letting_go.ids_of.Given as goal

-- those so far, and those of the notes that are left, are all
abbrev pub invariant-loop-note : goal.invariant-loop-note
invariant-loop-note l =
    l.ids.items ++ ids_of l.conn (drop l.note-index l.notes) ≡ ids_of l.conn l.notes
