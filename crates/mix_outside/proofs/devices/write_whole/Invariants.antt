use Rattle.std.proofs.Common.{length}
use Rattle.mix_outside.specs.Devices.{Writes}
use Rattle.mix_outside.specs.declared.sink.Put.{Put}
use Rattle.mix_outside.proofs.devices.write_whole.Given as goal

-- however the rest is written from here, the piece is written from the start
abbrev pub invariant-calls : goal.invariant-calls
invariant-calls g l = record {
  goes_on : (put : Put) (new : _) → Writes g.D.OutDevice.accepts l.device l.rest put new
      → Writes g.D.OutDevice.accepts l.fn.device l.piece put new;
}

-- the bytes that are left
abbrev pub decreases-calls : goal.decreases-calls
decreases-calls g l = length l.rest
