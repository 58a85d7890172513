use Rattle.std.proofs.Common.{arith}
use Rattle.std.proofs.lemmas.Grind.{common_steps}
use Rattle.mix_outside.proofs.Pieces.{one_more_call, fault_there, none_left}
use Rattle.mix_outside.specs.Devices.{answer_of}
use Rattle.mix_outside.specs.declared.sink.Put.TheVariants as puts
use Rattle.mix_outside.proofs.devices.write_whole.Goals as goal

-- a call took some bytes
pub calls-preserved : goal.calls-preserved
calls-preserved g c =
    let took = (c.in-Some.ensures).value in
    let within = rw took at (c.accept.ensures).within in
    let accepted = rw took at (c.accept.ensures).accepts in
    record {
      goes_on = λ put new written. c.calls.invariant.goes_on put new
          (one_more_call g.D.OutDevice.accepts c.calls.device c.accept.new.self c.calls.rest.now
          c.in-Some.count (c.in-Some.ensures).taken within accepted put new
          (rw (← (c.split_at.ensures).back) written));
    }

-- a fault
pub returns-in_default : goal.returns-in_default
returns-in_default g c = record {
  writes = c.calls.invariant.goes_on puts.Failed c.accept.new.self
      (fault_there g.D.OutDevice.accepts c.calls.device c.accept.new.self c.calls.rest.now
      (answer_of c.accept.result) (grind (arith, common_steps)) (c.accept.ensures).accepts
      (grind (arith, common_steps)));
}

-- nothing is left
pub returns : goal.returns
returns g c = record {
  writes = c.calls.invariant.goes_on puts.Done c.calls.device
      (none_left g.D.OutDevice.accepts c.calls.device c.calls.rest.now
      (grind (arith, common_steps)));
}
