use Rattle.std.proofs.Common.{◌≡◌, ◌∙◌, ◌∷◌, [], List, None, ap, arith, length, map, sym}
use Rattle.std.specs.Vec.Iter.{into_iter_items}
use Rattle.std.proofs.lemmas.List.{nil_from_length}
use Rattle.mix_events.specs.declared.twin.Twin.{Twin}
use Rattle.mix_audience.specs.Listeners.{queued}
use Rattle.mix_audience.specs.Acting.{queued_in}
use Rattle.mix_audience.proofs.InOrder.{queued_more, queued_nothing}
use Rattle.mix_audience.proofs.audience.Audience.tell_all.Goals as goal

-- one event more is told
pub loop-twin-preserved : goal.loop-twin-preserved
loop-twin-preserved c =
    let at = c.loop-twin in
    let x : Twin = c.in-Some.twin in
    let rest : List Twin = into_iter_items c.next.new.self in
    let steps : into_iter_items at.twin-iterator ≡ x ∷ rest = c.in-Some.ensures.steps.0 in
    let fewer = c.in-Some.ensures.steps.1 in
    let shorter = ap length steps in
    record {
      listeners = ap (map (queued None (queued_in rest))) c.queue.ensures.listeners
          ∙ queued_more None (x.queued ∷ []) (queued_in rest) at.self.listeners
          ∙ rw steps at at.invariant.listeners;
      secret = c.queue.ensures.secret ∙ at.invariant.secret;
      count = omega arith;
      spare = omega arith;
    }

-- at the end all are told
pub returns-clause-listeners : goal.returns-clause-listeners
returns-clause-listeners c =
    let at = c.loop-twin in
    let empty : into_iter_items at.twin-iterator ≡ [] =
    nil_from_length _ (sym at.invariant.count ∙ c.in-None.ensures.steps.0) in
    sym (queued_nothing None at.self.listeners) ∙ rw empty at at.invariant.listeners
