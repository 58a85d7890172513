use Rattle.std.proofs.Common.{◌≡◌, ◌∙◌, ◌∷◌, [], List, Some, ap, arith, length, map, sym}
use Rattle.std.specs.Vec.Iter.{into_iter_items}
use Rattle.std.proofs.lemmas.List.{nil_from_length}
use Rattle.std.proofs.lemmas.List.Elements.{All-tail}
use Rattle.mix_events.specs.declared.twin.Twin.{Twin}
use Rattle.mix_audience.specs.Listeners.{queued}
use Rattle.mix_audience.specs.Acting.{IsTwin, queued_in}
use Rattle.mix_audience.proofs.InOrder.{queued_more, said_more, queued_nothing}
use Rattle.mix_audience.proofs.audience.Audience.tell.Goals as goal

-- one event more is told
pub loop-twin-preserved : goal.loop-twin-preserved
loop-twin-preserved c =
    let at = c.loop-twin in
    let x : Twin = c.in-Some.twin in
    let rest : List Twin = into_iter_items c.next.new.self in
    let steps : into_iter_items at.twin-iterator ≡ x ∷ rest = c.in-Some.ensures.steps.0 in
    let fewer = c.in-Some.ensures.steps.1 in
    let shorter = ap length steps in
    record {
      listeners = ap (map (queued (Some c.args.conn) (queued_in rest))) c.tell_one.ensures.listeners
          ∙ queued_more (Some c.args.conn) (x.queued ∷ []) (queued_in rest) at.self.listeners
          ∙ rw steps at at.invariant.listeners;
      said = said_more c.args.conn x.queued (queued_in rest) at.self.listeners
          c.tell_one.new.self.listeners at.said.items c.tell_one.new.said.items
          c.tell_one.ensures.listeners c.tell_one.ensures.said
          ∙ rw steps at at.invariant.said;
      secret = c.tell_one.ensures.secret ∙ at.invariant.secret;
      pairs = All-tail IsTwin x rest (rw steps at at.invariant.pairs);
      count = omega arith;
      spare = omega arith;
      room = omega (arith, c.tell_one.ensures.room);
      capacity = c.tell_one.ensures.capacity ∙ at.invariant.capacity;
    }

-- at the end all are told
pub returns-clause-listeners : goal.returns-clause-listeners
returns-clause-listeners c =
    let at = c.loop-twin in
    let empty : into_iter_items at.twin-iterator ≡ [] =
    nil_from_length _ (sym at.invariant.count ∙ c.in-None.ensures.steps.0) in
    sym (queued_nothing (Some c.args.conn) at.self.listeners) ∙ rw empty at at.invariant.listeners
