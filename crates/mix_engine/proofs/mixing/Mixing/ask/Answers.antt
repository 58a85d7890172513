use Rattle.std.proofs.Common.{◌≡◌, ◌∙◌, ◌+◌, ◌≤◌, List, arith, length, map, subst, sym}
use Rattle.std.proofs.Common.{is_some, true, ℕ}
use Rattle.std.proofs.Math.Nat.{le-max_left}
use Rattle.mix_audience.specs.Listeners.{listener_at}
use Rattle.mix_events.specs.declared.twin.Twin.{Twin}
use Rattle.mix_engine.specs.contracts.mixing.Mixing.{the_view}
use Rattle.mix_engine.specs.Mixings.{Mixed}
use Rattle.mix_engine.specs.Numbers.{NumbersWithin}
use Rattle.mix_engine.specs.Requests.{answers}
use Rattle.mix_engine.proofs.AskLemmas.{Asked, asked_done, asked_few, asked_left, asked_steps}
use Rattle.mix_engine.proofs.Shapes.{sound}
use Rattle.mix_engine.proofs.Stepping.{of_seen}
use Rattle.mix_engine.proofs.mixing.Mixing.ask.Goals as goal
use Rattle.mix_engine.proofs.mixing.Mixing.ask.Goals.{In-Ok-Some}

-- what the request came to
asked : (c : In-Ok-Some) → Asked (the_view c.self.inside) c.args.conn c.args.ask c.in-Ok-Some.done
    c.do_request-done.new.studio.present c.do_request-done.new.notes c.do_request-done.new.events
asked c = asked_done c.self.invariant c.requests_are_proper.ensures.proper
    (subst (λ (m : Mixed). NumbersWithin 4294967294 m.mixer) (sym c.self.view_is)
    c.requires.numbers) c.args.conn c.args.ask
    (subst (λ (m : Mixed). is_some (listener_at c.args.conn m.listeners) ≡ true)
    (sym c.self.view_is) c.requires.is_there) c.requires.id c.in-Ok-Some.done
    c.begin_changes.new.self c.do_request-done.new.studio c.do_request-done.new.notes
    c.do_request-done.new.events c.begin_changes.ensures.state c.in-Ok-Some.field-0-is
    c.in-Ok-Some.ensures.does

-- there are no more events than their room
few : (c : In-Ok-Some) (twins : List Twin) {n : ℕ} → n ≡ length twins →
    map (λ (t : Twin). t.queued) twins ≡ c.do_request-done.new.events →
    n ≤ c.most_events-most.result
few c twins is same = asked_few (asked c) twins is same c.most_events-most.ensures.value
    c.named_by-request.ensures.value

-- there is room for its events
pub tell-requires-clause-spare : goal.tell-requires-clause-spare
tell-requires-clause-spare c =
    let less = few (goal.at.tell-requires-clause-spare c).In-Ok-Some
    c.into_twins-twins.result.items c.into_twins-twins.result.ok.0
    c.into_twins-twins.ensures.value in
    let spare = le-max_left c.most_events-most.result c.self.inside.audience.spare in
    omega (arith, less, spare, c.in-Ok-reserve.ensures.spare)

pub tell-requires-clause-room : goal.tell-requires-clause-room
tell-requires-clause-room c =
    let less = few (goal.at.tell-requires-clause-room c).In-Ok-Some
    c.into_twins-twins.result.items c.into_twins-twins.result.ok.0
    c.into_twins-twins.ensures.value in
    let room : c.in-Ok.said.len + (c.most_events-most.result + 1) ≤ c.in-Ok.said.cap =
    c.in-Ok.ensures.room in
    omega (arith, less, room)

-- and for its answer behind them
pub push_reserved-requires : goal.push_reserved-requires
push_reserved-requires c =
    let less = few (goal.at.push_reserved-requires c).In-Ok-Some
    c.into_twins-twins.result.items c.into_twins-twins.result.ok.0
    c.into_twins-twins.ensures.value in
    let room : c.in-Ok.said.len + (c.most_events-most.result + 1) ≤ c.in-Ok.said.cap =
    c.in-Ok.ensures.room in
    let told : c.tell.new.said.len ≤ c.in-Ok.said.len + c.into_twins-twins.result.len =
    c.tell.ensures.room in
    let same : c.tell.new.said.cap ≡ c.in-Ok.said.cap = c.tell.ensures.capacity in
    omega (arith, less, room, told, same)

-- what is left is what the line leaves
pub invariant_of-self-in-Ok-Some : goal.invariant_of-self-in-Ok-Some
invariant_of-self-in-Ok-Some c = sound c.self.invariant (asked_left c.self.invariant
    (asked (goal.at.invariant_of-self-in-Ok-Some c).In-Ok-Some) c.in-Ok-Some.ensures.shape
    c.end.new.self (c.end.ensures.secret ∙ c.tell.ensures.secret ∙ c.in-Ok-reserve.ensures.secret)
    (rw (
      c.tell.ensures.listeners,
      c.into_twins-twins.ensures.value,
      c.in-Ok-reserve.ensures.listeners,
    ) at c.end.ensures.listeners))

-- and what is told are the events that the connection takes, and its answer
pub returns-in-Ok-Some : goal.returns-in-Ok-Some
returns-in-Ok-Some c = record {
  steps = of_seen (λ m. answers m.mixer c.args.conn c.args.ask) c.self.view_is
      (asked_steps c.self.invariant (asked (goal.at.returns-in-Ok-Some c).In-Ok-Some)
      (asked_left c.self.invariant (asked (goal.at.returns-in-Ok-Some c).In-Ok-Some)
      c.in-Ok-Some.ensures.shape c.end.new.self
      (c.end.ensures.secret ∙ c.tell.ensures.secret ∙ c.in-Ok-reserve.ensures.secret)
      (rw (
        c.tell.ensures.listeners,
        c.into_twins-twins.ensures.value,
        c.in-Ok-reserve.ensures.listeners,
      ) at c.end.ensures.listeners)) c.saying.result
      c.push_reserved.new.self.items c.saying.ensures.says (rw (
        c.tell.ensures.said,
        c.in-Ok.ensures.said,
        c.into_twins-twins.ensures.value,
        c.in-Ok-reserve.ensures.listeners,
      )
      at c.push_reserved.ensures.items));
}
