use Rattle.std.proofs.Common.{◌≡◌, ◌∙◌, [], false, refl, arith, subst, sym}
use Rattle.std.proofs.Math.Nat.{le-max_left}
use Rattle.mix_model.specs.declared.action.Action.TheVariants.{VideoTick}
use Rattle.mix_model.specs.declared.event.Event.TheVariants.{SceneTransitionEnded}
use Rattle.mix_model.specs.declared.words.Transition.TheVariants.{Fade}
use Rattle.mix_model.specs.Studio.{has_room}
use Rattle.mix_engine.specs.contracts.mixing.Mixing.{the_view}
use Rattle.mix_engine.specs.declared.heading.Heading.TheVariants.{NoFrame}
use Rattle.mix_engine.specs.Mixings.{IsMixing, mixed_of}
use Rattle.mix_engine.specs.Outcomes.{only}
use Rattle.mix_engine.specs.Step.{outcome, takes_frame}
use Rattle.mix_engine.proofs.FrameLemmas.{few_told, full_stays, stays, taken_left, taken_steps}
use Rattle.mix_engine.proofs.Shapes.{LeftBy, sound}
use Rattle.mix_engine.proofs.Stepping.{of_seen}
use Rattle.mix_engine.proofs.mixing.Mixing.tick.Goals as goal
use Rattle.mix_engine.proofs.mixing.Mixing.tick.Goals.{After-end, In-Ok-NoFrame}

-- the clock can go on
pub video_tick-requires-clause-clock : goal.video_tick-requires-clause-clock
video_tick-requires-clause-clock c =
    let numbers = rw (← c.self.view_is) at c.requires.numbers in
    rw c.begin_changes.ensures.state (omega (arith, numbers.clock))

-- there is no room for one frame more, so all is as it was
full : (c : In-Ok-NoFrame) → has_room c.self.inside.studio.present ≡ false
full c = rw (c.in-Ok-NoFrame.field-0-is, c.begin_changes.ensures.state)
    at c.in-Ok-NoFrame.ensures.reply

same : (c : In-Ok-NoFrame) → mixed_of c.video_tick.new.self.present c.self.inside.notes
    c.reserve.new.self c.self.inside.next_conn ≡ the_view c.self.inside
same c = stays c.self.invariant c.video_tick.new.self.present c.reserve.new.self
    (full_stays c.self.inside.studio.present c.video_tick.new.self (full c)
    (rw c.begin_changes.ensures.state at c.in-Ok-NoFrame.ensures.state))
    c.reserve.ensures.secret c.reserve.ensures.listeners

pub invariant_of-self-in-Ok-NoFrame : goal.invariant_of-self-in-Ok-NoFrame
invariant_of-self-in-Ok-NoFrame c = subst IsMixing
    (sym (same (goal.at.invariant_of-self-in-Ok-NoFrame c).In-Ok-NoFrame)) c.self.invariant

pub returns-in-Ok-NoFrame : goal.returns-in-Ok-NoFrame
returns-in-Ok-NoFrame c = record {
  steps = of_seen (λ m. outcome m.mixer VideoTick) c.self.view_is
      (rw (full (goal.at.returns-in-Ok-NoFrame c).In-Ok-NoFrame)
      (of_seen (λ m. only m.mixer NoFrame [])
      (same (goal.at.returns-in-Ok-NoFrame c).In-Ok-NoFrame) c.rest.ensures.steps));
}

-- one event is told at most
pub tell_all-requires : goal.tell_all-requires
tell_all-requires c =
    let few = few_told c.into_twins.result.items c.in-Ok-Frame.ended
    (SceneTransitionEnded Fade) (c.into_twins.ensures.value
    ∙ (rw c.in_ok-events.ensures.value at c.keep_if.ensures.value)) in
    let least = le-max_left 1 c.self.inside.audience.spare in
    record { spare = omega (arith, few, least, c.into_twins.result.ok.0, c.in_ok-reserve.ensures.spare) }

-- it is taken
left : (c : After-end) →
    LeftBy (the_view c.self.inside) (takes_frame (the_view c.self.inside).mixer)
    (mixed_of c.video_tick.new.self.present c.self.inside.notes c.end.new.self
    c.self.inside.next_conn)
left c = taken_left c.self.invariant
    (rw (c.in-Ok-Frame.field-0-is, c.begin_changes.ensures.state) at c.in-Ok-Frame.ensures.reply)
    c.video_tick.new.self c.end.new.self c.tell_all.new.self.listeners c.keep_if.new.events
    (rw c.begin_changes.ensures.state at c.in-Ok-Frame.ensures.state) c.video_tick.ensures.shape
    (rw c.in_ok-events.ensures.value at c.keep_if.ensures.value)
    (c.end.ensures.secret ∙ c.tell_all.ensures.secret ∙ c.reserve.ensures.secret)
    (rw (c.into_twins.ensures.value, c.reserve.ensures.listeners) at c.tell_all.ensures.listeners)
    c.end.ensures.listeners

pub invariant_of-self-in-Ok-Frame : goal.invariant_of-self-in-Ok-Frame
invariant_of-self-in-Ok-Frame c =
    sound c.self.invariant (left (goal.at.invariant_of-self-in-Ok-Frame c).After-end)

pub returns-in-Ok-Frame : goal.returns-in-Ok-Frame
returns-in-Ok-Frame c = record {
  steps = of_seen (λ m. outcome m.mixer VideoTick) c.self.view_is (taken_steps c.self.invariant
      (rw (c.in-Ok-Frame.field-0-is, c.begin_changes.ensures.state) at c.in-Ok-Frame.ensures.reply)
      _ _ refl c.new.ensures.items refl refl
      (left (goal.at.returns-in-Ok-Frame c).After-end).is);
}
