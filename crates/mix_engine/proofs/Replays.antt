-- What ties an engine to its journal, after one entry more.
use Rattle.std.proofs.Common.{◌≡◌, ◌∙◌, ℕ, ◌+◌, ◌≤◌, ◌<◌, true, false, IsTrue}
use Rattle.std.proofs.Common.{List, [], ◌∷◌, ◌++◌, length, refl, sym, ap, arith}
use Rattle.std.proofs.lemmas.Bool.{ltb-true, leb-true}
use Rattle.std.proofs.lemmas.List.{length-append, map-append}
use Rattle.std.proofs.lemmas.List.Sums.{sum_by_push}
use Rattle.mix_model.specs.State.{StudioState}
use Rattle.mix_model.specs.declared.action.Action.{Action}
use Rattle.mix_model.specs.declared.action.Entry.{Entry}
use Rattle.mix_events.specs.declared.reply.Answer.{Answer}
use Rattle.mix_model.proofs.SetLemmas.{and_first, and_second}
use Rattle.mix_shape.specs.Refused.{are_limits}
use Rattle.mix_engine.specs.declared.step_answer.StepAnswer.{StepAnswer}
use Rattle.mix_engine.specs.Answers.{actions_of, answer_to, due_after, state_after, trace}
use Rattle.mix_engine.specs.Answers.{Agrees, Replies}
use Rattle.mix_engine.specs.Engines.{EngineModel, IsLineOf, has_room, line_bytes}
use Rattle.mix_engine.specs.Engines.{text_bytes}
use Rattle.mix_engine.specs.Headings.{is_unbuilt}
use Rattle.mix_engine.specs.Laws.{RequestsAreProper}
use Rattle.mix_engine.specs.Mixer.{Mixer}
use Rattle.mix_engine.specs.Mixings.{IsMixing, Mixed}
use Rattle.mix_engine.specs.Numbers.{NumbersWithin}
use Rattle.mix_engine.specs.Outcomes.{Outcome}
use Rattle.mix_engine.specs.Replayed.{IsQueued, Replayed}
use Rattle.mix_engine.specs.Step.{after, outcome, step, steps}
use Rattle.mix_engine.specs.StepAnswers.{HasShot, HasVoices, Stepped}
use Rattle.mix_engine.specs.Told.{happened}
use Rattle.mix_engine.proofs.Actors.{outcome_acts}
use Rattle.mix_engine.proofs.Growth.{GoesOn, items_within, numbers_on, outcome_goes_on}
use Rattle.mix_engine.proofs.QueueLemmas.{queued_more, speech_is}
use Rattle.mix_engine.proofs.Shapes.{built_after, left_by}

-- ---- limits

-- where there is room, a line is as long as it was counted, and one more entry fits
pub room_fits : (e : EngineModel) (action : Action) (line : ℕ) → has_room e action ≡ true →
    IsTrue (are_limits e.limits) → IsLineOf line action →
    (line ≡ line_bytes action) × (length e.journal + 1 ≤ e.limits.turns)
    × (text_bytes e.journal + line ≤ e.limits.bytes)
room_fits e action line room limits counted =
    let turns : length e.journal < e.limits.turns = ltb-true _ _ (and_first _ _ room) in
    let bytes : text_bytes e.journal + line_bytes action ≤ e.limits.bytes
    = leb-true _ _ (and_second _ _ room) in
    let few : e.limits.bytes ≤ 1073741824 = leb-true _ _ (and_second _ _ limits) in
    let same : line ≡ line_bytes action = omega arith in
    (same, omega arith, omega arith)

-- ---- one entry more

steps_more : (s : Mixer) (actions : List Action) (action : Action) →
    steps s (actions ++ action ∷ []) ≡ step (steps s actions) action
steps_more s [] action = refl
steps_more s (a ∷ actions) action = steps_more (step s a) actions action

trace_more : (s : Mixer) (actions : List Action) (action : Action) →
    trace s (actions ++ action ∷ [])
    ≡ trace s actions ++ happened (steps s actions) (outcome (steps s actions) action) ∷ []
trace_more s [] action = refl
trace_more s (a ∷ actions) action =
    ap (λ l. happened s (outcome s a) ∷ l) (trace_more (step s a) actions action)

actions_more : (journal : List Entry) (e : Entry) →
    actions_of (journal ++ e ∷ []) ≡ actions_of journal ++ e.action ∷ []
actions_more journal e = map-append (λ (f : Entry). f.action) journal (e ∷ [])

-- one entry more is one step more
state_longer : (start : Mixer) (journal : List Entry) (e : Entry) →
    state_after start (journal ++ e ∷ []) ≡ step (state_after start journal) e.action
state_longer start journal e =
    ap (steps start) (actions_more journal e) ∙ steps_more start (actions_of journal) e.action

-- and at the end of the trace stands what happened then
trace_longer : (start : Mixer) (journal : List Entry) (e : Entry) →
    trace start (actions_of (journal ++ e ∷ []))
    ≡ trace start (actions_of journal)
    ++ happened (state_after start journal) (outcome (state_after start journal) e.action) ∷ []
trace_longer start journal e =
    ap (trace start) (actions_more journal e) ∙ trace_more start (actions_of journal) e.action

-- ---- numbers

numbers_more : (s : Mixer) (low high : ℕ) → low ≤ high → NumbersWithin low s →
    NumbersWithin high s
numbers_more s low high more numbers = record {
  conns = omega (arith, numbers.conns);
  serials = omega (arith, numbers.serials);
  items = items_within s.studio.graph low high more numbers.items;
  holds = omega (arith, numbers.holds);
  watches = omega (arith, numbers.watches);
  clock = omega (arith, numbers.clock);
  audio = omega (arith, numbers.audio);
}

-- the next numbers can still be given: no number runs ahead of the entries, and those are few
pub numbers_left : (e : EngineModel) {m : Mixed} {count : ℕ} →
    Replayed e.start e.journal m count → IsTrue (are_limits e.limits) →
    length e.journal ≤ e.limits.turns → NumbersWithin 4294967294 m.mixer
numbers_left e {m} replayed limits few =
    let turns : e.limits.turns ≤ 16777216 =
    leb-true _ _ (and_second _ _ (and_first _ _ limits)) in
    numbers_more m.mixer (4096 + length e.journal) 4294967294 (omega arith) replayed.numbers

-- ---- an action that is built

module _ {start : Mixer} {old new : Mixed} {journal : List Entry} {answer : StepAnswer} {count : ℕ}
    (e : Entry) (replayed : Replayed start journal old count) (mixing : IsMixing old)
    (stepped : Stepped old new answer (outcome old.mixer e.action))
    (built : is_unbuilt answer.heading ≡ false) where
  heading_built : is_unbuilt (outcome old.mixer e.action).heading ≡ false
  heading_built = ap is_unbuilt (sym stepped.heading) ∙ built

  left : new ≡ left_by old (outcome old.mixer e.action)
  left = stepped.state ∙ built_after old (outcome old.mixer e.action) heading_built

  -- the state is the replay of one entry more
  pub state_on : new.mixer ≡ state_after start (journal ++ e ∷ [])
  state_on = ap (λ (m : Mixed). m.mixer) stepped.state
      ∙ ap (λ s. after s (outcome s e.action)) replayed.state
      ∙ sym (state_longer start journal e)

  -- and what waits is the queue after it
  queues_on : IsQueued (trace start (actions_of (journal ++ e ∷ []))) new.listeners
  queues_on = rw (trace_longer start journal e, ← replayed.state, left)
      (queued_more old (outcome old.mixer e.action) (trace start (actions_of journal))
      mixing.conns (outcome_acts old.mixer e.action) replayed.queues)

  -- numbers go on
  on : RequestsAreProper → NumbersWithin 4294967294 old.mixer →
      GoesOn old.mixer new.mixer.studio new.mixer.next_conn
  on proper numbers = rw left (outcome_goes_on proper old.mixer mixing.shape numbers e.action)

  pub replays_more : (line : ℕ) → RequestsAreProper → NumbersWithin 4294967294 old.mixer →
      line ≡ line_bytes e.action → Replayed start (journal ++ e ∷ []) new (count + line)
  replays_more line proper numbers counted =
      let longer : length (journal ++ e ∷ []) ≡ length journal + 1
      = length-append journal (e ∷ []) in
      let bytes_were : count ≡ text_bytes journal = replayed.bytes in
      let bytes_are : text_bytes (journal ++ e ∷ []) ≡ text_bytes journal + line_bytes e.action
      = sum_by_push (λ (f : Entry). line_bytes f.action) journal e in
      record {
        state = state_on;
        queues = queues_on;
        bytes = omega arith;
        numbers = numbers_more new.mixer (4096 + length journal + 1)
            (4096 + length (journal ++ e ∷ [])) (omega arith)
            (numbers_on old.mixer new.mixer (4096 + length journal) (on proper numbers)
            replayed.numbers);
        i420 = (on proper numbers).i420 ∙ replayed.i420;
        tracks = (on proper numbers).tracks ∙ replayed.tracks;
      }

  -- what is answered agrees with the entry
  pub answers_agree : (a : Answer) → ((found : StudioState) →
      HasShot answer.heading found answer.shot → HasVoices answer.heading found answer.voices →
      Replies answer.heading found answer.said.items (due_after answer.heading new.mixer) a.reply) →
      a.stopping ≡ new.mixer.notes.stop →
      a.dying ≡ length new.mixer.studio.graph.dying →
      Agrees a (answer_to start journal e.action)
  answers_agree a reply stopping dying = rw (← replayed.state) (record {
    reply = rw (
      stepped.heading,
      stepped.said,
      speech_is o.heading
          (trace start (actions_of journal)) old o mixing.conns replayed.queues,
      ap (λ (m : Mixed). m.mixer) stepped.state,
    ) at (reply old.mixer.studio
        (rw stepped.heading stepped.shot) (rw stepped.heading stepped.voices));
    stopping = stopping ∙ ap (λ (m : Mixed). m.mixer.notes.stop) stepped.state;
    dying = dying ∙ ap (λ (m : Mixed). length m.mixer.studio.graph.dying) stepped.state;
  })
    where
      o : Outcome
      o = outcome old.mixer e.action
