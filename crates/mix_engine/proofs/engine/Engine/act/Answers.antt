use Rattle.std.proofs.Common.{◌≡◌, ◌∙◌, ◌+◌, List, [], ◌∷◌, ◌++◌, ap, arith, length, subst, sym, true}
use Rattle.std.proofs.lemmas.List.{length-append}
use Rattle.mix_model.specs.declared.action.Entry.{Entry}
use Rattle.mix_engine.specs.contracts.engine.Engine.{the_view}
use Rattle.mix_engine.specs.Answers.{Agrees, Replies, answer_to, due_after, state_after}
use Rattle.mix_engine.specs.Engines.{EngineModel, has_room}
use Rattle.mix_engine.specs.Mixer.{Mixer, start_of}
use Rattle.mix_engine.specs.Replayed.{Replayed}
use Rattle.mix_engine.proofs.Replays.{answers_agree, numbers_left, replays_more, room_fits, state_on}
use Rattle.mix_engine.proofs.engine.Engine.act.Goals as goal
use Rattle.mix_engine.proofs.engine.Engine.act.Goals.{After-push_reserved}

-- the journal has one entry more
items : (c : After-push_reserved) → c.push_reserved.new.self.items
    ≡ c.self.inside.journal.items ++ record { from = c.args.from; action = c.args.action } ∷ []
items c = rw (c.shelved-action.ensures.value, c.in-Ok.ensures.items)
    at c.push_reserved.ensures.items

-- that keeps what ties the engine to its journal
pub invariant_of-self-2 : goal.invariant_of-self-2
invariant_of-self-2 c =
    let e : EngineModel = the_view c.self.inside in
    let one : Entry = record { from = c.args.from; action = c.args.action } in
    let more : c.push_reserved.new.self.items ≡ c.self.inside.journal.items ++ one ∷ [] =
    items (goal.at.invariant_of-self-2 c).After-push_reserved in
    let room : has_room e c.args.action ≡ true =
    ap (λ (e : EngineModel). has_room e c.args.action) c.self.view_is
    ∙ sym (c.has_room.ensures.value c.args.action c.line_length-line.ensures.value)
    ∙ c.if-not-has_room.false in
    let fits = room_fits e c.args.action c.line_length-line.result room c.self.invariant.1
    c.line_length-line.ensures.value in
    let longer : length c.push_reserved.new.self.items ≡ length c.self.inside.journal.items + 1 =
    ap length more ∙ length-append c.self.inside.journal.items (one ∷ []) in (
      subst (λ (l : List Entry). Replayed (start_of c.self.inside.setup.collection) l c.act.new.self
          (c.self.inside.bytes + c.line_length-line.result)) (sym more)
          (replays_more one c.self.invariant.0 c.has_shape.ensures.shape c.in-Ok-act.ensures.steps
          (sym c.is_unbuilt.ensures.value ∙ c.if-is_unbuilt.false) c.line_length-line.result
          c.requests_are_proper.ensures.proper
          (numbers_left e c.self.invariant.0 c.self.invariant.1 c.self.invariant.2) fits.0),
      c.self.invariant.1,
      omega (arith, longer, fits.1),
      omega (arith, c.self.invariant.0.bytes, fits.2),
    )

-- the answer agrees with that entry
pub returns-clause-reply : goal.returns-clause-reply
returns-clause-reply c =
    let one : Entry = record { from = c.args.from; action = c.args.action } in
    let same : state_after (start_of c.self.inside.setup.collection) c.push_reserved.new.self.items
    ≡ c.act.new.self.mixer =
    ap (state_after (start_of c.self.inside.setup.collection))
    (items (goal.at.returns-clause-reply c).After-push_reserved)
    ∙ sym (state_on one c.self.invariant.0 c.has_shape.ensures.shape c.in-Ok-act.ensures.steps
    (sym c.is_unbuilt.ensures.value ∙ c.if-is_unbuilt.false)) in
    subst (λ (e : EngineModel). Agrees c.answer.result (answer_to e.start e.journal c.args.action))
    c.self.view_is (answers_agree one c.self.invariant.0 c.has_shape.ensures.shape
    c.in-Ok-act.ensures.steps (sym c.is_unbuilt.ensures.value ∙ c.if-is_unbuilt.false)
    c.answer.result (λ found shown sounds. subst (λ (s : Mixer).
    Replies c.in-Ok-act.answer.heading found c.in-Ok-act.answer.said.items
    (due_after c.in-Ok-act.answer.heading s) c.answer.result.reply) same
    (c.answer.ensures.reply found shown sounds))
    (c.answer.ensures.stopping ∙ ap (λ (s : Mixer). s.notes.stop) same)
    (c.answer.ensures.dying ∙ ap (λ (s : Mixer). length s.studio.graph.dying) same))
