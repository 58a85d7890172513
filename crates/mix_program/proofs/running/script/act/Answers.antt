use Rattle.mix_program.proofs.Runs.{was_tried, acted_turns, acted_follows, reply_showable}
use Rattle.mix_program.proofs.running.script.act.Goals as goal

-- what the answer shows can be painted, or mixed
pub put_answer-wrote-requires-clause-showable : goal.put_answer-wrote-requires-clause-showable
put_answer-wrote-requires-clause-showable g c = reply_showable _ _ _ _ _
    (was_tried c.in-Ok-Some.field-0
    c.in-Ok-Some.answer c.args.engine.now c.act.new.self c.args.number c.args.action
    c.in-Ok-Some.field-0-is c.in-Ok-Some.ensures.built c.in-Ok-Some.ensures.reply
    c.in-Ok-Some.ensures.state).agrees.reply

-- the lines are written and the run goes on, or a front of them is
pub returns-in-Ok-Some-clause-turned : goal.returns-in-Ok-Some-clause-turned
returns-in-Ok-Some-clause-turned g c = λ tells. acted_turns c.put_answer-wrote.result
    c.ended_by.result c.canvas-canvas.result c.in-Ok-Some.answer c.args.engine.now c.act.new.self
    c.args.number c.args.action _ _ c.ended_by.ensures.value c.canvas-canvas.ensures.value
    c.requires.number
    (was_tried c.in-Ok-Some.field-0
    c.in-Ok-Some.answer c.args.engine.now c.act.new.self c.args.number c.args.action
    c.in-Ok-Some.field-0-is c.in-Ok-Some.ensures.built c.in-Ok-Some.ensures.reply
    c.in-Ok-Some.ensures.state)
    (c.put_answer-wrote.ensures.bytes tells)

-- the action is the last entry, where the run goes on
pub returns-in-Ok-Some-clause-follows : goal.returns-in-Ok-Some-clause-follows
returns-in-Ok-Some-clause-follows g c = acted_follows c.put_answer-wrote.result
    c.ended_by.result c.in-Ok-Some.answer c.args.engine.now c.act.new.self
    c.args.number c.args.action c.ended_by.ensures.value
    (was_tried c.in-Ok-Some.field-0
    c.in-Ok-Some.answer c.args.engine.now c.act.new.self c.args.number c.args.action
    c.in-Ok-Some.field-0-is c.in-Ok-Some.ensures.built c.in-Ok-Some.ensures.reply
    c.in-Ok-Some.ensures.state)
