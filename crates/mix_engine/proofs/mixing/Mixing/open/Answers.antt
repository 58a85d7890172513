use Rattle.std.proofs.Common.{◌∙◌, Err, Ok, sym}
use Rattle.mix_engine.proofs.Openers.{is_refusal, opens_as, shut_preview, start_is}
use Rattle.mix_engine.proofs.mixing.Mixing.open.Goals as goal

-- a preview is asked for
pub returns-then-is_some-clause-opens : goal.returns-then-is_some-clause-opens
returns-then-is_some-clause-opens c =
    shut_preview c.args.setup.now.collection (sym c.if-is_some.ensures)

-- nothing is refused
pub returns-in_ok-over-in-Ok-clause-opens : goal.returns-in_ok-over-in-Ok-clause-opens
returns-in_ok-over-in-Ok-clause-opens c = opens_as c.args.setup.now.collection
    (Ok c.in-Ok.studio.present) (sym c.if-is_some.ensures) c.in-Ok.ensures.value

pub returns-in_ok-over-in-Ok-clause-value : goal.returns-in_ok-over-in-Ok-clause-value
returns-in_ok-over-in-Ok-clause-value c = c.in_ok-over-in-Ok.ensures.value
    ∙ start_is c.args.setup.now.collection c.in-Ok.studio.present c.in-Ok.ensures.value

-- a line is, or a scene at its end
pub returns-in_default-clause-opens : goal.returns-in_default-clause-opens
returns-in_default-clause-opens c = opens_as c.args.setup.now.collection (Err c.in-Err.fault)
    (sym c.if-is_some.ensures)
    (is_refusal _ _ c.in_default.not-NoMemory c.in-Err.ensures.refused)
