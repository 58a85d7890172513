use Rattle.mix_program.proofs.Painted.{whole_painting}
use Rattle.mix_program.proofs.running.answering.show_frame.Goals as goal

-- what is painted has four bytes for each pixel
pub returns-in-Ok-clause-whole : goal.returns-in-Ok-clause-whole
returns-in-Ok-clause-whole c = whole_painting c.args.shot.now c.args.number c.args.canvas
    c.in-Ok.picture c.in-Ok.ensures.value
