use Rattle.std.proofs.Common.{arith}
use Rattle.std.proofs.lemmas.Grind.{common_steps}
use Rattle.mix_outside.proofs.Runs.{whole_moves, open_moves, whole_past, open_past}
use Rattle.mix_outside.proofs.read_ahead.ReadAhead.move_run.Goals as goal

-- a line feed that stands past the room
pub returns-then-at-fits-clause-bytes : goal.returns-then-at-fits-clause-bytes
returns-then-at-fits-clause-bytes c =
    whole_past c.args.line.now.items c.args.self.now c.in-Some.at c.args.room
    (grind (arith, common_steps)) c.requires.begun (omega arith)

-- more bytes than there is room for
pub returns-then-ahead-fits-clause-bytes : goal.returns-then-ahead-fits-clause-bytes
returns-then-ahead-fits-clause-bytes c =
    open_past c.args.line.now.items c.args.self.now c.args.room
    (grind (arith, common_steps)) c.requires.begun (grind (arith, common_steps))

-- the bytes up to the line feed
pub returns-else-is_err-clause-bytes : goal.returns-else-is_err-clause-bytes
returns-else-is_err-clause-bytes c =
    whole_moves c.args.line.now.items c.extend_from_slice.new.self.items c.args.self.now
    c.consume.new.self c.in-Some.at (grind (arith, common_steps))
    (grind (arith, common_steps)) c.consume.ensures.state

-- all bytes
pub returns-else-is_err-2-clause-bytes : goal.returns-else-is_err-2-clause-bytes
returns-else-is_err-2-clause-bytes c =
    open_moves c.args.line.now.items c.extend_from_slice-in-None.new.self.items c.args.self.now
    c.consume-in-None.new.self (grind (arith, common_steps))
    (grind (arith, common_steps)) (grind (arith, common_steps))
