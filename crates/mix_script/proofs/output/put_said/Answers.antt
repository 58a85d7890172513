use Rattle.std.proofs.Common.{◌∷◌, [], map}
use Rattle.mix_script.specs.Output.{close_line, text_line}
use Rattle.mix_script.proofs.Written.{lines_more, said_stops}
use Rattle.mix_script.proofs.output.put_said.Goals as goal

-- where what is told isn't written whole, no close is
pub returns-in-Err-clause-bytes : goal.returns-in-Err-clause-bytes
returns-in-Err-clause-bytes g c = λ tells.
    said_stops c.args.conn c.args.told.now c.args.close c.in-Err.fault _ _
    (c.in-Err.ensures.bytes tells)

-- the close stands behind all that is told
pub returns-in-Some-clause-bytes : goal.returns-in-Some-clause-bytes
returns-in-Some-clause-bytes g c = λ tells. rw c.in-Some.is
    (lines_more c.put_made.result (map (text_line c.args.conn) c.args.told.now)
    (close_line c.args.conn c.in-Some.code ∷ []) _ _ _ (c.in-Ok.ensures.bytes tells)
    (c.put_made.ensures.bytes (close_line c.args.conn c.in-Some.code) c.close_line.ensures.value tells))
