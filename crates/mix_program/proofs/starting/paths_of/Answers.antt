use Rattle.std.proofs.Common.{arith}
use Rattle.std.proofs.lemmas.Grind.{common_steps}
use Rattle.mix_program.proofs.Spoken.{four_spoken}
use Rattle.mix_program.proofs.starting.paths_of.Goals as goal

-- the words at their places
pub returns-in-len4-clause-value : goal.returns-in-len4-clause-value
returns-in-len4-clause-value c =
    four_spoken c.args.words.now c.command-item.result c.collection-item.result
    c.script-item.result c.tape-item.result (grind (arith, common_steps))
    (grind (arith, common_steps)) c.command-item.is c.collection-item.is c.script-item.is
    c.tape-item.is (grind (arith, common_steps))
