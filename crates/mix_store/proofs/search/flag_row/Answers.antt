-- one row has the serial, or none has
use Rattle.mix_store.proofs.FlagLemmas.{flag_put, flag_absent}
use Rattle.mix_store.proofs.ChangeLemmas.{some_row}
use Rattle.mix_store.proofs.search.flag_row.Goals as goal

pub returns-in_default : goal.returns-in_default
returns-in_default c = flag_absent c.args.serial c.args.rows.now c.args.flags.now
    c.in_default.ensures.none

pub returns : goal.returns
returns c = flag_put c.args.serial 0 c.args.rows.now c.args.flags.now c.in-Some.at some_row
    c.requires.rising c.requires.each c.in-Some.ensures.within (c.in-Some.ensures.at some_row)
