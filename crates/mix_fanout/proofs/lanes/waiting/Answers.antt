use Rattle.std.proofs.Common.{ap, is_some}
use Rattle.mix_fanout.specs.Keys.{is_line}
use Rattle.mix_fanout.proofs.Views.{there, said_found, cut_found}
use Rattle.mix_fanout.proofs.lanes.waiting.Goals as goal

-- who has joined is found
pub unreachable-requires : goal.unreachable-requires
unreachable-requires c = let found = there (is_line c.args.conn) c.args.lanes.now in
    cc (c.requires, found, ap is_some c.in-None.ensures.value)

pub returns-clause-said : goal.returns-clause-said
returns-clause-said c = said_found c.args.store.now c.args.conn c.args.lanes.now c.in-Some.lane.now
    c.keys.result.now _ c.in-Some.ensures.value c.keys.ensures.value
    c.in_ok-texts-in-Some.ensures.said

pub returns-clause-cut : goal.returns-clause-cut
returns-clause-cut c = cut_found c.args.store.now c.args.conn c.args.lanes.now c.in-Some.lane.now _
    c.in-Some.ensures.value c.is_cut.ensures.value
