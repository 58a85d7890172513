use Rattle.std.proofs.Common.{arith, ap, ◌∙◌, subst, sym, map}
use Rattle.mix_fanout.specs.Keys.{HasRoom, with_room}
use Rattle.mix_fanout.proofs.InPlace.{mapped_more, put_back, same_but_room, room_so_far}
use Rattle.mix_fanout.proofs.lanes.reserve.Goals as goal

-- one more has the room
pub loop-lane-preserved : goal.loop-lane-preserved
loop-lane-preserved c = mapped_more (with_room c.args.room) c.args.lanes.now c.loop-lane.lanes
    c.loop-lane.lane-index _ _ (omega arith) (omega arith) c.loop-lane.invariant
    c.in_ok-reserve.ensures.ok

-- where one has no room, all but the room is as it was
pub returns-in_err-reserve-clause-keeps : goal.returns-in_err-reserve-clause-keeps
returns-in_err-reserve-clause-keeps c = ap (map (with_room 0))
    (put_back _ c.loop-lane.lanes c.loop-lane.lane-index _ _ (omega arith) c.loop-lane.invariant
    c.in_err-reserve.ensures.err) ∙ same_but_room c.args.room c.args.lanes.now
    c.loop-lane.lane-index

pub returns-in_err-reserve-clause-room : goal.returns-in_err-reserve-clause-room
returns-in_err-reserve-clause-room c = λ n le has. subst (HasRoom n)
    (sym (put_back _ c.loop-lane.lanes c.loop-lane.lane-index _ _ (omega arith)
    c.loop-lane.invariant c.in_err-reserve.ensures.err))
    (room_so_far c.args.room n c.args.lanes.now c.loop-lane.lane-index le has)

pub returns-clause-keeps : goal.returns-clause-keeps
returns-clause-keeps c = ap (map (with_room 0)) c.loop-lane.invariant ∙
    same_but_room c.args.room c.args.lanes.now c.loop-lane.lane-index

pub returns-clause-room : goal.returns-clause-room
returns-clause-room c = λ n le has. subst (HasRoom n) (sym c.loop-lane.invariant)
    (room_so_far c.args.room n c.args.lanes.now c.loop-lane.lane-index le has)
