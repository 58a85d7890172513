use Rattle.std.proofs.Common.{arith, ◌≡◌, ◌+◌, cond}
use Rattle.mix_fanout.specs.Keys.{posted_line}
use Rattle.mix_fanout.proofs.InPlace.{mapped_more, room_at}
use Rattle.mix_fanout.proofs.Counts.{counted_more}
use Rattle.mix_fanout.proofs.lanes.post.Goals as goal
use Rattle.mix_fanout.proofs.lanes.post.Goals.{then-post, else-post}

-- a list that isn't reached yet has the room
pub post-requires : goal.post-requires
post-requires c = room_at (posted_line c.args.key c.args.bit c.args.but) 1 c.args.lanes.now
    c.loop-lane.lanes c.loop-lane.lane-index _ c.requires (omega arith) c.loop-lane.invariant.posted

-- one more is posted to, and counted where it takes
pub loop-lane-preserved : goal.loop-lane-preserved
loop-lane-preserved c =
    let more : c.if-post.takers ≡ c.loop-lane.takers + cond c.post.result 1 0 =
    elim c.if-post.branch [
      | then-post w ↦ rw w.if-post.true w.takers-is
      | else-post w ↦
          rw w.if-post.false (omega (arith, w.takers-is))
    ] in
    record {
      posted = mapped_more (posted_line c.args.key c.args.bit c.args.but) c.args.lanes.now
          c.loop-lane.lanes c.loop-lane.lane-index _ _ (omega arith) (omega arith)
          c.loop-lane.invariant.posted c.post.ensures.state;
      counted = counted_more c.args.key c.args.bit c.args.but c.args.lanes.now c.loop-lane.lanes
          c.loop-lane.lane-index _ c.post.result _ _ (omega arith) c.loop-lane.invariant.posted
          c.post.ensures.value c.loop-lane.invariant.counted more;
      few = elim c.if-post.branch [ then-post w ↦ omega arith | else-post w ↦ omega arith ];
    }
