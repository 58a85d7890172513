-- what begins to die gets the room that was kept for it; the numbers are those of the settling
use Rattle.std.proofs.Common.{refl}
use Rattle.mix_model.specs.Walks.{is_active}
use Rattle.mix_model.specs.Marks.{settled_by, row_settled}
use Rattle.mix_model.specs.Settle.{newly_dying}
use Rattle.mix_store.specs.Settling.{begins_to_die}
use Rattle.mix_store.proofs.SettleLemmas.{room_for_new, room_stays, flagged_by}
use Rattle.mix_store.proofs.sources.Sources.settle.Goals as goal

pub push_flagged-requires-clause-room : goal.push_flagged-requires-clause-room
push_flagged-requires-clause-room c =
    let flags = rw (← c.self.view_is) at c.flag_unheld.ensures in
    rw (flags, c.as_slice.ensures.value) (room_for_new _ _ c.self.invariant.room)

pub invariant_of-self : goal.invariant_of-self
invariant_of-self c =
    let flags = rw (← c.self.view_is) at c.flag_unheld.ensures in
    rw (c.push_flagged.ensures.items, c.push_flagged.ensures.room, flags, c.as_slice.ensures.value)
    (record {
      room = room_stays _ _ c.self.invariant.room;
      few = room_stays _ _ c.self.invariant.few;
      start = c.self.invariant.start;
      drawn = c.self.invariant.drawn;
      items = c.self.invariant.items;
      rise = c.self.invariant.rise;
      differ = c.self.invariant.differ;
      below = c.self.invariant.below;
    })

pub returns : goal.returns
unfolding settled_by row_settled is_active begins_to_die newly_dying
returns c =
    let flags = rw (← c.self.view_is) at c.flag_unheld.ensures in
    let dying = rw (← c.self.view_is)
    at (flagged_by (begins_to_die c.args.self.now) c.args.self.now.rows) in
    rw (
      ← c.self.view_is,
      c.write_activity.ensures,
      c.push_flagged.ensures.items,
      flags,
      c.as_slice.ensures.value,
    ) (rw dying refl)
