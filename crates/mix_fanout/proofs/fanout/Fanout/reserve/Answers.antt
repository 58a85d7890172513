use Rattle.std.proofs.Common.{◌≡◌, arith, map, sym, subst}
use Rattle.slab.specs.Slab.{HasRoomFor}
use Rattle.mix_fanout.specs.Keys.{Holds, HasRoom, with_room}
use Rattle.mix_fanout.proofs.InPlace.{room_made}
use Rattle.mix_fanout.proofs.Fans.{same_in_place, held_reserved, seen_in_place_reserved}
use Rattle.mix_fanout.proofs.Fans.{seen_as_before, on_err}
use Rattle.mix_fanout.proofs.fanout.Fanout.reserve.Goals as goal

-- where a list has no room, all have what they had
pub invariant_of-self-in_err-reserve-2 : goal.invariant_of-self-in_err-reserve-2
invariant_of-self-in_err-reserve-2 c =
    let keeps : map (with_room 0) c.reserve-then-texts-self.new.lanes ≡ map (with_room 0)
    c.self.inside.lanes.items = rw c.deref_mut.ensures.value at c.in_err-reserve-2.ensures.keeps
    in
    let has : HasRoom c.self.inside.spare c.deref_mut.result.now =
    rw c.deref_mut.ensures.value c.self.invariant.lists_room in
    let room : HasRoomFor c.reserve.new.self c.self.inside.spare =
    omega (arith, c.in_ok-reserve.ensures.room, c.if-texts-self.true) in
    subst (Holds c.self.inside.spare c.reserve.new.self)
    (sym (same_in_place c.self.inside.lanes _ _ c.in_err-reserve-2.ensures.keeps
    c.deref_mut.ensures.value)) (held_reserved c.self.inside.spare c.self.inside.spare
    c.self.inside.store c.reserve.new.self c.self.inside.lanes.items _
    c.reserve.ensures.rest_kept keeps room (c.in_err-reserve-2.ensures.room c.self.inside.spare
    (omega (arith, c.if-texts-self.true)) has) c.self.invariant)

-- room is not seen
pub returns-in_err-reserve-2-clause-lanes : goal.returns-in_err-reserve-2-clause-lanes
returns-in_err-reserve-2-clause-lanes c = seen_in_place_reserved c.self.inside.lanes _ _
    c.in_err-reserve-2.ensures.keeps c.deref_mut.ensures.value c.self.inside.store
    c.reserve.new.self c.reserve.ensures.rest_kept c.self.inside.spare c.self.inside.limit _
    c.self.view_is

pub returns-in_err-reserve-2-clause-err : goal.returns-in_err-reserve-2-clause-err
returns-in_err-reserve-2-clause-err c = on_err _ (seen_as_before c.self.inside.store
    c.reserve.new.self c.self.inside.lanes.items _ c.self.inside.spare c.self.inside.limit _
    c.self.view_is (seen_in_place_reserved c.self.inside.lanes _ _ c.in_err-reserve-2.ensures.keeps
    c.deref_mut.ensures.value c.self.inside.store c.reserve.new.self c.reserve.ensures.rest_kept
    c.self.inside.spare c.self.inside.limit _ c.self.view_is))

-- where all have room, they have so much
pub invariant_of-self-then-texts-self : goal.invariant_of-self-then-texts-self
invariant_of-self-then-texts-self c =
    let keeps : map (with_room 0) c.reserve-then-texts-self.new.lanes ≡ map (with_room 0)
    c.self.inside.lanes.items = rw c.deref_mut.ensures.value at c.in_ok-reserve-2.ensures.keeps
    in
    subst (Holds c.args.texts c.reserve.new.self) (sym (same_in_place c.self.inside.lanes _ _
    c.in_ok-reserve-2.ensures.keeps c.deref_mut.ensures.value))
    (held_reserved c.self.inside.spare c.args.texts c.self.inside.store c.reserve.new.self
    c.self.inside.lanes.items _ c.reserve.ensures.rest_kept keeps c.in_ok-reserve.ensures.room
    (subst (HasRoom c.args.texts) (sym c.in_ok-reserve-2.ensures.ok)
    (room_made c.args.texts c.deref_mut.result.now)) c.self.invariant)

pub returns-in_ok-reserve-2-clause-lanes : goal.returns-in_ok-reserve-2-clause-lanes
returns-in_ok-reserve-2-clause-lanes c = seen_in_place_reserved c.self.inside.lanes _ _
    c.in_ok-reserve-2.ensures.keeps c.deref_mut.ensures.value c.self.inside.store c.reserve.new.self
    c.reserve.ensures.rest_kept c.self.inside.spare c.self.inside.limit _ c.self.view_is
