use Rattle.std.proofs.Common.{◌≡◌, ◌≤◌, ◌∙◌, ap, arith, map}
use Rattle.mix_events.specs.Events.{event_intent}
use Rattle.mix_fanout.specs.Lanes.{Fans, posted}
use Rattle.mix_fanout.specs.Keys.{posted_line, takers}
use Rattle.mix_fanout.proofs.InPlace.{room_less}
use Rattle.mix_fanout.proofs.Held.{held_posted, seen_posted}
use Rattle.mix_fanout.proofs.Fans.{held_in_place, seen_in_place, posted_alike, takers_alike}
use Rattle.mix_fanout.proofs.fanout.Fanout.post.Goals as goal

-- each list has the room
pub post-holders-requires : goal.post-holders-requires
post-holders-requires c = rw c.deref_mut.ensures.value (room_less c.self.inside.spare 1
    c.self.inside.lanes.items (omega (
      arith,
      ap (λ (o : Fans). o.spare) c.self.view_is,
      c.requires.room,
    )) c.self.invariant.lists_room)

-- the event is held by its takers
pub invariant_of-self : goal.invariant_of-self
invariant_of-self c =
    let some : 1 ≤ c.self.inside.spare = omega (
      arith,
      ap (λ (o : Fans). o.spare) c.self.view_is,
      c.requires.room,
    ) in
    let made : c.post-holders.new.lanes ≡ map (posted_line c.self.inside.store.vacant_key
    (event_intent c.args.event) c.args.but) c.deref_mut.result.now =
    posted_alike _ _ _ _ _ _ _ _ c.vacant_key-key.ensures.value
    (c.intent.ensures.value ∙ ap event_intent c.event.ensures.value)
    c.number_of.ensures.value c.post-holders.ensures.state in
    let count : c.post-holders.result ≡ takers (event_intent c.args.event) c.args.but
    c.self.inside.lanes.items = takers_alike _ _ _ _ _ _ _
    (c.intent.ensures.value ∙ ap event_intent c.event.ensures.value)
    c.number_of.ensures.value c.deref_mut.ensures.value c.post-holders.ensures.value in
    held_in_place c.self.inside.lanes (posted_line c.self.inside.store.vacant_key
    (event_intent c.args.event) c.args.but) c.post-holders.new.lanes _ made
    c.deref_mut.ensures.value _ c.take_in.new.store (held_posted c.self.inside.spare
    c.self.inside.store c.take_in.new.store c.self.inside.store.vacant_key
    (event_intent c.args.event) c.args.event c.args.but c.post-holders.result
    c.self.inside.lanes.items some c.self.invariant count c.take_in.ensures.state)

-- the event comes last where it is wanted
pub returns-clause-lanes : goal.returns-clause-lanes
returns-clause-lanes c =
    let made : c.post-holders.new.lanes ≡ map (posted_line c.self.inside.store.vacant_key
    (event_intent c.args.event) c.args.but) c.deref_mut.result.now =
    posted_alike _ _ _ _ _ _ _ _ c.vacant_key-key.ensures.value
    (c.intent.ensures.value ∙ ap event_intent c.event.ensures.value)
    c.number_of.ensures.value c.post-holders.ensures.state in
    let count : c.post-holders.result ≡ takers (event_intent c.args.event) c.args.but
    c.self.inside.lanes.items = takers_alike _ _ _ _ _ _ _
    (c.intent.ensures.value ∙ ap event_intent c.event.ensures.value)
    c.number_of.ensures.value c.deref_mut.ensures.value c.post-holders.ensures.value in
    seen_in_place c.self.inside.lanes (posted_line c.self.inside.store.vacant_key
    (event_intent c.args.event) c.args.but) c.post-holders.new.lanes _ made
    c.deref_mut.ensures.value c.self.inside.store c.take_in.new.store c.self.inside.spare
    c.self.inside.limit _ c.self.view_is (λ (o : Fans). map (posted c.args.event c.args.but)
    o.lanes) (seen_posted c.self.inside.spare c.self.inside.store c.take_in.new.store
    c.self.inside.store.vacant_key c.args.event c.args.but c.post-holders.result
    c.self.inside.lanes.items c.self.invariant count c.take_in.ensures.state)
