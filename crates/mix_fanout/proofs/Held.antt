use Rattle.std.proofs.Common.{◌≡◌, ℕ, ◌+◌, ◌-◌, ◌<◌, ◌≤◌, ◌==◌, cond, not, List, map, filter}
use Rattle.std.proofs.Common.{Option, sym, ap, ◌∙◌, arith}
use Rattle.slab.specs.Slab.{Slab}
use Rattle.mix_model.specs.declared.event.Event.{Event}
use Rattle.mix_events.specs.Events.{event_intent}
use Rattle.mix_fanout.specs.declared.kept.Kept.{Kept}
use Rattle.mix_fanout.specs.Lanes.{is_lane, posted, cleared}
use Rattle.mix_fanout.specs.Keys.{Lined, Holds, LetGo, TakesIn, held, lane_of, times, total}
use Rattle.mix_fanout.specs.Keys.{keys_at, is_line, takers, posted_line, cleared_line}
use Rattle.mix_fanout.proofs.InPlace.{room_mapped, room_filtered}
use Rattle.mix_fanout.proofs.Counts.{total_posted, total_cleared, total_left, total_same}
use Rattle.mix_fanout.proofs.Views.{same_lanes, square, cleared_square, posted_lanes, left_lanes}

-- a change that leaves the keys and takes no room leaves all held
pub held_mapped : (spare : ℕ) (s : Slab Kept) (f : Lined → Lined) (ls : List Lined) →
    ((l : Lined) → (f l).keys ≡ l.keys) → ((l : Lined) → spare ≤ l.room → spare ≤ (f l).room) →
    Holds spare s ls → Holds spare s (map f ls)
held_mapped spare s f ls same keeps h = record {
  counts = λ k. h.counts k ∙ sym (total_same f k ls same);
  store_room = h.store_room;
  lists_room = room_mapped f spare spare ls keeps h.lists_room;
}

-- a key that stands in a list is held
pub held_where_it_stands : (spare : ℕ) (s : Slab Kept) (ls : List Lined) → Holds spare s ls →
    (k : ℕ) → 0 < total k ls → 0 < held s k
held_where_it_stands spare s ls h k some = omega (arith, some, h.counts k)

-- what waits for the connection is held
pub held_keys : (spare conn : ℕ) (s : Slab Kept) (ls : List Lined) → Holds spare s ls → (k : ℕ) →
    times k (keys_at conn ls) ≤ held s k
held_keys spare conn s ls h k = omega (arith, total_cleared k conn ls, h.counts k)

-- an event is held by its takers, and takes one place
pub held_posted : (spare : ℕ) (old new : Slab Kept) (key bit : ℕ) (event : Event) (but : Option ℕ)
    (holders : ℕ) (ls : List Lined) → 1 ≤ spare → Holds spare old ls → holders ≡ takers bit but ls →
    TakesIn old new key event holders → Holds (spare - 1) new (map (posted_line key bit but) ls)
held_posted spare old new key bit event but holders ls some h count t = record {
  counts = λ k. t.counts k ∙ ap (λ n. held old k + cond (key == k) n 0) count ∙
      ap (λ n. n + cond (key == k) (takers bit but ls) 0) (h.counts k) ∙
      sym (total_posted k key bit but ls);
  store_room = t.room (spare - 1) (let back : spare - 1 + 1 ≡ spare = omega arith in
      rw back h.store_room);
  lists_room = room_mapped (posted_line key bit but) spare (spare - 1) ls (λ l r. omega (arith, r))
      h.lists_room;
}

-- the lists with the new event
pub seen_posted : (spare : ℕ) (old new : Slab Kept) (key : ℕ) (event : Event) (but : Option ℕ)
    (holders : ℕ) (ls : List Lined) → Holds spare old ls →
    holders ≡ takers (event_intent event) but ls → TakesIn old new key event holders →
    map (lane_of new) (map (posted_line key (event_intent event) but) ls) ≡ map (posted event but)
    (map (lane_of old) ls)
seen_posted spare old new key event but holders ls h count t =
    posted_lanes new key event but ls (λ some. t.entered (omega (arith, some, count)))
    ∙ ap (map (posted event but)) (same_lanes old new ls
    (λ k some. t.same k (omega (arith, some, h.counts k))))

-- what was let go stands in the list no more
pub held_cleared : (spare conn : ℕ) (old new : Slab Kept) (ls : List Lined) → Holds spare old ls →
    LetGo old new (keys_at conn ls) → Holds spare new (map (cleared_line conn) ls)
held_cleared spare conn old new ls h g = record {
  counts = λ k. omega (arith, g.counts k, h.counts k, total_cleared k conn ls);
  store_room = g.room spare h.store_room;
  lists_room = room_mapped (cleared_line conn) spare spare ls (λ l r. r) h.lists_room;
}

-- the lists without what waited for the connection
pub seen_cleared : (spare conn : ℕ) (old new : Slab Kept) (ls : List Lined) → Holds spare old ls →
    LetGo old new (keys_at conn ls) → map (lane_of new) (map (cleared_line conn) ls) ≡ map
    (cleared conn) (map (lane_of old) ls)
seen_cleared spare conn old new ls h g =
    same_lanes old new (map (cleared_line conn) ls) (λ k some. g.same k
    (omega (arith, some, g.counts k, h.counts k, total_cleared k conn ls)))
    ∙ square old (cleared_line conn) (cleared conn) (cleared_square old conn) ls

-- what was let go went with its list
pub held_left : (spare conn : ℕ) (old new : Slab Kept) (ls : List Lined) → Holds spare old ls →
    LetGo old new (keys_at conn ls) → Holds spare new (filter (λ l. not (is_line conn l)) ls)
held_left spare conn old new ls h g = record {
  counts = λ k. omega (arith, g.counts k, h.counts k, total_left k conn ls);
  store_room = g.room spare h.store_room;
  lists_room = room_filtered spare (λ l. not (is_line conn l)) ls h.lists_room;
}

-- the lists of the others
pub seen_left : (spare conn : ℕ) (old new : Slab Kept) (ls : List Lined) → Holds spare old ls →
    LetGo old new (keys_at conn ls) → map (lane_of new) (filter (λ l. not (is_line conn l)) ls) ≡
    filter (λ lane. not (is_lane conn lane)) (map (lane_of old) ls)
seen_left spare conn old new ls h g =
    same_lanes old new (filter (λ l. not (is_line conn l)) ls)
    (λ k some. g.same k (omega (arith, some, g.counts k, h.counts k, total_left k conn ls)))
    ∙ left_lanes old conn ls
