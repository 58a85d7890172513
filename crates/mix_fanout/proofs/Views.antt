use Rattle.std.proofs.Common.{◌≡◌, ℕ, zero, suc, ◌+◌, ◌-◌, ◌<◌, ◌&&◌, Bool, true, false, cond, not}
use Rattle.std.proofs.Common.{List, [], ◌∷◌, ◌++◌, length, map, filter, find, nat_le, Option, Some}
use Rattle.std.proofs.Common.{None, refl, sym, ap, ◌∙◌, arith}
use Rattle.std.specs.List.{list_any, cons_option}
use Rattle.std.specs.Option.{option_map}
use Rattle.std.proofs.lemmas.List.Elements.{filter_map-append}
use Rattle.slab.specs.Slab.{Slab, get}
use Rattle.std.proofs.Common.{take, get_or, add-one, is_some, append-nil, ◌||◌}
use Rattle.mix_model.specs.declared.event.Event.{Event}
use Rattle.mix_events.specs.declared.said.Said.{Said}
use Rattle.mix_events.specs.declared.said.Said.TheVariants.{Event as OfEvent}
use Rattle.mix_events.specs.Events.{event_intent}
use Rattle.mix_fanout.specs.declared.kept.Kept.{Kept}
use Rattle.mix_fanout.specs.Lanes.{Lane, said_of, said_to, cut_of, is_cut, is_lane, is_but, masked}
use Rattle.mix_fanout.specs.Lanes.{posted, cleared, cut_where_full}
use Rattle.mix_fanout.specs.Keys.{Lined, event_at, holders_of, held, events_of, event_of, lane_of}
use Rattle.mix_fanout.specs.Keys.{times, total, is_line, takes, takers, posted_line, cleared_line}
use Rattle.mix_fanout.specs.Keys.{masked_line, cut_line}

-- a key of the list stands there
stands : (k : ℕ) (ks : List ℕ) → 0 < times k (k ∷ ks)
stands k ks = grind arith

-- the events are the same where those under the keys of the list are
pub same_events : (old new : Slab Kept) (keys : List ℕ) →
    ((k : ℕ) → 0 < times k keys → event_at new k ≡ event_at old k) →
    events_of new keys ≡ events_of old keys
same_events old new [] same = refl
same_events old new (k ∷ ks) same =
    let rest : events_of new ks ≡ events_of old ks = same_events old new ks
    (λ q h. same q (omega (arith, h))) in
    ap (λ o. cons_option o (events_of new ks)) (same k (stands k ks)) ∙
    ap (cons_option (event_at old k)) rest

-- what waits is the same where the events under the keys that stand somewhere are
pub same_lanes : (old new : Slab Kept) (ls : List Lined) →
    ((k : ℕ) → 0 < total k ls → event_at new k ≡ event_at old k) →
    map (lane_of new) ls ≡ map (lane_of old) ls
same_lanes old new [] same = refl
same_lanes old new (l ∷ ls) same =
    let here : events_of new l.keys ≡ events_of old l.keys =
    same_events old new l.keys (λ k h. same k (omega (arith, h))) in
    let first : lane_of new l ≡ lane_of old l = ap (λ events. let lane : Lane =
    record { conn = l.conn; mask = l.mask; waiting = events; cut = l.cut } in lane) here in
    let rest : map (lane_of new) ls ≡ map (lane_of old) ls =
    same_lanes old new ls (λ k h. same k (omega (arith, h))) in
    ap (λ lane. lane ∷ map (lane_of new) ls) first ∙ ap (λ lanes. lane_of old l ∷ lanes) rest

-- a map on lists with keys is the one on what they stand for
pub square : (s : Slab Kept) (f : Lined → Lined) (g : Lane → Lane) →
    ((l : Lined) → lane_of s (f l) ≡ g (lane_of s l)) → (ls : List Lined) →
    map (lane_of s) (map f ls) ≡ map g (map (lane_of s) ls)
square s f g e [] = refl
square s f g e (l ∷ ls) = ap (λ lane. lane ∷ map (lane_of s) (map f ls)) (e l) ∙
    ap (λ lanes. g (lane_of s l) ∷ lanes) (square s f g e ls)

-- clearing keys is clearing events
pub cleared_square : (s : Slab Kept) (conn : ℕ) (l : Lined) →
    lane_of s (cleared_line conn l) ≡ cleared conn (lane_of s l)
cleared_square s conn l = elim (is_line conn l) as (λ b. lane_of s
    (record l { keys = cond b [] l.keys }) ≡ cond b (record (lane_of s l) { waiting = [] })
    (lane_of s l)) [ true ↦ refl | false ↦ refl ]

-- a mask is the same with keys or events
pub masked_square : (s : Slab Kept) (conn mask : ℕ) (l : Lined) →
    lane_of s (masked_line conn mask l) ≡ masked conn mask (lane_of s l)
masked_square s conn mask l = elim (is_line conn l) as (λ b. lane_of s
    (record l { mask = cond b mask l.mask }) ≡ cond b (record (lane_of s l) { mask = mask })
    (lane_of s l)) [ true ↦ refl | false ↦ refl ]

-- the event comes last where the key does
posted_here : (s : Slab Kept) (key : ℕ) (event : Event) (b : Bool) (l : Lined) (room : ℕ) →
    (b ≡ true → event_at s key ≡ Some event) → lane_of s
    (record l { keys = cond b (l.keys ++ key ∷ []) l.keys; room = room }) ≡ cond b
    (record (lane_of s l) { waiting = events_of s l.keys ++ event ∷ [] }) (lane_of s l)
posted_here s key event true l room is =
    let last : events_of s (key ∷ []) ≡ event ∷ [] = ap (λ o. cons_option o []) (is refl) in
    ap (λ events. let lane : Lane = record {
      conn = l.conn;
      mask = l.mask;
      waiting = events;
      cut =
          l.cut;
    } in lane) (filter_map-append (event_at s) l.keys (key ∷ []) ∙
    ap (λ events. events_of s l.keys ++ events) last)
posted_here s key event false l room is = refl

-- a taker counts
counted : (b : Bool) (n : ℕ) → b ≡ true → 0 < cond b 1 0 + n
counted true n e = omega arith
counted false n e = absurd (cc)

-- each taker's list has the event last, and no other changes
pub posted_lanes : (s : Slab Kept) (key : ℕ) (event : Event) (but : Option ℕ) (ls : List Lined) →
    (0 < takers (event_intent event) but ls → event_at s key ≡ Some event) →
    map (lane_of s) (map (posted_line key (event_intent event) but) ls) ≡ map (posted event but)
    (map (lane_of s) ls)
posted_lanes s key event but [] is = refl
posted_lanes s key event but (l ∷ ls) is =
    let here : lane_of s (posted_line key (event_intent event) but l) ≡ posted event but
    (lane_of s l) = posted_here s key event (takes (event_intent event) but l) l (l.room - 1)
    (λ e. is (counted (takes (event_intent event) but l) (takers (event_intent event) but ls)
    e)) in
    let rest : map (lane_of s) (map (posted_line key (event_intent event) but) ls) ≡ map
    (posted event but) (map (lane_of s) ls) = posted_lanes s key event but ls
    (λ h. is (omega (arith, h))) in
    ap (λ lane. lane ∷ map (lane_of s) (map (posted_line key (event_intent event) but) ls)) here ∙
    ap (λ lanes. posted event but (lane_of s l) ∷ lanes) rest

-- what is held is there
present : (o : Option Kept) → 0 < holders_of o → length (cons_option (option_map event_of o) []) ≡ 1
present None h = absurd (omega (arith, h))
present (Some kept) h = refl

-- an event more, or none
length_cons : (o : Option Event) (xs : List Event) → length (cons_option o xs) ≡ length
    (cons_option o []) + length xs
length_cons None xs = omega arith
length_cons (Some x) xs = omega arith

-- each key stands for an event
pub length_events : (s : Slab Kept) (keys : List ℕ) → ((k : ℕ) → 0 < times k keys → 0 < held s k) →
    length (events_of s keys) ≡ length keys
length_events s [] has = refl
length_events s (k ∷ ks) has =
    let rest : length (events_of s ks) ≡ length ks = length_events s ks
    (λ q h. has q (omega (arith, h))) in
    let first : length (cons_option (event_at s k) []) ≡ 1 =
    present (get s k) (has k (stands k ks)) in
    omega (arith, length_cons (event_at s k) (events_of s ks), first, rest)

-- who is cut by keys is cut by events
cut_here : (s : Slab Kept) (limit : ℕ) (but : Option ℕ) (l : Lined) →
    length (events_of s l.keys) ≡ length l.keys → lane_of s (cut_line limit but l) ≡ cut_where_full
    limit but (lane_of s l)
cut_here s limit but l e = rw e (elim (not (is_but but l.conn) && nat_le limit (length l.keys)) as
    (λ b. lane_of s (record l { cut = cond b true l.cut }) ≡ cond b
    (record (lane_of s l) { cut = true }) (lane_of s l)) [ true ↦ refl | false ↦ refl ])

-- who is cut by the number of keys is cut by the number of events
pub cut_lanes : (s : Slab Kept) (limit : ℕ) (but : Option ℕ) (ls : List Lined) →
    ((k : ℕ) → 0 < total k ls → 0 < held s k) → map (lane_of s) (map (cut_line limit but) ls) ≡ map
    (cut_where_full limit but) (map (lane_of s) ls)
cut_lanes s limit but [] has = refl
cut_lanes s limit but (l ∷ ls) has =
    let here : lane_of s (cut_line limit but l) ≡ cut_where_full limit but (lane_of s l) =
    cut_here s limit but l (length_events s l.keys (λ k h. has k (omega (arith, h)))) in
    let rest : map (lane_of s) (map (cut_line limit but) ls) ≡ map (cut_where_full limit but)
    (map (lane_of s) ls) = cut_lanes s limit but ls (λ k h. has k (omega (arith, h))) in
    ap (λ lane. lane ∷ map (lane_of s) (map (cut_line limit but) ls)) here ∙
    ap (λ lanes. cut_where_full limit but (lane_of s l) ∷ lanes) rest

-- the others are the others
pub left_lanes : (s : Slab Kept) (conn : ℕ) (ls : List Lined) →
    map (lane_of s) (filter (λ l. not (is_line conn l)) ls) ≡ filter
    (λ lane. not (is_lane conn lane)) (map (lane_of s) ls)
left_lanes s conn [] = refl
left_lanes s conn (l ∷ ls) = elim (is_line conn l) as (λ b. map (lane_of s)
    (cond (not b) (l ∷ filter (λ l. not (is_line conn l)) ls)
    (filter (λ l. not (is_line conn l)) ls)) ≡ cond (not b)
    (lane_of s l ∷ filter (λ lane. not (is_lane conn lane)) (map (lane_of s) ls))
    (filter (λ lane. not (is_lane conn lane)) (map (lane_of s) ls))) [
      | true ↦ left_lanes s conn ls
      | false ↦ ap (λ lanes. lane_of s l ∷ lanes) (left_lanes s conn ls)
    ]

-- who has joined is there
pub joined_lanes : (s : Slab Kept) (conn : ℕ) (ls : List Lined) →
    list_any (is_lane conn) (map (lane_of s) ls) ≡ list_any (is_line conn) ls
joined_lanes s conn [] = refl
joined_lanes s conn (l ∷ ls) = simp (joined_lanes s conn ls)

-- who is found is found
pub found_lane : (s : Slab Kept) (conn : ℕ) (ls : List Lined) →
    find (is_lane conn) (map (lane_of s) ls) ≡ option_map (lane_of s) (find (is_line conn) ls)
found_lane s conn [] = refl
found_lane s conn (l ∷ ls) = elim (is_line conn l) as (λ b. cond b (Some (lane_of s l))
    (find (is_lane conn) (map (lane_of s) ls)) ≡ option_map (lane_of s)
    (cond b (Some l) (find (is_line conn) ls))) [ true ↦ refl | false ↦ found_lane s conn ls ]

-- the event under the next key comes last
events_next : (s : Slab Kept) (keys : List ℕ) (i d : ℕ) → i < length keys →
    events_of s (take (suc i) keys) ≡ events_of s (take i keys) ++ cons_option
    (event_at s (get_or keys i d)) []
events_next s [] i d inside = absurd (omega arith)
events_next s (k ∷ ks) zero d inside = refl
events_next s (k ∷ ks) (suc i) d inside = ap (cons_option (event_at s k))
    (events_next s ks i d (omega arith)) ∙ after (event_at s k) (events_of s (take i ks))
    (cons_option (event_at s (get_or ks i d)) [])
  where
    after : (o : Option Event) (xs ys : List Event) → cons_option o (xs ++ ys) ≡ cons_option o xs ++
        ys
    after None xs ys = refl
    after (Some x) xs ys = refl

-- what is said last is the last event
map_after : (xs : List Event) (y : Event) → map OfEvent (xs ++ y ∷ []) ≡ map OfEvent xs ++ OfEvent y
    ∷ []
map_after [] y = refl
map_after (x ∷ xs) y = ap (λ l. OfEvent x ∷ l) (map_after xs y)

-- one event more is said
pub said_more : (s : Slab Kept) (keys : List ℕ) (i d : ℕ) (kept : Kept) (copy : Event)
    (said more : List Said) → i < length keys → said ≡ map OfEvent (events_of s (take i keys)) →
    get s (get_or keys i d) ≡ Some kept → copy ≡ kept.event → more ≡ said ++ OfEvent copy ∷ [] →
    more ≡ map OfEvent (events_of s (take (i + 1) keys))
said_more s keys i d kept copy said more inside so_far is same e =
    rw add-one (e ∙ ap (λ l. l ++ OfEvent copy ∷ []) so_far ∙
    sym (map_after (events_of s (take i keys)) copy) ∙
    ap (λ x. map OfEvent (events_of s (take i keys) ++ x ∷ [])) same ∙
    ap (λ o. map OfEvent (events_of s (take i keys) ++ cons_option (option_map event_of o) []))
    (sym is) ∙ ap (map OfEvent) (sym (events_next s keys i d inside)))

-- where nothing is kept, nothing is said
pub said_same : (s : Slab Kept) (keys : List ℕ) (i d : ℕ) (said more : List Said) →
    i < length keys → said ≡ map OfEvent (events_of s (take i keys)) →
    get s (get_or keys i d) ≡ None → more ≡ said → more ≡ map OfEvent
    (events_of s (take (i + 1) keys))
said_same s keys i d said more inside so_far is e =
    rw add-one (e ∙ so_far ∙ ap (map OfEvent) (sym (append-nil (events_of s (take i keys)))) ∙
    ap (λ o. map OfEvent (events_of s (take i keys) ++ cons_option (option_map event_of o) []))
    (sym is) ∙ ap (map OfEvent) (sym (events_next s keys i d inside)))

-- who is there is found
pub there : {X : Type 0} (p : X → Bool) (xs : List X) → list_any p xs ≡ is_some (find p xs)
there p [] = refl
there p (x ∷ xs) = elim (p x) as (λ b. (b || list_any p xs) ≡ is_some (cond b (Some x) (find p xs)))
    [ true ↦ refl | false ↦ there p xs ]

-- what waits for the one that is found
pub said_found : (s : Slab Kept) (conn : ℕ) (ls : List Lined) (l : Lined) (keys : List ℕ)
    (said : List Said) → Some l ≡ find (is_line conn) ls → keys ≡ l.keys →
    said ≡ map OfEvent (events_of s keys) → said ≡ said_to conn (map (lane_of s) ls)
said_found s conn ls l keys said found is e = e ∙ ap (λ ks. map OfEvent (events_of s ks)) is ∙
    ap (λ o. said_of (option_map (lane_of s) o)) found ∙ sym (ap said_of (found_lane s conn ls))

-- whether the one that is found is cut
pub cut_found : (s : Slab Kept) (conn : ℕ) (ls : List Lined) (l : Lined) (cut : Bool) →
    Some l ≡ find (is_line conn) ls → cut ≡ l.cut → cut ≡ is_cut conn (map (lane_of s) ls)
cut_found s conn ls l cut found is = is ∙ ap (λ o. cut_of (option_map (lane_of s) o)) found ∙
    sym (ap cut_of (found_lane s conn ls))
