-- The two lists, and the connections that they stand for.
use Rattle.std.proofs.Common.{◌≡◌, ◌∙◌, ℕ, Bool, cond, not, ◌&&◌, List, [], ◌∷◌, ◌++◌, map, filter}
use Rattle.std.proofs.Common.{find, length, Option, Some, None, is_some, option_map, refl, sym, ap, subst}
use Rattle.std.specs.Option.{option_map_or}
use Rattle.std.proofs.lemmas.List.{map-id, map_push, length-map}
use Rattle.mix_base.specs.Limits.{standard}
use Rattle.mix_model.specs.declared.event.Event.{Event}
use Rattle.mix_model.specs.declared.message.Message.{Message}
use Rattle.mix_events.specs.declared.said.Said.TheVariants.{Event as OfEvent}
use Rattle.mix_session.specs.declared.heard.Heard.{Heard}
use Rattle.mix_session.specs.Hear.{hear}
use Rattle.mix_session.specs.SessionState.{SessionState}
use Rattle.mix_fanout.specs.Lanes.{Lane, Fans, is_lane, is_joined, is_cut, cut_of, said_of, said_to}
use Rattle.mix_fanout.specs.Lanes.{new_lane, masked, posted, cleared, cut_where_full, wants}
use Rattle.mix_fanout.proofs.Views.{there}
use Rattle.mix_audience.specs.declared.member.Member.{Member}
use Rattle.mix_audience.specs.Taking.{takes}
use Rattle.mix_audience.specs.Listeners.{Listener, AudienceModel, is_listener, is_other, listener_at}
use Rattle.mix_audience.specs.Listeners.{new_listener, waiting_for, taken_of, with_mask, queued}
use Rattle.mix_audience.specs.Listeners.{ended, emptied}
use Rattle.mix_audience.specs.Acting.{taken_by}
use Rattle.mix_audience.specs.Sides.{member_of, lane_of, listeners_of, audience_of, IsKept}
use Rattle.mix_audience.specs.Sides.{is_member, identified}
use Rattle.mix_audience.proofs.Lists.{map_same, map_alike, find_under, filter_under}
use Rattle.mix_audience.proofs.Lists.{is_some_map}
use Rattle.mix_audience.proofs.Each.{Known, identified_member, masked_lane, queued_member}
use Rattle.mix_audience.proofs.Each.{posted_lane, emptied_member, cleared_lane, cut_if_full}
use Rattle.mix_audience.proofs.Each.{cut_member, cut_lane, ended_none, ended_some}

-- ---- what is there

-- sessions and lanes of connections stand for these
pub stands_for : (s : Known) (ls : List Listener) →
    listeners_of (map (member_of s) ls) (map lane_of ls) ≡ ls
stands_for s [] = refl
stands_for s (l ∷ ls) = ap (λ rest. l ∷ rest) (stands_for s ls)

-- what is kept, of what contracts see
pub as_seen : (s : Known) {ms : List Member} {fans : Fans} {a : AudienceModel} →
    IsKept ms fans (audience_of s ms fans) → audience_of s ms fans ≡ a → IsKept ms fans a
as_seen s {ms} {fans} {a} k is = subst (IsKept ms fans) is k

-- as many connections as sessions
pub counted : {ms : List Member} {fans : Fans} {a : AudienceModel} → IsKept ms fans a →
    length ms ≡ length a.listeners
counted {ms} {fans} {a} k =
    ap length k.members_are ∙ length-map a.listeners (member_of a.secret)

-- the session of a connection
pub member_found : (conn : ℕ) {ms : List Member} {fans : Fans} {a : AudienceModel} →
    IsKept ms fans a →
    find (is_member conn) ms ≡ option_map (member_of a.secret) (listener_at conn a.listeners)
member_found conn {ms} {fans} {a} k = ap (find (is_member conn)) k.members_are
    ∙ find_under (is_member conn) (is_listener conn) (member_of a.secret) (λ l. refl) a.listeners

-- its lane
lane_found : (conn : ℕ) {ms : List Member} {fans : Fans} {a : AudienceModel} →
    IsKept ms fans a →
    find (is_lane conn) fans.lanes ≡ option_map lane_of (listener_at conn a.listeners)
lane_found conn {ms} {fans} {a} k = ap (find (is_lane conn)) k.lanes_are
    ∙ find_under (is_lane conn) (is_listener conn) lane_of (λ l. refl) a.listeners

-- who has joined is open
pub joined_where_open : (conn : ℕ) {ms : List Member} {fans : Fans} {a : AudienceModel} →
    IsKept ms fans a → is_joined conn fans.lanes ≡ is_some (listener_at conn a.listeners)
joined_where_open conn {ms} {fans} {a} k = there (is_lane conn) fans.lanes
    ∙ ap is_some (lane_found conn k) ∙ is_some_map lane_of (listener_at conn a.listeners)

said_in : (o : Option Listener) → said_of (option_map lane_of o)
    ≡ map OfEvent (option_map_or (λ l. l.waiting) o [])
said_in None = refl
said_in (Some l) = refl

-- what waits in the lane waits for the connection
pub said_found : (conn : ℕ) {ms : List Member} {fans : Fans} {a : AudienceModel} →
    IsKept ms fans a → said_to conn fans.lanes ≡ map OfEvent (waiting_for conn a.listeners)
said_found conn {ms} {fans} {a} k =
    ap said_of (lane_found conn k) ∙ said_in (listener_at conn a.listeners)

-- ---- what is asked of an open connection

-- where there is no session, the connection isn't open
pub none_open : (s : Known) (o : Option Listener) → None ≡ option_map (member_of s) o → o ≡ None
none_open s None is = refl
none_open s (Some l) is = cc

cut_open : (s : Known) (m : Member) (o : Option Listener) (cut : Bool) →
    Some m ≡ option_map (member_of s) o → cut ≡ cut_of (option_map lane_of o) →
    Some cut ≡ option_map (λ l. l.cut) o
cut_open s m None cut is e = cc
cut_open s m (Some l) cut is e = ap Some e

-- whether it is cut
pub cut_found : (conn : ℕ) {ms : List Member} {fans : Fans} {a : AudienceModel} →
    IsKept ms fans a → (m : Member) (cut : Bool) →
    Some m ≡ option_map (member_of a.secret) (listener_at conn a.listeners) →
    cut ≡ is_cut conn fans.lanes →
    Some cut ≡ option_map (λ l. l.cut) (listener_at conn a.listeners)
cut_found conn {ms} {fans} {a} k m cut is e = cut_open a.secret m (listener_at conn a.listeners)
    cut is (e ∙ ap cut_of (lane_found conn k))

hears : (s : Known) (message : Message) (o : Option Listener) →
    option_map (λ (m : Member). hear m.session.secret m.session.challenge m.session.mask message)
    (option_map (member_of s) o) ≡ option_map (λ l. hear s l.challenge l.mask message) o
hears s message None = refl
hears s message (Some l) = refl

-- what a message of it comes to
pub heard_open : (s : Known) (m : Member) (o : Option Listener) (message : Message)
    (heard : Heard) → Some m ≡ option_map (member_of s) o →
    heard ≡ hear m.session.secret m.session.challenge m.session.mask message →
    Some heard ≡ option_map (λ l. hear s l.challenge l.mask message) o
heard_open s m o message heard is e = ap Some e
    ∙ ap (option_map (λ (n : Member). hear n.session.secret n.session.challenge n.session.mask message))
    is ∙ hears s message o

takes_open : (s : Known) (m : Member) (o : Option Listener) (event : Event) (cut wanted : Bool) →
    Some m ≡ option_map (member_of s) o → cut ≡ cut_of (option_map lane_of o) →
    wanted ≡ wants m.session.mask event →
    option_map_or (λ l. taken_of l (event ∷ [])) o []
    ≡ cond (not cut && wanted) (event ∷ []) []
takes_open s m None event cut wanted is e w = cc
takes_open s m (Some l) event cut wanted is e w =
    let same : m ≡ member_of s l = cc in
    let tests : (not cut && wanted) ≡ takes l.mask l.cut event = ap (λ b. not b && wanted) e
    ∙ ap (λ b. not l.cut && b) (w ∙ ap (λ (n : Member). wants n.session.mask event) same) in
    sym (ap (λ b. cond b (event ∷ []) []) tests)

-- whether it takes an event
pub takes_found : (conn : ℕ) {ms : List Member} {fans : Fans} {a : AudienceModel} →
    IsKept ms fans a → (m : Member) (event : Event) (cut wanted : Bool) →
    Some m ≡ option_map (member_of a.secret) (listener_at conn a.listeners) →
    cut ≡ is_cut conn fans.lanes → wanted ≡ wants m.session.mask event →
    taken_by conn a.listeners (event ∷ []) ≡ cond (not cut && wanted) (event ∷ []) []
takes_found conn {ms} {fans} {a} k m event cut wanted is e w = takes_open a.secret m
    (listener_at conn a.listeners) event cut wanted is (e ∙ ap cut_of (lane_found conn k)) w

-- ---- what a call leaves

-- these sessions and lanes are kept as they have to be, and stand for these connections
pub record Keeps (s : Known) (ms : List Member) (fans : Fans) (ls : List Listener) : Type 0 where
  pub kept : IsKept ms fans (audience_of s ms fans)
  pub seen : listeners_of ms fans.lanes ≡ ls

keeps : (s : Known) (ms : List Member) (fans : Fans) (ls : List Listener) →
    ms ≡ map (member_of s) ls → fans.lanes ≡ map lane_of ls → fans.limit ≡ standard.waiting →
    Keeps s ms fans ls
keeps s ms fans ls members_are lanes_are limit =
    let seen : listeners_of ms fans.lanes ≡ ls = ap (λ x. listeners_of x fans.lanes) members_are
    ∙ ap (listeners_of (map (member_of s) ls)) lanes_are ∙ stands_for s ls in
    record {
      kept = record {
        members_are = members_are ∙ ap (map (member_of s)) (sym seen);
        lanes_are = lanes_are ∙ ap (map lane_of) (sym seen);
        limit = limit;
      };
      seen = seen;
    }

-- each session and each lane changes
changed : (s : Known) {ms ms' : List Member} {fans : Fans} (fans' : Fans) {a : AudienceModel} →
    IsKept ms fans (audience_of s ms fans) → audience_of s ms fans ≡ a →
    fans'.limit ≡ fans.limit → (f : Member → Member) (g : Lane → Lane) (h : Listener → Listener) →
    ((s : Known) (l : Listener) → f (member_of s l) ≡ member_of s (h l)) →
    ((l : Listener) → g (lane_of l) ≡ lane_of (h l)) → ms' ≡ map f ms →
    fans'.lanes ≡ map g fans.lanes → Keeps s ms' fans' (map h a.listeners)
changed s {ms} {ms'} {fans} fans' {a} k is limit f g h one other m lanes =
    let ls : List Listener = listeners_of ms fans.lanes in
    subst (Keeps s ms' fans') (ap (λ (b : AudienceModel). map h b.listeners) is)
    (keeps s ms' fans' (map h ls)
    (m ∙ ap (map f) k.members_are ∙ map_same f (member_of s) (λ l. member_of s (h l)) (one s) ls
    ∙ sym (map_same (member_of s) h (λ l. member_of s (h l)) (λ l. refl) ls))
    (lanes ∙ ap (map g) k.lanes_are ∙ map_same g lane_of (λ l. lane_of (h l)) other ls
    ∙ sym (map_same lane_of h (λ l. lane_of (h l)) (λ l. refl) ls)) (limit ∙ k.limit))

-- each lane changes, and no session
lanes_changed : (s : Known) {ms : List Member} {fans : Fans} (fans' : Fans) {a : AudienceModel} →
    IsKept ms fans (audience_of s ms fans) → audience_of s ms fans ≡ a →
    fans'.limit ≡ fans.limit → (g : Lane → Lane) (h : Listener → Listener) →
    ((s : Known) (l : Listener) → member_of s l ≡ member_of s (h l)) →
    ((l : Listener) → g (lane_of l) ≡ lane_of (h l)) → fans'.lanes ≡ map g fans.lanes →
    Keeps s ms fans' (map h a.listeners)
lanes_changed s {ms} {fans} fans' {a} k is limit g h one other lanes =
    changed s fans' k is limit (λ m. m) g h one other (sym (map-id ms)) lanes

-- one comes
pub joined : (s : Known) {ms ms' : List Member} {fans : Fans} (fans' : Fans) {a : AudienceModel} →
    IsKept ms fans (audience_of s ms fans) → audience_of s ms fans ≡ a →
    fans'.limit ≡ fans.limit → (conn : ℕ) (challenge : List ℕ) →
    ms' ≡ ms ++ member_of s (new_listener conn challenge) ∷ [] →
    fans'.lanes ≡ fans.lanes ++ new_lane conn ∷ [] →
    Keeps s ms' fans' (a.listeners ++ new_listener conn challenge ∷ [])
joined s {ms} {ms'} {fans} fans' {a} k is limit conn challenge m lanes =
    let ls : List Listener = listeners_of ms fans.lanes in
    let new : Listener = new_listener conn challenge in
    subst (Keeps s ms' fans') (ap (λ (b : AudienceModel). b.listeners ++ new ∷ []) is)
    (keeps s ms' fans' (ls ++ new ∷ [])
    (m ∙ ap (λ x. x ++ member_of s new ∷ []) k.members_are ∙ sym (map_push (member_of s) ls new))
    (lanes ∙ ap (λ x. x ++ lane_of new ∷ []) k.lanes_are ∙ sym (map_push lane_of ls new))
    (limit ∙ k.limit))

-- the session that starts is that of the connection that comes
pub started : (s : Known) (conn : ℕ) (challenge : List ℕ) (session : SessionState) →
    session.secret ≡ s → session.challenge ≡ challenge → session.mask ≡ None →
    (let m : Member = record { conn = conn; session = session } in m)
    ≡ member_of s (new_listener conn challenge)
started s conn challenge session knows told mask =
    ap (λ x. let m : Member = record {
      conn = conn;
      session = record {
        secret = x;
        challenge = session.challenge;
        mask = session.mask;
      };
    } in m) knows
    ∙ ap (λ x. let m : Member = record {
      conn = conn;
      session = record {
        secret = s;
        challenge = x;
        mask = session.mask;
      };
    } in m) told
    ∙ ap (λ x. let m : Member = record {
      conn = conn;
      session = record {
        secret = s;
        challenge = challenge;
        mask = x;
      };
    } in m) mask

-- one goes
pub left : (s : Known) {ms ms' : List Member} {fans : Fans} (fans' : Fans) {a : AudienceModel} →
    IsKept ms fans (audience_of s ms fans) → audience_of s ms fans ≡ a →
    fans'.limit ≡ fans.limit → (conn : ℕ) → ms' ≡ filter (λ m. not (is_member conn m)) ms →
    fans'.lanes ≡ filter (λ l. not (is_lane conn l)) fans.lanes →
    Keeps s ms' fans' (filter (is_other conn) a.listeners)
left s {ms} {ms'} {fans} fans' {a} k is limit conn m lanes =
    let ls : List Listener = listeners_of ms fans.lanes in
    subst (Keeps s ms' fans') (ap (λ (b : AudienceModel). filter (is_other conn) b.listeners) is)
    (keeps s ms' fans' (filter (is_other conn) ls)
    (m ∙ ap (filter (λ x. not (is_member conn x))) k.members_are
    ∙ filter_under (λ x. not (is_member conn x)) (is_other conn) (member_of s) (λ l. refl) ls)
    (lanes ∙ ap (filter (λ l. not (is_lane conn l))) k.lanes_are
    ∙ filter_under (λ l. not (is_lane conn l)) (is_other conn) lane_of (λ l. refl) ls)
    (limit ∙ k.limit))

-- one is identified
pub masked_all : (s : Known) {ms ms' : List Member} {fans : Fans} (fans' : Fans)
    {a : AudienceModel} → IsKept ms fans (audience_of s ms fans) → audience_of s ms fans ≡ a →
    fans'.limit ≡ fans.limit → (conn mask : ℕ) → ms' ≡ map (identified conn mask) ms →
    fans'.lanes ≡ map (masked conn mask) fans.lanes →
    Keeps s ms' fans' (map (with_mask conn mask) a.listeners)
masked_all s fans' k is limit conn mask = changed s fans' k is limit (identified conn mask)
    (masked conn mask) (with_mask conn mask) (identified_member conn mask) (masked_lane conn mask)

-- an event comes
pub posted_all : (s : Known) {ms : List Member} {fans : Fans} (fans' : Fans) {a : AudienceModel} →
    IsKept ms fans (audience_of s ms fans) → audience_of s ms fans ≡ a →
    fans'.limit ≡ fans.limit → (event : Event) (actor : Option ℕ) →
    fans'.lanes ≡ map (posted event actor) fans.lanes →
    Keeps s ms fans' (map (queued actor (event ∷ [])) a.listeners)
posted_all s fans' k is limit event actor = lanes_changed s fans' k is limit (posted event actor)
    (queued actor (event ∷ [])) (queued_member actor (event ∷ [])) (posted_lane event actor)

-- nothing waits for one any more
pub cleared_all : (s : Known) {ms : List Member} {fans : Fans} (fans' : Fans)
    {a : AudienceModel} → IsKept ms fans (audience_of s ms fans) → audience_of s ms fans ≡ a →
    fans'.limit ≡ fans.limit → (conn : ℕ) → fans'.lanes ≡ map (cleared conn) fans.lanes →
    Keeps s ms fans' (map (emptied conn) a.listeners)
cleared_all s fans' k is limit conn = lanes_changed s fans' k is limit (cleared conn)
    (emptied conn) (emptied_member conn) (cleared_lane conn)

-- who is full is cut, but for one
pub cut_all : (s : Known) {ms : List Member} {fans : Fans} (fans' : Fans) {a : AudienceModel} →
    IsKept ms fans (audience_of s ms fans) → audience_of s ms fans ≡ a →
    fans'.limit ≡ fans.limit → (actor : Option ℕ) →
    fans'.lanes ≡ map (cut_where_full fans.limit actor) fans.lanes →
    Keeps s ms fans' (map (cut_if_full actor) a.listeners)
cut_all s {ms} {fans} fans' k is limit actor lanes = lanes_changed s fans' k is limit
    (cut_where_full standard.waiting actor) (cut_if_full actor) (cut_member actor) (cut_lane actor)
    (lanes ∙ ap (λ n. map (cut_where_full n actor) fans.lanes) k.limit)

-- the connections after an action at which nobody acted
pub ends_alone : (ls new : List Listener) → new ≡ map (cut_if_full None) ls →
    new ≡ map (ended None) ls
ends_alone ls new is = is ∙ map_alike (cut_if_full None) (ended None) ended_none ls

-- and after one of a connection, for which nothing waits any more
pub ends_with : (conn : ℕ) (ls mid new : List Listener) → mid ≡ map (emptied conn) ls →
    new ≡ map (cut_if_full (Some conn)) mid → new ≡ map (ended (Some conn)) ls
ends_with conn ls mid new was is = is ∙ ap (map (cut_if_full (Some conn))) was
    ∙ map_same (cut_if_full (Some conn)) (emptied conn) (ended (Some conn)) (ended_some conn) ls
