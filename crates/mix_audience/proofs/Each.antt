-- What a call makes of one connection: as contracts see it, and of its session and its lane.
use Rattle.std.proofs.Common.{◌≡◌, ◌∙◌, ℕ, Bool, true, false, cond, not, ◌&&◌, ◌||◌, ◌==◌, List, [], ◌∷◌}
use Rattle.std.proofs.Common.{◌++◌, length, map, Option, Some, None, is_some, refl, sym, ap, arith}
use Rattle.std.specs.Prelude.{nat_le}
use Rattle.std.proofs.lemmas.List.{append-nil}
use Rattle.std.proofs.lemmas.Bool.Decides.{nat_tests}
use Rattle.std.proofs.Math.Bool.{or-true, or-false}
use Rattle.mix_base.specs.Limits.{standard}
use Rattle.mix_model.specs.declared.event.Event.{Event}
use Rattle.mix_fanout.specs.Lanes.{Lane, posted, cleared, masked, cut_where_full}
use Rattle.mix_fanout.proofs.Masks.{wants_as_kept}
use Rattle.mix_audience.specs.Taking.{takes}
use Rattle.mix_audience.specs.Listeners.{Listener, is_listener, is_actor, listener_at, with_mask, taken_of}
use Rattle.mix_audience.specs.Listeners.{queued, emptied, ended}
use Rattle.mix_audience.specs.Sides.{member_of, lane_of, identified}

-- the secret that a connection has to know, if there is one
abbrev pub Known : Type 0
Known = Option (List ℕ × List ℕ)

-- ---- a mask is entered

pub identified_member : (conn mask : ℕ) (s : Known) (l : Listener) →
    identified conn mask (member_of s l) ≡ member_of s (with_mask conn mask l)
identified_member conn mask s l = elim (is_listener conn l)
    as (λ b. cond b (member_of s (record l { mask = Some mask })) (member_of s l)
    ≡ member_of s (cond b (record l { mask = Some mask }) l))
    [ true ↦ refl | false ↦ refl ]

pub masked_lane : (conn mask : ℕ) (l : Listener) →
    masked conn mask (lane_of l) ≡ lane_of (with_mask conn mask l)
masked_lane conn mask l = elim (is_listener conn l)
    as (λ b. cond b (record (lane_of l) { mask = mask }) (lane_of l)
    ≡ lane_of (cond b (record l { mask = Some mask }) l))
    [ true ↦ refl | false ↦ refl ]

-- ---- an event comes

pub queued_member : (actor : Option ℕ) (events : List Event) (s : Known) (l : Listener) →
    member_of s l ≡ member_of s (queued actor events l)
queued_member actor events s l = elim (is_actor actor l)
    as (λ b. member_of s l
    ≡ member_of s (cond b l (record l { waiting = l.waiting ++ taken_of l events })))
    [ true ↦ refl | false ↦ refl ]

posted_by : (l : Listener) (event : Event) (acts taken : Bool) →
    cond (not acts && taken) (record (lane_of l) { waiting = l.waiting ++ event ∷ [] }) (lane_of l)
    ≡ lane_of (cond acts l (record l { waiting = l.waiting ++ cond taken (event ∷ []) [] }))
posted_by l event true taken = refl
posted_by l event false true = refl
posted_by l event false false =
    ap (λ w. let k : Listener = record l { waiting = w } in lane_of k) (sym (append-nil l.waiting))

-- it waits where it is posted to
pub posted_lane : (event : Event) (actor : Option ℕ) (l : Listener) →
    posted event actor (lane_of l) ≡ lane_of (queued actor (event ∷ []) l)
posted_lane event actor l =
    ap (λ w. let lane : Lane = cond (not (is_actor actor l) && (not l.cut && w))
    (record (lane_of l) { waiting = l.waiting ++ event ∷ [] }) (lane_of l) in lane)
    (wants_as_kept l.mask event)
    ∙ posted_by l event (is_actor actor l) (takes l.mask l.cut event)

-- ---- nothing waits any more

pub emptied_member : (conn : ℕ) (s : Known) (l : Listener) →
    member_of s l ≡ member_of s (emptied conn l)
emptied_member conn s l = elim (is_listener conn l)
    as (λ b. member_of s l ≡ member_of s (cond b (record l { waiting = [] }) l))
    [ true ↦ refl | false ↦ refl ]

pub cleared_lane : (conn : ℕ) (l : Listener) → cleared conn (lane_of l) ≡ lane_of (emptied conn l)
cleared_lane conn l = elim (is_listener conn l)
    as (λ b. cond b (record (lane_of l) { waiting = [] }) (lane_of l)
    ≡ lane_of (cond b (record l { waiting = [] }) l)) [ true ↦ refl | false ↦ refl ]

-- where the connection isn't open, nothing changes
pub emptied_none : (conn : ℕ) (ls : List Listener) → is_some (listener_at conn ls) ≡ false →
    map (emptied conn) ls ≡ ls
emptied_none conn [] none = refl
emptied_none conn (l ∷ ls) none = (elim (is_listener conn l)
    as (λ b. is_some (cond b (Some l) (listener_at conn ls)) ≡ false →
    cond b (record l { waiting = [] }) l ∷ map (emptied conn) ls ≡ l ∷ ls) [
      | true ↦ λ e. (cc)
      | false ↦ λ e. ap (λ rest. l ∷ rest) (emptied_none conn ls e)
    ]) none

-- ---- who is full is cut

-- what the fan-out makes of a connection at the end of an action
abbrev pub cut_if_full : Option ℕ → Listener → Listener
cut_if_full actor l = cond (not (is_actor actor l) && nat_le standard.waiting (length l.waiting))
    (record l { cut = true }) l

pub cut_member : (actor : Option ℕ) (s : Known) (l : Listener) →
    member_of s l ≡ member_of s (cut_if_full actor l)
cut_member actor s l = elim (not (is_actor actor l) && nat_le standard.waiting (length l.waiting))
    as (λ b. member_of s l ≡ member_of s (cond b (record l { cut = true }) l))
    [ true ↦ refl | false ↦ refl ]

pub cut_lane : (actor : Option ℕ) (l : Listener) →
    cut_where_full standard.waiting actor (lane_of l) ≡ lane_of (cut_if_full actor l)
cut_lane actor l = elim (not (is_actor actor l) && nat_le standard.waiting (length l.waiting))
    as (λ b. cond b (record (lane_of l) { cut = true }) (lane_of l)
    ≡ lane_of (cond b (record l { cut = true }) l))
    [ true ↦ refl | false ↦ refl ]

-- who was cut stays cut
cut_or : (l : Listener) (full : Bool) →
    cond full (record l { cut = true }) l ≡ record l { cut = l.cut || full }
cut_or l true = ap (λ b. let k : Listener = record l { cut = b } in k) (sym (or-true l.cut))
cut_or l false = ap (λ b. let k : Listener = record l { cut = b } in k) (sym (or-false l.cut))

-- where nobody acted everybody is cut who is full
pub ended_none : (l : Listener) → cut_if_full None l ≡ ended None l
ended_none l = cut_or l (nat_le standard.waiting (length l.waiting))

same_either_way : (a b : ℕ) → (a == b) ≡ (b == a)
same_either_way a b = grind (arith, nat_tests)

ended_by : (conn : ℕ) (l : Listener) (acts : Bool) → is_actor (Some conn) l ≡ acts →
    cut_if_full (Some conn) (cond acts (record l { waiting = [] }) l)
    ≡ cond acts (record l { waiting = [] })
    (record l { cut = l.cut || nat_le standard.waiting (length l.waiting) })
ended_by conn l true e = ap (λ b. let k : Listener = cond (not b && nat_le standard.waiting 0)
    (record l { waiting = []; cut = true }) (record l { waiting = [] }) in k) e
ended_by conn l false e = ap (λ b. let k : Listener =
    cond (not b && nat_le standard.waiting (length l.waiting)) (record l { cut = true }) l in k) e
    ∙ cut_or l (nat_le standard.waiting (length l.waiting))

-- nothing waits for the one that acted, and then every other one is cut who is full
pub ended_some : (conn : ℕ) (l : Listener) →
    cut_if_full (Some conn) (emptied conn l) ≡ ended (Some conn) l
ended_some conn l = ap (λ b. cut_if_full (Some conn) (cond b (record l { waiting = [] }) l))
    (same_either_way l.number conn) ∙ ended_by conn l (is_actor (Some conn) l) refl
