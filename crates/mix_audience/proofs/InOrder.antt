-- Events that come one after another.
use Rattle.std.proofs.Common.{◌≡◌, ◌∙◌, ℕ, Bool, true, false, cond, List, [], ◌∷◌, ◌++◌}
use Rattle.std.proofs.Common.{map, Option, Some, None, refl, sym, ap, option_map}
use Rattle.std.specs.Option.{option_map_or}
use Rattle.std.proofs.lemmas.List.{append-nil, append_assoc, map-append}
use Rattle.std.proofs.lemmas.List.Elements.{filter-append}
use Rattle.mix_model.specs.declared.event.Event.{Event}
use Rattle.mix_events.specs.declared.said.Said.{Said}
use Rattle.mix_events.specs.declared.said.Said.TheVariants.{Event as OfEvent}
use Rattle.mix_audience.specs.Taking.{takes}
use Rattle.mix_audience.specs.Listeners.{Listener, is_actor, is_listener, listener_at, taken_of, queued}
use Rattle.mix_audience.specs.Acting.{taken_by}
use Rattle.mix_audience.proofs.Lists.{map_same, find_under}

queued_by : (actor : Option ℕ) (xs ys : List Event) (l : Listener) (acts : Bool) →
    is_actor actor l ≡ acts →
    queued actor ys (cond acts l (record l { waiting = l.waiting ++ taken_of l xs }))
    ≡ cond acts l (record l { waiting = l.waiting ++ taken_of l (xs ++ ys) })
queued_by actor xs ys l true e = ap (λ b. let k : Listener =
    cond b l (record l { waiting = l.waiting ++ taken_of l ys }) in k) e
queued_by actor xs ys l false e = ap (λ b. let k : Listener =
    cond b (record l { waiting = l.waiting ++ taken_of l xs })
    (record l { waiting = (l.waiting ++ taken_of l xs) ++ taken_of l ys }) in k) e
    ∙ ap (λ w. let k : Listener = record l { waiting = w } in k)
    (append_assoc l.waiting (taken_of l xs) (taken_of l ys)
    ∙ ap (λ t. l.waiting ++ t) (sym (filter-append (takes l.mask l.cut) xs ys)))

-- they wait in their order
pub queued_more : (actor : Option ℕ) (xs ys : List Event) (ls : List Listener) →
    map (queued actor ys) (map (queued actor xs) ls) ≡ map (queued actor (xs ++ ys)) ls
queued_more actor xs ys ls = map_same (queued actor ys) (queued actor xs) (queued actor (xs ++ ys))
    (λ l. queued_by actor xs ys l (is_actor actor l) refl) ls

queued_none : (actor : Option ℕ) (l : Listener) → queued actor [] l ≡ l
queued_none actor l = elim (is_actor actor l)
    as (λ b. cond b l (record l { waiting = l.waiting ++ [] }) ≡ l) [
      | true ↦ refl
      | false ↦ ap (λ w. let k : Listener = record l { waiting = w } in k) (append-nil l.waiting)
    ]

-- no events change nothing
pub queued_nothing : (actor : Option ℕ) (ls : List Listener) → map (queued actor []) ls ≡ ls
queued_nothing actor [] = refl
queued_nothing actor (l ∷ ls) = rw (queued_none actor l, queued_nothing actor ls) refl

queued_number : (conn : ℕ) (actor : Option ℕ) (xs : List Event) (l : Listener) →
    is_listener conn (queued actor xs l) ≡ is_listener conn l
queued_number conn actor xs l = elim (is_actor actor l)
    as (λ b. is_listener conn (cond b l (record l { waiting = l.waiting ++ taken_of l xs }))
    ≡ is_listener conn l) [ true ↦ refl | false ↦ refl ]

queued_takes : (actor : Option ℕ) (xs ys : List Event) (l : Listener) →
    taken_of (queued actor xs l) ys ≡ taken_of l ys
queued_takes actor xs ys l = elim (is_actor actor l)
    as (λ b. taken_of (cond b l (record l { waiting = l.waiting ++ taken_of l xs })) ys
    ≡ taken_of l ys) [ true ↦ refl | false ↦ refl ]

taken_both : (actor : Option ℕ) (xs ys : List Event) (o : Option Listener) →
    option_map_or (λ l. taken_of l xs) o []
    ++ option_map_or (λ l. taken_of l ys) (option_map (queued actor xs) o) []
    ≡ option_map_or (λ l. taken_of l (xs ++ ys)) o []
taken_both actor xs ys None = refl
taken_both actor xs ys (Some l) = ap (λ t. taken_of l xs ++ t) (queued_takes actor xs ys l)
    ∙ sym (filter-append (takes l.mask l.cut) xs ys)

-- who acts takes them in their order
pub taken_more : (conn : ℕ) (actor : Option ℕ) (xs ys : List Event) (ls : List Listener) →
    taken_by conn ls xs ++ taken_by conn (map (queued actor xs) ls) ys
    ≡ taken_by conn ls (xs ++ ys)
taken_more conn actor xs ys ls =
    ap (λ o. taken_by conn ls xs ++ option_map_or (λ l. taken_of l ys) o [])
    (find_under (is_listener conn) (is_listener conn) (queued actor xs)
    (queued_number conn actor xs) ls)
    ∙ taken_both actor xs ys (listener_at conn ls)

-- the text of an event, and then those of the rest, are the texts of all
pub said_more : (conn : ℕ) (event : Event) (rest : List Event) (ls ls' : List Listener)
    (said said' : List Said) → ls' ≡ map (queued (Some conn) (event ∷ [])) ls →
    said' ≡ said ++ map OfEvent (taken_by conn ls (event ∷ [])) →
    said' ++ map OfEvent (taken_by conn ls' rest)
    ≡ said ++ map OfEvent (taken_by conn ls (event ∷ rest))
said_more conn event rest ls ls' said said' next is =
    let one : List Event = taken_by conn ls (event ∷ []) in
    ap (λ x. x ++ map OfEvent (taken_by conn ls' rest)) is
    ∙ append_assoc said (map OfEvent one) (map OfEvent (taken_by conn ls' rest))
    ∙ ap (λ t. said ++ t) (sym (map-append OfEvent one (taken_by conn ls' rest))
    ∙ ap (λ x. map OfEvent (one ++ taken_by conn x rest)) next
    ∙ ap (map OfEvent) (taken_more conn (Some conn) (event ∷ []) rest ls))
