use Rattle.std.proofs.Common.{◌≡◌, ℕ, ◌≤◌, Bool, true, List, [], ◌∷◌, ◌++◌, length, map, Option}
use Rattle.std.proofs.Common.{Some, None, find, option_map, refl, sym, ap, ◌∙◌, subst, arith}
use Rattle.std.specs.Prelude.{OnErr}
use Rattle.std.specs.declared.result.Result.{Result}
use Rattle.std.specs.declared.result.Result.TheVariants.{Ok, Err}
use Rattle.std.specs.List.{list_any}
use Rattle.std.specs.Vec.{with_items}
use Rattle.std.specs.declared.vec.Vec.{Vec}
use Rattle.std.proofs.lemmas.List.{with_items_is, length-map}
use Rattle.slab.specs.Slab.{Slab, HasRoomFor}
use Rattle.mix_fanout.specs.declared.kept.Kept.{Kept}
use Rattle.mix_fanout.specs.Lanes.{Lane, Fans, is_joined, is_cut, cut_of}
use Rattle.mix_fanout.specs.Keys.{Lined, Holds, HasRoom, held, lane_of, times, total, keys_at}
use Rattle.mix_fanout.specs.Keys.{is_line, is_cut_line, new_line, takers, posted_line, with_room}
use Rattle.mix_fanout.proofs.InPlace.{in_place, room_joined}
use Rattle.mix_fanout.proofs.Counts.{total_same, total_append}
use Rattle.mix_fanout.proofs.Views.{joined_lanes, found_lane}
use Rattle.mix_fanout.proofs.Held.{held_keys}

-- what the fields of a fan-out stand for
abbrev pub fans_of : Slab Kept → List Lined → ℕ → ℕ → Fans
fans_of store ls spare limit = record {
  lanes = map (lane_of store) ls;
  spare = spare;
  limit =
      limit;
}

-- a fact of the mapped list is one of the vector in which it was mapped in place
pub held_in_place : {Z : Type 0} (v : Vec Lined Z) (f : Lined → Lined) (ws xs : List Lined) →
    ws ≡ map f xs → xs ≡ v.items → (spare : ℕ) (s : Slab Kept) → Holds spare s (map f v.items) →
    Holds spare s (with_items v ws).items
held_in_place v f ws xs made whole spare s h = subst (Holds spare s)
    (sym (in_place v f ws xs made whole)) h

-- what contracts see of a vector that was mapped in place
pub seen_in_place : {Z : Type 0} (v : Vec Lined Z) (f : Lined → Lined) (ws xs : List Lined) →
    ws ≡ map f xs → xs ≡ v.items → (old new : Slab Kept) (spare limit : ℕ) (fans : Fans) →
    fans_of old v.items spare limit ≡ fans → (g : Fans → List Lane) →
    map (lane_of new) (map f v.items) ≡ g (fans_of old v.items spare limit) →
    map (lane_of new) (with_items v ws).items ≡ g fans
seen_in_place v f ws xs made whole old new spare limit fans is g e =
    ap (map (lane_of new)) (in_place v f ws xs made whole) ∙ e ∙ ap g is

-- who is there has joined
pub has_joined : (s : Slab Kept) (conn spare limit : ℕ) (xs ys : List Lined) (fans : Fans)
    (b : Bool) → ys ≡ xs → fans_of s xs spare limit ≡ fans → b ≡ list_any (is_line conn) ys →
    b ≡ is_joined conn fans.lanes
has_joined s conn spare limit xs ys fans b whole is e = e ∙ ap (list_any (is_line conn)) whole ∙
    sym (joined_lanes s conn xs) ∙ ap (λ (o : Fans). is_joined conn o.lanes) is

-- who has joined is there
pub is_there : (s : Slab Kept) (conn spare limit : ℕ) (xs ys : List Lined) (fans : Fans) → ys ≡ xs →
    fans_of s xs spare limit ≡ fans → is_joined conn fans.lanes ≡ true →
    list_any (is_line conn) ys ≡ true
is_there s conn spare limit xs ys fans whole is joined =
    has_joined s conn spare limit xs ys fans (list_any (is_line conn) ys) whole is refl ∙ joined

-- keys or events, who is cut is cut
cut_alike : (s : Slab Kept) (o : Option Lined) → is_cut_line o ≡ cut_of (option_map (lane_of s) o)
cut_alike s None = refl
cut_alike s (Some l) = refl

-- who is cut there is cut
pub has_cut : (s : Slab Kept) (conn spare limit : ℕ) (xs ys : List Lined) (fans : Fans) (b : Bool) →
    ys ≡ xs → fans_of s xs spare limit ≡ fans → b ≡ is_cut_line (find (is_line conn) ys) →
    b ≡ is_cut conn fans.lanes
has_cut s conn spare limit xs ys fans b whole is e = e ∙
    ap (λ ls. is_cut_line (find (is_line conn) ls)) whole ∙ cut_alike s (find (is_line conn) xs) ∙
    ap cut_of (sym (found_lane s conn xs)) ∙ ap (λ (o : Fans). is_cut conn o.lanes) is

-- what waits for the connection may be let go
pub may_let_go : (spare conn : ℕ) (s : Slab Kept) (xs ys : List Lined) → ys ≡ xs →
    Holds spare s xs → (k : ℕ) → times k (keys_at conn ys) ≤ held s k
may_let_go spare conn s xs ys whole h k = rw whole (held_keys spare conn s xs h k)

-- who has just come holds nothing, and has the room
pub held_joined : (spare conn : ℕ) (s : Slab Kept) (ls ms : List Lined) (l : Lined) →
    ms ≡ ls ++ l ∷ [] → l ≡ new_line conn spare → Holds spare s ls → Holds spare s ms
held_joined spare conn s ls ms l e is h = subst (Holds spare s)
    (sym (e ∙ ap (λ x. ls ++ x ∷ []) is)) (record {
      counts = λ k. omega (arith, h.counts k, total_append k ls (new_line conn spare ∷ []));
      store_room = h.store_room;
      lists_room = room_joined spare (new_line conn spare) ls (omega arith) h.lists_room;
    })

-- the same with equal keys, bits and connections
pub posted_alike : (key key' bit bit' : ℕ) (but but' : Option ℕ) (ws xs : List Lined) → key ≡ key' →
    bit ≡ bit' → but ≡ but' → ws ≡ map (posted_line key bit but) xs →
    ws ≡ map (posted_line key' bit' but') xs
posted_alike key key' bit bit' but but' ws xs same_key same_bit same_but e = e ∙
    ap (λ k. map (posted_line k bit but) xs) same_key ∙ ap (λ b. map (posted_line key' b but) xs)
    same_bit ∙ ap (λ b. map (posted_line key' bit' b) xs) same_but

-- as many take it
pub takers_alike : (bit bit' n : ℕ) (but but' : Option ℕ) (xs ys : List Lined) → bit ≡ bit' →
    but ≡ but' → ys ≡ xs → n ≡ takers bit but ys → n ≡ takers bit' but' xs
takers_alike bit bit' n but but' xs ys same_bit same_but whole e = e ∙
    ap (λ b. takers b but ys) same_bit ∙ ap (λ b. takers bit' b ys) same_but ∙
    ap (takers bit' but') whole

-- lists that differ in their room alone, in place
pub same_in_place : {Z : Type 0} (v : Vec Lined Z) (ws xs : List Lined) →
    map (with_room 0) ws ≡ map (with_room 0) xs → xs ≡ v.items → (with_items v ws).items ≡ ws
same_in_place v ws xs keeps whole = with_items_is v ws (sym (length-map ws (with_room 0)) ∙
    ap length keeps ∙ length-map xs (with_room 0) ∙ ap length whole ∙ sym v.ok.0)

-- room changes nothing that is held
pub held_reserved : (spare more : ℕ) (old new : Slab Kept) (ls ms : List Lined) →
    new ≡ record old { capacity = new.capacity } → map (with_room 0) ms ≡ map (with_room 0) ls →
    HasRoomFor new more → HasRoom more ms → Holds spare old ls → Holds more new ms
held_reserved spare more old new ls ms rest keeps room has h = record {
  counts = λ k. ap (λ (s : Slab Kept). held s k) rest ∙ h.counts k ∙
      sym (total_same (with_room 0) k ls (λ l. refl)) ∙ ap (total k) (sym keeps) ∙
      total_same (with_room 0) k ms (λ l. refl);
  store_room = room;
  lists_room = has;
}

-- room is not seen
bare : (s : Slab Kept) (ls : List Lined) → map (lane_of s) (map (with_room 0) ls) ≡ map (lane_of s)
    ls
bare s [] = refl
bare s (l ∷ ls) = ap (λ lanes. lane_of s l ∷ lanes) (bare s ls)

-- nor anything that is seen
pub seen_reserved : (old new : Slab Kept) (ls ms : List Lined) →
    new ≡ record old { capacity = new.capacity } → map (with_room 0) ms ≡ map (with_room 0) ls →
    map (lane_of new) ms ≡ map (lane_of old) ls
seen_reserved old new ls ms rest keeps = ap (λ (s : Slab Kept). map (lane_of s) ms) rest ∙
    sym (bare old ms) ∙ ap (map (lane_of old)) keeps ∙ bare old ls

-- room that was made in place is not seen
pub seen_in_place_reserved : {Z : Type 0} (v : Vec Lined Z) (ws xs : List Lined) →
    map (with_room 0) ws ≡ map (with_room 0) xs → xs ≡ v.items → (old new : Slab Kept) →
    new ≡ record old { capacity = new.capacity } → (spare limit : ℕ) (fans : Fans) →
    fans_of old v.items spare limit ≡ fans → map (lane_of new) (with_items v ws).items ≡ fans.lanes
seen_in_place_reserved v ws xs keeps whole old new rest spare limit fans is =
    ap (map (lane_of new)) (same_in_place v ws xs keeps whole) ∙
    seen_reserved old new v.items ws rest (keeps ∙ ap (map (with_room 0)) whole) ∙
    ap (λ (o : Fans). o.lanes) is

-- lists that are seen as before are a fan-out that is seen as before
pub seen_as_before : (old new : Slab Kept) (ls ms : List Lined) (spare limit : ℕ) (fans : Fans) →
    fans_of old ls spare limit ≡ fans → map (lane_of new) ms ≡ fans.lanes →
    fans_of new ms spare limit ≡ fans
seen_as_before old new ls ms spare limit fans is e = ap (λ lanes. let o : Fans =
    record { lanes = lanes; spare = spare; limit = limit } in o)
    (e ∙ ap (λ (o : Fans). o.lanes) (sym is)) ∙ is

-- what holds in any case holds of a refusal
pub on_err : {T E : Type 0} {P : Type 0} (r : Result T E) → P → OnErr r P
on_err (Ok x) p = tt
on_err (Err e) p = p
