-- `Members` as a type that may hold the type that holds it, by its values.
use mathlib.Core.Path.{◌≡◌, refl, sym, ap, ◌∙◌}
use mathlib.Core.List.{List, [], ◌∷◌, map}
use mathlib.Core.Bool.{◌&&◌, Bool-set}
use mathlib.Core.Former.{Former, this, const, pair, list, via, children}
use Prim.Native.Nat.{ℕ}
use base.Stored.{code_map, gcons, Gv, coded_list, coded_ℕ}
use denote.RattleType.{RattleType}
use denote.HoleLaws.{Alike}
use denote.HolePlaces.{Recodes, struct_places, laid}
use denote.Hole.Carrier.{listed}
use denote.Hole.Fix.{over}
use denote.Param.Nested.{deepest}
use denote.Param.Weighed.{Weighed, none_max, w_const, w_pair, w_list}
use Rattle.std.specs.Prelude.{max}
use denote.Model.Placed.{view_places}
use Rattle.std.specs.formers.vec.Vec as vec
use Rattle.std.specs.declared.alloc.Global.{Global}
use Rattle.std.specs.contracts.alloc.Global as heap
use Rattle.std.specs.contracts.impls.GlobalAllocator.TheImpl.{ghosts}
use Rattle.mix_base.specs.Members.{is_before, is_rising}
use Rattle.mix_base.specs.declared.members.Member.{Member}
use Rattle.mix_base.specs.declared.members.Members.TheInside.{Inside}
use Rattle.mix_base.specs.declared.members.Members.TheView.{view, invariant}
use Rattle.mix_base.specs.contracts.members.Member as M
use Rattle.mix_base.specs.contracts.members.Members as C
use Rattle.mix_base.specs.contracts.members.Members.TheInside as I

-- a key beside one of g's values
abbrev pub member : Former {0} → Former {0}
member g = via (pair (const (List ℕ)) g) (λ X. Member (g.Of X)) (λ X m. (m.key, m.value)) (λ X v. record { key = v.0; value = v.1 }) (λ X m. refl) (λ X v. refl)

abbrev pub the_former : Former {0} → Former {0}
the_former g = list (member g)

abbrev pub w_member : {g : Former {0}} → Weighed g → Weighed (member g)
w_member w = record {
  weight = λ X μ m. w.weight X μ m.value;
  puts = λ X μ m n t. (w_pair (w_const (List ℕ)) w).puts X μ (m.key, m.value) n t ∙ ap (λ a. max a (deepest μ n t)) (sym (none_max (w.weight X μ m.value)));
}

abbrev pub the_weighed : {g : Former {0}} → Weighed g → Weighed (the_former g)
the_weighed w = w_list (w_member w)

pub the_empty : List (Member ⊥)
the_empty = []

abbrev pub the_items : (X : Type 0) → List (Member X) → List X
the_items X d = map (λ m. m.value) d

pub the_items_listed : (X : Type 0) (d : List (Member X)) → listed _ (children (the_former this) X d) ≡ the_items X d
the_items_listed X [] = refl
the_items_listed X (m ∷ ms) = ap (λ l. m.value ∷ l) (the_items_listed X ms)

abbrev fields : Former {0}
fields = via (vec.the_former (member this) Global) Inside (λ X a. a.members) (λ X v. record { members = v }) (λ X a. refl) (λ X v. refl)

abbrev on_value : {X Y : Type 0} → (X → Y) → Member X → Member Y
on_value h m = record { key = m.key; value = h m.value }

same_before : {X Y : Type 0} (h : X → Y) (key : List ℕ) (ms : List (Member X)) → is_before key (map (on_value h) ms) ≡ is_before key ms
same_before h key [] = refl
same_before h key (m ∷ ms) = refl

same_rising : {X Y : Type 0} (h : X → Y) (ms : List (Member X)) → is_rising (map (on_value h) ms) ≡ is_rising ms
same_rising h [] = refl
same_rising h (m ∷ ms) = λ i. same_before h m.key ms i && same_rising h ms i

abbrev coded_member : (R : RattleType) → Member R.Denot → Gv
coded_member R m = gcons ((coded_list coded_ℕ).code m.key) (R.coded.code m.value)

module _ (R S : RattleType) (h : R.Denot → S.Denot) where
  member_places : Alike R S h → Alike (M.the_row R) (M.the_row S) (on_value h)
  member_places a = struct_places (M.the_type R) (M.the_type S) (λ n. n, (h, tt)) (on_value h) (λ d. refl) refl ((refl, (λ n. refl, λ n. refl)), (laid _ _ _ a, tt))

  pub the_places : Alike R S h → Alike (C.the_row R) (C.the_row S) ((the_former this).map R.Denot S.Denot h)
  the_places a = view_places fields (the_former this) view (λ X Y k u. refl) (λ X u. refl) R.Denot S.Denot h (C.the_row R).coded (C.the_row S).coded
      (invariant R.Denot) (invariant S.Denot) (λ u. Bool-set _ _) (λ u. Bool-set _ _) (λ u e. same_rising h u.members.items ∙ e) (λ u e. sym (same_rising h u.members.items) ∙ e)
      (over (I.the_row R)) (over (I.the_row S))
      (struct_places (I.the_type R) (I.the_type S) (vec.mapped (on_value h), tt) _ (λ d. refl) refl
      (laid _ _ _ (vec.the_places heap.the_row ghosts (M.the_row R) (M.the_row S) (on_value h) (member_places a)), tt))

  pub the_codes_placed : Recodes R S h → Recodes (C.the_row R) (C.the_row S) ((the_former this).map R.Denot S.Denot h)
  the_codes_placed e d = sym (code_map (coded_member R) (coded_member S) (on_value h) (λ m i. gcons ((coded_list coded_ℕ).code m.key) (sym (e m.value) i)) d)
