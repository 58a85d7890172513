-- Members whose keys rise already: putting them in one by one leaves them as they are.
use Rattle.std.proofs.Common.{◌≡◌, ◌∙◌, sym, ap, refl, ℕ, List, [], ◌∷◌, ◌++◌, Bool, true, false, ◌&&◌, append_assoc, append-nil, true≢false, Less, Equal, Greater}
use Rattle.std.specs.declared.cmp.Ordering.{Ordering}
use Rattle.std.specs.Ordering.{match_ordering, ordering_reverse}
use Rattle.std.proofs.lemmas.Cmp.{nat_list_cmp_total}
use Rattle.mix_base.specs.declared.members.Member.{Member}
use Rattle.mix_base.specs.Members.{is_before, is_rising, key_order, member, put_of}

both_left : (a b : Bool) → a && b ≡ true → a ≡ true
both_left true b e = refl
both_left false b e = e

both_right : (a b : Bool) → a && b ≡ true → b ≡ true
both_right true b e = e
both_right false b e = absurd (true≢false (sym e))

only_less : (o : Ordering) → match_ordering o true false false ≡ true → o ≡ Less
only_less Less e = refl
only_less Equal e = absurd (true≢false (sym e))
only_less Greater e = absurd (true≢false (sym e))

turned : (k l : List ℕ) → key_order l k ≡ Less → key_order k l ≡ Greater
turned k l e = nat_list_cmp_total.antisymm k l ∙ ap ordering_reverse e

module _ {V : Type 0} where
  -- members put in one after another
  abbrev pub put_members : List (Member V) → List (Member V) → List (Member V)
  put_members [] found = found
  put_members (p ∷ ps) found = put_members ps (put_of p.key p.value found)

  -- a key before the first of these is before each that follows
  before_last : (key : List ℕ) (ms : List (Member V)) (p : Member V) (ps : List (Member V))
      → is_before key (ms ++ p ∷ ps) ≡ true → is_rising (ms ++ p ∷ ps) ≡ true → key_order key p.key ≡ Less
  before_last key [] p ps first rest = only_less (key_order key p.key) first
  before_last key (m ∷ ms) p ps first rest =
      nat_list_cmp_total.trans key m.key p.key (only_less (key_order key m.key) first)
      (before_last m.key ms p ps (both_left (is_before m.key (ms ++ p ∷ ps)) _ rest) (both_right (is_before m.key (ms ++ p ∷ ps)) _ rest))

  -- what comes after all members goes to their end
  put_last : (ms : List (Member V)) (p : Member V) (ps : List (Member V))
      → is_rising (ms ++ p ∷ ps) ≡ true → put_of p.key p.value ms ≡ ms ++ p ∷ []
  put_last [] p ps e = refl
  put_last (m ∷ ms) p ps e =
      let first = both_left (is_before m.key (ms ++ p ∷ ps)) (is_rising (ms ++ p ∷ ps)) e in
      let rest = both_right (is_before m.key (ms ++ p ∷ ps)) (is_rising (ms ++ p ∷ ps)) e in
      ap (λ o. match_ordering o (member p.key p.value ∷ (m ∷ ms)) (member p.key p.value ∷ ms) (m ∷ put_of p.key p.value ms))
      (turned p.key m.key (before_last m.key ms p ps first rest))
      ∙ ap (λ r. m ∷ r) (put_last ms p ps rest)

  -- members that rise after those found stand behind them
  pub put_rising : (ps found : List (Member V)) → is_rising (found ++ ps) ≡ true → put_members ps found ≡ found ++ ps
  put_rising [] found e = sym (append-nil found)
  put_rising (p ∷ ps) found e =
      let here = put_last found p ps e in
      let whole = append_assoc found (p ∷ []) ps in
      ap (put_members ps) here
      ∙ put_rising ps (found ++ p ∷ []) (ap is_rising whole ∙ e) ∙ whole
