use Rattle.std.proofs.Common.{◌≡◌, ◌<◌, ◌++◌, ◌∷◌, [], ◌∙◌, ℕ, List, Some, None, length, option_map, sym, ap, arith}
use Rattle.json.specs.Token.{Token}
use Rattle.json.specs.Reads.{token_of}
use Rattle.json.specs.Json.{parse_map, after_end_array, read_key}
use Rattle.json.proofs.Grammar.{read_key-shorter}
use Rattle.mix_base.specs.Members.{member}
use Rattle.mix_base.specs.declared.members.Member.{Member}
use Rattle.mix_base.specs.declared.json.Json.{Json}
use Rattle.mix_base.specs.declared.json.Json as json
use Rattle.mix_json.specs.Reading.{whole_or_frac}
use Rattle.mix_json.specs.Tokens.{number_seen, value_at, items_at, members_at, object_at}
use Rattle.mix_json.proofs.NumberLemmas.{seen_number}
use Rattle.mix_json.proofs.TokenLemmas.{by_token, no_token, value_by_token, inside_is, no_more_items, one_item, bad_item, no_more_members, one_member, bad_member, bad_key, one_more, all_of_them}
use Rattle.mix_json.proofs.tokens.+value.Goals as goal

-- ---- a value by its first token

seen_first : (depth : ℕ) (ts : List Token) (t : Token) (rest : List Token) → ts ≡ t ∷ rest → value_at depth ts ≡ by_token depth t rest
seen_first depth ts t rest e = ap (value_at depth) e ∙ value_by_token depth t rest

-- no token is left
pub value-returns-in_default-clause-not_json : goal.value-returns-in_default-clause-not_json
value-returns-in_default-clause-not_json t c refused =
    let empty : c.args.tokens.now ≡ [] = grind arith in
    ap (value_at c.args.depth) empty ∙ no_token c.args.depth

pub value_from-returns-in-Null-clause-value : goal.value_from-returns-in-Null-clause-value
value_from-returns-in-Null-clause-value t c =
    let rest = c.args.tokens.now in
    let is : token_of c.args.token ∷ rest ≡ Token.null ∷ rest = grind arith in
    seen_first c.args.depth (token_of c.args.token ∷ rest) Token.null rest is

pub value_from-returns-in-Bool-clause-value : goal.value_from-returns-in-Bool-clause-value
value_from-returns-in-Bool-clause-value t c =
    let rest = c.args.tokens.now in
    let is : token_of c.args.token ∷ rest ≡ Token.boolean c.in-Bool.truth ∷ rest = grind arith in
    seen_first c.args.depth (token_of c.args.token ∷ rest) (Token.boolean c.in-Bool.truth) rest is

pub value_from-returns-in-Some-clause-value : goal.value_from-returns-in-Some-clause-value
value_from-returns-in-Some-clause-value t c =
    let rest = c.args.tokens.now in
    let text = c.in-Number.text.now in
    let whole = c.in-Some.whole in
    let is : token_of c.args.token ∷ rest ≡ Token.number text ∷ rest = grind arith in
    let number : number_seen text ≡ Some (whole_or_frac whole) = seen_number text (Some whole) (grind arith) in
    seen_first c.args.depth (token_of c.args.token ∷ rest) (Token.number text) rest is ∙ ap (option_map (λ v. (v, rest))) number
    ∙ ap (λ v. Some (v, rest)) (sym c.whole_or_frac.ensures.value)

pub value_from-returns-in-None-clause-not_json : goal.value_from-returns-in-None-clause-not_json
value_from-returns-in-None-clause-not_json t c refused =
    let rest = c.args.tokens.now in
    let text = c.in-Number.text.now in
    let is : token_of c.args.token ∷ rest ≡ Token.number text ∷ rest = grind arith in
    let none : number_seen text ≡ None = seen_number text None (grind arith) in
    seen_first c.args.depth (token_of c.args.token ∷ rest) (Token.number text) rest is ∙ ap (option_map (λ v. (v, rest))) none

pub value_from-returns-in_ok-from_str-in-String-clause-value : goal.value_from-returns-in_ok-from_str-in-String-clause-value
value_from-returns-in_ok-from_str-in-String-clause-value t c =
    let rest = c.args.tokens.now in
    let text = c.in-String.text.now in
    let is : token_of c.args.token ∷ rest ≡ Token.string text ∷ rest = grind arith in
    seen_first c.args.depth (token_of c.args.token ∷ rest) (Token.string text) rest is
    ∙ ap (λ s. Some (json.Text s, rest)) (sym c.in_ok-from_str-in-String.ensures.value)

pub value_from-returns-in-EndObject-clause-not_json : goal.value_from-returns-in-EndObject-clause-not_json
value_from-returns-in-EndObject-clause-not_json t c refused = value_by_token c.args.depth (token_of c.args.token) c.args.tokens.now ∙ grind arith

-- a list, and an object

pub value_from-returns-then-depth-eq0-clause-not_json : goal.value_from-returns-then-depth-eq0-clause-not_json
value_from-returns-then-depth-eq0-clause-not_json t c refused =
    let rest = c.args.tokens.now in
    let is : token_of c.args.token ∷ rest ≡ Token.begin_array ∷ rest = grind arith in
    let none : c.args.depth ≡ 0 = omega arith in
    seen_first c.args.depth (token_of c.args.token ∷ rest) Token.begin_array rest is ∙ rw none

pub value_from-returns-then-depth-eq0-2-clause-not_json : goal.value_from-returns-then-depth-eq0-2-clause-not_json
value_from-returns-then-depth-eq0-2-clause-not_json t c refused =
    let rest = c.args.tokens.now in
    let is : token_of c.args.token ∷ rest ≡ Token.begin_object ∷ rest = grind arith in
    let none : c.args.depth ≡ 0 = omega arith in
    seen_first c.args.depth (token_of c.args.token ∷ rest) Token.begin_object rest is ∙ rw none

pub value_from-returns-in_err-list-in-BeginArray-clause-not_json : goal.value_from-returns-in_err-list-in-BeginArray-clause-not_json
value_from-returns-in_err-list-in-BeginArray-clause-not_json t c refused =
    let rest = c.args.tokens.now in
    let is : token_of c.args.token ∷ rest ≡ Token.begin_array ∷ rest = grind arith in
    seen_first c.args.depth (token_of c.args.token ∷ rest) Token.begin_array rest is
    ∙ ap (parse_map (λ vs. json.List vs)) (inside_is items_at c.args.depth rest (omega arith) ∙ c.list.ensures.not_json (grind arith))

pub value_from-returns-in_err-object-in-BeginObject-clause-not_json : goal.value_from-returns-in_err-object-in-BeginObject-clause-not_json
value_from-returns-in_err-object-in-BeginObject-clause-not_json t c refused =
    let rest = c.args.tokens.now in
    let is : token_of c.args.token ∷ rest ≡ Token.begin_object ∷ rest = grind arith in
    seen_first c.args.depth (token_of c.args.token ∷ rest) Token.begin_object rest is
    ∙ ap (parse_map (λ obj. json.Obj obj)) (inside_is object_at c.args.depth rest (omega arith) ∙ c.object.ensures.not_json (grind arith))

pub value_from-returns-in_ok-list-in-BeginArray-clause-value : goal.value_from-returns-in_ok-list-in-BeginArray-clause-value
value_from-returns-in_ok-list-in-BeginArray-clause-value t c =
    let rest = c.args.tokens.now in
    let is : token_of c.args.token ∷ rest ≡ Token.begin_array ∷ rest = grind arith in
    seen_first c.args.depth (token_of c.args.token ∷ rest) Token.begin_array rest is
    ∙ ap (parse_map (λ vs. json.List vs)) (inside_is items_at c.args.depth rest (omega arith) ∙ c.in_ok-list-in-BeginArray.ensures.value)

pub value_from-returns-in_ok-object-in-BeginObject-clause-value : goal.value_from-returns-in_ok-object-in-BeginObject-clause-value
value_from-returns-in_ok-object-in-BeginObject-clause-value t c =
    let rest = c.args.tokens.now in
    let is : token_of c.args.token ∷ rest ≡ Token.begin_object ∷ rest = grind arith in
    seen_first c.args.depth (token_of c.args.token ∷ rest) Token.begin_object rest is
    ∙ ap (parse_map (λ obj. json.Obj obj)) (inside_is object_at c.args.depth rest (omega arith) ∙ c.in_ok-object-in-BeginObject.ensures.value)

-- ---- a list

pub list-returns-in-Err-clause-not_json : goal.list-returns-in-Err-clause-not_json
list-returns-in-Err-clause-not_json t c refused =
    let l = c.items in
    let going : (after_end_array l.tokens ≡ None) × (c.take_end_array.new.self ≡ l.tokens) = grind arith in
    l.invariant.all ∙ ap (parse_map (λ vs. l.found.items ++ vs))
    (bad_item c.args.depth l.tokens going.0 (rw (← going.1) (c.value.ensures.not_json (grind arith))))

pub list-items-preserved : goal.list-items-preserved
list-items-preserved t c =
    let l = c.items in
    let v = c.in-Ok-value.item in
    let r = c.value.new.tokens in
    let going : (after_end_array l.tokens ≡ None) × (c.take_end_array.new.self ≡ l.tokens) = grind arith in
    let less : length r < length l.tokens = rw (← going.1) c.in-Ok-value.ensures.shorter in
    let pushed : c.push_reserved.new.self.items ≡ l.found.items ++ v ∷ [] = c.push_reserved.ensures.items ∙ ap (λ (xs : List Json). xs ++ v ∷ []) c.reserve.ensures.items in
    record {
      all = l.invariant.all
          ∙ ap (parse_map (λ vs. l.found.items ++ vs)) (one_item c.args.depth l.tokens r v going.0 (rw (← going.1) c.in-Ok-value.ensures.value))
          ∙ one_more l.found.items v (items_at c.args.depth r)
          ∙ ap (λ (xs : List Json). parse_map (λ vs. xs ++ vs) (items_at c.args.depth r)) (sym pushed);
      shorter = omega (arith, l.invariant.shorter);
    }

pub list-returns-clause-value : goal.list-returns-clause-value
list-returns-clause-value t c =
    let l = c.items in
    let r = c.take_end_array.new.self in
    let over : after_end_array l.tokens ≡ Some r = grind arith in
    l.invariant.all
    ∙ ap (parse_map (λ vs. l.found.items ++ vs)) (no_more_items c.args.depth l.tokens r over)
    ∙ all_of_them l.found.items r
    ∙ ap (λ (xs : List Json). Some (xs, r)) (sym c.from_vec.ensures.value)

-- ---- the members of an object

pub members-returns-in-Ok-None-clause-value : goal.members-returns-in-Ok-None-clause-value
members-returns-in-Ok-None-clause-value t c =
    let l = c.members in
    let r = c.next_key.new.self in
    let over : read_key l.tokens ≡ Some (None, r) = grind arith in
    l.invariant.all
    ∙ ap (parse_map (λ vs. l.found.items ++ vs)) (no_more_members c.args.depth l.tokens r over)
    ∙ all_of_them l.found.items r

pub members-returns-in-Err-clause-not_json : goal.members-returns-in-Err-clause-not_json
members-returns-in-Err-clause-not_json t c refused =
    let l = c.members in
    l.invariant.all ∙ ap (parse_map (λ vs. l.found.items ++ vs)) (bad_key c.args.depth l.tokens c.in-Err.ensures.value)

pub members-returns-in-Err-member-clause-not_json : goal.members-returns-in-Err-member-clause-not_json
members-returns-in-Err-member-clause-not_json t c refused =
    let l = c.members in
    let k = c.in-Ok-Some.key.now in
    let s = c.next_key.new.self in
    let named : read_key l.tokens ≡ Some (Some k, s) = grind arith in
    l.invariant.all ∙ ap (parse_map (λ vs. l.found.items ++ vs))
    (bad_member c.args.depth k l.tokens s named (c.member.ensures.not_json (grind arith)))

pub members-members-preserved : goal.members-members-preserved
members-members-preserved t c =
    let l = c.members in
    let k = c.in-Ok-Some.key.now in
    let s = c.next_key.new.self in
    let m = c.in-Ok-member.member in
    let r = c.member.new.tokens in
    let named : read_key l.tokens ≡ Some (Some k, s) = grind arith in
    let less = read_key-shorter l.tokens (Some k) s named in
    let lesser = c.in-Ok-member.ensures.shorter in
    let pushed : c.push_reserved.new.self.items ≡ l.found.items ++ m ∷ [] = c.push_reserved.ensures.items ∙ ap (λ (xs : List (Member Json)). xs ++ m ∷ []) c.reserve.ensures.items in
    let same : member k m.value ≡ m = ap (λ key. member key m.value) (sym c.in-Ok-member.ensures.key) in
    record {
      all = l.invariant.all
          ∙ ap (parse_map (λ vs. l.found.items ++ vs)) (one_member c.args.depth k l.tokens s r m.value named c.in-Ok-member.ensures.value
          ∙ ap (λ (x : Member Json). parse_map (λ vs. x ∷ vs) (members_at c.args.depth r)) same)
          ∙ one_more l.found.items m (members_at c.args.depth r)
          ∙ ap (λ (xs : List (Member Json)). parse_map (λ vs. xs ++ vs) (members_at c.args.depth r)) (sym pushed);
      shorter = omega (arith, l.invariant.shorter);
    }
