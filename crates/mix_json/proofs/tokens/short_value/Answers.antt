use Rattle.std.proofs.Common.{◌≡◌, ◌∙◌, List, [], ◌∷◌, Some, ap, arith, rules, to_z, of_z, w64}
use Rattle.json.specs.Json.{after_end_array}
use Rattle.json.specs.Token.{Token}
use Rattle.json.specs.Reads.{token_of}
use Rattle.mix_base.specs.declared.json.Json.{Json}
use Rattle.mix_base.specs.declared.json.Json as json
use Rattle.mix_json.specs.Tokens.{number_seen, value_at}
use Rattle.mix_json.proofs.NumberLemmas.{seen_number}
use Rattle.mix_json.proofs.TokenLemmas.{int_by_token, nothing_by_token}
use Rattle.mix_json.proofs.tokens.short_value.Goals as goal

-- a whole number
pub returns-in-Some-clause-value : goal.returns-in-Some-clause-value
returns-in-Some-clause-value c =
    let ts = c.args.tokens.now in
    let text = c.in-Number.text.now in
    let whole = c.in-Some.whole in
    let is : token_of c.args.token ∷ ts ≡ Token.number text ∷ ts = grind arith in
    let seen : number_seen text ≡ Some (json.Int whole) = seen_number text (Some (Some whole)) (grind arith) in
    let kept : whole ≡ to_z w64 (of_z w64 whole) = search rules in
    ap (value_at c.args.depth) is ∙ int_by_token c.args.depth text whole ts seen
    ∙ ap (λ z. Some (json.Int z, ts)) kept

-- an empty list
pub returns-then-take_end_array-clause-value : goal.returns-then-take_end_array-clause-value
returns-then-take_end_array-clause-value c =
    let ts = c.args.tokens.now in
    let r = c.take_end_array.new.self in
    let is : token_of c.args.token ∷ ts ≡ Token.begin_array ∷ ts = grind arith in
    let over : after_end_array ts ≡ Some r = grind arith in
    let none : [] ≡ c.from_vec.result = grind arith in
    ap (value_at c.args.depth) is ∙ nothing_by_token c.args.depth ts r (omega arith) over
    ∙ ap (λ (vs : List Json). Some (json.List vs, r)) none
