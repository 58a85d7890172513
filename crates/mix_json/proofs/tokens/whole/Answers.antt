use Rattle.std.proofs.Common.{◌≡◌, ◌∙◌, ◌∷◌, [], Some, None, sym, ap, arith}
use Rattle.json.specs.Reads.{token_of}
use Rattle.mix_json.specs.Tokens.{value_at}
use Rattle.mix_json.proofs.ReadLemmas.{whole_value, whole_and_more, whole_refused}
use Rattle.mix_json.proofs.tokens.whole.Goals as goal

-- there is no value
pub returns-in_err-value-clause-not_json : goal.returns-in_err-value-clause-not_json
returns-in_err-value-clause-not_json c refused =
    let none : value_at 127 c.in-Ok.tokens ≡ None = c.value.ensures.not_json (grind arith) in
    whole_refused c.args.text.now (ap (value_at 127) (sym c.in-Ok.ensures.ok) ∙ none)

-- the value is all
pub returns-in-None-clause-value : goal.returns-in-None-clause-value
returns-in-None-clause-value c =
    let over : c.value.new.tokens ≡ [] = grind arith in
    whole_value c.args.text.now c.in_ok-value.value
    (ap (value_at 127) (sym c.in-Ok.ensures.ok) ∙ c.in_ok-value.ensures.value ∙ ap (λ ts. Some (c.in_ok-value.value, ts)) over)

-- something stands behind it
pub returns-in-Some-clause-not_json : goal.returns-in-Some-clause-not_json
returns-in-Some-clause-not_json c refused =
    let more : c.value.new.tokens ≡ token_of c.in-Some.field-0 ∷ c.next.new.self = grind arith in
    whole_and_more c.args.text.now c.in_ok-value.value (token_of c.in-Some.field-0) c.next.new.self
    (ap (value_at 127) (sym c.in-Ok.ensures.ok) ∙ c.in_ok-value.ensures.value ∙ ap (λ ts. Some (c.in_ok-value.value, ts)) more)
