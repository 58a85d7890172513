use Rattle.std.proofs.Common.{◌≡◌, ◌∷◌, ◌∙◌, arith, ap, rules, get_or, drop, suc}
use Rattle.std.proofs.Math.Seq.{drop-cons}
use Rattle.mix_script.specs.Output.{text_line}
use Rattle.mix_script.proofs.Written.{one_stops, one_follows}
use Rattle.mix_script.proofs.output.put_told.Goals as goal

-- a line isn't written whole behind the lines before it
pub returns-in-Err-clause-bytes : goal.returns-in-Err-clause-bytes
returns-in-Err-clause-bytes g c = λ tells.
    let told = c.args.told.now in
    let i = c.told.said-index in
    let said = c.said-item.result in
    let here : get_or told i said ≡ said = search rules in
    let next = drop-cons told i said (omega arith) ∙ ap (λ x. x ∷ drop (suc i) told) here in
    one_stops (text_line c.args.conn) told i said (drop (suc i) told) c.in-Err.fault _ _ _ next
    (c.told.invariant.written tells)
    (c.in-Err.ensures.bytes (text_line c.args.conn said) c.text_line.ensures.value tells)

-- one line more is
pub told-preserved : goal.told-preserved
told-preserved g c =
    let told = c.args.told.now in
    let i = c.told.said-index in
    let said = c.said-item.result in
    let here : get_or told i said ≡ said = search rules in
    let next = drop-cons told i said (omega arith) ∙ ap (λ x. x ∷ drop (suc i) told) here in
    record {
      written = λ tells. one_follows (text_line c.args.conn) told i said (drop (suc i) told) _ _ _ next
          (c.told.invariant.written tells)
          (c.in-Ok.ensures.bytes (text_line c.args.conn said) c.text_line.ensures.value tells);
      steady = c.in-Ok.ensures.steady (λ e. absurd (grind arith)) ∙ c.told.invariant.steady;
    }
