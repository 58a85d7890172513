use Rattle.std.proofs.Common.{◌∙◌, ap, sym, subst, IsUtf8}
use Rattle.std.proofs.lemmas.Result.{IfOk-weaker}
use Rattle.json.specs.Lex.{tokens}
use Rattle.mix_json.specs.Growing.{more_item}
use Rattle.mix_json.proofs.BackLemmas.{comes_back}
use Rattle.mix_json.proofs.writing.write.Goals as goal

-- what was written is read as the same value
pub returns-clause-reads_back : goal.returns-clause-reads_back
returns-clause-reads_back c =
    let value = c.args.value.now in
    let written = c.put.new.out.tokens in
    let is_value = c.in-Ok.ensures.tokens ∙ ap (more_item value) c.in_ok-out.ensures.tokens in
    let done = c.finish.ensures in
    IfOk-weaker c.finish.result _ _
    (λ text is_text. λ shallow. comes_back value text written is_value is_text (ap tokens is_text ∙ done.again) (subst IsUtf8 (sym is_text) done.utf8) c.in-Ok.ensures.back c.requires.whole shallow)
    done.text
