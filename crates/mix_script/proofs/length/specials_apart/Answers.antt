-- the iterator yields the places of both bytes, and there are as many as such bytes
use Rattle.std.proofs.Common.{ℕ, List, ◌∙◌}
use Rattle.std.proofs.lemmas.Iterator.Consumers.{YieldsList-from_first, count_from_yields_List}
use Rattle.memchr.specs.Find.{places}
use Rattle.memchr.proofs.lemmas.CallerLemmas.{length-places}
use Rattle.mix_script.specs.Escapes.{is_special}
use Rattle.mix_script.proofs.length.specials_apart.Goals as goal

pub returns-clause-value : goal.returns-clause-value
returns-clause-value c =
    let there = places is_special c.args.text.now in
    let yields = YieldsList-from_first (λ (x : ℕ). x) (λ (rest : List ℕ). rest) there c.memchr2_iter.ensures.value in
    count_from_yields_List c.memchr2_iter.result c.count.result c.count.ensures.ran yields
    ∙ length-places is_special c.args.text.now
