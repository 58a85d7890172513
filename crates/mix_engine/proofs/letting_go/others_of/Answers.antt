use Rattle.std.proofs.Common.{◌∙◌, ap, not, rules}
use Rattle.std.proofs.lemmas.Fn.{filter_same}
use Rattle.mix_engine.specs.Leaving.{is_of, others_of}
use Rattle.mix_engine.proofs.letting_go.others_of.Goals as goal

-- what is kept are the others
pub returns : goal.returns
returns c = record {
  value = c.from_vec.ensures.value
      ∙ filter_same _ (λ n. not (is_of c.args.conn n)) _
      (λ x b f' h. (search (rules, h), search (rules, h))) _ _ c.retain.ensures.filtered
      ∙ ap (others_of c.args.conn) c.into_vec-notes.ensures.value;
}
