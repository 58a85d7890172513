-- Settings that are there stand.
use Rattle.std.proofs.Common.{subst, sym}
use Rattle.mix_sources.specs.Answers.{Answers}
use Rattle.mix_sources.specs.Checked.{keys_over}
use Rattle.mix_sources.proofs.CheckedLemmas.{standing_is}
use Rattle.mix_sources.proofs.checking.keys_or_defaults.Goals as goal

pub returns-in_default : goal.returns-in_default
returns-in_default c = record {
  value = subst
      (λ s. Answers c.keys_over.result (keys_over s c.args.given.now))
      (sym (standing_is c.args.kind c.args.over.now c.args.canvas c.in_default.not-None))
      c.keys_over.ensures.value;
}
