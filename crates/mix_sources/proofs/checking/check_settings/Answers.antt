-- What the table gives is valid.
use Rattle.mix_sources.proofs.CheckedLemmas.{answer_valid}
use Rattle.mix_sources.proofs.checking.check_settings.Goals as goal

pub returns-clause-valid : goal.returns-clause-valid
returns-clause-valid c = answer_valid c.args.kind c.args.over.now c.args.given.now c.args.canvas
    c.keys_or_defaults.result c.keys_or_defaults.ensures.value
    c.requires.input c.requires.over c.requires.canvas
