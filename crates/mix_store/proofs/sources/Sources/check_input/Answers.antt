-- the causes of the input, hidden or shown
use Rattle.mix_shape.proofs.BareLemmas.{bare_input}
use Rattle.mix_store.proofs.CheckLemmas.{shown_input}
use Rattle.mix_store.proofs.sources.Sources.check_input.Goals as goal

pub returns-in-None-clause-refused : goal.returns-in-None-clause-refused
returns-in-None-clause-refused c = λ settings. rw (
  c.in-None.is,
  bare_input c.args.name.now c.args.kind settings c.args.self.now c.requires.shape,
) c.check_source.ensures.refused

pub returns-in-Some-clause-refused : goal.returns-in-Some-clause-refused
returns-in-Some-clause-refused c = λ settings. rw (
  c.in-Some.is,
  ← shown_input c.args.name.now c.args.kind settings c.in-Some.parent
      c.in-Some.field-0-1 c.args.self.now c.requires.input,
) (c.check_shown.ensures.refused settings c.in-Some.field-0-1)
