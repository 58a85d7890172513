use Rattle.mix_collection.proofs.Fitting.{input_fits}
use Rattle.mix_collection.proofs.sources.input_of.Goals as goal

pub returns-in-Ok-Some-clause-fits : goal.returns-in-Ok-Some-clause-fits
returns-in-Ok-Some-clause-fits c = input_fits c.in-Some.kind c.in-Some-name_from.name
    c.in-Ok-Some.settings c.in-Some-name_from.ensures.valid c.in-Some.ensures.input
    (rw c.in-Ok-Some.field-0-is at c.in-Ok-Some.ensures.valid)
