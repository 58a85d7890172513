use Rattle.std.proofs.Common.{refl}
use Rattle.mix_collection.proofs.Fitting.{set_once}
use Rattle.mix_collection.proofs.reading.collection_from.Goals as goal

-- what the parts are, and nothing else is said of a duration or a preview
pub returns-clause-fits : goal.returns-clause-fits
returns-clause-fits c = record {
  canvas = c.requires.head.canvas;
  rate = c.requires.head.rate;
  format = c.requires.head.format;
  secret = c.requires.secret;
  lines = c.requires.lines;
  channels = set_once c.args.registry.lines c.requires.unset;
  duration = refl;
  preview = refl;
  program = c.requires.program;
}
