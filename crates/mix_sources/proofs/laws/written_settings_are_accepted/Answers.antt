-- whatever stands, settings that are written are accepted
use Rattle.mix_sources.proofs.AgainLemmas.{written_is_accepted}
use Rattle.mix_sources.proofs.laws.written_settings_are_accepted.Goals as goal

pub returns : goal.returns
returns c = record { again = written_is_accepted }
