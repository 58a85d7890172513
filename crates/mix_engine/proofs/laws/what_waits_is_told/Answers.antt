-- the queue is what the connection takes of the entries after its last one
use Rattle.std.proofs.Common.{sym}
use Rattle.mix_engine.proofs.QueueLemmas.{told_is}
use Rattle.mix_engine.proofs.laws.what_waits_is_told.Goals as goal

pub returns : goal.returns
returns c = record { told = λ number before h. sym (told_is number before h) }
