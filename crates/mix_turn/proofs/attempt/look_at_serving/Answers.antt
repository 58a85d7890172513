-- A pass without a turn may look.
use Rattle.std.proofs.Common.{rules}
use Rattle.mix_turn.proofs.StepLemmas.{looks}
use Rattle.mix_turn.proofs.attempt.look_at_serving.Goals as goal

pub load-requires : goal.load-requires
load-requires g c = let t = g.V.Turned in (c.requires.of, search rules, looks t.journal t.misses t.start t.full _ _ _ _ c.requires.idle)
