-- so far each result can be said
use Rattle.std.proofs.Common.{All}
use Rattle.mix_events.specs.Sayable.{IsSayableDone}
use Rattle.mix_talks.proofs.responses.push_results.Given as goal

abbrev pub invariant-loop-place : goal.invariant-loop-place
invariant-loop-place l = All IsSayableDone l.results.items
