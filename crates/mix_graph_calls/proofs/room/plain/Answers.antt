-- each value is in its range
use Rattle.std.proofs.Common.{refl}
use Rattle.mix_model.specs.Values.{is_place}
use Rattle.mix_graph_calls.proofs.room.plain.Goals as goal

pub returns : goal.returns
unfolding is_place
returns c = refl
