-- each look-up computes
use Rattle.std.proofs.Common.{refl}
use Rattle.mix_requests.specs.Table.{type_of}
use Rattle.mix_requests.proofs.laws.types_name_their_requests.Goals as goal

pub returns : goal.returns
unfolding type_of
returns c = record { named = refl }
