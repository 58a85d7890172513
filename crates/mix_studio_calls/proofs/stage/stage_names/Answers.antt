use Rattle.std.proofs.Common.{refl}
use Rattle.std.specs.Str.{is_utf8, chars}
use lib.Utf8.{encode}
use Rattle.mix_studio_calls.proofs.stage.stage_names.Goals as goal

-- A, B, G, C and T are names
pub name-requires : goal.name-requires
unfolding is_utf8 chars encode
name-requires c = record { named = refl }

pub name-requires-2 : goal.name-requires-2
unfolding is_utf8 chars encode
name-requires-2 c = record { named = refl }

pub name-requires-3 : goal.name-requires-3
unfolding is_utf8 chars encode
name-requires-3 c = record { named = refl }

pub name-requires-4 : goal.name-requires-4
unfolding is_utf8 chars encode
name-requires-4 c = record { named = refl }

pub name-requires-5 : goal.name-requires-5
unfolding is_utf8 chars encode
name-requires-5 c = record { named = refl }
