use Rattle.std.proofs.Common.{◌≡◌, ◌++◌, take, drop}
use Rattle.mix_base.specs.Members.{put_of}
use Rattle.mix_base.proofs.members.place_of.Given as goal

-- the members so far stand before the key
abbrev pub invariant-loop-place : goal.invariant-loop-place
invariant-loop-place g l = (value : g.row.V.Denot) → put_of l.key value l.members ≡ take l.place l.members ++ put_of l.key value (drop l.place l.members)
