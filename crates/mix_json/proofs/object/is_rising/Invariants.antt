use Rattle.std.proofs.Common.{◌≡◌, drop}
use Rattle.mix_base.specs.Members.{is_rising}
use Rattle.mix_json.proofs.object.is_rising.Given as goal

-- so far the keys rise
abbrev pub invariant-loop-place : goal.invariant-loop-place
invariant-loop-place l = is_rising l.members ≡ is_rising (drop l.place l.members)
