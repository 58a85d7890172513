-- the text of all is what was read, and then the text of what is left; and there is room for that
use Rattle.std.proofs.Common.{◌≡◌, ◌+◌, ◌-◌, ◌≤◌, length, drop, false, vec_capacity}
use Rattle.mix_script.specs.Escapes.{unescaped, unescaped_after}
use Rattle.mix_script.proofs.EscapeLemmas.{put_before}
use Rattle.mix_script.proofs.escaping.unescape.Given as goal

abbrev pub invariant-left : goal.invariant-left
invariant-left l = record {
  text : unescaped l.written
      ≡ put_before l.bytes.items (unescaped_after false (drop l.at l.written));
  within : l.at ≤ length l.written;
  room : length l.bytes.items + (length l.written - l.at) ≤ vec_capacity l.bytes;
}

abbrev pub decreases-left : goal.decreases-left
decreases-left l = length l.written - l.at
