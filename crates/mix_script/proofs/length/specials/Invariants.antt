-- what was counted so far, then what is left, is all
use Rattle.std.proofs.Common.{◌≡◌, ◌+◌, ◌-◌, ◌≤◌, length, drop}
use Rattle.std.specs.Prelude.{count_by}
use Rattle.mix_script.specs.Escapes.{is_special}
use Rattle.mix_script.proofs.length.specials.Given as goal

abbrev pub invariant-blocks-2 : goal.invariant-blocks-2
invariant-blocks-2 l = record {
  all : count_by is_special l.text ≡ l.found + count_by is_special (drop l.at l.text);
  within : l.at ≤ length l.text;
}

abbrev pub decreases-blocks-2 : goal.decreases-blocks-2
decreases-blocks-2 l = length l.text - l.at
