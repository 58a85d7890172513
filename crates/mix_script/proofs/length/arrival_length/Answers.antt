-- thirty-two bytes are sixty-four digits
use Rattle.std.proofs.Common.{◌≡◌, sym, ◌∙◌, false}
use Rattle.mix_script.specs.Hexadecimal.{is_unset}
use Rattle.mix_script.proofs.DigitLemmas.{length-arrival}
use Rattle.mix_script.proofs.length.arrival_length.Goals as goal

pub returns-else-is_unset : goal.returns-else-is_unset
returns-else-is_unset c =
    let set : is_unset c.challenge.inside.0 ≡ false = sym c.is_unset.ensures ∙ c.if-is_unset.false in
    let whole = length-arrival c.challenge.inside.0 set c.challenge.told in
    rw c.challenge.view_is at whole
