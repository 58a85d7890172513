-- How long the lines of what a connection says are.
use Rattle.std.proofs.Common.{◌≡◌, ℕ, ◌+◌, ◌*◌, List, ◌∷◌, length, decimal, arith, length-append}
use Rattle.hex.specs.Hex.{encode_lower, lower_digits}
use Rattle.hex.proofs.HexLemmas.{length-encode_with}
use Rattle.mix_model.specs.declared.message.Message.TheVariants.{Text, Binary}
use Rattle.mix_script.specs.Escapes.{escaped}
use Rattle.mix_script.specs.Lines.{said_text}

-- the sign, the number and a space, and then the text
pub text_length : (conn : ℕ) (text : List ℕ)
    → length (said_text conn (Text text)) ≡ 3 + length (decimal conn) + length (escaped text)
text_length conn text =
    let parts = length-append (decimal conn) (32 ∷ escaped text) in omega (arith, parts)

-- two digits for each byte
pub binary_length : (conn : ℕ) (bytes : List ℕ)
    → length (said_text conn (Binary bytes)) ≡ 3 + length (decimal conn) + 2 * length bytes
binary_length conn bytes =
    let parts = length-append (decimal conn) (32 ∷ encode_lower bytes) in
    let digits = length-encode_with lower_digits bytes in
    omega (arith, parts, digits)

pub ruleset said_lengths = (text_length, binary_length)
