-- What the test of UTF-8 computes.
use Rattle.std.proofs.Common.{◌≡◌, ℕ, List, Bool, true, false, refl}
use Rattle.std.specs.Str.{IsUtf8, is_utf8}
use Rattle.std.proofs.lemmas.Str.{IsUtf8-from_is_utf8, is_utf8-from_IsUtf8}

-- the test holds of bytes in UTF-8
pub is_utf8_true : (bytes : List ℕ) → IsUtf8 bytes → is_utf8 bytes ≡ true
is_utf8_true bytes utf8 = is_utf8-from_IsUtf8 bytes utf8

by_cases : (bytes : List ℕ) (test : Bool) →
    is_utf8 bytes ≡ test → (IsUtf8 bytes → ⊥) → test ≡ false
by_cases bytes true holds other = absurd (other (IsUtf8-from_is_utf8 bytes holds))
by_cases bytes false holds other = refl

-- and of no others
pub is_utf8_false : (bytes : List ℕ) → (IsUtf8 bytes → ⊥) → is_utf8 bytes ≡ false
is_utf8_false bytes other = by_cases bytes (is_utf8 bytes) refl other

pub ruleset utf8_tests = (is_utf8_true, is_utf8_false)
