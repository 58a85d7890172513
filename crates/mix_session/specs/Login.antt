-- How a connection shows that it knows the secret.
use Rattle.std.specs.Prelude.{ℕ, List, ◌++◌}
use Rattle.base64.specs.Engines.{standard}
use Rattle.base64.specs.GeneralPurpose.{encode_of}
use Rattle.sha2.specs.Sha256.{sha256}

-- bytes as base64 of the standard alphabet, with padding (RFC 4648)
abbrev pub base64_of : List ℕ → List ℕ
base64_of bytes = encode_of standard bytes

-- the SHA-256 digest of bytes (FIPS 180-4), as base64
abbrev pub digest_text : List ℕ → List ℕ
digest_text bytes = base64_of (sha256 bytes)

-- the answer to a challenge: the password and the salt are digested together, and that text and
-- the challenge are digested together again, as obs-websocket 5 says
abbrev pub answer_of : List ℕ → List ℕ → List ℕ → List ℕ
answer_of password salt challenge =
    digest_text (digest_text (password ++ base64_of salt) ++ base64_of challenge)
