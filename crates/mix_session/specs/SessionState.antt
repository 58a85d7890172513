-- What a session remembers, and how a message changes it.
use Rattle.std.specs.Prelude.{ℕ, List, Option, Some, None}
use Rattle.mix_events.specs.declared.said.Said.{Said}
use Rattle.mix_events.specs.declared.said.Said.TheVariants.{Hello}
use Rattle.mix_events.specs.declared.said.Login.{Login}
use Rattle.mix_session.specs.declared.secret.Secret.{Secret}
use Rattle.mix_session.specs.declared.heard.Heard.{Heard}
use Rattle.mix_session.specs.declared.heard.Heard.TheVariants.{Say, Ask, Batch, Close}

-- a secret as the state of the mixer has it: the password and the salt
abbrev pub secret_of : Secret → List ℕ × List ℕ
secret_of secret = (secret.password, secret.salt)

-- the secret that a connection has to know, if there is one; the challenge that it was told; and
-- the mask of the events that it is told, which it has once it is identified
pub record SessionState : Type 0 where
  pub secret : Option (List ℕ × List ℕ)
  pub challenge : List ℕ
  pub mask : Option ℕ

-- what a connection is told to log in by: nothing where there is no secret
abbrev pub login_of : Option (List ℕ × List ℕ) → List ℕ → Option Login
login_of None challenge = None
login_of (Some secret) challenge = Some (record { salt = secret.1; challenge = challenge })

-- what is said to a connection that opens
abbrev pub hello : Option (List ℕ × List ℕ) → List ℕ → Said
hello secret challenge = Hello (login_of secret challenge)

-- the mask after a message: what is said at once brings its own, and everything else leaves it
abbrev pub mask_after : Heard → Option ℕ → Option ℕ
mask_after (Say said new) mask = Some new
mask_after (Ask ask) mask = mask
mask_after (Batch batch) mask = mask
mask_after (Close code) mask = mask
