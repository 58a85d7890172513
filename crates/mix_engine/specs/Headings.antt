-- What heads the reply of an action: all of it but the texts, the shot and the voices.
use Rattle.std.specs.Prelude.{ℕ, Bool, true, false, Option, Some, None}
use Rattle.mix_engine.specs.declared.heading.Heading.{Heading}
use Rattle.mix_engine.specs.declared.heading.Heading.TheVariants.{Full, Gone, Left, Told, Closed}
use Rattle.mix_engine.specs.declared.heading.Heading.TheVariants.{Frame, NoFrame, Block}
use Rattle.mix_engine.specs.declared.heading.Heading.TheVariants.{FrameGone, NoSuchFrame}
use Rattle.mix_engine.specs.declared.heading.Heading.TheVariants.{Destroyed, Nothing, NotBuilt}

-- the connection whose action it is. A connection that comes acts too, but not one that finds the mixer
-- full: that one has no number
abbrev pub actor_of : Heading → Option ℕ
actor_of Full = None
actor_of (Gone conn) = Some conn
actor_of (Left conn) = Some conn
actor_of (Told conn) = Some conn
actor_of (Closed conn code) = Some conn
actor_of (Frame number recording) = None
actor_of NoFrame = None
actor_of (Block number recording) = None
actor_of (FrameGone number) = None
actor_of NoSuchFrame = None
actor_of (Destroyed serial) = None
actor_of Nothing = None
actor_of NotBuilt = None

-- an action that isn't built has no reply
abbrev pub is_unbuilt : Heading → Bool
is_unbuilt NotBuilt = true
is_unbuilt _ = false
