-- What can be said to a connection.
use Rattle.std.specs.Prelude.{All, IsTrue, is_some}
use Rattle.mix_events.specs.declared.said.Said.{Said}
use Rattle.mix_events.specs.declared.said.Said.TheVariants as said
use Rattle.mix_events.specs.declared.reply.Reply.{Reply}
use Rattle.mix_events.specs.declared.reply.Reply.TheVariants as reply
use Rattle.mix_events.specs.Sayable.{IsSayableDone, IsSayableEvent}

-- what can be said: its serials are short, its numbers are whole, its statuses have names, and a
-- response has the id of its request
abbrev pub IsSayable : Said → Type 0
IsSayable (said.Hello login) = Unit {0}
IsSayable said.Identified = Unit {0}
IsSayable (said.Event event) = IsSayableEvent event
IsSayable (said.Response done) = IsTrue (is_some done.id) × IsSayableDone done
IsSayable (said.BatchResponse id results) = All IsSayableDone results

-- each text of a reply can be said
abbrev pub IsSayableReply : Reply → Type 0
IsSayableReply (reply.Told conn said close due) = All IsSayable said
IsSayableReply _ = Unit {0}
