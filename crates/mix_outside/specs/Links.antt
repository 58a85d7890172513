-- What one call of a link does to what it tells.
use Rattle.std.specs.Prelude.{ℕ, List, [], ◌∷◌, Result, Ok, Err}
use Rattle.mix_outside.specs.declared.got.Got.{Got}
use Rattle.mix_outside.specs.declared.got.Got.TheVariants as gots
use Rattle.mix_outside.specs.declared.got.Sent.{Sent}
use Rattle.mix_outside.specs.declared.got.Sent.TheVariants as sents
use Rattle.mix_outside.specs.declared.sink.Put.{Put}
use Rattle.mix_outside.specs.declared.sink.Put.TheVariants as puts

-- what a call answered: nothing, where it took no memory
abbrev pub answered : {A E : Type 0} → Result A E → List A
answered (Ok answer) = answer ∷ []
answered (Err error) = []

-- the message of an answer, where it is one
abbrev pub message_in : Got → List Got
message_in (gots.Text text) = gots.Text text ∷ []
message_in (gots.Binary bytes) = gots.Binary bytes ∷ []
message_in gots.Idle = []
message_in gots.End = []
message_in gots.Failed = []

-- the message that a call gave, where it gave one
abbrev pub messages_in : {E : Type 0} → Result Got E → List Got
messages_in (Ok got) = message_in got
messages_in (Err error) = []

-- how often an answer is idle
abbrev pub idle_in : Got → ℕ
idle_in (gots.Text text) = 0
idle_in (gots.Binary bytes) = 0
idle_in gots.Idle = 1
idle_in gots.End = 0
idle_in gots.Failed = 0

-- how often a call was idle
abbrev pub idles_in : {E : Type 0} → Result Got E → ℕ
idles_in (Ok got) = idle_in got
idles_in (Err error) = 0

-- what a call that was to send something has sent: that, where it is done
abbrev pub sent_by : {E : Type 0} → Sent → Result Put E → List Sent
sent_by what (Ok puts.Done) = what ∷ []
sent_by what (Ok puts.Failed) = []
sent_by what (Err error) = []

-- the text that was sent
abbrev pub text_sent : {E : Type 0} → List ℕ → Result Put E → List Sent
text_sent text result = sent_by (sents.Text text) result

-- the code that was sent
abbrev pub close_sent : {E : Type 0} → ℕ → Result Put E → List Sent
close_sent code result = sent_by (sents.Close code) result
