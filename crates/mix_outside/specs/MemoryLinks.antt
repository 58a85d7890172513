-- What a link in memory does at each call.
use Rattle.std.specs.Prelude.{ℕ, ◌+◌, Bool, List, [], ◌∷◌, ◌++◌, drop}
use Rattle.std.specs.Prelude.{Result, Ok, Err, if◌then◌else◌}
use Rattle.mix_outside.specs.Calls.{Calls, no_calls, fails_next, one_call_more}
use Rattle.mix_outside.specs.Faults.{one_more}
use Rattle.mix_outside.specs.Links.{idle_in}
use Rattle.mix_outside.specs.declared.given.LinkItem.{LinkItem}
use Rattle.mix_outside.specs.declared.given.LinkItem.TheVariants as items
use Rattle.mix_outside.specs.declared.got.Got.{Got}
use Rattle.mix_outside.specs.declared.got.Got.TheVariants as gots
use Rattle.mix_outside.specs.declared.got.Sent.{Sent}
use Rattle.mix_outside.specs.declared.sink.Put.{Put}
use Rattle.mix_outside.specs.declared.sink.Put.TheVariants as puts

-- a link in memory
pub record LinkState : Type 0 where
  -- what it is still to give
  pub left : List LinkItem
  -- what it gave
  pub taken : List Got
  -- what it was sent
  pub sent : List Sent
  pub calls : Calls
  pub faults : ℕ
  pub idles : ℕ

-- a link that gave and was sent nothing yet
abbrev pub new_link : List LinkItem → List ℕ → LinkState
new_link items failing = record {
  left = items;
  taken = [];
  sent = [];
  calls = no_calls failing;
  faults = 0;
  idles = 0;
}

-- an item, as it is given
abbrev pub as_got : LinkItem → Got
as_got (items.Text text) = gots.Text text
as_got (items.Binary bytes) = gots.Binary bytes
as_got items.Idle = gots.Idle

-- an item is a message, or none
abbrev pub message_of : LinkItem → List Got → List Got
message_of (items.Text text) more = gots.Text text ∷ more
message_of (items.Binary bytes) more = gots.Binary bytes ∷ more
message_of items.Idle more = more

-- the messages among the items
abbrev pub messages_of : List LinkItem → List Got
messages_of [] = []
messages_of (item ∷ more) = message_of item (messages_of more)

-- the first of what is left, which is the end where nothing is
abbrev pub first_got : List LinkItem → Got
first_got [] = gots.End
first_got (item ∷ more) = as_got item

-- What a link gives that has these items left. It fails at a call that is named, and ends where nothing
-- is left.
abbrev pub given : Bool → List LinkItem → Got
given named left = if named then gots.Failed else first_got left

-- what a link gives: it fails exactly where its call is named
abbrev pub got_of : LinkState → Got
got_of link = given (fails_next link.calls) link.left

-- how many items an answer takes
abbrev pub items_in : Got → ℕ
items_in (gots.Text text) = 1
items_in (gots.Binary bytes) = 1
items_in gots.Idle = 1
items_in gots.End = 0
items_in gots.Failed = 0

-- the faults after an answer
abbrev pub faults_after_got : Got → ℕ → ℕ
faults_after_got (gots.Text text) faults = faults
faults_after_got (gots.Binary bytes) faults = faults
faults_after_got gots.Idle faults = faults
faults_after_got gots.End faults = faults
faults_after_got gots.Failed faults = one_more faults

-- a link that went past what it gives
abbrev pub went_on : Got → LinkState → LinkState
went_on got link = record link {
  left = drop (items_in got) link.left;
  faults = faults_after_got got link.faults;
  idles = link.idles + idle_in got;
}

-- a link that gave something
abbrev pub gave : Got → LinkState → LinkState
gave got link = record link {
  taken = link.taken ++ got ∷ [];
  calls = one_call_more link.calls;
}

-- what an answer leaves; where there is no memory, the call is counted and nothing else is changed
abbrev pub after_recv : {E : Type 0} → Result Got E → LinkState → LinkState
after_recv (Ok got) link = went_on got (gave got link)
after_recv (Err error) link = record link { calls = one_call_more link.calls }

-- what a text or a code that is sent is answered: it fails exactly where its call is named
abbrev pub put_of : LinkState → Put
put_of link = if fails_next link.calls then puts.Failed else puts.Done

-- what the sending leaves
abbrev pub after_put : {E : Type 0} → Sent → Result Put E → LinkState → LinkState
after_put what (Ok puts.Done) link = record link {
  sent = link.sent ++ what ∷ [];
  calls = one_call_more link.calls;
}
after_put what (Ok puts.Failed) link = record link {
  calls = one_call_more link.calls;
  faults = one_more link.faults;
}
after_put what (Err error) link = record link { calls = one_call_more link.calls }
