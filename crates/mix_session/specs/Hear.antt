-- How a message is heard: the first fault in order closes the connection with its code.
use Rattle.std.specs.Prelude.{ℕ, ℤ, pos, negsuc, Bool, true, false, not, ◌==◌, nat_lt, List, length}
use Rattle.std.specs.Prelude.{codes, unwrap_or, Option, Some, None, Result, Ok, Err, if◌then◌else◌}
use Rattle.mix_base.specs.declared.json.Json.{Json}
use Rattle.mix_base.specs.Json.{Object, present, as_text, as_obj}
use Rattle.mix_base.specs.Members.{is_same}
use Rattle.mix_json.specs.Fields.{◌>>=◌, refused_if, or_status}
use Rattle.mix_json.specs.Reading.{json_of}
use Rattle.mix_model.specs.declared.ask.Ask as ask
use Rattle.mix_model.specs.declared.ask.BatchAsk as batch
use Rattle.mix_model.specs.declared.message.Message.{Message}
use Rattle.mix_model.specs.declared.message.Message.TheVariants.{Text, Binary}
use Rattle.mix_events.specs.declared.said.Said.TheVariants.{Identified}
use Rattle.mix_session.specs.declared.op.Op.{Op}
use Rattle.mix_session.specs.declared.op.Op.TheVariants.{Identify, Reidentify, Request, RequestBatch}
use Rattle.mix_session.specs.declared.heard.Heard.{Heard}
use Rattle.mix_session.specs.declared.heard.Heard.TheVariants.{Say, Ask, Batch, Close}
use Rattle.mix_session.specs.Close.{not_decoded, wrong_value, unknown_op, login_failed}
use Rattle.mix_session.specs.Close.{unsupported_version, unsupported_feature}
use Rattle.mix_session.specs.Fields.{typed, body_of, whole_at, text_at, list_at, object_at}
use Rattle.mix_session.specs.Fields.{whole_if_there, text_if_there, truth_if_there}
use Rattle.mix_session.specs.Login.{answer_of}
use Rattle.mix_session.specs.Op.{op_of, in_turn}
use Rattle.mix_session.specs.Table.{for_each}

-- the events that a connection is told which names none: all but those of great volume
abbrev pub default_mask : ℕ
default_mask = 2047

-- a mask has 32 bits
abbrev pub mask_of : ℤ → Result ℕ ℕ
mask_of (pos n) = if nat_lt n 4294967296 then Ok n else Err wrong_value
mask_of (negsuc n) = Err wrong_value

-- the mask that is asked for, or else the one that stands
abbrev pub mask_or : ℕ → Option ℤ → Result ℕ ℕ
mask_or standing None = Ok standing
mask_or standing (Some given) = mask_of given

-- the mask of an Identify or a Reidentify: where it names none, an identified connection keeps its
-- own, and another gets the default
unfoldable pub events_of : Option ℕ → Object → Result ℕ ℕ
events_of mask fields = do
  given ← whole_if_there (codes "eventSubscriptions") fields
  mask_or (unwrap_or mask default_mask) given

-- the answer that a connection has to give, where there is a secret
abbrev pub expected_of : Option (List ℕ × List ℕ) → List ℕ → Option (List ℕ)
expected_of None challenge = None
expected_of (Some secret) challenge = Some (answer_of secret.0 secret.1 challenge)

-- a connection logs in where an answer is expected; where none is, the field isn't read
unfoldable pub logs_in : Option (List ℕ) → Object → Result (Unit {0}) ℕ
logs_in None fields = Ok tt
logs_in (Some expected) fields = do
  value ← or_status login_failed (present (codes "authentication") fields)
  given ← typed as_text value
  refused_if (not (is_same given expected)) login_failed

-- the one version of the protocol
abbrev pub is_version : ℤ → Bool
is_version (pos n) = n == 1
is_version (negsuc n) = false

-- an Identify
unfoldable pub identify_of : Option (List ℕ) → Option ℕ → Object → Result Heard ℕ
identify_of expected mask fields = do
  version ← whole_at (codes "rpcVersion") fields
  known ← refused_if (not (is_version version)) unsupported_version
  events ← events_of mask fields
  entry ← logs_in expected fields
  Ok (Say Identified events)

-- a Reidentify
unfoldable pub reidentify_of : Option ℕ → Object → Result Heard ℕ
reidentify_of mask fields = do
  events ← events_of mask fields
  Ok (Say Identified events)

-- a Request
unfoldable pub request_of : Object → Result ask.Ask ℕ
request_of fields = do
  id ← text_at (codes "requestId") fields
  kind ← text_at (codes "requestType") fields
  Ok (record { kind = Some kind; id = Some id; body = body_of (present (codes "requestData") fields) })

-- whether a batch goes by frames: SerialRealtime is 0 and SerialFrame 1; Parallel, 2, isn't built
abbrev pub by_frame_of : Option ℤ → Result Bool ℕ
by_frame_of None = Ok false
by_frame_of (Some (pos n)) =
    if n == 0 then Ok false
    else (if n == 1 then Ok true
    else (if n == 2 then Err unsupported_feature else Err wrong_value))
by_frame_of (Some (negsuc n)) = Err wrong_value

-- an entry of a batch, which may lack its id and its type
unfoldable pub entry_of : Json → Result ask.Ask ℕ
entry_of entry = do
  fields ← typed as_obj entry
  id ← text_if_there (codes "requestId") fields
  kind ← text_if_there (codes "requestType") fields
  Ok (record { kind = kind; id = id; body = body_of (present (codes "requestData") fields) })

-- the most entries of a batch
abbrev pub most_entries : ℕ
most_entries = 256

-- the entries of a batch
unfoldable pub entries_of : Object → Result (List ask.Ask) ℕ
entries_of fields = do
  entries ← list_at (codes "requests") fields
  few ← refused_if (nat_lt most_entries (length entries)) wrong_value
  for_each entry_of entries

-- a RequestBatch
unfoldable pub batch_of : Object → Result batch.BatchAsk ℕ
batch_of fields = do
  id ← text_at (codes "requestId") fields
  halt ← truth_if_there (codes "haltOnFailure") fields
  execution ← whole_if_there (codes "executionType") fields
  by_frame ← by_frame_of execution
  asks ← entries_of fields
  Ok (record { id = id; halt = unwrap_or halt false; by_frame = by_frame; asks = asks })

-- a message of its kind
abbrev pub of_kind : Op → Option (List ℕ) → Option ℕ → Object → Result Heard ℕ
of_kind Identify expected mask fields = identify_of expected mask fields
of_kind Reidentify expected mask fields = reidentify_of mask fields
of_kind Request expected mask fields = request_of fields >>= λ ask. Ok (Ask ask)
of_kind RequestBatch expected mask fields = batch_of fields >>= λ batch. Ok (Batch batch)

-- the most bytes of a text
abbrev pub most_bytes : ℕ
most_bytes = 1048576

-- the fields of a message
unfoldable pub message_of : List ℕ → Result Object ℕ
message_of text = do
  value ← or_status not_decoded (json_of text)
  or_status not_decoded (as_obj value)

-- a text
unfoldable pub text_heard : Option (List ℕ) → Option ℕ → List ℕ → Result Heard ℕ
text_heard expected mask text = do
  short ← refused_if (nat_lt most_bytes (length text)) not_decoded
  message ← message_of text
  number ← whole_at (codes "op") message
  fields ← object_at (codes "d") message
  op ← or_status unknown_op (op_of number)
  turn ← in_turn op mask
  of_kind op expected mask fields

-- what a table of faults says of a message
abbrev pub heard_by : Result Heard ℕ → Heard
heard_by (Ok heard) = heard
heard_by (Err code) = Close code

-- THE RULE OF HEARING: what a message comes to, for a connection with this secret, challenge and
-- mask. A binary message is none of obs-websocket 5 in JSON
abbrev pub hear : Option (List ℕ × List ℕ) → List ℕ → Option ℕ → Message → Heard
hear secret challenge mask (Text text) =
    heard_by (text_heard (expected_of secret challenge) mask text)
hear secret challenge mask (Binary bytes) = Close not_decoded
