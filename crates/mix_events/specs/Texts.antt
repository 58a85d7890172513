-- The messages of obs-websocket 5 that are said to a connection, as JSON trees.
use Rattle.std.specs.Prelude.{ℕ, List, [], ◌∷◌, ◌++◌, ◌==◌, map, codes}
use Rattle.std.specs.Prelude.{Option, Some, None, unwrap_or, if◌then◌else◌}
use Rattle.base64.specs.Engines.{standard}
use Rattle.base64.specs.GeneralPurpose.{encode_of}
use Rattle.mix_base.specs.declared.json.Json.{Json}
use Rattle.mix_base.specs.declared.json.Json.TheVariants as json
use Rattle.mix_model.specs.declared.ask.Done.{Done}
use Rattle.mix_events.specs.declared.said.Login.{Login}
use Rattle.mix_events.specs.declared.said.Said.{Said}
use Rattle.mix_events.specs.declared.said.Said.TheVariants as said
use Rattle.mix_model.specs.Texts.{rpc_version, version_text}
use Rattle.mix_json.specs.Trees.{obj_of}
use Rattle.mix_json.specs.Writing.{json_text}
use Rattle.mix_events.specs.Messages.{message_json}
use Rattle.mix_events.specs.Trees.{Field, flag, number, object, text, value}
use Rattle.mix_events.specs.Statuses.{status_name}
use Rattle.mix_events.specs.Events.{event_fields}

-- what is needed to log in: the challenge and the salt, each in base64 (RFC 4648)
unfoldable pub login_fields : Login → List Field
login_fields login =
    text (codes "challenge") (encode_of standard login.challenge)
    ∷ text (codes "salt") (encode_of standard login.salt)
    ∷ []

-- `authentication`, where there is a secret
abbrev pub authentication : Option Login → List Field
authentication None = []
authentication (Some login) = object (codes "authentication") (login_fields login) ∷ []

-- what a connection is greeted with: the versions, and what is needed to log in
unfoldable pub hello_fields : Option Login → List Field
hello_fields login =
    authentication login
    ++ text (codes "obsWebSocketVersion") version_text
    ∷ number (codes "rpcVersion") rpc_version
    ∷ []

-- the connection is identified
unfoldable pub identified_fields : List Field
identified_fields = number (codes "negotiatedRpcVersion") rpc_version ∷ []

-- `comment`, the name of a status other than success
abbrev pub comment : ℕ → List Field
comment code = if code == 100 then []
    else text (codes "comment") (unwrap_or (status_name code) []) ∷ []

-- `requestStatus`: the number, and whether it is success
unfoldable pub status_fields : ℕ → List Field
status_fields code =
    number (codes "code") code ∷ comment code ++ flag (codes "result") (code == 100) ∷ []

-- `requestId`, where the request had one
abbrev pub request_id : Option (List ℕ) → List Field
request_id None = []
request_id (Some id) = text (codes "requestId") id ∷ []

-- `responseData`, where there is an answer
abbrev pub response_data : Option Json → List Field
response_data None = []
response_data (Some answer) = value (codes "responseData") answer ∷ []

-- what was done about a request
unfoldable pub done_fields : Done → List Field
done_fields done =
    request_id done.id
    ++ object (codes "requestStatus") (status_fields done.status)
    ∷ text (codes "requestType") done.kind
    ∷ response_data done.response

-- what was done about a request of a batch
abbrev pub done_json : Done → Json
done_json done = json.Obj (obj_of (done_fields done))

-- what was done about the requests of a batch, in their order
unfoldable pub batch_fields : List ℕ → List Done → List Field
batch_fields id results =
    text (codes "requestId") id
    ∷ value (codes "results") (json.List (map done_json results))
    ∷ []

-- the number of the message
abbrev pub op_of : Said → ℕ
op_of (said.Hello login) = 0
op_of said.Identified = 2
op_of (said.Event event) = 5
op_of (said.Response done) = 7
op_of (said.BatchResponse id results) = 9

-- the fields of the message
abbrev pub fields_of : Said → List Field
fields_of (said.Hello login) = hello_fields login
fields_of said.Identified = identified_fields
fields_of (said.Event event) = event_fields event
fields_of (said.Response done) = done_fields done
fields_of (said.BatchResponse id results) = batch_fields id results

-- what is said, as a message
abbrev pub said_json : Said → Json
said_json said = message_json (op_of said) (fields_of said)

-- what is said, as a text: compact JSON, the keys of its objects in byte order
abbrev pub said_text : Said → List ℕ
said_text said = json_text (said_json said)
