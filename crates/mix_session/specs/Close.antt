-- The codes with which a message closes the connection, as obs-websocket 5 numbers them.
use Rattle.std.specs.Prelude.{ℕ}

-- MessageDecodeError: the message is no text of a JSON object
abbrev pub not_decoded : ℕ
not_decoded = 4002

-- MissingDataField: a field that is needed isn't there
abbrev pub missing_field : ℕ
missing_field = 4003

-- InvalidDataFieldType: a field is of another type
abbrev pub wrong_type : ℕ
wrong_type = 4004

-- InvalidDataFieldValue: a field's value is outside its range
abbrev pub wrong_value : ℕ
wrong_value = 4005

-- UnknownOpCode: no client sends messages of this op
abbrev pub unknown_op : ℕ
unknown_op = 4006

-- NotIdentified: the connection has to identify itself first
abbrev pub not_identified : ℕ
not_identified = 4007

-- AlreadyIdentified: the connection has identified itself before
abbrev pub already_identified : ℕ
already_identified = 4008

-- AuthenticationFailed: there is a secret, and the connection doesn't show that it knows it
abbrev pub login_failed : ℕ
login_failed = 4009

-- UnsupportedRpcVersion: the connection asks for another version of the protocol
abbrev pub unsupported_version : ℕ
unsupported_version = 4010

-- UnsupportedFeature: a batch asks to be run in parallel
abbrev pub unsupported_feature : ℕ
unsupported_feature = 4012
