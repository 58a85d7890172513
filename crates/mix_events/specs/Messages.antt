-- The form of every message, and the message of an event.
use Rattle.std.specs.Prelude.{ℕ, List, [], ◌∷◌, codes}
use Rattle.mix_base.specs.declared.json.Json.{Json}
use Rattle.mix_base.specs.declared.json.Json.TheVariants as json
use Rattle.mix_model.specs.declared.event.Event.{Event}
use Rattle.mix_json.specs.Trees.{obj_of}
use Rattle.mix_json.specs.Writing.{json_text}
use Rattle.mix_events.specs.Events.{event_fields}
use Rattle.mix_events.specs.Trees.{Field, number, object}

-- a message: its fields stand at `d`, and its number at `op`
abbrev pub message_json : ℕ → List Field → Json
message_json op fields = json.Obj (obj_of (object (codes "d") fields ∷ number (codes "op") op ∷ []))

-- the text of the message of an event: compact JSON, the keys of its objects in byte order
abbrev pub event_text : Event → List ℕ
event_text event = json_text (message_json 5 (event_fields event))
