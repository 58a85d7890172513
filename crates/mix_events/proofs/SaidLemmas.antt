-- The whole of a message: the keys of its fields rise, and so do `d` and `op`.
use Rattle.std.proofs.Common.{◌≡◌, ◌∷◌, [], true, codes, refl, Option, Some, None}
use Rattle.mix_base.specs.declared.json.Json as json
use Rattle.mix_events.specs.declared.said.Login.{Login}
use Rattle.mix_events.specs.declared.said.Said.{Said}
use Rattle.mix_events.specs.declared.said.Said.TheVariants as said
use Rattle.mix_json.specs.Trees.{obj_of}
use Rattle.mix_json.specs.Growing.{Grown, after_key, are_rising, close_object, more_field, more_fields, more_item, open_object}
use Rattle.mix_json.proofs.TextLemmas.{closed_object, object_under}
use Rattle.mix_model.specs.declared.event.Event.{Event}
use Rattle.mix_events.specs.Events.{event_fields}
use Rattle.mix_events.specs.Messages.{message_json}
use Rattle.mix_events.specs.Texts.{batch_fields, fields_of, hello_fields, identified_fields, op_of, said_json}
use Rattle.mix_events.specs.Trees.{number, object}
use Rattle.mix_events.proofs.FieldLemmas.{done_rises}

-- with a login, or without one
greeted : (login : Option Login) → are_rising (hello_fields login) ≡ true
unfolding hello_fields
greeted None = refl
greeted (Some login) = refl

fields_rise : (message : Said) → are_rising (fields_of message) ≡ true
unfolding identified_fields event_fields batch_fields
fields_rise (said.Hello login) = greeted login
fields_rise said.Identified = refl
fields_rise (said.Event event) = refl
fields_rise (said.Response done) = done_rises done
fields_rise (said.BatchResponse id results) = refl

pub fields_under : (message : Said) (before : Grown) →
    close_object (more_fields (fields_of message) (open_object (after_key (codes "d") before)))
    ≡ more_field (codes "d") (json.Obj (obj_of (fields_of message))) before
fields_under message before = object_under (codes "d") (fields_of message) before (fields_rise message)

pub message_closed : (message : Said) (before : Grown) →
    close_object (more_fields (object (codes "d") (fields_of message) ∷ number (codes "op") (op_of message) ∷ []) (open_object before))
    ≡ more_item (said_json message) before
message_closed message before = closed_object (object (codes "d") (fields_of message) ∷ number (codes "op") (op_of message) ∷ []) before refl

event_rises : (event : Event) → are_rising (event_fields event) ≡ true
unfolding event_fields
event_rises event = refl

pub event_under : (event : Event) (before : Grown) →
    close_object (more_fields (event_fields event) (open_object (after_key (codes "d") before)))
    ≡ more_field (codes "d") (json.Obj (obj_of (event_fields event))) before
event_under event before = object_under (codes "d") (event_fields event) before (event_rises event)

pub event_closed : (event : Event) (before : Grown) →
    close_object (more_fields (object (codes "d") (event_fields event) ∷ number (codes "op") 5 ∷ []) (open_object before))
    ≡ more_item (message_json 5 (event_fields event)) before
event_closed event before = closed_object (object (codes "d") (event_fields event) ∷ number (codes "op") 5 ∷ []) before refl
