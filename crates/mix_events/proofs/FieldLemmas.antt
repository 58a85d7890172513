-- Objects that stand within others: opened, filled with their fields, whose keys rise, and closed.
use Rattle.std.proofs.Common.{◌≡◌, ℕ, List, [], ◌∷◌, ◌++◌, Bool, true, false, codes, refl, sym, ap, ◌∙◌, Option, Some, None, unwrap_or, ◌==◌, if◌then◌else◌}
use Rattle.mix_base.specs.declared.json.Json.{Json}
use Rattle.mix_base.specs.declared.json.Json as json
use Rattle.mix_model.specs.declared.ask.Done.{Done}
use Rattle.mix_model.specs.declared.place.Place.{Place}
use Rattle.mix_events.specs.declared.said.Login.{Login}
use Rattle.mix_json.specs.Trees.{obj_of}
use Rattle.mix_json.specs.Growing.{Grown, after_key, are_rising, close_object, more_field, more_fields, more_item, open_object}
use Rattle.mix_json.proofs.TextLemmas.{closed_object, more_fields_append, object_under}
use Rattle.mix_events.specs.InputEvents.{track_fields}
use Rattle.mix_events.specs.ItemEvents.{index_fields, indexed_item, transform_fields}
use Rattle.mix_events.specs.Statuses.{status_name}
use Rattle.mix_events.specs.Texts.{done_fields, done_json, login_fields, request_id, response_data, status_fields}
use Rattle.mix_events.specs.Trees.{Field, flag, number, text}

-- step by step: a key, an object opened, filled and closed under it
pub nested : (key : List ℕ) (fields : List Field) (before : Grown) {keyed opened filled closed : Grown} → are_rising fields ≡ true
    → keyed ≡ after_key key before → opened ≡ open_object keyed → filled ≡ more_fields fields opened → closed ≡ close_object filled
    → closed ≡ more_field key (json.Obj (obj_of fields)) before
nested key fields before rising a b c d =
    d ∙ ap close_object (c ∙ ap (more_fields fields) (b ∙ ap open_object a)) ∙ object_under key fields before rising

-- step by step: some fields, and then one more
pub then_one : (fields : List Field) (key : List ℕ) (value : Json) (before : Grown) {filled last : Grown}
    → filled ≡ more_fields fields before → last ≡ more_field key value filled
    → last ≡ more_fields (fields ++ (key, value) ∷ []) before
then_one fields key value before a b =
    b ∙ ap (more_field key value) a ∙ sym (more_fields_append fields ((key, value) ∷ []) before)

pub tracks_rise : (tracks : ℕ) → are_rising (track_fields tracks) ≡ true
unfolding track_fields
tracks_rise tracks = refl

pub index_closed : (item index : ℕ) (before : Grown) →
    close_object (more_fields (index_fields item index) (open_object before)) ≡ more_item (indexed_item item index) before
unfolding index_fields
index_closed item index before = closed_object (index_fields item index) before refl

pub transform_rises : (place : Place) (width height : ℕ) → are_rising (transform_fields place width height) ≡ true
unfolding transform_fields
transform_rises place width height = refl

pub login_rises : (login : Login) → are_rising (login_fields login) ≡ true
unfolding login_fields
login_rises login = refl

-- with a comment, or without one
commented : (code : ℕ) (truth success : Bool) (name : List ℕ) →
    are_rising (number (codes "code") code ∷ (if success then [] else text (codes "comment") name ∷ []) ++ flag (codes "result") truth ∷ []) ≡ true
commented code truth true name = refl
commented code truth false name = refl

pub status_rises : (code : ℕ) → are_rising (status_fields code) ≡ true
unfolding status_fields
status_rises code = commented code (code == 100) (code == 100) (unwrap_or (status_name code) [])

-- with an id and an answer, or without
answered : (id : Option (List ℕ)) (status : Json) (kind : List ℕ) (answer : Option Json) →
    are_rising (request_id id ++ (codes "requestStatus", status) ∷ text (codes "requestType") kind ∷ response_data answer) ≡ true
answered None status kind None = refl
answered None status kind (Some answer) = refl
answered (Some id) status kind None = refl
answered (Some id) status kind (Some answer) = refl

pub done_rises : (done : Done) → are_rising (done_fields done) ≡ true
unfolding done_fields
done_rises done = answered done.id (json.Obj (obj_of (status_fields done.status))) done.kind done.response

pub done_closed : (done : Done) (before : Grown) →
    close_object (more_fields (done_fields done) (open_object before)) ≡ more_item (done_json done) before
done_closed done before = closed_object (done_fields done) before (done_rises done)
