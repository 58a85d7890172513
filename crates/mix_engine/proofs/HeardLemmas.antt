-- What was heard: it can be said again, and is done as the outcome of the message says.
use Rattle.std.proofs.Common.{◌≡◌, ◌∙◌, ℕ, List, length, IsTrue, is_some, refl, codes, not, ap, subst}
use Rattle.std.proofs.Common.{nat_lt, option_map, Option, Some, None, Result, Ok, Err}
use Rattle.mix_audience.specs.Listeners.{Listener, listener_at}
use Rattle.mix_base.specs.declared.no_memory.NoMemory.{NoMemory}
use Rattle.mix_base.specs.Json.{Object}
use Rattle.mix_json.specs.Fields.{◌>>=◌, refused_if, or_status}
use Rattle.mix_model.specs.declared.ask.Ask as ask
use Rattle.mix_model.specs.declared.message.Message.{Message}
use Rattle.mix_model.specs.declared.message.Message.TheVariants.{Text, Binary}
use Rattle.mix_session.specs.declared.op.Op.{Op}
use Rattle.mix_session.specs.declared.op.Op.TheVariants.{Identify, Reidentify}
use Rattle.mix_session.specs.declared.op.Op.TheVariants.{Request, RequestBatch}
use Rattle.mix_session.specs.declared.heard.Heard.{Heard}
use Rattle.mix_session.specs.declared.heard.Heard.TheVariants.{Ask}
use Rattle.mix_session.specs.Hear.{hear, heard_by, text_heard, of_kind, expected_of}
use Rattle.mix_session.specs.Hear.{identify_of, reidentify_of, request_of, batch_of, events_of}
use Rattle.mix_session.specs.Hear.{logs_in, is_version, message_of, most_bytes}
use Rattle.mix_session.specs.Fields.{whole_at, text_at, object_at}
use Rattle.mix_session.specs.Close.{unsupported_version, not_decoded, unknown_op}
use Rattle.mix_session.specs.Op.{op_of, in_turn}
use Rattle.mix_engine.specs.declared.step_answer.StepAnswer.{StepAnswer}
use Rattle.mix_engine.specs.Connections.{conn_at}
use Rattle.mix_engine.specs.Mixings.{IsMixing, Mixed}
use Rattle.mix_engine.specs.Step.{acting, heard_from}
use Rattle.mix_engine.specs.StepAnswers.{IsOpen, IsPlain, Steps}
use Rattle.mix_engine.proofs.Stepping.{open_steps}

-- ---- at once only Identified is said, and a request has an id

-- where there is no fault
abbrev IfNoFault : {A : Type 0} → (A → Type 0) → Result A ℕ → Type 0
IfNoFault P (Ok x) = P x
IfNoFault P (Err code) = Unit {0}

-- so it is after a step, where it is so of all that the step may give
next : {A B : Type 0} (P : B → Type 0) (r : Result A ℕ) (rest : A → Result B ℕ) →
    ((x : A) → IfNoFault P (rest x)) → IfNoFault P (r >>= rest)
next P (Ok x) rest each = each x
next P (Err code) rest each = tt

-- each kind of message
identify_has : (expected : Option (List ℕ)) (mask : Option ℕ) (fields : Object) →
    IfNoFault IsPlain (identify_of expected mask fields)
unfolding identify_of
identify_has expected mask fields = next IsPlain (whole_at (codes "rpcVersion") fields) _
    (λ version. next IsPlain (refused_if (not (is_version version)) unsupported_version) _
    (λ known. next IsPlain (events_of mask fields) _
    (λ events. next IsPlain (logs_in expected fields) _ (λ entry. refl))))

reidentify_has : (mask : Option ℕ) (fields : Object) → IfNoFault IsPlain (reidentify_of mask fields)
unfolding reidentify_of
reidentify_has mask fields = next IsPlain (events_of mask fields) _ (λ events. refl)

-- a request has an id
abbrev AskHasId : ask.Ask → Type 0
AskHasId a = IsTrue (is_some a.id)

request_has : (fields : Object) → IfNoFault AskHasId (request_of fields)
unfolding request_of
request_has fields = next AskHasId (text_at (codes "requestId") fields) _
    (λ id. next AskHasId (text_at (codes "requestType") fields) _ (λ kind. refl))

asked : (r : Result ask.Ask ℕ) → IfNoFault AskHasId r →
    IfNoFault IsPlain (r >>= λ a. Ok (Ask a))
asked (Ok a) has = has
asked (Err code) has = tt

kind_has : (op : Op) (expected : Option (List ℕ)) (mask : Option ℕ) (fields : Object) →
    IfNoFault IsPlain (of_kind op expected mask fields)
kind_has Identify expected mask fields = identify_has expected mask fields
kind_has Reidentify expected mask fields = reidentify_has mask fields
kind_has Request expected mask fields = asked (request_of fields) (request_has fields)
kind_has RequestBatch expected mask fields = next IsPlain (batch_of fields) _ (λ batch. tt)

text_has : (expected : Option (List ℕ)) (mask : Option ℕ) (text : List ℕ) →
    IfNoFault IsPlain (text_heard expected mask text)
unfolding text_heard
text_has expected mask text =
    next IsPlain (refused_if (nat_lt most_bytes (length text)) not_decoded) _ (λ short.
    next IsPlain (message_of text) _ (λ message.
    next IsPlain (whole_at (codes "op") message) _ (λ number.
    next IsPlain (object_at (codes "d") message) _ (λ fields.
    next IsPlain (or_status unknown_op (op_of number)) _ (λ op.
    next IsPlain (in_turn op mask) _ (λ turn. kind_has op expected mask fields))))))

by_has : (r : Result Heard ℕ) → IfNoFault IsPlain r → IsPlain (heard_by r)
by_has (Ok heard) has = has
by_has (Err code) has = tt

-- whatever a message comes to is plain
pub hears_plainly : (secret : Option (List ℕ × List ℕ)) (challenge : List ℕ) (mask : Option ℕ)
    (message : Message) → IsPlain (hear secret challenge mask message)
hears_plainly secret challenge mask (Text text) =
    by_has (text_heard (expected_of secret challenge) mask text)
    (text_has (expected_of secret challenge) mask text)
hears_plainly secret challenge mask (Binary bytes) = tt

-- so is what an open connection says
pub plain_heard : (secret : Option (List ℕ × List ℕ)) (message : Message)
    (found : Option Listener) (heard : Heard) →
    Some heard ≡ option_map (λ (l : Listener). hear secret l.challenge l.mask message) found →
    IsPlain heard
plain_heard secret message None heard is = cc
plain_heard secret message (Some l) heard is =
    let same : hear secret l.challenge l.mask message ≡ heard = cc in
    subst IsPlain same (hears_plainly secret l.challenge l.mask message)

-- ---- what an open connection said is done

pub heard_steps : {before m : Mixed} → IsMixing before → before ≡ m → (conn : ℕ)
    (message : Message) (heard : Heard) (result : Result StepAnswer NoMemory) (new : Mixed) →
    IsOpen m conn → Some heard ≡ option_map
    (λ (l : Listener). hear before.mixer.secret l.challenge l.mask message)
    (listener_at conn before.listeners) →
    Steps result before new (heard_from before.mixer conn heard) →
    Steps result m new (acting m.mixer conn (conn_at conn m.mixer.conns)
    (λ c. heard_from m.mixer conn (hear m.mixer.secret c.challenge c.mask message)))
heard_steps {before} {m} sound seen conn message heard result new there is steps =
    let said : Some heard ≡ Some (hear m.mixer.secret there.one.challenge there.one.mask message)
    = is ∙ ap (λ (k : Mixed). option_map
    (λ (l : Listener). hear k.mixer.secret l.challenge l.mask message)
    (listener_at conn k.listeners)) seen ∙ ap (option_map
    (λ (l : Listener). hear m.mixer.secret l.challenge l.mask message)) there.found in
    let same : heard ≡ hear m.mixer.secret there.one.challenge there.one.mask message = cc in
    open_steps (subst IsMixing seen sound) conn result new
    (λ c. heard_from m.mixer conn (hear m.mixer.secret c.challenge c.mask message)) there
    (subst (λ h. Steps result m new (heard_from m.mixer conn h)) same
    (subst (λ (k : Mixed). Steps result k new (heard_from k.mixer conn heard)) seen steps))
