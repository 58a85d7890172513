-- What holds of whatever an action comes to; so who comes, goes, or is identified is the one whose
-- entry it is.
use Rattle.std.proofs.Common.{◌≡◌, ℕ, true, false, cond, List, [], length, Option}
use Rattle.std.proofs.Common.{Some, None, Result, Ok, Err, refl}
use Rattle.std.specs.Prelude.{nat_lt}
use Rattle.std.proofs.lemmas.Bool.{eq-eqb}
use Rattle.mix_base.specs.Limits.{standard}
use Rattle.mix_events.specs.declared.said.Said.{Said}
use Rattle.mix_fanout.specs.Lanes.{is_but}
use Rattle.mix_model.specs.declared.action.Action.{Action}
use Rattle.mix_model.specs.declared.action.Action.TheVariants.{Arrive, Hear, Poll, BatchNext, Leave}
use Rattle.mix_model.specs.declared.action.Action.TheVariants.{VideoTick, AudioTick, FrameDone}
use Rattle.mix_model.specs.declared.action.Action.TheVariants.{Destroy}
use Rattle.mix_model.specs.declared.ask.Ask.{Ask as Asked}
use Rattle.mix_model.specs.Studio.{has_room}
use Rattle.mix_requests.specs.Effects.{Effect}
use Rattle.mix_session.specs.declared.heard.Heard.{Heard}
use Rattle.mix_session.specs.declared.heard.Heard.TheVariants.{Say, Ask, Batch, Close}
use Rattle.mix_session.specs.Hear.{hear}
use Rattle.mix_session.specs.SessionState.{hello}
use Rattle.mix_engine.specs.declared.heading.Heading.{Heading}
use Rattle.mix_engine.specs.declared.heading.Heading.TheVariants as heading
use Rattle.mix_engine.specs.Connections as att
use Rattle.mix_engine.specs.Connections.{Attendance, conn_at, first_due}
use Rattle.mix_engine.specs.Headings.{actor_of}
use Rattle.mix_engine.specs.Leaving.{goes}
use Rattle.mix_engine.specs.Mixer.{Mixer, Connection}
use Rattle.mix_engine.specs.Outcomes.{Outcome, only, unbuilt, joins, identifies}
use Rattle.mix_engine.specs.Requests.{alone, answers, answers_by, line_asked}
use Rattle.mix_engine.specs.Step.{acting, goes_on, heard_from, is_deaf, outcome, takes_frame}
use Rattle.mix_engine.specs.Step.{gives_back, is_in_flight}

-- what actions come to
pub record OfEach (P : Outcome → Type 0) (s : Mixer) : Type 0 where
  pub stands : (reply : Heading) (said : List Said) → P (only s reply said)
  pub comes : (challenge : List ℕ) (said : Said) → P (joins s challenge said)
  pub enters : (conn mask : ℕ) (said : Said) → P (identifies s conn mask said)
  pub leaves : (conn : ℕ) → P (goes s conn (heading.Left conn))
  pub closed : (conn code : ℕ) → P (goes s conn (heading.Closed conn code))
  pub asks : (conn : ℕ) (ask : Asked) → P (answers s conn ask)
  pub takes : P (takes_frame s)
  pub gives : (number : ℕ) → P (gives_back s number)

module _ (P : Outcome → Type 0) (s : Mixer) (each : OfEach P s) where
  of_acting : (conn : ℕ) (c : Option Connection) (act : Connection → Outcome) →
      ((c : Connection) → P (act c)) → P (acting s conn c act)
  of_acting conn None act acts = each.stands (heading.Gone conn) []
  of_acting conn (Some c) act acts = elim c.cut
      as (λ b. P (cond b (goes s conn (heading.Closed conn 4011)) (act c)))
      [ true ↦ each.closed conn 4011 | false ↦ acts c ]

  of_heard : (conn : ℕ) (heard : Heard) → P (heard_from s conn heard)
  of_heard conn (Say said mask) = elim (is_deaf mask)
      as (λ b. P (cond b (identifies s conn mask said) (unbuilt s)))
      [ true ↦ each.enters conn mask said | false ↦ each.stands heading.NotBuilt [] ]
  of_heard conn (Ask ask) = each.asks conn ask
  of_heard conn (Batch ask) = each.stands heading.NotBuilt []
  of_heard conn (Close code) = each.closed conn code

  of_next : (conn : ℕ) (c : Connection) → P (goes_on s conn c)
  of_next conn c = elim (first_due s.studio.graph.clock c.batches)
      as (λ b. P (cond b (unbuilt s) (only s (heading.Told conn) [])))
      [ true ↦ each.stands heading.NotBuilt [] | false ↦ each.stands (heading.Told conn) [] ]

  pub of_outcome : (action : Action) → P (outcome s action)
  of_outcome (Arrive challenge) = elim (nat_lt (length s.conns) standard.conns)
      as (λ b. P (cond b (joins s challenge (hello s.secret challenge)) (only s heading.Full [])))
      [ true ↦ each.comes challenge (hello s.secret challenge) | false ↦ each.stands heading.Full [] ]
  of_outcome (Hear conn message) = of_acting conn (conn_at conn s.conns) _
      (λ c. of_heard conn (hear s.secret c.challenge c.mask message))
  of_outcome (Poll conn) =
      of_acting conn (conn_at conn s.conns) _ (λ c. each.stands (heading.Told conn) [])
  of_outcome (BatchNext conn) = of_acting conn (conn_at conn s.conns) _ (of_next conn)
  of_outcome (Leave conn) = of_acting conn (conn_at conn s.conns) _ (λ c. each.leaves conn)
  of_outcome VideoTick = elim (has_room s.studio)
      as (λ b. P (cond b (takes_frame s) (only s heading.NoFrame [])))
      [ true ↦ each.takes | false ↦ each.stands heading.NoFrame [] ]
  of_outcome AudioTick = each.stands heading.NotBuilt []
  of_outcome (FrameDone number) = elim (is_in_flight number s.studio.graph)
      as (λ b. P (cond b (gives_back s number) (only s heading.NoSuchFrame [])))
      [ true ↦ each.gives number | false ↦ each.stands heading.NoSuchFrame [] ]
  of_outcome Destroy = each.stands heading.NotBuilt []

-- the connection that an attendance speaks of is the one that acts
abbrev pub IsOfActor : Attendance → Option ℕ → Type 0
IsOfActor att.Same actor = Unit {0}
IsOfActor (att.Joins conn challenge) actor = is_but actor conn ≡ true
IsOfActor (att.Identifies conn mask) actor = is_but actor conn ≡ true
IsOfActor (att.Leaves conn) actor = is_but actor conn ≡ true
IsOfActor (att.Pends conn batches) actor = is_but actor conn ≡ true

-- every action changes no connection but the one that acts
pub outcome_acts : (s : Mixer) (action : Action) →
    IsOfActor (outcome s action).attendance (actor_of (outcome s action).heading)
outcome_acts s = of_outcome (λ o. IsOfActor o.attendance (actor_of o.heading)) s (record {
  stands = λ reply said. tt;
  comes = λ challenge said. eq-eqb s.next_conn s.next_conn refl;
  enters = λ conn mask said. eq-eqb conn conn refl;
  leaves = λ conn. eq-eqb conn conn refl;
  closed = λ conn code. eq-eqb conn conn refl;
  asks = λ conn ask. by_line conn ask (line_asked s.studio s.notes (alone conn) ask);
  takes = tt;
  gives = λ number. tt;
})
  where
    by_line : (conn : ℕ) (ask : Asked) (line : Option (Result Effect ℕ)) → IsOfActor
        (answers_by s conn ask line).attendance (actor_of (answers_by s conn ask line).heading)
    by_line conn ask None = tt
    by_line conn ask (Some (Err status)) = tt
    by_line conn ask (Some (Ok effect)) = tt
