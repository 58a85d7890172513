-- A request over the parts that the code keeps.
use Rattle.std.proofs.Common.{All, ◌≡◌, ◌∙◌, ℕ, ◌≤◌, List, [], ◌∷◌, ◌++◌, length, map, IsTrue}
use Rattle.std.proofs.Common.{Option, Some, None, is_some, option_map, Result, Ok, Err, refl, sym}
use Rattle.std.proofs.Common.{ap, true, arith, subst}
use Rattle.std.proofs.lemmas.List.{length-map, map-append}
use Rattle.std.proofs.lemmas.List.Elements.{All-nil, All-push}
use Rattle.mix_audience.specs.Acting.{taken_by}
use Rattle.mix_audience.specs.Listeners.{AudienceModel, listener_at}
use Rattle.mix_audience.specs.Listeners.{waiting_for, queued, ended}
use Rattle.mix_events.specs.Sayable.{IsSayableEvent}
use Rattle.mix_events.specs.Sayings.{IsSayable}
use Rattle.mix_events.specs.Statuses.{status_name}
use Rattle.mix_model.specs.declared.ask.Ask.{Ask}
use Rattle.mix_model.specs.declared.ask.Done.{Done}
use Rattle.mix_model.specs.declared.event.Event.{Event}
use Rattle.mix_model.specs.declared.notes.Notes.{Notes}
use Rattle.mix_events.specs.declared.said.Said.{Said}
use Rattle.mix_events.specs.declared.twin.Twin.{Twin}
use Rattle.mix_events.specs.declared.said.Said.TheVariants.{Event as OfEvent, Response}
use Rattle.mix_model.specs.Marks.{marks_of}
use Rattle.mix_model.specs.Sets.{has}
use Rattle.mix_model.specs.State.{StudioState}
use Rattle.mix_model.specs.WholeShape.{StudioShape, conn_numbers}
use Rattle.mix_requests.specs.Effects.{Effect}
use Rattle.mix_requests.specs.Laws.{IsProperIf}
use Rattle.mix_requests.specs.declared.request_type.RequestType.{RequestType}
use Rattle.mix_requests.specs.Table.{type_of}
use Rattle.mix_studio.specs.Studios.{StudioModel}
use Rattle.mix_engine.specs.declared.heading.Heading.TheVariants as heading
use Rattle.mix_engine.specs.declared.step_answer.StepAnswer.{StepAnswer}
use Rattle.mix_engine.specs.Laws.{RequestsAreProper}
use Rattle.mix_engine.specs.Mixings.{IsMixing, Mixed, mixed_of}
use Rattle.mix_engine.specs.Numbers.{NumbersWithin}
use Rattle.mix_engine.specs.Outcomes.{Outcome}
use Rattle.mix_engine.specs.Connections.{Same}
use Rattle.mix_engine.specs.Requests.{DoesAsk, DoesDone, alone, answers, answers_by}
use Rattle.mix_engine.specs.Requests.{line_asked, most_named}
use Rattle.mix_engine.specs.StepAnswers.{Says, Stepped, speech, told_to}
use Rattle.mix_engine.proofs.Growth.{ready_of}
use Rattle.mix_engine.proofs.Shapes.{IsFit, LeftBy, found_as, kept_fit}
use Rattle.mix_engine.proofs.Shapes.{numbers_same, parts_left}
use Rattle.mix_engine.proofs.Stepping.{IsBare, stepped, told_own}

-- ---- what was done

answerable : (done : Done) → IsSayable (Response done) → All IsSayable (Response done ∷ [])
answerable done is = All-push IsSayable [] (Response done) (All-nil IsSayable) is

-- what a request of an open connection comes to, and the line that it has
pub record Asked (m : Mixed) (conn : ℕ) (ask : Ask) (done : Done) (studio : StudioState)
    (notes : Notes) (told : List Event) : Type 0 where
  pub line : Result Effect ℕ
  pub here : line_asked m.mixer.studio m.mixer.notes (alone conn) ask ≡ Some line
  pub done_is : (answers_by m.mixer conn ask (Some line)).said ≡ Response done ∷ []
  pub studio_is : studio ≡ (answers_by m.mixer conn ask (Some line)).studio
  pub notes_are : notes ≡ (answers_by m.mixer conn ask (Some line)).notes
  pub told_are : told ≡ (answers_by m.mixer conn ask (Some line)).events
  pub same : (answers_by m.mixer conn ask (Some line)).attendance ≡ Same
  pub next_is : (answers_by m.mixer conn ask (Some line)).next_conn ≡ m.mixer.next_conn
  pub plain : (answers_by m.mixer conn ask (Some line)).heading ≡ heading.Told conn
  pub few : length told ≤ most_named (option_map type_of ask.kind)
  pub fit : StudioShape studio → IsFit m.mixer (answers_by m.mixer conn ask (Some line))

module _ (m : Mixed) (mixing : IsMixing m) (conn : ℕ) (ask : Ask)
    (there : is_some (listener_at conn m.listeners) ≡ true) (id : IsTrue (is_some ask.id)) where
  conn_open : has conn (conn_numbers m.mixer.conns) ≡ true
  conn_open = subst (λ ids. has conn ids ≡ true)
      (sym (ap conn_numbers mixing.conns ∙ numbers_same m.listeners))
      (sym (found_as conn m.listeners) ∙ there)

  -- whatever line it has
  pub did : (found : Option (Result Effect ℕ)) (done : Done) (studio : StudioModel)
      (notes : Notes) (told : List Event) (before : StudioModel) →
      before.present ≡ m.mixer.studio →
      IsProperIf m.mixer.studio m.mixer.notes (alone conn)
      (most_named (option_map type_of ask.kind)) found →
      DoesDone done before studio m.mixer.notes notes told ask found →
      line_asked m.mixer.studio m.mixer.notes (alone conn) ask ≡ found →
      Asked m conn ask done studio.present notes told
  unfolding status_name
  did None done studio notes told before same proper does here = absurd does
  did (Some (Err status)) done studio notes told before same proper does here = record {
    line = Err status;
    here = here;
    done_is = ap (λ d. Response d ∷ []) (sym does.0);
    studio_is = does.1 ∙ same;
    notes_are = does.2;
    told_are = does.3;
    same = refl;
    next_is = refl;
    plain = refl;
    few = rw does.3 (omega arith);
    fit = λ shape. kept_fit mixing.shape (answers_by m.mixer conn ask (Some (Err status)))
        mixing.shape.studio refl tt tt (All-nil IsSayableEvent) (answerable _ (id, (proper, tt)))
        refl refl refl;
  }
  did (Some (Ok effect)) done studio notes told before same proper does here = record {
    line = Ok effect;
    here = here;
    done_is = ap (λ d. Response d ∷ []) (sym does.0);
    studio_is = does.1;
    notes_are = does.2;
    told_are = does.3;
    same = refl;
    next_is = refl;
    plain = refl;
    few = subst (λ es. length es ≤ most_named (option_map type_of ask.kind)) (sym does.3) proper.few;
    fit = λ shape. record {
      studio = subst StudioShape does.1 shape;
      attends = refl;
      deaf = tt;
      sayable = proper.events;
      said = answerable _ (id, (refl, proper.answer));
      holds = proper.noted.holds;
      watches = proper.noted.watches;
      holds_open = proper.noted.holds_open (conn_numbers m.mixer.conns) conn_open
          mixing.shape.holds_open;
      watches_open = proper.noted.watches_open (conn_numbers m.mixer.conns) conn_open
          mixing.shape.watches_open;
    };
  }

-- ---- a request, by what its line left

-- so with what the code found
pub asked_done : {m : Mixed} (mixing : IsMixing m) → RequestsAreProper →
    NumbersWithin 4294967294 m.mixer → (conn : ℕ) (ask : Ask) →
    is_some (listener_at conn m.listeners) ≡ true → IsTrue (is_some ask.id) → (done : Done)
    (before after : StudioModel) (notes : Notes) (told : List Event) →
    before ≡ record { begun = marks_of m.mixer.studio.graph; present = m.mixer.studio } →
    {found : Option Done} → found ≡ Some done →
    DoesAsk (Ok found) before after m.mixer.notes notes told ask
    (line_asked before.present m.mixer.notes (alone conn) ask) →
    Asked m conn ask done after.present notes told
asked_done {m} mixing proper numbers conn ask there id done before after notes told begun is does =
    let start : StudioModel =
    record { begun = marks_of m.mixer.studio.graph; present = m.mixer.studio } in
    did m mixing conn ask there id (line_asked m.mixer.studio m.mixer.notes (alone conn) ask)
    done after notes told start refl (proper start m.mixer.notes (alone conn) ask.body
    (option_map type_of ask.kind) (ready_of m.mixer mixing.shape numbers))
    (rw (is, begun) at does) refl

-- there are no more events than their room
pub asked_few : {m : Mixed} {conn : ℕ} {ask : Ask} {done : Done} {studio : StudioState}
    {notes : Notes} {told : List Event} → Asked m conn ask done studio notes told →
    (twins : List Twin) {n most : ℕ} {request : Option RequestType} → n ≡ length twins →
    map (λ (t : Twin). t.queued) twins ≡ told → most ≡ most_named request →
    request ≡ option_map type_of ask.kind → n ≤ most
asked_few done twins is same room named =
    let as_many = length-map twins (λ (t : Twin). t.queued) in
    let few = done.few in
    rw (room, named, is, ← as_many, same) few

-- ---- what is answered and left

module _ {m : Mixed} (mixing : IsMixing m) {conn : ℕ} {ask : Ask} {done : Done}
    {studio : StudioState} {notes : Notes} {told : List Event}
    (is : Asked m conn ask done studio notes told) where
  abbrev o : Outcome
  o = answers_by m.mixer conn ask (Some is.line)

  pub asked_left : StudioShape studio → (a : AudienceModel) → a.secret ≡ m.mixer.secret →
      a.listeners ≡ map (ended (Some conn)) (map (queued (Some conn) told) m.listeners) →
      LeftBy m o (mixed_of studio notes a m.mixer.next_conn)
  asked_left shape a knows heard =
      let own = rw is.told_are at heard in
      parts_left mixing o (is.fit shape) a is.studio_is is.notes_are (sym is.next_is) knows
      (rw (own, is.plain, is.same) refl)

  pub asked_steps : {new : Mixed} → LeftBy m o new → (answer : StepAnswer) (items : List Said) →
      Says answer (heading.Told conn) items → items ≡ (map OfEvent (waiting_for conn m.listeners)
      ++ map OfEvent (taken_by conn m.listeners told)) ++ Response done ∷ [] →
      Stepped m new answer (answers m.mixer conn ask)
  asked_steps {new} left answer items says tells =
      let own = rw is.told_are at tells in
      let spoken : items ≡ told_to conn m o = rw (
        own,
        told_own m conn o mixing.listeners,
        is.done_is,
        map-append OfEvent (waiting_for conn m.listeners) (taken_by conn m.listeners o.events),
      ) refl in
      subst (λ l. Stepped m new answer (answers_by m.mixer conn ask l)) (sym is.here)
      (stepped mixing left answer (subst IsBare (sym is.plain) tt) items
      (subst (λ h. Says answer h items) (sym is.plain) says)
      (spoken ∙ ap (λ h. speech h m o) (sym is.plain)))
