-- A frame that is taken, and one that is given back.
use Rattle.std.proofs.Common.{◌≡◌, ◌∙◌, ℕ, ◌≤◌, Bool, true, false, cond, List, [], map, All}
use Rattle.std.proofs.Common.{Option, Some, None, refl, sym, ap, subst, length, arith}
use Rattle.std.proofs.lemmas.List.{length-map}
use Rattle.std.proofs.lemmas.List.Elements.{All-nil, All-push}
use Rattle.mix_audience.specs.Acting.{queued_in}
use Rattle.mix_audience.specs.Listeners.{AudienceModel, Listener, ended, queued}
use Rattle.mix_events.specs.Sayable.{IsSayableEvent}
use Rattle.mix_events.specs.Sayings.{IsSayable}
use Rattle.mix_events.specs.declared.twin.Twin.{Twin}
use Rattle.mix_model.specs.declared.action.Action.TheVariants.{VideoTick}
use Rattle.mix_model.specs.declared.draw.Shot.{Shot}
use Rattle.mix_model.specs.declared.event.Event.{Event}
use Rattle.mix_model.specs.declared.event.Event.TheVariants.{SceneTransitionEnded}
use Rattle.mix_model.specs.declared.words.Transition.TheVariants.{Fade}
use Rattle.mix_model.specs.Edits.{channel_set, clock_set, frame_held, frame_released}
use Rattle.mix_model.specs.Marks.{marks_of}
use Rattle.mix_model.specs.Program.{advance_program}
use Rattle.mix_model.specs.Settle.{settle}
use Rattle.mix_model.specs.State.{StudioState}
use Rattle.mix_model.specs.Studio.{frame_ended, has_room, picture_taken, studio_settled}
use Rattle.mix_model.specs.WholeShape.{StateShape, StudioShape}
use Rattle.mix_requests.specs.Programs.{event_if}
use Rattle.mix_requests.proofs.MakingLemmas.{edited_alone_is}
use Rattle.mix_studio.specs.Shots.{Shows}
use Rattle.mix_studio.specs.Studios.{StudioModel, studio_edited, tick_done}
use Rattle.mix_studio.specs.Ticks.{IsTaken}
use Rattle.mix_engine.specs.declared.heading.Heading.TheVariants as heading
use Rattle.mix_engine.specs.declared.step_answer.StepAnswer.{StepAnswer}
use Rattle.mix_engine.specs.Mixer.{Mixer}
use Rattle.mix_engine.specs.Mixings.{IsMixing, Mixed, mixed_of}
use Rattle.mix_engine.specs.Outcomes.{only}
use Rattle.mix_engine.specs.Step.{gives_back, outcome, takes_frame}
use Rattle.mix_engine.specs.StepAnswers.{Stepped}
use Rattle.mix_engine.proofs.Shapes.{IsFit, LeftBy, kept_fit, left_by, parts_left}
use Rattle.mix_engine.proofs.Listening.{queued_none}

-- a studio in which an action begins
abbrev begun_of : StudioState → StudioModel
begun_of s = record { begun = marks_of s.graph; present = s }

told_sayable : (b : Bool) → All IsSayableEvent (event_if b (SceneTransitionEnded Fade))
told_sayable true =
    All-push IsSayableEvent [] (SceneTransitionEnded Fade) (All-nil IsSayableEvent) tt
told_sayable false = All-nil IsSayableEvent

given_fit : {s : Mixer} (number : ℕ) → StateShape s → StudioShape (gives_back s number).studio →
    IsFit s (gives_back s number)
unfolding studio_settled settle frame_ended frame_released
given_fit {s} number shape studio = kept_fit shape (gives_back s number) studio refl tt tt
    (All-nil IsSayableEvent) (All-nil IsSayable) refl refl refl

taken_fit : {s : Mixer} → StateShape s → StudioShape (takes_frame s).studio →
    IsFit s (takes_frame s)
unfolding studio_settled settle picture_taken frame_held clock_set channel_set
taken_fit {s} shape studio = kept_fit shape (takes_frame s) studio refl tt tt
    (told_sayable (advance_program s.studio.program).change.ended) (All-nil IsSayable)
    refl refl refl

-- the parts that are as they were
pub stays : {m : Mixed} → IsMixing m → (studio : StudioState) (a : AudienceModel) →
    studio ≡ m.mixer.studio → a.secret ≡ m.mixer.secret → a.listeners ≡ m.listeners →
    mixed_of studio m.mixer.notes a m.mixer.next_conn ≡ m
stays mixing studio a same knows heard = rw (same, knows, heard, ← mixing.conns) refl

-- where there is no room no frame is taken
pub full_stays : (s : StudioState) (new : StudioModel) → has_room s ≡ false →
    new ≡ tick_done (begun_of s) → new.present ≡ s
unfolding tick_done
full_stays s new full made = ap (λ (k : StudioModel). k.present)
    (made ∙ ap (λ b. cond b (studio_edited picture_taken (begun_of s)) (begun_of s)) full)

module _ {m : Mixed} (mixing : IsMixing m) where
  -- a frame is given back
  pub given_left : (number : ℕ) (new : StudioModel) (a : AudienceModel) →
      new ≡ studio_edited (frame_ended number) (begun_of m.mixer.studio) → StudioShape new.present →
      a.secret ≡ m.mixer.secret → a.listeners ≡ map (ended None) m.listeners →
      LeftBy m (gives_back m.mixer number)
      (mixed_of new.present m.mixer.notes a m.mixer.next_conn)
  given_left number new a made shape knows ends =
      let studio_is : new.present ≡ (gives_back m.mixer number).studio =
      edited_alone_is (begun_of m.mixer.studio) new (frame_ended number) refl made in
      parts_left mixing (gives_back m.mixer number)
      (given_fit number mixing.shape (subst StudioShape studio_is shape)) a studio_is refl refl
      knows (ends ∙ ap (map (ended None)) (sym (queued_none None m.listeners)))

  -- a frame is taken
  module _ {number : ℕ} {shot : Shot} {recording : Option ℕ} {over : Bool}
      (taken : IsTaken m.mixer.studio number shot recording over) where
    pub taken_left : (new : StudioModel) (a : AudienceModel) (xs : List Listener)
        (events : List Event) → new ≡ tick_done (begun_of m.mixer.studio) →
        StudioShape new.present → events ≡ event_if over (SceneTransitionEnded Fade) →
        a.secret ≡ m.mixer.secret → xs ≡ map (queued None events) m.listeners →
        a.listeners ≡ map (ended None) xs →
        LeftBy m (takes_frame m.mixer) (mixed_of new.present m.mixer.notes a m.mixer.next_conn)
    unfolding tick_done
    taken_left new a xs events made shape told knows tells ends =
        let studio_is : new.present ≡ (takes_frame m.mixer).studio =
        edited_alone_is (begun_of m.mixer.studio) new picture_taken refl (made
        ∙ ap (λ b. cond b (studio_edited picture_taken (begun_of m.mixer.studio))
        (begun_of m.mixer.studio)) taken.room) in
        parts_left mixing (takes_frame m.mixer)
        (taken_fit mixing.shape (subst StudioShape studio_is shape)) a studio_is refl refl knows
        (rw (ends, tells, told, taken.ended_is) refl)

    pub taken_steps : (answer : StepAnswer) (new : Mixed) →
        answer.heading ≡ heading.Frame number recording → answer.said.items ≡ [] →
        answer.shot ≡ Some shot → answer.voices ≡ None → new ≡ left_by m (takes_frame m.mixer) →
        Stepped m new answer (outcome m.mixer VideoTick)
    taken_steps answer new headed silent shown mute state =
        let number_is : number ≡ m.mixer.studio.graph.clock = taken.number_is in
        let steps : Stepped m new answer (takes_frame m.mixer) = record {
          heading = headed ∙ ap (λ k. heading.Frame k recording) number_is
              ∙ ap (heading.Frame m.mixer.studio.graph.clock) taken.recording_is;
          said = silent;
          shot = rw shown (subst (λ k. Shows m.mixer.studio k shot) number_is taken.shows);
          voices = mute;
          complete = rw (headed, shown) refl;
          sayable = rw silent (All-nil IsSayable);
          state = state;
        } in
        subst (λ b. Stepped m new answer
        (cond b (takes_frame m.mixer) (only m.mixer heading.NoFrame []))) (sym taken.room) steps

-- at most one event is told
pub few_told : (twins : List Twin) (b : Bool) (e : Event) → queued_in twins ≡ event_if b e →
    length twins ≤ 1
few_told twins true e is =
    omega (arith, sym (length-map twins (λ (t : Twin). t.queued)) ∙ ap length is)
few_told twins false e is =
    omega (arith, sym (length-map twins (λ (t : Twin). t.queued)) ∙ ap length is)
