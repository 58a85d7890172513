-- How runs go on and end.
use Rattle.std.proofs.Common.{is_some, IfSome, ◌≡◌, ℕ, ◌+◌, ◌-◌, ◌<◌, ◌≤◌, Bool, true, false, cond, nat_lt, List, [], ◌∷◌, ◌++◌, length, refl, sym, ap, ◌∙◌, subst, arith, Ok, Some, Option, Result, Err, length-append, zero-add}
use Rattle.std.specs.Prelude.{◌==◌}
use Rattle.std.proofs.lemmas.List.{append-nil, append_assoc}
use Rattle.std.proofs.lemmas.List.Sums.{sum_by-append}
use Rattle.std.proofs.lemmas.Bool.Decides.{nat_tests}
use Rattle.std.proofs.lemmas.Bool.{ltb-true}
use Rattle.mix_outside.specs.Bytes.{AppendsPrefix}
use Rattle.mix_outside.specs.Lines.{Lines, End, Cut, Whole, last_line, bytes_of_first}
use Rattle.mix_outside.specs.declared.lines.Met.{Met}
use Rattle.mix_outside.specs.declared.lines.Met.TheVariants as mets
use Rattle.mix_outside.specs.Meeting.{FitsIn, Meets}
use Rattle.mix_base.specs.declared.limits.Limits.{Limits}
use Rattle.mix_model.specs.declared.action.Action.{Action}
use Rattle.mix_model.specs.declared.action.Entry.{Entry}
use Rattle.mix_events.specs.declared.said.Said.{Said}
use Rattle.mix_events.specs.declared.reply.Reply.{Reply}
use Rattle.mix_script.specs.Lines.{action_of}
use Rattle.mix_script.specs.declared.bad_line.BadLine.{BadLine}
use Rattle.mix_script.specs.declared.write_fault.WriteFault.{WriteFault}
use Rattle.mix_script.specs.declared.write_fault.WriteFault.TheVariants as faults
use Rattle.mix_script.specs.Output.{block_line, frame_line}
use Rattle.mix_script.specs.Writing.{joined, Writes}
use Rattle.mix_script.proofs.Written.{front_of_lines}
use Rattle.mix_engine.specs.declared.heading.Heading.{Heading}
use Rattle.mix_engine.specs.declared.heading.Heading.TheVariants as heading
use Rattle.mix_events.specs.declared.reply.Answer.{Answer}
use Rattle.mix_engine.specs.Engines.{EngineModel}
use Rattle.mix_engine.specs.Engines.{acted, with_entry, present, line_bytes, text_bytes}
use Rattle.mix_engine.specs.Answers.{Agrees, answer_to}
use Rattle.mix_engine.specs.Built.{is_built}
use Rattle.mix_engine.specs.Mixer.{Mixer}
use Rattle.mix_engine.specs.Answers.{answer_to, state_after, Answered, Replies}
use Rattle.mix_engine.specs.Built.{is_built}
use Rattle.mix_model.specs.declared.picture.Picture.{Picture}
use Rattle.mix_model.specs.declared.picture.Block.{Block}
use Rattle.mix_model.specs.Plans.{painted}
use Rattle.mix_model.specs.State.{StudioState}
use Rattle.mix_program.specs.Output.{Written, before, lines_by, lines_to, shown_lines, IsShowable}
use Rattle.mix_program.specs.Run.{run, turn, done, not_built, full, next_line, room_for, entry_of}
use Rattle.mix_program.specs.Ends.{Goes, Stops, Ends, Turned, Follows, ended_by}
use Rattle.mix_program.specs.Ends.{EndsAt, last_written}
use Rattle.mix_program.specs.declared.running.Finished.TheVariants.{Done}
use Rattle.mix_program.specs.declared.running.Ended.{Ended}
use Rattle.mix_program.specs.declared.running.Ended.TheVariants as ends

lt_false : (a b : ℕ) → b ≤ a → nat_lt a b ≡ false
lt_false a b h = grind (arith, nat_tests)

lt_true : (a b : ℕ) → a < b → nat_lt a b ≡ true
lt_true a b h = grind (arith, nat_tests)

-- nothing is written yet
pub goes_none : (old : List ℕ) (all : Written) → Goes old old all all
goes_none old all = record { piece = []; held = sym (append-nil old); left = refl }

goes_more : (old mid new : List ℕ) (all some rest : Written) → Goes old mid all some →
    Goes mid new some rest → Goes old new all rest
goes_more old mid new all some rest f g = record {
  piece = f.piece ++ g.piece;
  held = g.held ∙ ap (λ l. l ++ g.piece) f.held ∙ append_assoc old f.piece g.piece;
  left = f.left ∙ ap (before f.piece) g.left
      ∙ ap (λ l. record rest { lines = l }) (sym (append_assoc f.piece g.piece rest.lines));
}

-- a run that stops where it is
pub goes_stops : (old new : List ℕ) (all rest : Written) → Goes old new all rest → Stops old new all
goes_stops old new all rest f =
    record { front = f.piece; held = f.held; is_front = (rest.lines, ap (λ t. t.lines) f.left) }

-- a run that stops before it writes
pub stops_none : (old : List ℕ) (all : Written) → Stops old old all
stops_none old all = goes_stops old old all all (goes_none old all)

stops_more : (old mid new : List ℕ) (all rest : Written) → Goes old mid all rest →
    Stops mid new rest → Stops old new all
stops_more old mid new all rest f g = record {
  front = f.piece ++ g.front;
  held = g.held ∙ ap (λ l. l ++ g.front) f.held ∙ append_assoc old f.piece g.front;
  is_front = (
    g.is_front.0,
    ap (λ t. t.lines) f.left ∙ ap (λ l. f.piece ++ l) g.is_front.1
        ∙ sym (append_assoc f.piece g.front g.is_front.0),
  );
}

pub goes_ends : (e : Ended) (old mid new : List ℕ) (all rest : Written) → Goes old mid all rest →
    Ends e mid new rest → Ends e old new all
goes_ends (ends.Whole finished) old mid new all rest f g = record {
  held = g.held ∙ ap (λ l. l ++ rest.lines) f.held ∙ append_assoc old f.piece rest.lines
      ∙ ap (λ t. old ++ t.lines) (sym f.left);
  told = ap (λ t. t.status) f.left ∙ g.told;
}
goes_ends ends.ReadFault old mid new all rest f g = stops_more old mid new all rest f g
goes_ends ends.WriteFault old mid new all rest f g = stops_more old mid new all rest f g
goes_ends ends.NoMemory old mid new all rest f g = stops_more old mid new all rest f g

-- a reply has the lines of what its entry is answered, on the canvas of the studio that was found
reply_has : (canvas : ℕ × ℕ) (o : Heading) (found : StudioState) (told : List Said) (due : Bool)
    (reply : Reply) → canvas ≡ found.canvas → Replies o found told due reply →
    shown_lines canvas reply ≡ lines_by o found told
reply_has canvas heading.Full found told due reply same h = ap (shown_lines canvas) h
reply_has canvas (heading.Gone conn) found told due reply same h = ap (shown_lines canvas) h
reply_has canvas (heading.Left conn) found told due reply same h = ap (shown_lines canvas) h
reply_has canvas (heading.Told conn) found told due reply same h = ap (shown_lines canvas) h
reply_has canvas (heading.Closed conn code) found told due reply same h = ap (shown_lines canvas) h
reply_has canvas (heading.Frame number recording) found told due reply same h =
    ap (shown_lines canvas) h.2
    ∙ ap (λ (p : Picture). frame_line number p ∷ []) (ap (painted h.0 number) same ∙ h.1.picture)
reply_has canvas heading.NoFrame found told due reply same h = ap (shown_lines canvas) h
reply_has canvas (heading.Block number recording) found told due reply same h =
    ap (shown_lines canvas) h.2 ∙ ap (λ (b : Block). block_line number b ∷ []) h.1.block
reply_has canvas (heading.FrameGone number) found told due reply same h = ap (shown_lines canvas) h
reply_has canvas heading.NoSuchFrame found told due reply same h = ap (shown_lines canvas) h
reply_has canvas (heading.Destroyed serial) found told due reply same h = ap (shown_lines canvas) h
reply_has canvas heading.Nothing found told due reply same h = ap (shown_lines canvas) h
reply_has canvas heading.NotBuilt found told due reply same h = absurd h

-- what a reply shows can be painted, or mixed
pub reply_showable : (o : Heading) (found : StudioState) (told : List Said) (due : Bool)
    (reply : Reply) → Replies o found told due reply → IsShowable reply
reply_showable heading.Full found told due reply h = subst IsShowable (sym h) tt
reply_showable (heading.Gone conn) found told due reply h = subst IsShowable (sym h) tt
reply_showable (heading.Left conn) found told due reply h = subst IsShowable (sym h) tt
reply_showable (heading.Told conn) found told due reply h = subst IsShowable (sym h) tt
reply_showable (heading.Closed conn code) found told due reply h = subst IsShowable (sym h) tt
reply_showable (heading.Frame number recording) found told due reply h =
    subst IsShowable (sym h.2) h.1.paintable
reply_showable heading.NoFrame found told due reply h = subst IsShowable (sym h) tt
reply_showable (heading.Block number recording) found told due reply h =
    subst IsShowable (sym h.2) (record { early = h.1.early; mixable = h.1.mixable })
reply_showable (heading.FrameGone number) found told due reply h = subst IsShowable (sym h) tt
reply_showable heading.NoSuchFrame found told due reply h = subst IsShowable (sym h) tt
reply_showable (heading.Destroyed serial) found told due reply h = subst IsShowable (sym h) tt
reply_showable heading.Nothing found told due reply h = subst IsShowable (sym h) tt
reply_showable heading.NotBuilt found told due reply h = absurd h

turn_built : (start : Mixer) (journal : List Entry) (action : Action)
    (rest : List Entry → Written) → is_built (state_after start journal) action ≡ true →
    turn start journal (Ok action) rest ≡ before (lines_to (answer_to start journal action))
    (rest (journal ++ entry_of journal action ∷ []))
turn_built start journal action rest built = rw built refl

-- an action that isn't built
pub turn_not_built : (e : Ended) (start : Mixer) (journal : List Entry) (action : Action)
    (rest : List Entry → Written) (old new : List ℕ) (number : ℕ) →
    is_built (state_after start journal) action ≡ false → number ≡ next_line journal →
    Ends e old new (not_built number) → Ends e old new (turn start journal (Ok action) rest)
turn_not_built e start journal action rest old new number built is_next h =
    rw built (let P : ℕ → Type 0 = λ n. Ends e old new (not_built n) in subst P is_next h)

-- the lines of an action are written, and the run goes on behind its entry
pub turn_goes : (canvas : ℕ × ℕ) (start : Mixer) (journal after : List Entry) (action : Action)
    (reply : Reply) (rest : List Entry → Written) (old new : List ℕ) →
    canvas ≡ (state_after start journal).studio.canvas →
    is_built (state_after start journal) action ≡ true →
    (let a : Answered = answer_to start journal action in
    Replies a.heading a.found a.told a.due reply) →
    after ≡ journal ++ entry_of journal action ∷ [] → new ≡ old ++ joined (shown_lines canvas reply) →
    Goes old new (turn start journal (Ok action) rest) (rest after)
turn_goes canvas start journal after action reply rest old new same built replies is_after held =
    record {
      piece = joined (shown_lines canvas reply);
      held = held;
      left = turn_built start journal action rest built
          ∙ rw (is_after, ap joined (reply_has canvas _ _ _ _ reply same replies)) refl;
    }

-- a front of the lines of an action is written
pub turn_stops : (canvas : ℕ × ℕ) (start : Mixer) (journal : List Entry) (action : Action)
    (reply : Reply) (rest : List Entry → Written) (old new : List ℕ) →
    canvas ≡ (state_after start journal).studio.canvas →
    is_built (state_after start journal) action ≡ true →
    (let a : Answered = answer_to start journal action in
    Replies a.heading a.found a.told a.due reply) →
    AppendsPrefix (joined (shown_lines canvas reply)) old new →
    Stops old new (turn start journal (Ok action) rest)
turn_stops canvas start journal action reply rest old new same built replies h = record {
  front = h.0;
  held = h.2;
  is_front = (
    h.1.0 ++ (rest (journal ++ entry_of journal action ∷ [])).lines,
    ap (λ t. t.lines) (turn_built start journal action rest built)
        ∙ ap (λ l. l ++ (rest (journal ++ entry_of journal action ∷ [])).lines)
        (sym (ap joined (reply_has canvas _ _ _ _ reply same replies)) ∙ h.1.1)
        ∙ append_assoc h.0 h.1.0 (rest (journal ++ entry_of journal action ∷ [])).lines,
  );
}

-- what a run is at each kind of line
run-whole : (limits : Limits) (start : Mixer) (journal : List Entry) (room : ℕ) (line : List ℕ)
    (more : Lines) → length line < room_for limits journal room →
    run limits start journal room (Whole line more) ≡ turn start journal (action_of line)
    (λ longer. run limits start longer (room - (length line + 1)) more)
run-whole limits start journal room line more h =
    rw (lt_false (room_for limits journal room) (length line + 1) (omega arith)) refl

run-over : (limits : Limits) (start : Mixer) (journal : List Entry) (room : ℕ) (lines : Lines) →
    room_for limits journal room < bytes_of_first lines →
    run limits start journal room lines ≡ full
run-over limits start journal room End h = absurd (omega arith)
run-over limits start journal room (Cut line) h =
    rw (lt_true (room_for limits journal room) (length line) h) refl
run-over limits start journal room (Whole line more) h =
    rw (lt_true (room_for limits journal room) (length line + 1) h) refl

run-cut : (limits : Limits) (start : Mixer) (journal : List Entry) (room : ℕ) (line : List ℕ) →
    0 < length line → length line ≤ room_for limits journal room →
    run limits start journal room (last_line line) ≡ not_built (next_line journal)
run-cut limits start journal room [] h k = absurd (omega arith)
run-cut limits start journal room (b ∷ line) h k =
    rw (lt_false (room_for limits journal room) (length (b ∷ line)) k) refl

run-last : (limits : Limits) (start : Mixer) (journal : List Entry) (room : ℕ) (line : List ℕ) →
    length line ≡ 0 → run limits start journal room (last_line line) ≡ done
run-last limits start journal room [] h = refl
run-last limits start journal room (b ∷ line) h = absurd (omega arith)

-- the exits of the loop, and its step
module _ (old mid new : List ℕ) (all : Written) (limits : Limits) (start : Mixer)
    (journal : List Entry) (room limit : ℕ) (now : Lines)
    (is_limit : limit ≡ room_for limits journal room)
    (goes : Goes old mid all (run limits start journal room now)) where
  pub whole_ends : (e : Ended) (line : List ℕ) (more : Lines) → now ≡ Whole line more →
      length line < limit → ((rest : List Entry → Written) →
      Ends e mid new (turn start journal (action_of line) rest)) → Ends e old new all
  whole_ends e line more is fits h = goes_ends e old mid new all _ goes
      (rw is (rw (run-whole limits start journal room line more (rw is_limit at fits)) (h _)))

  pub whole_goes : (after : List Entry) (line : List ℕ) (more : Lines) → now ≡ Whole line more →
      length line < limit → ((rest : List Entry → Written) →
      Goes mid new (turn start journal (action_of line) rest) (rest after)) →
      Goes old new all (run limits start after (room - (length line + 1)) more)
  whole_goes after line more is fits h = goes_more old mid new all _ _ goes
      (rw is (rw (run-whole limits start journal room line more (rw is_limit at fits)) (h _)))

  at_last : (none : Bool) (e : Ended) (line : List ℕ) (number : ℕ) →
      (length line == 0) ≡ none → now ≡ last_line line → length line ≤ limit →
      number ≡ next_line journal → Ends e mid new (cond none done (not_built number)) →
      Ends e old new all
  at_last true e line number none is fits is_next h =
      let nothing : length line ≡ 0 = grind (arith, nat_tests) in
      goes_ends e old mid new all _ goes
      (rw is (rw (run-last limits start journal room line nothing) h))
  at_last false e line number none is fits is_next h =
      let some : 0 < length line = grind (arith, nat_tests) in
      goes_ends e old mid new all _ goes
      (rw is (rw (run-cut limits start journal room line some (rw is_limit at fits))
      (let P : ℕ → Type 0 = λ n. Ends e mid new (not_built n) in subst P is_next h)))

  pub end_ends : (met : Met) (e : Ended) (line : List ℕ) (number : ℕ) (next : Lines) →
      (met ≡ mets.Whole → ⊥) → FitsIn met limit line → Meets met limit line now next →
      number ≡ next_line journal → EndsAt met line number e mid new → Ends e old new all
  end_ends mets.Whole e line number next other fits meets is_next h = absurd (other refl)
  end_ends mets.Last e line number next other fits meets is_next h =
      at_last (length line == 0) e line number refl meets fits is_next h
  end_ends mets.Past e line number next other fits meets is_next h =
      goes_ends e old mid new all _ goes
      (rw (run-over limits start journal room now (rw is_limit at meets)) h)
  end_ends mets.Failed e line number next other fits meets is_next h =
      goes_ends e old mid new all _ goes (h _)
  end_ends mets.NoMemory e line number next other fits meets is_next h =
      goes_ends e old mid new all _ goes (h _)

-- a run that is done writes nothing more
pub done_ends : (old : List ℕ) (line : List ℕ) (number : ℕ) → (length line == 0) ≡ true →
    Ends (ends.Whole Done) old old (last_written line number)
done_ends old line number none =
    rw none (record { held = sym (append-nil old); told = refl })

-- a line without a line feed isn't built
pub refused_ends : (e : Ended) (old new line : List ℕ) (number : ℕ) →
    (length line == 0) ≡ false → Ends e old new (not_built number) →
    Ends e old new (last_written line number)
refused_ends e old new line number some h = rw some h

-- an action that is built was done, and this is its answer
pub record Tried (answer : Answer) (number : ℕ) (action : Action) (e e' : EngineModel) : Type 0 where
  pub built : is_built (present e) action ≡ true
  pub state : e' ≡ with_entry (record { pass = 0; number = number - 1 }) action e
  pub agrees : Agrees answer (answer_to e.start e.journal action)

pub was_tried : (found : Option Answer) (answer : Answer) (e e' : EngineModel) (number : ℕ)
    (action : Action) → found ≡ Some answer → is_some found ≡ is_built (present e) action →
    IfSome found (λ a. Agrees a (answer_to e.start e.journal action)) →
    e' ≡ acted (record { pass = 0; number = number - 1 }) action e →
    Tried answer number action e e'
was_tried found answer e e' number action is_found some agrees state =
    let built : is_built (present e) action ≡ true = sym some ∙ ap is_some is_found in
    record {
      built = built;
      state = state ∙ (rw built refl);
      agrees = (let P : Option Answer → Type 0 =
          λ o. IfSome o (λ a. Agrees a (answer_to e.start e.journal action)) in
          subst P is_found agrees);
    }

-- an action that is built was done, and its lines are written
pub act_goes : (canvas : ℕ × ℕ) (answer : Answer) (e e' : EngineModel) (number : ℕ)
    (action : Action) (rest : List Entry → Written) (old new : List ℕ) →
    canvas ≡ (present e).studio.canvas → number ≡ next_line e.journal →
    Tried answer number action e e' → new ≡ old ++ joined (shown_lines canvas answer.reply) →
    Goes old new (turn e.start e.journal (Ok action) rest) (rest e'.journal)
act_goes canvas answer e e' number action rest old new same is_next tried held =
    let place : number - 1 ≡ length e.journal = omega (arith, is_next) in
    let longer : e'.journal ≡ e.journal ++ entry_of e.journal action ∷ [] =
    ap (λ (x : EngineModel). x.journal) tried.state ∙ ap (λ n. e.journal
    ++ record { from = record { pass = 0; number = n }; action = action } ∷ []) place in
    turn_goes canvas e.start e.journal e'.journal action answer.reply rest old new same
    tried.built tried.agrees.reply longer held

-- an action that is built was done, and a front of its lines is written
pub act_stops : (canvas : ℕ × ℕ) (answer : Answer) (e e' : EngineModel) (number : ℕ)
    (action : Action) (rest : List Entry → Written) (old new : List ℕ) →
    canvas ≡ (present e).studio.canvas → Tried answer number action e e' →
    AppendsPrefix (joined (shown_lines canvas answer.reply)) old new →
    Stops old new (turn e.start e.journal (Ok action) rest)
act_stops canvas answer e e' number action rest old new same tried h = turn_stops canvas e.start
    e.journal action answer.reply rest old new same tried.built tried.agrees.reply h

-- so it is of whatever was written of them
act_turns : (w : Result (Unit {0}) WriteFault) (canvas : ℕ × ℕ) (answer : Answer) (e e' : EngineModel) (number : ℕ)
    (action : Action) (old new : List ℕ) → canvas ≡ (present e).studio.canvas →
    number ≡ next_line e.journal → Tried answer number action e e' →
    Writes w (shown_lines canvas answer.reply) old new →
    Turned (ended_by w) old new (turn e.start e.journal (Ok action)) e'.journal
act_turns (Ok written) canvas answer e e' number action old new same is_next tried h = λ rest.
    act_goes canvas answer e e' number action rest old new same is_next tried h
act_turns (Err faults.Failed) canvas answer e e' number action old new same is_next tried h =
    λ rest. act_stops canvas answer e e' number action rest old new same tried h
act_turns (Err faults.NoMemory) canvas answer e e' number action old new same is_next tried h =
    λ rest. act_stops canvas answer e e' number action rest old new same tried
    (front_of_lines (shown_lines canvas answer.reply) old new h)

pub acted_turns : (w : Result (Unit {0}) WriteFault) (ended : Option Ended) (canvas : ℕ × ℕ) (answer : Answer)
    (e e' : EngineModel) (number : ℕ) (action : Action) (old new : List ℕ) →
    ended ≡ ended_by w → canvas ≡ (present e).studio.canvas → number ≡ next_line e.journal →
    Tried answer number action e e' → Writes w (shown_lines canvas answer.reply) old new →
    Turned ended old new (turn e.start e.journal (Ok action)) e'.journal
acted_turns w ended canvas answer e e' number action old new is same is_next tried h =
    let P : Option Ended → Type 0 =
    λ d. Turned d old new (turn e.start e.journal (Ok action)) e'.journal in
    subst P (sym is) (act_turns w canvas answer e e' number action old new same is_next tried h)

-- an action that is built was done, and is the last entry
act_follows : (w : Result (Unit {0}) WriteFault) (answer : Answer) (e e' : EngineModel) (number : ℕ)
    (action : Action) → Tried answer number action e e' →
    Follows (ended_by w) e e' (line_bytes action)
act_follows (Ok written) answer e e' number action tried =
    let entry : Entry = record { from = record { pass = 0; number = number - 1 }; action = action } in
    let longer : e'.journal ≡ e.journal ++ entry ∷ [] =
    ap (λ (x : EngineModel). x.journal) tried.state in (
      ap (λ (x : EngineModel). x.start) tried.state,
      ap (λ (x : EngineModel). x.limits) tried.state,
      ap length longer ∙ length-append e.journal (entry ∷ []),
      ap text_bytes longer ∙ sum_by-append (λ (x : Entry). line_bytes x.action) e.journal (entry ∷ [])
          ∙ ap (λ n. text_bytes e.journal + n) (zero-add (line_bytes action)),
    )
act_follows (Err faults.Failed) answer e e' number action tried = tt
act_follows (Err faults.NoMemory) answer e e' number action tried = tt

pub acted_follows : (w : Result (Unit {0}) WriteFault) (ended : Option Ended) (answer : Answer) (e e' : EngineModel)
    (number : ℕ) (action : Action) → ended ≡ ended_by w → Tried answer number action e e' →
    Follows ended e e' (line_bytes action)
acted_follows w ended answer e e' number action is tried =
    let P : Option Ended → Type 0 = λ d. Follows d e e' (line_bytes action) in
    subst P (sym is) (act_follows w answer e e' number action tried)

-- a line that is no action
pub refused_turns : (e : Ended) (start : Mixer) (journal after : List Entry)
    (read : Result Action BadLine) (bad : BadLine) (old new : List ℕ) (number : ℕ) →
    read ≡ Err bad → number ≡ next_line journal → Ends e old new (not_built number) →
    Turned (Some e) old new (turn start journal read) after
refused_turns e start journal after read bad old new number is is_next h = λ rest. rw is
    (let P : ℕ → Type 0 = λ n. Ends e old new (not_built n) in subst P is_next h)

-- the bytes that a line may take, by its number
pub limit_is : (limits : Limits) (journal : List Entry) (number room limit : ℕ) →
    number ≡ length journal + 1 → limit ≡ cond (nat_lt (number - 1) limits.turns) room 0 →
    limit ≡ room_for limits journal room
limit_is limits journal number room limit is_next value =
    let place : number - 1 ≡ length journal = omega (arith, is_next) in
    value ∙ ap (λ n. cond (nat_lt n limits.turns) room 0) place

fits_at : (b : Bool) (turns number room limit size : ℕ) → nat_lt (number - 1) turns ≡ b →
    limit ≡ cond b room 0 → size < limit → (number - 1 < turns) × (size < room)
fits_at true turns number room limit size below value fits =
    (ltb-true (number - 1) turns below, omega (arith, value))
fits_at false turns number room limit size below value fits = absurd (omega (arith, value))

-- where a line fits, there are lines and bytes left
pub fits_line : (turns number room limit size : ℕ) →
    limit ≡ cond (nat_lt (number - 1) turns) room 0 → size < limit →
    (number - 1 < turns) × (size < room)
fits_line turns number room limit size value fits =
    fits_at (nat_lt (number - 1) turns) turns number room limit size refl value fits

-- where two lists together are empty, the second is
pub second_empty : {A : Type 0} (xs ys : List A) → xs ++ ys ≡ [] → ys ≡ []
second_empty [] ys none = none
second_empty (x ∷ xs) ys none = cc
