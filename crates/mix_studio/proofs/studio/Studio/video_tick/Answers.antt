use Rattle.std.proofs.Common.{◌≡◌, ◌∙◌, ap, arith, subst, sym}
use Rattle.mix_model.specs.Program.{BusChanged, advance_program}
use Rattle.mix_model.specs.Recordings.{recording_of}
use Rattle.mix_model.specs.Studio.{picture_taken}
use Rattle.mix_studio.specs.Shots.{Shows}
use Rattle.mix_studio.specs.Studios.{StudioModel, studio_edited}
use Rattle.mix_studio.proofs.ChangeLemmas.{full_by, room_by, taken_shape, taken_state, tick_listed}
use Rattle.mix_studio.proofs.ChangeLemmas.{tick_refused, tick_taken}
use Rattle.mix_studio.proofs.TickLemmas.{clocked_begun, clocked_present, clocked_scenes}
use Rattle.mix_studio.proofs.TickLemmas.{tick_fresh, tick_rises, tick_settled}
use Rattle.mix_studio.proofs.studio.Studio.video_tick.Goals as goal

-- too many frames are in flight
pub returns-then-frames-ge-MOST_FRAMES-clause-reply :
    goal.returns-then-frames-ge-MOST_FRAMES-clause-reply
returns-then-frames-ge-MOST_FRAMES-clause-reply c = full_by _ c.args.self.now c.frames.result
    c.self.view_is c.frames.ensures.reply c.if-frames-ge-MOST_FRAMES.true

pub returns-then-frames-ge-MOST_FRAMES-clause-state :
    goal.returns-then-frames-ge-MOST_FRAMES-clause-state
returns-then-frames-ge-MOST_FRAMES-clause-state c = sym (tick_refused c.args.self.now
    (full_by _ c.args.self.now c.frames.result c.self.view_is c.frames.ensures.reply
    c.if-frames-ge-MOST_FRAMES.true))

-- the frame's number is new
pub hold_frame-requires : goal.hold_frame-requires
hold_frame-requires c = record {
  fresh = tick_fresh _ c.args.self.now c.self.view_is c.requires.shape c.clock-number.result
      c.clock-number.ensures.reply;
}

-- the clock rises, and who is active was so
pub set_clock-requires-clause-rises : goal.set_clock-requires-clause-rises
set_clock-requires-clause-rises c = tick_rises _ c.args.self.now c.self.view_is c.requires.shape
    c.clock-number.result c.clock-number.ensures.reply c.hold_frame.new.self c.in-Ok.ensures.ok

pub set_clock-requires-clause-settled : goal.set_clock-requires-clause-settled
set_clock-requires-clause-settled c = tick_settled _ c.args.self.now c.self.view_is
    c.requires.shape c.clock-number.result c.clock-number.ensures.reply c.hold_frame.new.self
    c.in-Ok.ensures.ok c.requires.settled

-- what the program shows then are scenes of the registry
pub show_program-requires-clause-scenes : goal.show_program-requires-clause-scenes
show_program-requires-clause-scenes c = tick_listed _ c.args.self.now c.advance-change.new.self _
    c.self.view_is c.requires.shape c.advance-change.ensures.state
    (clocked_scenes _ c.args.self.now c.self.view_is c.requires.shape c.clock-number.result
    c.clock-number.ensures.reply c.hold_frame.new.self c.set_clock.new.self c.in-Ok.ensures.ok
    c.set_clock.ensures.state)

-- the picture is taken
taken : (c : goal.After-change) →
    c.show_program.new.self ≡ studio_edited picture_taken c.args.self.now
taken c = c.show_program.ensures.state ∙ taken_state _ c.args.self.now c.self.view_is
    c.requires.shape c.advance-change.new.self c.advance-change.ensures.state c.self.invariant
    c.set_clock.new.self (clocked_begun _ c.args.self.now c.self.view_is c.requires.shape
    c.clock-number.result c.clock-number.ensures.reply c.hold_frame.new.self c.set_clock.new.self
    c.in-Ok.ensures.ok c.set_clock.ensures.state)
    (clocked_present _ c.args.self.now c.self.view_is c.requires.shape
    c.clock-number.result c.clock-number.ensures.reply c.hold_frame.new.self c.set_clock.new.self
    c.in-Ok.ensures.ok c.set_clock.ensures.state)

pub returns-clause-state : goal.returns-clause-state
returns-clause-state c = taken c ∙ sym (tick_taken c.args.self.now
    (room_by _ c.args.self.now c.frames.result c.self.view_is c.frames.ensures.reply
    (omega arith)))

pub returns-clause-reply : goal.returns-clause-reply
returns-clause-reply c =
    let now : c.clock-number.result ≡ c.args.self.now.present.graph.clock =
    c.clock-number.ensures.reply
    ∙ ap (λ (n : StudioModel). n.present.graph.clock) c.self.view_is in
    record {
      room = room_by _ c.args.self.now c.frames.result c.self.view_is c.frames.ensures.reply
          (omega arith);
      number_is = now;
      shows = subst (λ k. Shows c.args.self.now.present k c.in_ok-shot.shot) (sym now)
          c.in_ok-shot.ensures.shows;
      recording_is = c.of_tick-recording.ensures.value
          ∙ ap (λ (n : StudioModel). recording_of n.present.recording) c.self.view_is;
      ended_is = ap (λ (b : BusChanged). b.ended) (c.change.view_is ∙ c.advance-change.ensures.value)
          ∙ ap (λ (n : StudioModel). (advance_program n.present.program).change.ended)
          c.self.view_is;
    }

pub returns-clause-shape : goal.returns-clause-shape
returns-clause-shape c = taken_shape c.args.self.now c.show_program.new.self (taken c)
    c.requires.shape c.show_program.ensures.program c.show_program.ensures.sources
