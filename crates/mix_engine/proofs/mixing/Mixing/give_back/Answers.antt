use Rattle.std.proofs.Common.{◌∙◌, [], ap, refl, subst, sym}
use Rattle.mix_model.specs.declared.action.Action.TheVariants.{FrameDone}
use Rattle.mix_studio.specs.Studios.{StudioModel}
use Rattle.mix_engine.specs.declared.heading.Heading.TheVariants.{NoSuchFrame}
use Rattle.mix_engine.specs.Mixings.{IsMixing}
use Rattle.mix_engine.specs.Outcomes.{only}
use Rattle.mix_engine.specs.Step.{outcome}
use Rattle.mix_engine.proofs.FrameLemmas.{given_left, stays}
use Rattle.mix_engine.proofs.Shapes.{sound}
use Rattle.mix_engine.proofs.Stepping.{of_seen, stepped}
use Rattle.mix_engine.proofs.mixing.Mixing.give_back.Goals as goal

-- no frame of this number is in flight
pub invariant_of-self : goal.invariant_of-self
invariant_of-self c = subst IsMixing (sym (stays c.self.invariant c.frame_done.new.self.present
    c.self.inside.audience (ap (λ (k : StudioModel). k.present)
    (c.frame_done.ensures.err c.if-not-frame_done.true ∙ c.begin_changes.ensures.state)) refl refl))
    c.self.invariant

pub returns-then-not-frame_done : goal.returns-then-not-frame_done
returns-then-not-frame_done c = record {
  steps = of_seen (λ m. outcome m.mixer (FrameDone c.args.number)) c.self.view_is
      (rw (rw c.begin_changes.ensures.state at (sym c.frame_done.ensures.reply
      ∙ c.if-not-frame_done.true)) (of_seen (λ m. only m.mixer NoSuchFrame [])
      (stays c.self.invariant c.frame_done.new.self.present c.self.inside.audience
      (ap (λ (k : StudioModel). k.present)
      (c.frame_done.ensures.err c.if-not-frame_done.true ∙ c.begin_changes.ensures.state)) refl refl)
      c.rest.ensures.steps));
}

-- one is given back
pub invariant_of-self-2 : goal.invariant_of-self-2
invariant_of-self-2 c = sound c.self.invariant (given_left c.self.invariant c.args.number
    c.frame_done.new.self c.end.new.self
    (rw c.begin_changes.ensures.state at (c.frame_done.ensures.ok c.if-not-frame_done.false))
    c.frame_done.ensures.shape c.end.ensures.secret c.end.ensures.listeners)

pub returns : goal.returns
returns c = record {
  steps = of_seen (λ m. outcome m.mixer (FrameDone c.args.number)) c.self.view_is
      (rw (rw c.begin_changes.ensures.state at (sym c.frame_done.ensures.reply
      ∙ c.if-not-frame_done.false)) (stepped c.self.invariant (given_left c.self.invariant
      c.args.number c.frame_done.new.self c.end.new.self
      (rw c.begin_changes.ensures.state at (c.frame_done.ensures.ok c.if-not-frame_done.false))
      c.frame_done.ensures.shape c.end.ensures.secret c.end.ensures.listeners)
      c.silent.result tt [] c.silent.ensures.says refl));
}
