use Rattle.std.proofs.Common.{◌≡◌, ◌∙◌, true, is_some, Ok, ap, subst, sym}
use Rattle.mix_model.specs.Lookups.{row_of}
use Rattle.mix_model.specs.Marks.{GraphModel}
use Rattle.mix_model.specs.Program.{set_program}
use Rattle.mix_model.specs.Sets.{has}
use Rattle.mix_model.specs.State.{ProgramState}
use Rattle.mix_model.specs.Studio.{program_set}
use Rattle.mix_shape.proofs.MarkedLemmas.{scene_there}
use Rattle.mix_requests.specs.Sought.{scene_sought}
use Rattle.mix_requests.proofs.ProperLemmas.{scene_short}
use Rattle.mix_requests.proofs.MakingLemmas.{edited_alone_is, edited_begun_is}
use Rattle.mix_req_scenes.proofs.ChangingLemmas.{set_line, told_change}
use Rattle.mix_req_scenes.proofs.changing.set_current_program_scene.Goals as goal

-- the scene that was found is listed, so it is there, and its serial is short
pub tell_change-requires : goal.tell_change-requires
tell_change-requires c = let found : has c.in_ok-scene.scene c.args.studio.now.present.graph.scenes ≡ true =
    subst (λ (m : GraphModel). has c.in_ok-scene.scene m.present.scenes ≡ true)
    c.graph.ensures.value c.in_ok-scene.ensures.registered in record {
      there = subst (λ (m : GraphModel). is_some (row_of m.present c.in_ok-scene.scene) ≡ true)
          (sym c.graph-2.ensures.value) (scene_there c.args.studio.now.present.graph
          c.requires.ready.shape.sources c.in_ok-scene.scene found);
      short = scene_short c.args.studio.now.present.graph c.requires.ready.shape.sources
          c.requires.ready.serial c.in_ok-scene.scene found;
    }

-- what is told is the change, and what is left is the program set, settled
pub returns-clause-does : goal.returns-clause-does
returns-clause-does c = (
  set_line c.args.studio.now.present c.args.notes.now c.args.caller c.args.body.now
      c.in_ok-fields.fields.now c.in_ok-name.name.now c.in_ok-scene.scene
      c.tell_change.new.events c.set_program.new.self.present c.in_ok-fields.ensures.value
      c.in_ok-name.ensures.value
      (subst (λ (m : GraphModel). Ok c.in_ok-scene.scene
      ≡ scene_sought m.present c.in_ok-name.name.now) c.graph.ensures.value
      c.in_ok-scene.ensures.value)
      (told_change c.args.studio.now.present c.in_ok-scene.scene c.args.events.now
      c.tell_change.new.events c.graph-2.result.now.present c.fade.result
      c.change_to-change.result c.in_ok-tell_change.ensures.ok c.requires.empty
      (ap (λ (m : GraphModel). m.present) c.graph-2.ensures.value)
      (c.fade.ensures.value ∙ ap (λ (p : ProgramState). p.fades) c.bus-2.ensures.value)
      (c.change_to-change.ensures.value c.args.studio.now.present.rate
      ∙ ap (λ (p : ProgramState). (set_program p c.args.studio.now.present.rate
      c.in_ok-scene.scene).change) c.bus.ensures.value))
      (edited_alone_is c.args.studio.now c.set_program.new.self (program_set c.in_ok-scene.scene)
      c.requires.ready.begun c.set_program.ensures.state),
  edited_begun_is c.args.studio.now c.set_program.new.self (program_set c.in_ok-scene.scene)
      c.set_program.ensures.state,
)
