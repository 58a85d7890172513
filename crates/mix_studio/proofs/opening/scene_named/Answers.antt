use Rattle.std.proofs.Common.{sym}
use Rattle.mix_model.specs.Rows.{is_scene}
use Rattle.mix_studio.proofs.FreshLemmas.{all_named}
use Rattle.mix_studio.proofs.LineLemmas.{not_found, of_kind, wrong_kind}
use Rattle.mix_studio.proofs.opening.scene_named.Goals as goal

-- no source has the name
pub returns-then-not-named-clause-refused : goal.returns-then-not-named-clause-refused
returns-then-not-named-clause-refused c = not_found c.args.graph.now.present
    (all_named c.args.graph.now c.requires.fresh) is_scene c.args.name.now c.in-Ok.serial
    c.in-Ok.ensures.value (sym c.if-not-named.ensures.reply)

-- it is another one's than a scene's
pub returns-then-not-is_scene_row-clause-refused :
    goal.returns-then-not-is_scene_row-clause-refused
returns-then-not-is_scene_row-clause-refused c = wrong_kind c.args.graph.now.present
    (all_named c.args.graph.now c.requires.fresh) is_scene c.args.name.now c.in-Ok.serial
    c.in-Ok.ensures.value (sym c.if-not-named.ensures.reply)
    (sym c.if-not-is_scene_row.ensures.value)

-- it is a scene's
pub returns-clause-refused : goal.returns-clause-refused
returns-clause-refused c = of_kind c.args.graph.now.present
    (all_named c.args.graph.now c.requires.fresh) is_scene c.args.name.now c.in-Ok.serial
    c.in-Ok.ensures.value (sym c.if-not-named.ensures.reply)
    (sym c.if-not-is_scene_row.ensures.value)

pub returns-clause-scene : goal.returns-clause-scene
returns-clause-scene c = record {
  named = sym c.if-not-named.ensures.reply;
  scene = sym c.if-not-is_scene_row.ensures.value;
}
