use Rattle.std.proofs.Common.{◌∙◌, ap, sym, unwrap_or}
use Rattle.mix_studio.proofs.RemovalLemmas.{first_is_other, second_is_other}
use Rattle.mix_studio.proofs.removing.other_scene.Goals as goal

-- the first scene is another one
pub returns-then-first-scene : goal.returns-then-first-scene
returns-then-first-scene c = record {
  value = first_is_other c.args.graph.now.present c.args.scene c.unwrap_or-first.result 0
      (c.unwrap_or-first.ensures ∙ ap (λ o. unwrap_or o 0) c.scene_at.ensures.reply)
      (λ same. c.if-first-scene.true (c.first.view_is ∙ same ∙ sym c.scene.view_is))
      c.requires.two c.requires.once;
}

-- or it is the scene itself, and the second is another one
pub returns : goal.returns
returns c = record {
  value = second_is_other c.args.graph.now.present c.args.scene c.unwrap_or-first.result
      c.unwrap_or.result 0
      (c.unwrap_or-first.ensures ∙ ap (λ o. unwrap_or o 0) c.scene_at.ensures.reply)
      (c.unwrap_or.ensures ∙ ap (λ o. unwrap_or o 0) c.scene_at-2.ensures.reply)
      (sym c.first.view_is ∙ c.if-first-scene.false ∙ c.scene.view_is)
      c.requires.two c.requires.once;
}
