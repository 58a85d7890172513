use Rattle.std.proofs.Common.{◌∙◌, ap, sym, codes, pos, ◌∷◌}
use Rattle.std.proofs.lemmas.Result.{on_ok_weaker}
use Rattle.mix_base.specs.declared.json.Json as json
use Rattle.mix_json.specs.Growing.{more_field, more_fields}
use Rattle.mix_json.proofs.TextLemmas.{more_fields_append}
use Rattle.mix_events.specs.ItemEvents.{item_created, source_fields}
use Rattle.mix_events.specs.SceneEvents.{scene_fields}
use Rattle.mix_events.specs.Trees.{number}
use Rattle.mix_events.proofs.items.created.Goals as goal

-- the item and its place, then the scene, then the source
pub returns : goal.returns
unfolding item_created
returns c =
    let start = c.args.out.now in
    let scene = scene_fields c.args.scene.now c.args.serial in
    let source = source_fields c.args.source.now c.args.source_serial in
    let placed = c.in_ok-with_index.ensures.value
    ∙ ap (more_field (codes "sceneItemIndex") (json.Int (pos c.args.index))) c.in_ok-with_item.ensures.value in
    let first = number (codes "sceneItemId") c.args.item ∷ (number (codes "sceneItemIndex") c.args.index ∷ scene) in
    record {
      value = on_ok_weaker c.with_source.result
          (λ last. last ∙ ap (more_fields source) (c.in_ok-with_scene.ensures.value ∙ ap (more_fields scene) placed) ∙ sym (more_fields_append first source start))
          c.with_source.ensures.value;
    }
