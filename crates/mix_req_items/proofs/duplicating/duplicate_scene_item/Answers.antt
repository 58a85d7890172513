use Rattle.mix_req_items.proofs.CreateLemmas.{are_copy_ends}
use Rattle.mix_req_items.proofs.duplicating.duplicate_scene_item.Goals as goal

-- the destination and the source of the item are rows
pub tell_item-requires-clause-ends : goal.tell_item-requires-clause-ends
tell_item-requires-clause-ends c = are_copy_ends c.args.studio.now.present.graph
    c.requires.ready.shape.sources c.in_ok-found.found c.in_ok-found.ensures.found c.in_ok-to.to
    c.copy_ends-ends.result c.in_ok-to.ensures.named c.copy_ends-ends.ensures.value
