use Rattle.std.proofs.Common.{◌≡◌, is_some, subst, sym, true}
use Rattle.mix_model.specs.Lookups.{row_of}
use Rattle.mix_model.specs.Marks.{GraphModel}
use Rattle.mix_req_items.proofs.FoundLemmas.{child_short, child_there, holder_short, holder_there}
use Rattle.mix_req_items.proofs.removing.remove_scene_item.Goals as goal

-- the item's scene or group and its source are rows, and their serials are short
pub tell_removed-requires-clause-there : goal.tell_removed-requires-clause-there
tell_removed-requires-clause-there c =
    subst (λ (g : GraphModel). is_some (row_of g.present c.in_ok-found.found.holder) ≡ true)
    (sym c.graph.ensures.value) (holder_there c.args.studio.now.present.graph
    c.requires.ready.shape.sources c.in_ok-found.found c.in_ok-found.ensures.found)

pub tell_removed-requires-clause-short : goal.tell_removed-requires-clause-short
tell_removed-requires-clause-short c = holder_short c.args.studio.now.present.graph
    c.requires.ready.shape.sources c.in_ok-found.found c.in_ok-found.ensures.found
    c.requires.ready.serial

pub tell_removed-requires-clause-child_there : goal.tell_removed-requires-clause-child_there
tell_removed-requires-clause-child_there c =
    subst (λ (g : GraphModel). is_some (row_of g.present c.in_ok-found.found.item.child) ≡ true)
    (sym c.graph.ensures.value) (child_there c.args.studio.now.present.graph
    c.requires.ready.shape.sources c.in_ok-found.found c.in_ok-found.ensures.found)

pub tell_removed-requires-clause-child_short : goal.tell_removed-requires-clause-child_short
tell_removed-requires-clause-child_short c = child_short c.args.studio.now.present.graph
    c.requires.ready.shape.sources c.in_ok-found.found c.in_ok-found.ensures.found
    c.requires.ready.serial
