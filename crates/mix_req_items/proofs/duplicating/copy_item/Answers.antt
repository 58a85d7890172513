use Rattle.std.proofs.Common.{◌<◌, ℕ, IfSome, refl, subst, sym}
use Rattle.mix_model.specs.Causes.{copy_cause}
use Rattle.mix_model.specs.Edits.{item_duplicated}
use Rattle.mix_model.specs.Lookups.{row_of}
use Rattle.mix_model.specs.Marks.{GraphModel}
use Rattle.mix_studio.proofs.LentLemmas.{call_beside, lent_shape}
use Rattle.mix_requests.specs.Sources.{edited_alone}
use Rattle.mix_requests.proofs.MakingLemmas.{edits_done, edits_refused, item_drawn}
use Rattle.mix_req_items.proofs.CreateLemmas.{copy_beside}
use Rattle.mix_req_items.proofs.duplicating.copy_item.Goals as goal

-- the studio has lent its own sources
pub duplicate_item-made-requires : goal.duplicate_item-made-requires
duplicate_item-made-requires c = record {
  drawn = subst (λ (k : GraphModel). IfSome (row_of k.present c.args.to)
      (λ r. r.next_item < 4294967295)) (sym c.graph_mut-graph.ensures.value)
      (item_drawn c.args.studio.now.present.graph c.args.to c.requires.ready.items);
}

-- the copy is made, or its cause refuses it
pub returns-in-Ok-clause-edits : goal.returns-in-Ok-clause-edits
returns-in-Ok-clause-edits c = edits_done c.args.studio.now c.graph_mut-graph.result.now
    c.duplicate_item-made.new.self c.graph_mut-graph.ensures.value
    (item_duplicated c.args.found.now.holder c.args.found.now.item.id c.args.to)
    (λ g. copy_cause g c.args.found.now.holder c.args.found.now.item.id c.args.to (item_duplicated c.args.found.now.holder c.args.found.now.item.id c.args.to g))
    _ refl c.requires.ready.begun c.in-Ok.ensures.ok c.in-Ok.ensures.refused

pub returns-in-Err-clause-edits : goal.returns-in-Err-clause-edits
returns-in-Err-clause-edits c = edits_refused c.args.studio.now
    c.graph_mut-graph.result.now c.duplicate_item-made.new.self c.graph_mut-graph.ensures.value ℕ
    (λ g. copy_cause g c.args.found.now.holder c.args.found.now.item.id c.args.to (item_duplicated c.args.found.now.holder c.args.found.now.item.id c.args.to g))
    _ refl c.in-Err.fault c.from.result
    (edited_alone (item_duplicated c.args.found.now.holder c.args.found.now.item.id c.args.to) c.args.studio.now.present)
    c.in-Err.ensures.err c.from.ensures c.in-Err.ensures.refused

-- and the shape comes back
pub returns-in-Ok-clause-shape : goal.returns-in-Ok-clause-shape
returns-in-Ok-clause-shape c = lent_shape c.args.studio.now c.graph_mut-graph.result.now
    c.duplicate_item-made.new.self c.graph_mut-graph.ensures.value c.requires.ready.shape
    c.has_shape.ensures.shape (call_beside c.duplicate_item-made.result _ _
    (item_duplicated c.args.found.now.holder c.args.found.now.item.id c.args.to)
    (copy_beside c.args.found.now.holder c.args.found.now.item.id c.args.to) c.duplicate_item-made.ensures.ok
    c.duplicate_item-made.ensures.err)
