use Rattle.mix_studio.proofs.LentLemmas.{call_beside, lent_shape}
use Rattle.mix_requests.proofs.MakingLemmas.{begun_alone, made_alone}
use Rattle.mix_req_items.specs.Changes.{changed_by}
use Rattle.mix_req_items.proofs.ChangeLemmas.{change_beside, change_done}
use Rattle.mix_req_items.proofs.changing.change_item.Goals as goal

-- the item isn't lacking
pub returns-clause-present : goal.returns-clause-present
returns-clause-present c = made_alone c.args.studio.now c.graph_mut-graph.result.now
    c.change_in.new.graph c.graph_mut-graph.ensures.value
    (changed_by c.args.change c.args.found.now.holder c.args.found.now.item.id) c.requires.begun
    (change_done c.args.studio.now c.graph_mut-graph.result.now c.change_in.new.graph
    c.graph_mut-graph.ensures.value c.args.found.now c.requires.found c.args.change
    c.change_in.result c.change_in.ensures.ok c.change_in.ensures.missing.0)

pub returns-clause-begun : goal.returns-clause-begun
returns-clause-begun c = begun_alone c.args.studio.now c.graph_mut-graph.result.now
    c.change_in.new.graph c.graph_mut-graph.ensures.value
    (changed_by c.args.change c.args.found.now.holder c.args.found.now.item.id)
    (change_done c.args.studio.now c.graph_mut-graph.result.now c.change_in.new.graph
    c.graph_mut-graph.ensures.value c.args.found.now c.requires.found c.args.change
    c.change_in.result c.change_in.ensures.ok c.change_in.ensures.missing.0)

-- and the shape comes back
pub returns-clause-shape : goal.returns-clause-shape
returns-clause-shape c = lent_shape c.args.studio.now c.graph_mut-graph.result.now
    c.change_in.new.graph c.graph_mut-graph.ensures.value c.requires.shape c.has_shape.ensures.shape
    (call_beside c.change_in.result _ _
    (changed_by c.args.change c.args.found.now.holder c.args.found.now.item.id)
    (change_beside c.args.change c.args.found.now.holder c.args.found.now.item.id)
    c.change_in.ensures.ok c.change_in.ensures.err)
