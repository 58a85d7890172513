use Rattle.std.proofs.Common.{Ok}
use Rattle.mix_model.specs.Edits.{let_go}
use Rattle.mix_requests.proofs.MakingLemmas.{made_alone}
use Rattle.mix_studio.proofs.LentLemmas.{call_beside, lent_shape}
use Rattle.mix_engine.proofs.Leavers.{let_go_beside}
use Rattle.mix_engine.proofs.letting_go.let_go.Goals as goal

-- one edit, settled against what stood before
pub returns-clause-state : goal.returns-clause-state
returns-clause-state c = made_alone c.args.studio.now c.graph_mut-graph.result.now
    c.let_go.new.self c.graph_mut-graph.ensures.value
    (let_go c.args.holds.now c.args.watches.now) c.requires.begun c.let_go.ensures.state

-- and the shape comes back
pub returns-clause-shape : goal.returns-clause-shape
returns-clause-shape c = lent_shape c.args.studio.now c.graph_mut-graph.result.now
    c.let_go.new.self c.graph_mut-graph.ensures.value c.requires.shape
    c.has_shape.ensures.shape (call_beside {A = Unit {0}} {E = Unit {0}} (Ok tt) _ _
    (let_go c.args.holds.now c.args.watches.now)
    (let_go_beside c.args.holds.now c.args.watches.now) c.let_go.ensures.state tt)
