use Rattle.std.proofs.Common.{◌<◌, ℕ, IfSome, subst, sym}
use Rattle.mix_model.specs.Causes.{shown_cause}
use Rattle.mix_model.specs.Edits.{shown_input_created}
use Rattle.mix_model.specs.Lookups.{row_of}
use Rattle.mix_model.specs.Marks.{GraphModel}
use Rattle.mix_model.specs.State.{GraphState}
use Rattle.mix_studio.proofs.LentLemmas.{call_beside, lent_shape}
use Rattle.mix_requests.proofs.MakingLemmas.{edits_done, edits_refused, input_beside, item_drawn}
use Rattle.mix_requests.proofs.MakingLemmas.{only_late}
use Rattle.mix_requests.specs.Sources.{edited_alone}
use Rattle.mix_requests.proofs.making.make_input.Goals as goal

-- the studio has lent its own sources
pub create_input-made-requires-clause-item_drawn :
    goal.create_input-made-requires-clause-item_drawn
create_input-made-requires-clause-item_drawn c =
    subst (λ (k : GraphModel). IfSome (row_of k.present c.args.parent) (λ r. r.next_item < 4294967295))
    (sym c.graph_mut-graph.ensures.value)
    (item_drawn c.args.studio.now.present.graph c.args.parent c.requires.ready.items)

-- no cause but a late one refuses an input on a scene of the registry whose name is free
pub returns-in-Ok-clause-edits : goal.returns-in-Ok-clause-edits
returns-in-Ok-clause-edits c =
    let made : GraphState → GraphState =
    shown_input_created c.args.name c.args.kind c.args.settings c.args.parent c.args.spec in
    edits_done c.args.studio.now c.graph_mut-graph.result.now c.create_input-made.new.self
    c.graph_mut-graph.ensures.value made
    (λ g. shown_cause g c.args.name c.args.parent (made g)) _
    (only_late c.args.studio.now.present.graph c.requires.ready.shape.sources c.args.name
    c.args.parent c.requires.parent c.requires.free (made c.args.studio.now.present.graph))
    c.requires.ready.begun c.in-Ok.ensures.ok c.in-Ok.ensures.refused

pub returns-in-Err-clause-edits : goal.returns-in-Err-clause-edits
returns-in-Err-clause-edits c =
    let made : GraphState → GraphState =
    shown_input_created c.args.name c.args.kind c.args.settings c.args.parent c.args.spec in
    edits_refused c.args.studio.now c.graph_mut-graph.result.now
    c.create_input-made.new.self c.graph_mut-graph.ensures.value ℕ
    (λ g. shown_cause g c.args.name c.args.parent (made g)) _
    (only_late c.args.studio.now.present.graph c.requires.ready.shape.sources c.args.name
    c.args.parent c.requires.parent c.requires.free (made c.args.studio.now.present.graph))
    c.in-Err.fault c.from.result (edited_alone made c.args.studio.now.present)
    c.in-Err.ensures.err c.from.ensures c.in-Err.ensures.refused

-- and the shape comes back
pub returns-in-Ok-clause-shape : goal.returns-in-Ok-clause-shape
returns-in-Ok-clause-shape c = lent_shape c.args.studio.now c.graph_mut-graph.result.now
    c.create_input-made.new.self c.graph_mut-graph.ensures.value c.requires.ready.shape
    c.has_shape.ensures.shape (call_beside c.create_input-made.result _ _
    (shown_input_created c.args.name c.args.kind c.args.settings c.args.parent c.args.spec)
    (input_beside c.args.name c.args.kind c.args.settings c.args.parent c.args.spec)
    c.create_input-made.ensures.ok c.create_input-made.ensures.err)
