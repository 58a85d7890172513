use Rattle.mix_shape.proofs.MarkedLemmas.{scene_there}
use Rattle.mix_requests.proofs.ProperLemmas.{scene_short}
use Rattle.mix_req_inputs.proofs.creating.create_input.Goals as goal

-- the scene of an input that is found is a row
pub tell_input-requires-clause-parent : goal.tell_input-requires-clause-parent
tell_input-requires-clause-parent c = rw c.graph.ensures.value
    (scene_there c.args.studio.now.present.graph c.requires.ready.shape.sources
    c.in_ok-input.input.parent c.in_ok-input.ensures.makeable.parent)

-- and its serial is short
pub tell_input-requires-clause-short : goal.tell_input-requires-clause-short
tell_input-requires-clause-short c = scene_short c.args.studio.now.present.graph
    c.requires.ready.shape.sources c.requires.ready.serial c.in_ok-input.input.parent
    c.in_ok-input.ensures.makeable.parent
