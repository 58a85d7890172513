use Rattle.mix_studio.proofs.BegunLemmas.{begun_settled, begun_shape, begun_state}
use Rattle.mix_studio.proofs.studio.Studio.begin_changes.Goals as goal

-- an action begins, and what stands stays
pub returns-clause-state : goal.returns-clause-state
returns-clause-state c = begun_state _ c.args.self.now c.begin_changes.new.self c.self.view_is
    c.begin_changes.ensures.state

pub returns-clause-settled : goal.returns-clause-settled
returns-clause-settled c = begun_settled _ c.args.self.now c.begin_changes.new.self c.self.view_is
    c.begin_changes.ensures.state

pub returns-clause-shape : goal.returns-clause-shape
returns-clause-shape c = begun_shape _ c.args.self.now c.begin_changes.new.self c.self.view_is
    c.begin_changes.ensures.state c.requires.shape
