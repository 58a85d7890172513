use Rattle.mix_studio.proofs.ChangeLemmas.{chosen_state}
use Rattle.mix_studio.proofs.studio.Studio.choose_transition.Goals as goal

-- how the next change goes is chosen, and nothing else changes
pub returns-clause-state : goal.returns-clause-state
returns-clause-state c = chosen_state _ c.args.self.now c.choose.new.self c.set_duration.new.self
    c.args.fade c.args.ms c.self.view_is c.choose.ensures.state c.set_duration.ensures.state
