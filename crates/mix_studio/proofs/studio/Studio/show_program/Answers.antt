use Rattle.mix_studio.proofs.ChangeLemmas.{show_given, show_state, show_there}
use Rattle.mix_studio.proofs.SceneLemmas.{left_where_ok}
use Rattle.mix_studio.proofs.studio.Studio.show_program.Goals as goal

-- what the program shows are scenes of the registry
pub set_channel-requires-clause-given : goal.set_channel-requires-clause-given
set_channel-requires-clause-given c = show_given _ c.args.self.now c.ends-first.result c.self.view_is
    c.requires.sources c.requires.scenes c.ends-first.ensures.value c.has_shape.ensures.shape

-- which aren't missing
pub returns-clause-state : goal.returns-clause-state
returns-clause-state c = show_state _ c.args.self.now c.set_channel.new.self c.ends-first.result
    c.self.view_is c.ends-first.ensures.value (left_where_ok c.set_channel.result _
    c.set_channel.ensures.ok (λ err. show_there _ c.args.self.now c.ends-first.result c.self.view_is
    c.requires.sources c.requires.scenes c.ends-first.ensures.value
    (c.set_channel.ensures.missing.0 err)))
