use Rattle.mix_audience.proofs.Kept.{posted_all}
use Rattle.mix_audience.proofs.audience.Audience.queue.Goals as goal

-- the lanes stay beside the sessions
pub invariant_of-self : goal.invariant_of-self
invariant_of-self c = (posted_all _ c.post.new.self c.self.invariant c.self.view_is
    c.post.ensures.limit c.args.event c.args.actor c.post.ensures.lanes).kept

-- the event waits for those who take it
pub returns-clause-listeners : goal.returns-clause-listeners
returns-clause-listeners c = (posted_all _ c.post.new.self c.self.invariant c.self.view_is
    c.post.ensures.limit c.args.event c.args.actor c.post.ensures.lanes).seen
