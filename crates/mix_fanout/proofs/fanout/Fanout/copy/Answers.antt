use Rattle.mix_fanout.proofs.Fans.{is_there}
use Rattle.mix_fanout.proofs.fanout.Fanout.copy.Goals as goal

-- who has joined is there
pub waiting-requires : goal.waiting-requires
waiting-requires c = is_there c.self.inside.store c.args.conn c.self.inside.spare
    c.self.inside.limit c.self.inside.lanes.items _ _ c.deref.ensures.value c.self.view_is
    c.requires.joined
