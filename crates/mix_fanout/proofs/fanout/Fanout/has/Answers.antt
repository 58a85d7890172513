use Rattle.mix_fanout.proofs.Fans.{has_joined}
use Rattle.mix_fanout.proofs.fanout.Fanout.has.Goals as goal

-- who is there has joined
pub returns : goal.returns
returns c = record {
  value = has_joined c.self.inside.store c.args.conn c.self.inside.spare
      c.self.inside.limit c.self.inside.lanes.items _ _ _ c.deref.ensures.value c.self.view_is
      c.has.ensures.value;
}
