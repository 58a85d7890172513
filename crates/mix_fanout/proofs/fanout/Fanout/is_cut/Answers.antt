use Rattle.mix_fanout.proofs.Fans.{has_cut}
use Rattle.mix_fanout.proofs.fanout.Fanout.is_cut.Goals as goal

-- who is cut there is cut
pub returns : goal.returns
returns c = record {
  value = has_cut c.self.inside.store c.args.conn c.self.inside.spare
      c.self.inside.limit c.self.inside.lanes.items _ _ _ c.deref.ensures.value c.self.view_is
      c.is_cut.ensures.value;
}
