use Rattle.std.proofs.Common.{◌∙◌, ap, find}
use Rattle.mix_audience.specs.Sides.{is_member}
use Rattle.mix_audience.proofs.Kept.{as_seen, member_found}
use Rattle.mix_audience.proofs.audience.Audience.member.Goals as goal

-- the session of an open connection is at its place
pub returns : goal.returns
returns c = record {
  value = c.member_at.ensures.value
      ∙ ap (find (is_member c.args.conn)) c.as_slice.ensures.value
      ∙ member_found c.args.conn (as_seen _ c.self.invariant c.self.view_is);
}
