use Rattle.std.proofs.Common.{◌∙◌}
use Rattle.mix_audience.proofs.Kept.{as_seen, counted}
use Rattle.mix_audience.proofs.audience.Audience.len.Goals as goal

-- one session for each connection
pub returns : goal.returns
returns c = record {
  value = c.len.ensures ∙ c.self.inside.members.ok.0
      ∙ counted (as_seen _ c.self.invariant c.self.view_is);
}
