use Rattle.mix_studio_calls.proofs.StageLemmas.{stage_opens}
use Rattle.mix_studio_calls.proofs.stage.stage.Goals as goal

-- its names are those of the stage
pub returns : goal.returns
returns c = record {
  opens = stage_opens _ _ _ _ _ _ c.requires.named.first c.requires.named.second
      c.requires.named.group c.requires.named.color c.requires.named.tone c.requires.lines;
}
