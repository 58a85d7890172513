-- the near rows decide, where they are all that can change
use Rattle.std.proofs.Common.{◌∙◌}
use Rattle.mix_store.proofs.NearLemmas.{weights_kept}
use Rattle.mix_store.proofs.refused.are_light.Goals as goal

pub returns : goal.returns
returns c = c.all_light.ensures
    ∙ weights_kept c.args.new.now c.args.rows.now c.requires.rising c.args.near c.requires.near
