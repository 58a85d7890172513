-- the near rows decide, where they are all that can change
use Rattle.std.proofs.Common.{◌∙◌}
use Rattle.mix_store.proofs.NearLemmas.{ranks_kept}
use Rattle.mix_store.proofs.refused.are_shallow.Goals as goal

pub returns : goal.returns
returns c = c.all_shallow.ensures
    ∙ ranks_kept c.args.new.now c.args.rows.now c.requires.rising c.args.near c.requires.near
