use Rattle.std.proofs.Common.{◌∙◌}
use Rattle.mix_engine.proofs.Openers.{nobody_yet, notes_none, opened_numbers}
use Rattle.mix_engine.proofs.mixing.Mixing.over.Goals as goal

-- nobody is connected, and nothing is noted
pub returns-clause-value : goal.returns-clause-value
returns-clause-value c = nobody_yet c.args.collection.now c.args.studio.present _ c.new-3.result
    (notes_none c.from_vec.result c.from_vec-2.result
    (c.from_vec.ensures.value ∙ c.new.ensures.items)
    (c.from_vec-2.ensures.value ∙ c.new-2.ensures.items))
    (c.new-3.ensures.secret ∙ c.in-Ok.ensures.value) c.new-3.ensures.listeners

pub returns-clause-numbers : goal.returns-clause-numbers
returns-clause-numbers c =
    opened_numbers c.args.studio.present _ c.new-3.result c.requires.low
