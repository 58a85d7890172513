-- the settling writes only `since` and the dying list
use Rattle.mix_model.proofs.SettleLemmas.{settled_holders, settled_active, settled_showing}
use Rattle.mix_model.proofs.laws.settling_keeps.Goals as goal

pub returns-clause-holders : goal.returns-clause-holders
returns-clause-holders c = settled_holders

pub returns-clause-activity : goal.returns-clause-activity
returns-clause-activity c = settled_active

pub returns-clause-showing : goal.returns-clause-showing
returns-clause-showing c = settled_showing
