-- a walk is no longer than the rank of its first row
use Rattle.mix_model.proofs.WalkLemmas.{active_agrees, showing_agrees}
use Rattle.mix_model.proofs.laws.tests_are_walks.Goals as goal

pub returns-clause-active : goal.returns-clause-active
returns-clause-active c = active_agrees

pub returns-clause-showing : goal.returns-clause-showing
returns-clause-showing c = showing_agrees
