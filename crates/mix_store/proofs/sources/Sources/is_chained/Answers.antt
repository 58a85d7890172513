-- the chain goes through the rows
use Rattle.mix_store.proofs.sources.Sources.is_chained.Goals as goal

pub returns : goal.returns
returns c = rw (← c.self.view_is, c.chains_to.ensures, c.as_slice.ensures.value)
