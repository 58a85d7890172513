-- the look-up finds no row that isn't named
use Rattle.std.proofs.Common.{sym, ◌∙◌, ap, is_some}
use Rattle.mix_shape.proofs.ThinnerLemmas.{name_found}
use Rattle.mix_store.proofs.CreateLemmas.{copied_some}
use Rattle.mix_store.proofs.sources.Sources.has_name.Goals as goal

pub returns : goal.returns
returns c = c.is_some.ensures ∙ sym (copied_some c.find_named.result)
    ∙ ap is_some c.find_named.ensures ∙ name_found c.args.self.now c.args.name.now
