-- what is found is valid, and has few items
use Rattle.std.proofs.Common.{sym, ◌∙◌, ap, option_copied}
use Rattle.mix_test_pictures.proofs.SmallLemmas.{few_items, view_valid}
use Rattle.mix_test_pictures.proofs.small.SmallTree.row.Goals as goal

pub view-requires : goal.view-requires
view-requires c = few_items c.args.self.now.rows.items c.args.serial c.in-Some.row.now
    c.args.self.now.fine (sym c.found.ensures ∙ ap option_copied c.in-Some.is)

pub returns-clause-valid : goal.returns-clause-valid
returns-clause-valid c = view_valid c.args.self.now.rows.items c.args.serial c.in-Some.row.now
    c.view.result c.args.self.now.fine (sym c.found.ensures ∙ ap option_copied c.in-Some.is)
    c.view.ensures
