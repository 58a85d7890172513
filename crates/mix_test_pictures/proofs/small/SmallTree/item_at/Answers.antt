-- an item at a place is one of the row that is found
use Rattle.mix_test_pictures.proofs.SmallLemmas.{item_placed, child_known}
use Rattle.mix_test_pictures.proofs.small.SmallTree.item_at.Goals as goal

pub returns-clause-place : goal.returns-clause-place
returns-clause-place c = item_placed c.args.self.now.rows.items c.args.parent c.args.index
    c.item.result c.args.self.now.fine c.item.ensures

pub returns-clause-child : goal.returns-clause-child
returns-clause-child c = child_known c.args.self.now.rows.items c.args.parent c.args.index
    c.item.result c.args.self.now.fine c.item.ensures
