use Rattle.std.proofs.Common.{◌≡◌, is_some, subst, sym, true}
use Rattle.mix_model.specs.Lookups.{row_of}
use Rattle.mix_model.specs.Marks.{GraphModel}
use Rattle.mix_requests.proofs.ProperLemmas.{short_below}
use Rattle.mix_req_items.proofs.FoundLemmas.{row_below}
use Rattle.mix_req_items.proofs.creating.tell_item.Goals as goal

-- both are rows, and their serials are short
pub tell_created-requires-clause-there : goal.tell_created-requires-clause-there
tell_created-requires-clause-there c =
    subst (λ (g : GraphModel). is_some (row_of g.present c.args.ends.now.holder) ≡ true)
    (sym c.graph-graph.ensures.value) c.requires.ends.holder

pub tell_created-requires-clause-short : goal.tell_created-requires-clause-short
tell_created-requires-clause-short c = short_below c.args.studio.now.present.graph.next_serial
    c.args.ends.now.holder c.requires.serial (row_below c.args.studio.now.present.graph
    c.requires.shape.sources c.args.ends.now.holder c.requires.ends.holder)

pub tell_created-requires-clause-child_there : goal.tell_created-requires-clause-child_there
tell_created-requires-clause-child_there c =
    subst (λ (g : GraphModel). is_some (row_of g.present c.args.ends.now.child) ≡ true)
    (sym c.graph-graph.ensures.value) c.requires.ends.child

pub tell_created-requires-clause-child_short : goal.tell_created-requires-clause-child_short
tell_created-requires-clause-child_short c = short_below c.args.studio.now.present.graph.next_serial
    c.args.ends.now.child c.requires.serial (row_below c.args.studio.now.present.graph
    c.requires.shape.sources c.args.ends.now.child c.requires.ends.child)
