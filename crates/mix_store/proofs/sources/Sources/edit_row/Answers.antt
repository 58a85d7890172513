-- one row has the serial, or none has
use Rattle.mix_store.specs.RowEdits.{row_edited}
use Rattle.mix_store.proofs.ChangeLemmas.{nothing_changed, changed_at, order_set, some_row}
use Rattle.mix_store.proofs.ChangeLemmas.{edited_serial, edited_items}
use Rattle.mix_store.proofs.sources.Sources.edit_row.Goals as goal

pub returns-in_default : goal.returns-in_default
returns-in_default c = nothing_changed c.args.self.now c.args.serial (row_edited c.args.edit)
    (rw (← c.self.view_is) (rw c.as_slice.ensures.value at c.in_default.ensures.none))

pub invariant_of-self : goal.invariant_of-self
invariant_of-self c =
    let within = rw c.as_slice.ensures.value at c.in-Some.ensures.within in
    rw (c.edit_at.ensures some_row)
    (order_set c.self.inside.rows.items c.in-Some.at _ some_row _ _ _ c.self.invariant within
    (edited_serial c.args.edit _) (edited_items c.args.edit _))

pub returns : goal.returns
returns c =
    let within = rw c.as_slice.ensures.value at c.in-Some.ensures.within in
    let here = rw c.as_slice.ensures.value at (c.in-Some.ensures.at some_row) in
    rw (
      ← c.self.view_is,
      c.edit_at.ensures some_row,
      ← changed_at c.args.serial (row_edited c.args.edit) c.self.inside.rows.items c.in-Some.at
          some_row c.self.invariant.differ within here,
    )
