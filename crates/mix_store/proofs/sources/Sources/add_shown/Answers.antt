-- the new row, and the item on the row that has the serial
use Rattle.std.proofs.Common.{ap, sym, Some, vec_capacity, arith}
use Rattle.std.proofs.lemmas.Grind.{common_steps}
use Rattle.mix_model.specs.declared.row.Row.{Row}
use Rattle.mix_model.specs.Rows.{new_row}
use Rattle.mix_store.proofs.ChangeLemmas.{some_row}
use Rattle.mix_store.proofs.ItemLemmas.{found_at, no_row}
use Rattle.mix_store.proofs.CheckLemmas.{shown_state, order_shown}
use Rattle.mix_store.proofs.sources.Sources.add_shown.Goals as goal

pub unreachable-requires : goal.unreachable-requires
unreachable-requires c = no_row c.args.self.now c.args.parent c.requires.there
    (rw (← c.self.view_is) (rw c.as_slice.ensures.value at c.in_default.ensures.none))

pub push_shown-requires-clause-drawn : goal.push_shown-requires-clause-drawn
push_shown-requires-clause-drawn c = λ d.
    let found = found_at c.args.parent c.self.inside.rows.items c.as_slice.result.now c.in-Some.at d
    c.as_slice.ensures.value c.self.invariant.rise c.in-Some.ensures.within
    (c.in-Some.ensures.at d) in
    let drawn = rw (← c.self.view_is) at c.requires.item_drawn in
    rw c.reserve_source.ensures.rows (rw found at drawn)

pub invariant_of-self-in-Ok-push_shown : goal.invariant_of-self-in-Ok-push_shown
unfolding new_row
invariant_of-self-in-Ok-push_shown c =
    order_shown c.self.inside.rows.items c.push_shown.new.rows.items c.new_row-row.result
    c.reserve_source.new.dying.items (vec_capacity c.self.inside.dying)
    (vec_capacity c.reserve_source.new.dying) c.self.inside.next_serial c.in-Some.at
    c.new_row-row.result.serial c.args.spec.now some_row
    (rw c.reserve_source.ensures.dying c.self.invariant)
    (ap (λ (r : Row). r.items) c.new_row-row.ensures)
    (grind (arith, common_steps, c.in-Ok.ensures.dying_room))
    (rw (← c.self.view_is) at c.requires.drawn)
    (ap (λ (r : Row). r.serial) c.new_row-row.ensures)
    (rw c.as_slice.ensures.value at c.in-Some.ensures.within)
    (rw (← c.reserve_source.ensures.rows) (c.in-Ok-push_shown.ensures.ok some_row))
    (rw (← c.self.view_is) at c.requires.few)

pub returns-in-Ok-push_shown-clause-item : goal.returns-in-Ok-push_shown-clause-item
returns-in-Ok-push_shown-clause-item c =
    let found = found_at c.args.parent c.self.inside.rows.items c.as_slice.result.now c.in-Some.at
    some_row c.as_slice.ensures.value c.self.invariant.rise c.in-Some.ensures.within
    (c.in-Some.ensures.at some_row) in
    let own = rw c.reserve_source.ensures.rows at (c.in-Ok-push_shown.ensures.reply some_row) in
    rw (← c.self.view_is, found) (ap Some (sym own))

pub returns-in-Ok-push_shown-clause-ok : goal.returns-in-Ok-push_shown-clause-ok
unfolding new_row
returns-in-Ok-push_shown-clause-ok c =
    let below = rw c.as_slice.ensures.value at c.in-Some.ensures.within in
    let here = rw c.as_slice.ensures.value at (c.in-Some.ensures.at some_row) in
    rw (
      ← c.self.view_is,
      c.in-Ok-push_shown.ensures.ok some_row,
      c.list_input.ensures,
      c.reserve_source.ensures.rows,
      c.reserve_source.ensures.dying,
      c.reserve_source.ensures.list,
      c.new_row-row.ensures,
    ) (shown_state c.args.name c.args.kind c.args.settings c.args.parent c.args.spec.now _
    c.in-Some.at some_row c.self.invariant.differ c.self.invariant.below below here)
