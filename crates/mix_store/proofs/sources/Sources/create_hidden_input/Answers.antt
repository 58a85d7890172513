-- one row more, in its room
use Rattle.std.proofs.Common.{ap, vec_capacity, arith}
use Rattle.std.proofs.lemmas.Grind.{common_steps}
use Rattle.mix_model.specs.declared.row.Row.{Row}
use Rattle.mix_model.specs.Rows.{new_row}
use Rattle.mix_model.specs.Edits.{input_created}
use Rattle.mix_store.proofs.CreateLemmas.{order_row}
use Rattle.mix_store.proofs.sources.Sources.create_hidden_input.Goals as goal

pub invariant_of-self-2 : goal.invariant_of-self-2
unfolding new_row
invariant_of-self-2 c =
    order_row c.self.inside.rows.items c.push_reserved.new.self.items c.new_row-row.result
    c.reserve_source.new.dying.items (vec_capacity c.self.inside.dying)
    (vec_capacity c.reserve_source.new.dying) c.self.inside.next_serial
    (rw c.reserve_source.ensures.dying c.self.invariant)
    (rw (← c.reserve_source.ensures.rows) c.push_reserved.ensures.items)
    (ap (λ (r : Row). r.items) c.new_row-row.ensures)
    (grind (arith, common_steps, c.in-Ok.ensures.dying_room))
    (rw (← c.self.view_is) at c.requires.drawn)
    (ap (λ (r : Row). r.serial) c.new_row-row.ensures)

pub returns-clause-ok : goal.returns-clause-ok
unfolding input_created
returns-clause-ok c =
    rw (
      ← c.self.view_is,
      c.push_reserved-2.ensures.items,
      c.push_reserved.ensures.items,
      c.reserve_source.ensures.rows,
      c.reserve_source.ensures.dying,
      c.reserve_source.ensures.list,
      c.new_row-row.ensures,
    )
