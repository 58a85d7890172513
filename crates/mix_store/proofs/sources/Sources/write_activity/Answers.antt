-- numbers leave all that is kept of rows
use Rattle.mix_model.specs.Marks.{row_settled}
use Rattle.mix_model.specs.Walks.{is_active}
use Rattle.mix_store.proofs.ChangeLemmas.{order_same}
use Rattle.mix_store.proofs.SettleLemmas.{serials_numbered, count_numbered, numbered_by}
use Rattle.mix_store.proofs.sources.Sources.write_activity.Goals as goal

pub invariant_of-self : goal.invariant_of-self
invariant_of-self c = rw c.write_numbers.ensures
    (order_same c.self.inside.rows.items _ _ _ _ c.self.invariant
    (serials_numbered c.args.marks.now c.self.inside.clock c.self.inside.rows.items
    c.flag_active.new.flags) (rw (count_numbered c.args.marks.now c.self.inside.clock
    c.self.inside.rows.items c.flag_active.new.flags) c.self.invariant.items))

pub returns : goal.returns
unfolding row_settled is_active
returns c =
    let numbers = rw (← c.self.view_is)
    at (numbered_by c.args.marks.now c.args.self.now c.args.self.now.rows) in
    let active = rw (← c.self.view_is) at c.flag_active.ensures in
    rw (← c.self.view_is, c.write_numbers.ensures, active) (rw numbers)
