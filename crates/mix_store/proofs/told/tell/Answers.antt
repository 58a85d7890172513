-- the changes by the flags are those by the walks
use Rattle.std.proofs.Common.{refl}
use Rattle.mix_model.specs.declared.change.Change.TheVariants.{Active as ActiveNow}
use Rattle.mix_model.specs.declared.change.Change.TheVariants.{Showing as ShowingNow}
use Rattle.mix_model.specs.Marks.{was_active, was_showing}
use Rattle.mix_model.specs.Walks.{is_active, is_showing}
use Rattle.mix_store.proofs.KeptLemmas.{told_all}
use Rattle.mix_store.proofs.told.tell.Goals as goal

pub returns-clause-items : goal.returns-clause-items
returns-clause-items c =
    let active = told_all ActiveNow (was_active c.args.marks.now) (is_active c.args.sources.now)
    c.args.sources.now.rows in
    let showing = told_all ShowingNow (was_showing c.args.marks.now)
    (is_showing c.args.sources.now) c.args.sources.now.rows in
    rw (
      c.push_showing.ensures.items,
      c.push_active.ensures.items,
      c.clear.ensures.items,
      c.rows.ensures.value,
      c.rows-2.ensures.value,
      c.flag_active.ensures,
      c.flag_showing.ensures,
      active,
      showing,
    ) refl
