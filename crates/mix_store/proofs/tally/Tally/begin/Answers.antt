-- the marks are those of what stands, and nothing has changed against them
use Rattle.std.proofs.Common.{arith, ap, sym, ◌∙◌}
use Rattle.std.proofs.lemmas.Grind.{common_steps}
use Rattle.mix_model.specs.Marks.{changes_by}
use Rattle.mix_shape.proofs.MarkedLemmas.{nothing_changed}
use Rattle.mix_store.proofs.KeptLemmas.{marked_from, all_written}
use Rattle.mix_store.proofs.tally.Tally.begin.Goals as goal

pub returns-clause-begun : goal.returns-clause-begun
returns-clause-begun c =
    let active = all_written c.flag_active.new.flags c.self.inside.active.items
    c.self.inside.active.len (grind (arith, common_steps)) (grind (arith, common_steps)) in
    let showing = all_written c.flag_showing.new.flags c.self.inside.showing.items
    c.self.inside.showing.len (grind (arith, common_steps)) (grind (arith, common_steps)) in
    rw (
      c.write_marks.ensures.items,
      c.rows.ensures.value,
      c.as_slice.ensures.value,
      c.as_slice-2.ensures.value,
      active,
      showing,
      c.flag_active.ensures,
      c.flag_showing.ensures,
    ) (marked_from c.args.sources.now c.args.sources.now.rows)

pub returns-clause-told : goal.returns-clause-told
returns-clause-told c = record {
  count = grind (arith, common_steps);
  changes = c.clear.ensures.items ∙ sym (ap (λ marks. changes_by marks c.args.sources.now
      c.args.sources.now.rows) (returns-clause-begun c) ∙ nothing_changed c.args.sources.now);
}
