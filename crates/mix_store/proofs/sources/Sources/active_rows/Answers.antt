-- there is room for all rows, and the flags are those of activity
use Rattle.std.proofs.Common.{◌∙◌, arith}
use Rattle.std.proofs.lemmas.Grind.{common_steps}
use Rattle.mix_model.specs.Walks.{is_active}
use Rattle.mix_store.proofs.SettleLemmas.{flagged_few, flagged_by}
use Rattle.mix_store.proofs.KeptLemmas.{all_written}
use Rattle.mix_store.proofs.sources.Sources.active_rows.Goals as goal

pub push_flagged-requires-clause-room : goal.push_flagged-requires-clause-room
push_flagged-requires-clause-room c =
    let few = flagged_few c.as_slice.result.now c.flag_active.new.flags in
    grind (arith, common_steps, few)

pub returns : goal.returns
returns c =
    let none = c.reserve.ensures.items ∙ c.new-serials.ensures.items in
    let flags = all_written c.flag_active.new.flags c.in_ok-flags.flags.items
    c.in_ok-flags.flags.len (grind (arith, common_steps)) (grind (arith, common_steps)) in
    record {
      value = rw (
        c.push_flagged.ensures.items,
        none,
        c.as_slice.ensures.value,
        c.as_slice-2.ensures.value,
        flags,
        c.flag_active.ensures,
        ← c.self.view_is,
      ) (rw (← c.self.view_is)
          at (flagged_by (is_active c.args.self.now) c.args.self.now.rows));
    }
