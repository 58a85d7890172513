-- the row of the item is there as before
use Rattle.std.proofs.Common.{[], ◌∷◌}
use Rattle.std.proofs.lemmas.List.{get_or_append_left}
use Rattle.mix_store.proofs.shown.push_shown.Goals as goal

pub returns-in-Ok-clause-reply : goal.returns-in-Ok-clause-reply
returns-in-Ok-clause-reply c = λ d.
    let same = get_or_append_left c.args.rows.now.items (c.args.row ∷ []) d c.args.at
    c.requires.within in
    rw (← same, ← c.push_reserved.ensures.items) (c.in-Ok.ensures.reply d)
