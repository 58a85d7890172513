-- the item is put on the row that has the serial
use Rattle.mix_model.specs.Edits.{item_added}
use Rattle.mix_model.specs.Items.{with_item}
use Rattle.mix_store.proofs.ChangeLemmas.{some_row, changed_at}
use Rattle.mix_store.proofs.ItemLemmas.{found_at, no_row, ok_map, reply_map, order_put, put_serials}
use Rattle.mix_store.proofs.ItemLemmas.{put_few}
use Rattle.mix_store.proofs.sources.Sources.add_item.Goals as goal

pub unreachable-requires : goal.unreachable-requires
unreachable-requires c = no_row c.args.self.now c.args.parent c.requires.there
    (rw (← c.self.view_is) (rw c.as_slice.ensures.value at c.in_default.ensures.none))

pub push_item_at-requires-clause-drawn : goal.push_item_at-requires-clause-drawn
push_item_at-requires-clause-drawn c = λ d.
    let found = found_at c.args.parent c.self.inside.rows.items c.as_slice.result.now c.in-Some.at d
    c.as_slice.ensures.value c.self.invariant.rise c.in-Some.ensures.within
    (c.in-Some.ensures.at d) in
    let drawn = rw (← c.self.view_is) at c.requires.drawn in
    rw found at drawn

pub invariant_of-self : goal.invariant_of-self
invariant_of-self c =
    let below = rw c.as_slice.ensures.value at c.in-Some.ensures.within in
    order_put c.self.inside.rows.items c.push_item_at.new.rows.items _ _ _ _
    c.push_item_at.result
    (ok_map _ _ c.push_item_at.result c.push_item_at.ensures.ok (λ h. h some_row))
    c.push_item_at.ensures.err
    (put_few c.self.inside.rows.items c.in-Some.at c.args.child c.args.spec.now some_row below
    (rw (← c.self.view_is) at c.requires.few)) c.self.invariant
    (put_serials c.self.inside.rows.items c.in-Some.at c.args.child c.args.spec.now some_row below)

pub returns-clause-reply : goal.returns-clause-reply
returns-clause-reply c =
    let found = found_at c.args.parent c.self.inside.rows.items c.as_slice.result.now c.in-Some.at
    some_row c.as_slice.ensures.value c.self.invariant.rise c.in-Some.ensures.within
    (c.in-Some.ensures.at some_row) in
    reply_map _ _ c.push_item_at.result c.push_item_at.ensures.reply
    (λ id h. rw (← c.self.view_is, found) (h some_row))

pub returns-clause-ok : goal.returns-clause-ok
unfolding item_added
returns-clause-ok c =
    let below = rw c.as_slice.ensures.value at c.in-Some.ensures.within in
    let here = rw c.as_slice.ensures.value at (c.in-Some.ensures.at some_row) in
    ok_map _ _ c.push_item_at.result c.push_item_at.ensures.ok (λ h. rw (
      ← c.self.view_is,
      h some_row,
      ← changed_at c.args.parent (with_item c.args.child c.args.spec.now)
          c.self.inside.rows.items c.in-Some.at some_row c.self.invariant.differ below here,
    ))
