use Rattle.std.proofs.Common.{◌≡◌, ◌<◌, ◌∙◌, arith, length, refl, sym}
use Rattle.mix_model.specs.Lookups.{items_of}
use Rattle.mix_requests.proofs.SoughtLemmas.{items_seen}
use Rattle.mix_req_items.proofs.ItemLemmas.{from_bottom, item_hit, item_passed, none_hit}
use Rattle.mix_req_items.proofs.finding.index_of.Goals as goal

pub loop-index-init : goal.loop-index-init
loop-index-init c = from_bottom c.args.graph.now.present c.args.holder c.args.id

-- the first item of the id
pub returns-then-has_id_at : goal.returns-then-has_id_at
returns-then-has_id_at c = record {
  value = item_hit c.args.id c.loop-index.index (items_of c.args.graph.now.present c.args.holder) _ _
      refl (sym c.has_id_at.ensures.value ∙ c.if-has_id_at.true) c.loop-index.invariant;
}

-- an item of another id
pub loop-index-preserved : goal.loop-index-preserved
loop-index-preserved c =
    let count : c.in-Some.row.items ≡ length (items_of c.args.graph.now.present c.args.holder) =
    items_seen c.in-Some.row c.args.graph.now.present c.args.holder c.in-Some.ensures.reply in
    let within : c.loop-index.index < length (items_of c.args.graph.now.present c.args.holder) =
    omega (arith, count, c.loop-index-test.true) in
    item_passed c.args.id c.loop-index.index (items_of c.args.graph.now.present c.args.holder) _ _
    refl within (sym c.has_id_at.ensures.value ∙ c.if-has_id_at.false) c.loop-index.invariant

-- no item is left
pub returns : goal.returns
returns c =
    let count : c.in-Some.row.items ≡ length (items_of c.args.graph.now.present c.args.holder) =
    items_seen c.in-Some.row c.args.graph.now.present c.args.holder c.in-Some.ensures.reply in
    record {
      value = none_hit c.args.id c.loop-index.index (items_of c.args.graph.now.present c.args.holder) _
          (omega (arith, count, c.loop-index-test.false, c.loop-index.auto.index-end))
          c.loop-index.invariant;
    }
