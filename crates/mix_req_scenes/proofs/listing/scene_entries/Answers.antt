use Rattle.std.proofs.Common.{◌<◌, ◌≤◌, arith, length, sym}
use Rattle.mix_req_scenes.proofs.ListingLemmas.{entries_more, entries_end, pushed, within_more}
use Rattle.mix_req_scenes.proofs.ShortLemmas.{few_scenes, got_short}
use Rattle.mix_req_scenes.proofs.listing.scene_entries.Goals as goal

-- a scene of the registry has a short serial
pub scene_entry-requires : goal.scene_entry-requires
scene_entry-requires c = record {
  serial = got_short c.args.graph.now.present c.has_shape.ensures.shape c.requires.serial
      c.scenes.index c.in-Some.serial (sym c.in-Some.ensures.reply);
}

-- there are fewer scenes than serials
pub overflow_add-index : goal.overflow_add-index
overflow_add-index c =
    let here : c.scenes.index < length c.args.graph.now.present.scenes =
    within_more c.args.graph.now.present.scenes c.scenes.index c.in-Some.serial
    (sym c.in-Some.ensures.reply) in
    let few : length c.args.graph.now.present.scenes ≤ c.args.graph.now.present.next_serial =
    few_scenes c.args.graph.now.present c.has_shape.ensures.shape in
    let serial : c.args.graph.now.present.next_serial < 4294967295 = c.requires.serial in
    omega arith

-- one entry more
pub scenes-preserved : goal.scenes-preserved
scenes-preserved c = record {
  entries = entries_more c.args.graph.now.present c.args.graph.now.present.scenes c.scenes.index
      c.in-Some.serial _ _ _ (sym c.in-Some.ensures.reply)
      (pushed _ _ _ _ c.in-Ok-push_obj.ensures.ok c.in-Ok.ensures.value)
      c.scenes.invariant.entries;
  within =
      let here : c.scenes.index < length c.args.graph.now.present.scenes =
      within_more c.args.graph.now.present.scenes c.scenes.index c.in-Some.serial
      (sym c.in-Some.ensures.reply) in
      omega arith;
}

-- no scene is left
pub returns : goal.returns
returns c = record {
  value = entries_end c.args.graph.now.present c.args.graph.now.present.scenes c.scenes.index
      _ _ (sym c.in_default.ensures.reply) c.scenes.invariant.entries;
}
