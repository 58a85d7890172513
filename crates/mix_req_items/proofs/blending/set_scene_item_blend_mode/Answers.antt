use Rattle.mix_req_items.proofs.FoundLemmas.{place_fits}
use Rattle.mix_req_items.proofs.blending.set_scene_item_blend_mode.Goals as goal

-- where it stands it may stand
pub blended-change-requires : goal.blended-change-requires
blended-change-requires c = record {
  place = place_fits c.args.studio.now.present.graph c.requires.ready.shape.sources
      c.in_ok-found.found c.in_ok-found.ensures.found;
}
