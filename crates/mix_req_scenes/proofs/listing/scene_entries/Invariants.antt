use Rattle.std.proofs.Common.{◌≡◌, ◌≤◌, ◌-◌, ◌++◌, drop, length}
use Rattle.mix_req_scenes.specs.GetSceneList.{scene_entries}
use Rattle.mix_req_scenes.proofs.listing.scene_entries.Given as goal

-- the entries so far and those of the scenes that are left are all of them
abbrev pub invariant-scenes : goal.invariant-scenes
invariant-scenes l = record {
  entries : l.items ++ scene_entries l.graph.present l.index (drop l.index l.graph.present.scenes)
      ≡ scene_entries l.graph.present 0 l.graph.present.scenes;
  within : l.index ≤ length l.graph.present.scenes;
}

abbrev pub decreases-scenes : goal.decreases-scenes
decreases-scenes l = length l.graph.present.scenes - l.index
