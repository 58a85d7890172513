use Rattle.std.proofs.Common.{◌≡◌, ◌++◌, flat_map, drop}
use Rattle.mix_model.specs.Lookups.{named_by}
use Rattle.mix_model.specs.Pictures.{side_roots}
use Rattle.mix_studio.proofs.studio.Studio.sides.Given as goal

-- what was named so far, and what the channels name that are left, are all of them
abbrev pub invariant-loop-number : goal.invariant-loop-number
invariant-loop-number l = record {
  roots : l.roots.items
      ++ flat_map named_by (drop l.number l.self.present.graph.channels)
      ≡ side_roots l.self.present.graph;
}
