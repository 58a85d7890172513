-- The draws so far, and those of the roots that are left, are all.
use Rattle.std.proofs.Common.{◌≡◌, ◌++◌, drop, []}
use Rattle.std.specs.List.{flat_map, list_all}
use Rattle.mix_model.specs.declared.kind.Blend.TheVariants.{Normal}
use Rattle.mix_model.specs.Drawing.{depth}
use Rattle.mix_plan.specs.Listed.{listed}
use Rattle.mix_plan.specs.Seen.{is_sound}
use Rattle.mix_plan.proofs.plans.list_roots.Given as goal

abbrev pub invariant-loop-root : goal.invariant-loop-root
invariant-loop-root g l = record {
  steps : l.listing.steps.items ≡ [];
  draws : l.listing.draws.items
      ++ flat_map (listed (g.T.Tree.rows l.tree) l.canvas depth [] Normal) (drop l.root-index l.roots)
      ≡ flat_map (listed (g.T.Tree.rows l.tree) l.canvas depth [] Normal) l.roots;
  sound : list_all (is_sound (g.T.Tree.rows l.tree) l.canvas depth) (drop l.root-index l.roots)
      ≡ list_all (is_sound (g.T.Tree.rows l.tree) l.canvas depth) l.roots;
}
