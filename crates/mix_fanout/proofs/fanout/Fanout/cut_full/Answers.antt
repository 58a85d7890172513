use Rattle.std.proofs.Common.{map, refl, ap, ◌∙◌}
use Rattle.mix_fanout.specs.Lanes.{Fans, cut_where_full}
use Rattle.mix_fanout.specs.Keys.{cut_line}
use Rattle.mix_fanout.proofs.Views.{cut_lanes}
use Rattle.mix_fanout.proofs.Held.{held_mapped, held_where_it_stands}
use Rattle.mix_fanout.proofs.Fans.{held_in_place, seen_in_place}
use Rattle.mix_fanout.proofs.fanout.Fanout.cut_full.Goals as goal

-- who is cut keeps what waits
pub invariant_of-self : goal.invariant_of-self
invariant_of-self c = held_in_place c.self.inside.lanes (cut_line c.self.inside.limit c.args.but)
    c.cut_full.new.lanes _ (c.cut_full.ensures.state ∙ ap
    (λ b. map (cut_line c.self.inside.limit b) c.deref_mut.result.now) c.number_of.ensures.value)
    c.deref_mut.ensures.value c.self.inside.spare c.self.inside.store
    (held_mapped c.self.inside.spare c.self.inside.store (cut_line c.self.inside.limit c.args.but)
    c.self.inside.lanes.items (λ l. refl) (λ l h. h) c.self.invariant)

-- as many events wait as keys
pub returns-clause-lanes : goal.returns-clause-lanes
returns-clause-lanes c = seen_in_place c.self.inside.lanes (cut_line c.self.inside.limit c.args.but)
    c.cut_full.new.lanes _ (c.cut_full.ensures.state ∙ ap
    (λ b. map (cut_line c.self.inside.limit b) c.deref_mut.result.now) c.number_of.ensures.value)
    c.deref_mut.ensures.value c.self.inside.store c.self.inside.store c.self.inside.spare
    c.self.inside.limit _ c.self.view_is (λ (o : Fans). map (cut_where_full o.limit c.args.but)
    o.lanes) (cut_lanes c.self.inside.store c.self.inside.limit c.args.but c.self.inside.lanes.items
    (held_where_it_stands c.self.inside.spare c.self.inside.store c.self.inside.lanes.items
    c.self.invariant))
