use Rattle.std.proofs.Common.{map, refl}
use Rattle.mix_fanout.specs.Lanes.{Fans, masked}
use Rattle.mix_fanout.specs.Keys.{masked_line}
use Rattle.mix_fanout.proofs.Views.{square, masked_square}
use Rattle.mix_fanout.proofs.Held.{held_mapped}
use Rattle.mix_fanout.proofs.Fans.{held_in_place, seen_in_place}
use Rattle.mix_fanout.proofs.fanout.Fanout.set_mask.Goals as goal

-- a mask holds nothing
pub invariant_of-self : goal.invariant_of-self
invariant_of-self c = held_in_place c.self.inside.lanes (masked_line c.args.conn c.args.mask)
    c.set_mask.new.lanes _ c.set_mask.ensures.state c.deref_mut.ensures.value c.self.inside.spare
    c.self.inside.store (held_mapped c.self.inside.spare c.self.inside.store
    (masked_line c.args.conn c.args.mask) c.self.inside.lanes.items (λ l. refl) (λ l h. h)
    c.self.invariant)

pub returns-clause-lanes : goal.returns-clause-lanes
returns-clause-lanes c = seen_in_place c.self.inside.lanes (masked_line c.args.conn c.args.mask)
    c.set_mask.new.lanes _ c.set_mask.ensures.state c.deref_mut.ensures.value c.self.inside.store
    c.self.inside.store c.self.inside.spare c.self.inside.limit _ c.self.view_is
    (λ (o : Fans). map (masked c.args.conn c.args.mask) o.lanes)
    (square c.self.inside.store (masked_line c.args.conn c.args.mask)
    (masked c.args.conn c.args.mask) (masked_square c.self.inside.store c.args.conn c.args.mask)
    c.self.inside.lanes.items)
