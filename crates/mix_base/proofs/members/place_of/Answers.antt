use Rattle.std.proofs.Common.{◌∙◌, sym, ap, arith, Equal, ◌≡◌, rules}
use Rattle.mix_base.specs.Members.{key_order}
use Rattle.mix_base.proofs.MemberLemmas.{put_here}
use Rattle.mix_base.proofs.members.place_of.Goals as goal

pub returns-in-Equal-clause-set : goal.returns-in-Equal-clause-set
returns-in-Equal-clause-set g c value =
    let m = c.index-members-place.result in
    let same : key_order c.args.key.now m.key ≡ Equal = search rules in
    c.loop-place.invariant value ∙ put_here c.args.key.now value c.args.members.now c.loop-place.place m (omega arith) (ap (λ x. key_order c.args.key.now x.key) (sym c.index-members-place.is) ∙ same)
