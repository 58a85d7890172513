use Rattle.std.proofs.Common.{◌≡◌, ◌∙◌, sym, ap, subst, true}
use Rattle.mix_base.specs.Members.{get_of, is_rising}
use Rattle.mix_base.proofs.MemberLemmas.{put_rising, get_put, get_other}
use Rattle.mix_base.proofs.members.Members.put.Goals as goal

-- the keys still rise
pub invariant_of-self-2 : goal.invariant_of-self-2
invariant_of-self-2 g c =
    let ms = c.self.inside.members.items in
    subst (λ ns. is_rising ns ≡ true) (sym c.in_ok-put_in.ensures.ok) (put_rising c.args.key c.args.value ms c.self.invariant)

-- the value is set
pub returns-clause-value : goal.returns-clause-value
returns-clause-value g c =
    ap (get_of c.args.key) c.in_ok-put_in.ensures.ok ∙ get_put c.args.key c.args.value c.self.inside.members.items

-- every other value stays
pub returns-clause-others : goal.returns-clause-others
returns-clause-others g c other apart =
    ap (get_of other) c.in_ok-put_in.ensures.ok ∙ get_other c.args.key c.args.value other apart c.self.inside.members.items ∙ ap (get_of other) c.self.view_is
