use Rattle.std.proofs.Common.{◌∙◌, ap, sym, ◌≡◌, ◌+◌, suc, Some, arith, rules, true, false}
use Rattle.mix_base.specs.Members.{is_same}
use Rattle.mix_base.proofs.MemberLemmas.{get_here, get_past}
use Rattle.mix_base.proofs.members.get_in.Goals as goal

pub returns-then-eq : goal.returns-then-eq
returns-then-eq g c =
    let ms = c.args.members.now in
    let i = c.loop-member.member-index in
    let m = c.member-item.result in
    let same : is_same c.args.key.now m.key ≡ true = search rules in
    record { value = sym (c.loop-member.invariant ∙ get_here c.args.key.now ms i m (omega arith) (ap (λ x. is_same c.args.key.now x.key) (sym c.member-item.is) ∙ same) ∙ ap (λ x. Some x.value) (sym c.member-item.is)) }

pub loop-member-preserved : goal.loop-member-preserved
loop-member-preserved g c =
    let ms = c.args.members.now in
    let i = c.loop-member.member-index in
    let m = c.member-item.result in
    let other : is_same c.args.key.now m.key ≡ false = search rules in
    let next : i + 1 ≡ suc i = omega arith in
    rw next (c.loop-member.invariant ∙ get_past c.args.key.now ms i m (omega arith) (ap (λ x. is_same c.args.key.now x.key) (sym c.member-item.is) ∙ other))
