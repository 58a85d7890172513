use Rattle.std.proofs.Common.{◌≡◌, ◌∙◌, ap, string_bytes, rules}
use Rattle.mix_base.specs.Members.{put_of}
use Rattle.mix_json.specs.Tokens.{members_of}
use Rattle.mix_json.proofs.ObjectLemmas.{put_entry}
use Rattle.mix_json.proofs.object.map_of.Goals as goal

-- one more member
pub loop-member-preserved : goal.loop-member-preserved
loop-member-preserved c =
    let m = c.in-Some.member in
    let before = members_of c.loop-member.map.entries in
    let copied : string_bytes c.in-Ok.name ≡ m.key = search rules in
    let put : members_of c.insert.new.self.entries ≡ put_of m.key m.value before =
    ap members_of c.in-Ok-insert.ensures.entries
    ∙ put_entry c.loop-member.map.entries c.in-Ok.name m.value
    ∙ ap (λ k. put_of k m.value before) copied in
    rw put (search rules)
