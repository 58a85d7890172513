use Rattle.std.proofs.Common.{◌≡◌, ◌∙◌, sym, true, rules}
use Rattle.mix_base.specs.Members.{is_rising}
use Rattle.mix_json.proofs.ObjectLemmas.{put_rising_members}
use Rattle.mix_json.proofs.object.arranged.Goals as goal

-- members that rise are the object already
pub returns-then-is_rising : goal.returns-then-is_rising
returns-then-is_rising c =
    let rising : is_rising c.args.members.items ≡ true = search rules in
    record { value = c.from_rising.ensures.value ∙ sym (put_rising_members c.args.members.items rising) }
