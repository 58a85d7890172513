use Rattle.std.proofs.Common.{◌∙◌, sym, rules, ◌≡◌}
use Rattle.mix_base.specs.Members.{get_of}
use Rattle.std.specs.Option.{option_copied}
use Rattle.mix_base.proofs.MemberLemmas.{missing_none, none_missing}
use Rattle.mix_base.proofs.members.Members.get.Goals as goal

pub returns-clause-missing : goal.returns-clause-missing
returns-clause-missing g c =
    let found : option_copied c.get_in.result ≡ get_of c.args.key.now c.args.self.now = search rules in (
      λ none. none_missing c.args.key.now c.args.self.now (sym found ∙ none),
      λ missing. found ∙ missing_none c.args.key.now c.args.self.now missing,
    )
