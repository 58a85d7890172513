-- without a root nothing is reached
use Rattle.std.proofs.Common.{sym, ap, option_to_list}
use Rattle.mix_store.proofs.RootLemmas.{reached_none}
use Rattle.mix_store.proofs.reached.flag_from.Goals as goal

pub returns-in_default : goal.returns-in_default
returns-in_default c = sym (reached_none c.args.rows.now (option_to_list c.args.root)
    c.args.flags.now (ap option_to_list c.in_default.is))
