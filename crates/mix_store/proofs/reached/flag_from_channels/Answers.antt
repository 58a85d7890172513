-- one channel more; and at the end no channel is left
use Rattle.std.proofs.Common.{sym, ◌∙◌, ap, flat_map, drop}
use Rattle.std.proofs.lemmas.List.{drop_all}
use Rattle.mix_model.specs.Lookups.{named_by}
use Rattle.mix_store.proofs.RootLemmas.{channel_step, reached_none}
use Rattle.mix_store.proofs.reached.flag_from_channels.Goals as goal

pub loop-channel-preserved : goal.loop-channel-preserved
loop-channel-preserved c = channel_step c.args.rows.now c.args.channels.now
    c.loop-channel.channel-index c.channel-item.result c.loop-channel.flags c.flag_from.new.flags
    c.flag_from-in-loop-channel.new.flags _ c.loop-channel-test.true c.channel-item.is
    c.flag_from.ensures c.flag_from-in-loop-channel.ensures c.loop-channel.invariant

pub returns : goal.returns
returns c =
    let none = drop_all c.loop-channel.channel-index c.args.channels.now c.loop-channel-test.false in
    sym (reached_none c.args.rows.now
    (flat_map named_by (drop c.loop-channel.channel-index c.args.channels.now))
    c.loop-channel.flags (ap (flat_map named_by) none)) ∙ c.loop-channel.invariant
