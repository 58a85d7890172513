-- what the channels that are left put on is what all of them do
use Rattle.std.proofs.Common.{◌≡◌, drop, flat_map}
use Rattle.mix_model.specs.Lookups.{named_by}
use Rattle.mix_store.specs.Searched.{flagged_also, reached_in}
use Rattle.mix_store.proofs.reached.flag_from_channels.Given as goal

abbrev pub invariant-loop-channel : goal.invariant-loop-channel
invariant-loop-channel l =
    flagged_also (reached_in l.rows (flat_map named_by (drop l.channel-index l.channels)))
    l.rows l.flags
    ≡ flagged_also (reached_in l.rows (flat_map named_by l.channels)) l.rows l.fn.flags
