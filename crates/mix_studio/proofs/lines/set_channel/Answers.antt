use Rattle.std.proofs.Common.{refl}
use Rattle.mix_studio.proofs.FreshLemmas.{all_named}
use Rattle.mix_studio.proofs.LineLemmas.{channel_below, channel_given, channel_left, channel_lost}
use Rattle.mix_studio.proofs.LineLemmas.{channel_there}
use Rattle.mix_studio.proofs.lines.set_channel.Goals as goal

-- it is one of the channels beside the program's
pub set_channel-requires-clause-below : goal.set_channel-requires-clause-below
set_channel-requires-clause-below c =
    channel_below c.args.channel c.args.name.now c.requires.fits

pub set_channel-requires-clause-given : goal.set_channel-requires-clause-given
set_channel-requires-clause-given c = channel_given c.args.graph.now.present c.args.channel
    c.args.name.now c.in-Ok.serial c.requires.fits

-- what it names isn't missing
pub returns-in-Ok-set_channel-clause-refused : goal.returns-in-Ok-set_channel-clause-refused
returns-in-Ok-set_channel-clause-refused c = channel_there c.args.graph.now.present
    (all_named c.args.graph.now c.requires.fresh) c.args.channel c.args.name.now c.in-Ok.serial
    c.in-Ok.ensures.value c.in-Ok-set_channel.ensures.missing.1

pub returns-in-Ok-set_channel-clause-left : goal.returns-in-Ok-set_channel-clause-left
returns-in-Ok-set_channel-clause-left c = channel_left c.args.graph.now c.set_channel.new.self
    c.args.channel c.args.name.now c.in-Ok.serial c.requires.fresh c.in-Ok.ensures.value
    c.in-Ok-set_channel.ensures.ok

-- or it is
pub returns-in-Err-clause-refused : goal.returns-in-Err-clause-refused
returns-in-Err-clause-refused c = channel_lost c.args.graph.now.present
    (all_named c.args.graph.now c.requires.fresh) c.args.channel c.args.name.now c.in-Ok.serial
    c.in-Ok.ensures.value (c.in-Err.ensures.missing.0 refl)
