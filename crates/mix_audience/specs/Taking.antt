-- Which events a connection takes.
use Rattle.std.specs.Prelude.{ℕ, Bool, ◌&&◌, not, Option}
use Rattle.mix_model.specs.declared.event.Event.{Event}
use Rattle.mix_fanout.specs.Lanes.{wants}

-- a connection takes an event where its mask has the bit of the event. Who isn't identified has no
-- mask and takes none, and neither does who is cut
abbrev pub takes : Option ℕ → Bool → Event → Bool
takes mask cut event = not cut && wants mask event
