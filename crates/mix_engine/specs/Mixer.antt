-- The whole state of the mixer, and the one that it opens with.
use Rattle.std.specs.Prelude.{Result, Ok, Err}
use Rattle.mix_model.specs.declared.ask.Ask.{Ask}
use Rattle.mix_model.specs.declared.ask.Done.{Done}
use Rattle.mix_model.specs.declared.fault.GraphFault.{GraphFault}
use Rattle.mix_model.specs.declared.collection.Collection.{Collection}
use Rattle.mix_model.specs.State.{State, StudioState, Conn, Batch}
use Rattle.mix_model.specs.Edits.{empty_graph}
use Rattle.mix_model.specs.Opening.{opening_of, opening_studio, opening_state}

-- the whole state: batches hold requests and their results
abbrev pub Mixer : Type 0
Mixer = State Ask Done

-- an open connection
abbrev pub Connection : Type 0
Connection = Conn Ask Done

-- a batch that is pending
abbrev pub PendingBatch : Type 0
PendingBatch = Batch Ask Done

abbrev pub studio_or : Collection → Result StudioState GraphFault → StudioState
studio_or c (Ok studio) = studio
studio_or c (Err fault) = opening_studio c empty_graph

-- the state with which a mixer opens: that of its collection, with nobody connected. A collection
-- that is refused opens none
abbrev pub start_of : Collection → Mixer
start_of c = opening_state c (studio_or c (opening_of c))
