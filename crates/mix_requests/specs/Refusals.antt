-- The statuses of the causes for which the sources refuse an edit.
use Rattle.std.specs.Prelude.{ℕ, Option, Some, None, Result, Ok, Err}
use Rattle.mix_model.specs.declared.fault.GraphFault.{GraphFault}
use Rattle.mix_model.specs.declared.fault.GraphFault.TheVariants as fault
use Rattle.mix_requests.specs.declared.refused.Refused.{Refused}
use Rattle.mix_requests.specs.declared.refused.Refused.TheVariants.{Status, NoMemory}

-- what a fault of the sources is answered with, as obs-websocket 5 numbers it: ResourceNotFound,
-- InvalidResourceType, ResourceAlreadyExists, ResourceCreationFailed and NotEnoughResources. Want of
-- memory is no status
abbrev pub refused_as : GraphFault → Refused
refused_as fault.NotFound = Status 600
refused_as fault.WrongKind = Status 602
refused_as fault.Exists = Status 601
refused_as fault.Cycle = Status 700
refused_as fault.Depth = Status 700
refused_as (fault.TooMany limit) = Status 603
refused_as fault.NoMemory = NoMemory

-- the status of a refusal; want of memory is the cause of none
abbrev pub status_or : ℕ → Refused → ℕ
status_or absent (Status status) = status
status_or absent NoMemory = absent

-- an edit is refused with the status of its cause, where there is one
unfoldable pub refused_by : Option GraphFault → Result (Unit {0}) ℕ
refused_by None = Ok tt
refused_by (Some fault) = Err (status_or 603 (refused_as fault))
