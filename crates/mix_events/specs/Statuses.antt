-- The numbers with which a request is answered, and their names.
use Rattle.std.specs.Prelude.{ℕ, ◌==◌, List, [], ◌∷◌, Option, Some, None, codes}
use Rattle.std.specs.Prelude.{if◌then◌else◌}

-- the numbers of `requestStatus` in obs-websocket 5 that the mixer knows, each with its name
abbrev pub statuses : List (ℕ × List ℕ)
statuses =
    (100, codes "Success")
    ∷ (203, codes "MissingRequestType")
    ∷ (204, codes "UnknownRequestType")
    ∷ (205, codes "GenericError")
    ∷ (206, codes "UnsupportedRequestBatchExecutionType")
    ∷ (300, codes "MissingRequestField")
    ∷ (301, codes "MissingRequestData")
    ∷ (400, codes "InvalidRequestField")
    ∷ (401, codes "InvalidRequestFieldType")
    ∷ (402, codes "RequestFieldOutOfRange")
    ∷ (403, codes "RequestFieldEmpty")
    ∷ (404, codes "TooManyRequestFields")
    ∷ (500, codes "OutputRunning")
    ∷ (501, codes "OutputNotRunning")
    ∷ (502, codes "OutputPaused")
    ∷ (503, codes "OutputNotPaused")
    ∷ (505, codes "StudioModeActive")
    ∷ (506, codes "StudioModeNotActive")
    ∷ (600, codes "ResourceNotFound")
    ∷ (601, codes "ResourceAlreadyExists")
    ∷ (602, codes "InvalidResourceType")
    ∷ (603, codes "NotEnoughResources")
    ∷ (604, codes "InvalidResourceState")
    ∷ (605, codes "InvalidInputKind")
    ∷ (606, codes "ResourceNotConfigurable")
    ∷ (607, codes "InvalidFilterKind")
    ∷ (700, codes "ResourceCreationFailed")
    ∷ (702, codes "RequestProcessingFailed")
    ∷ []

-- the name beside a number in a table
abbrev pub name_in : List (ℕ × List ℕ) → ℕ → Option (List ℕ)
name_in [] code = None
name_in (row ∷ rows) code = if row.0 == code then Some row.1 else name_in rows code

-- the name of a status, where it is one that the mixer knows
unfoldable pub status_name : ℕ → Option (List ℕ)
status_name code = name_in statuses code
