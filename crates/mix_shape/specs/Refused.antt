-- Why the calls of a graph are refused, and what a graph keeps room for.
use Rattle.std.specs.Prelude.{◌≡◌, ℕ, ◌&&◌, ◌||◌, ◌==◌, nat_le, not, Bool, Option, Some, None}
use Rattle.std.specs.Prelude.{Result, Ok, Err, is_some, is_none, if◌then◌else◌}
use Rattle.std.specs.List.{list_all}
use Rattle.mix_base.specs.declared.limits.Limits.{Limits}
use Rattle.mix_base.specs.Limits.{standard}
use Rattle.mix_model.specs.declared.fault.GraphFault.{GraphFault}
use Rattle.mix_model.specs.declared.fault.GraphFault.TheVariants.{NoMemory}
use Rattle.mix_model.specs.Sets.{is_distinct}
use Rattle.mix_model.specs.Rows.{is_scene}
use Rattle.mix_model.specs.State.{GraphState, Channel}
use Rattle.mix_model.specs.Lookups.{is_row, row_passes, named_by, item_at}
use Rattle.mix_model.specs.Holders.{is_named}
use Rattle.mix_model.specs.Causes.{first_cause, name_taken, above}
use Rattle.std.specs.Prelude.{List, [], ◌∷◌, ◌+◌, length}

-- a graph holds at most what every mixer does; how long a history may be isn't its affair
abbrev pub are_limits : Limits → Bool
are_limits limits = (limits.rows == standard.rows) && (limits.items == standard.items)
    && (limits.weight == standard.weight) && (limits.rank == standard.rank)
    && (limits.conns == standard.conns) && (limits.frames == standard.frames)
    && (limits.waiting == standard.waiting) && (limits.entries == standard.entries)
    && (limits.batches == standard.batches) && (limits.holds == standard.holds)
    && (limits.watches == standard.watches)
    && nat_le limits.turns standard.turns && nat_le limits.bytes standard.bytes

-- a call is refused exactly where there is a cause, and by the first one. Only where there is none may
-- there be no memory
abbrev pub RefusedBy : {T : Type 0} → Option GraphFault → Result T GraphFault → Type 0
RefusedBy cause (Ok value) = cause ≡ None
RefusedBy cause (Err NoMemory) = cause ≡ None
RefusedBy cause (Err fault) = cause ≡ Some fault

-- a new source that no item shows is refused for its name, or where there are as many rows as there
-- may be: it has no items, and no other row gets deeper or heavier
abbrev pub bare_cause : GraphState → List ℕ → Option GraphFault
bare_cause g name =
    first_cause (name_taken g name ∷ (above standard.rows (length g.rows + 1) ∷ []))

-- a serial that isn't that of a named row is missing
abbrev pub is_missing : GraphState → ℕ → Bool
is_missing g x = not (is_named g x)

-- where it is a row, it is a scene
abbrev pub is_no_other : GraphState → ℕ → Bool
is_no_other g x = not (is_row g x) || row_passes g (λ r. is_scene r.kind) x

-- channel 0 is given one scene, or two different ones; another channel is given no second row
abbrev pub may_be_set : GraphState → ℕ → Channel → Bool
may_be_set g number channel = if number == 0
    then is_some channel.0 && is_distinct (named_by channel)
    && list_all (is_no_other g) (named_by channel)
    else not (is_some channel.1)

-- the parent isn't that of a named row, or no item of it has this id
abbrev pub lacks_item : GraphState → ℕ → ℕ → Bool
lacks_item g parent id = is_missing g parent || is_none (item_at g parent id)
