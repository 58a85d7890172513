-- Sources that requests name, and the statuses of those that aren't found.
use Rattle.std.specs.Prelude.{ℕ, Bool, List, Option, Some, None, Result, Ok, Err, if◌then◌else◌}
use Rattle.mix_model.specs.declared.kind.Kind.{Kind}
use Rattle.mix_model.specs.declared.row.Row.{Row}
use Rattle.mix_model.specs.State.{GraphState}
use Rattle.mix_model.specs.Holders.{find_named}
use Rattle.mix_model.specs.Rows.{is_scene}

-- 600 where no named row has the name, and 602 where it is of another sort
abbrev pub of_sort : (Kind → Bool) → Option Row → Result ℕ ℕ
of_sort sort None = Err 600
of_sort sort (Some row) = if sort row.kind then Ok row.serial else Err 602

abbrev pub sought : (Kind → Bool) → GraphState → List ℕ → Result ℕ ℕ
sought sort g name = of_sort sort (find_named g name)

-- the scene of a name
unfoldable pub scene_sought : GraphState → List ℕ → Result ℕ ℕ
scene_sought = sought is_scene
