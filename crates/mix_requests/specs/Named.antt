-- Sources as they are named in answers: by their names and by their UUIDs.
use Rattle.std.specs.Prelude.{ℕ, List, [], ◌∷◌, Option, Some, None}
use Rattle.std.specs.Option.{option_map_or}
use Rattle.mix_base.specs.declared.json.Json.{Json}
use Rattle.mix_base.specs.declared.json.Json.TheVariants as json
use Rattle.mix_base.specs.Uuids.{uuid_of}
use Rattle.mix_model.specs.State.{GraphState}
use Rattle.mix_model.specs.Lookups.{row_of}

-- the name of a row
unfoldable pub name_at : GraphState → ℕ → List ℕ
name_at g x = option_map_or (λ r. r.name) (row_of g x) []

-- a source by its name and its UUID, under these keys
abbrev pub named : List ℕ → List ℕ → GraphState → ℕ → List (List ℕ × Json)
named name_key uuid_key g x =
    (name_key, json.Text (name_at g x)) ∷ ((uuid_key, json.Text (uuid_of x)) ∷ [])

-- the same where there may be none: null then
abbrev pub named_or_null : List ℕ → List ℕ → GraphState → Option ℕ → List (List ℕ × Json)
named_or_null name_key uuid_key g None =
    (name_key, json.Null) ∷ ((uuid_key, json.Null) ∷ [])
named_or_null name_key uuid_key g (Some x) = named name_key uuid_key g x
