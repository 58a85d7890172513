-- New sources that an item shows, and new inputs.
use Rattle.std.specs.Prelude.{ℕ, List, [], ◌∷◌, ◌++◌, Option, Some, None, option_map}
use Rattle.std.specs.Prelude.{if◌then◌else◌}
use Rattle.mix_model.specs.Rows.{is_input}
use Rattle.mix_model.specs.declared.fault.GraphFault.{GraphFault}
use Rattle.mix_model.specs.declared.kind.Kind.{Kind}
use Rattle.mix_model.specs.declared.settings.Settings.{Settings}
use Rattle.mix_model.specs.declared.item.ItemSpec.{ItemSpec}
use Rattle.mix_model.specs.State.{GraphState}
use Rattle.mix_model.specs.Lookups.{row_of}
use Rattle.mix_model.specs.Edits.{row_added, item_added, input_created, shown_input_created}
use Rattle.mix_model.specs.Causes.{scene_cause, shown_cause}

-- where an item is wanted: its parent, and what it is asked to be
abbrev pub Wanted : Type 0
Wanted = Option (ℕ × ItemSpec)

-- inputs are listed in the registry, and groups aren't
abbrev pub listed : Kind → ℕ → List ℕ → List ℕ
listed kind x inputs = if is_input kind then inputs ++ x ∷ [] else inputs

-- a group or an input, with an item of its parent that shows it
unfoldable pub shown_added :
    List ℕ → Kind → Settings → ℕ → ItemSpec → GraphState → GraphState
shown_added name kind settings parent spec g =
    record (item_added parent g.next_serial spec (row_added name kind settings g)) {
      inputs = listed kind g.next_serial g.inputs;
    }

-- an input, with an item that shows it where one is wanted
abbrev pub input_made : List ℕ → Kind → Settings → Wanted → GraphState → GraphState
input_made name kind settings None = input_created name kind settings
input_made name kind settings (Some wanted) =
    shown_input_created name kind settings wanted.0 wanted.1

-- why such an input is refused
abbrev pub input_cause : GraphState → List ℕ → Wanted → GraphState → Option GraphFault
input_cause g name None = scene_cause g name
input_cause g name (Some wanted) = shown_cause g name wanted.0

-- the id of the next item of a row
abbrev pub next_item : GraphState → ℕ → Option ℕ
next_item g x = option_map (λ r. r.next_item) (row_of g x)

-- the id of the item that is wanted
abbrev pub wanted_item : GraphState → Wanted → Option ℕ
wanted_item g None = None
wanted_item g (Some wanted) = next_item g wanted.0
