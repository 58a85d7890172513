-- A new item.
use Rattle.std.proofs.Common.{◌≡◌, ℕ, None, Option, Some, refl, true}
use Rattle.mix_model.specs.declared.item.ItemSpec.{ItemSpec}
use Rattle.mix_model.specs.declared.item.Item.{Item}
use Rattle.mix_model.specs.Edits.{copied_to, item_added, item_duplicated}
use Rattle.mix_model.specs.Holders.{is_named}
use Rattle.mix_model.specs.Lookups.{item_at}
use Rattle.mix_model.specs.Shape.{GraphShape}
use Rattle.mix_model.specs.State.{GraphState}
use Rattle.mix_shape.proofs.GrownShape.{named_is_row}
use Rattle.mix_studio.proofs.ShapeLemmas.{IsBeside}
use Rattle.mix_req_items.specs.declared.creating.Ends.{Ends}
use Rattle.mix_req_items.specs.declared.found.Found.{Found}
use Rattle.mix_req_items.specs.CreateSceneItem.{AreEnds}
use Rattle.mix_req_items.specs.DuplicateSceneItem.{copy_ends}
use Rattle.mix_req_items.specs.Finding.{IsFound}
use Rattle.mix_req_items.proofs.FoundLemmas.{child_there}

-- it leaves channels, frames in flight and the clock as they are
pub item_beside : (holder child : ℕ) (spec : ItemSpec) (g : GraphState) →
    IsBeside g (item_added holder child spec g)
unfolding item_added
item_beside holder child spec g = record { channels = refl; frames = refl; clock = refl }

copied_beside : (to : ℕ) (o : Option Item) (g : GraphState) → IsBeside g (copied_to to o g)
copied_beside to None g = record { channels = refl; frames = refl; clock = refl }
copied_beside to (Some i) g = record { channels = refl; frames = refl; clock = refl }

pub copy_beside : (holder id to : ℕ) (g : GraphState) →
    IsBeside g (item_duplicated holder id to g)
unfolding item_duplicated
copy_beside holder id to g = copied_beside to (item_at g holder id) g

-- the destination of a copy and the source that it is to show are rows
pub are_copy_ends : (g : GraphState) → GraphShape g → (f : Found) → IsFound g f → (to : ℕ)
    (ends : Ends) → is_named g to ≡ true → ends ≡ copy_ends f to → AreEnds g ends
are_copy_ends g shape f is to ends named same = rw same (record {
  holder = named_is_row g to named;
  child = child_there g shape f is;
})
