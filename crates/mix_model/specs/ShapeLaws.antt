-- What edits and the settling keep of what holds of the sources.
use Rattle.std.specs.Prelude.{◌≤◌, ℕ, Bool, IsTrue}
use Rattle.mix_model.specs.declared.kind.Blend.{Blend}
use Rattle.mix_model.specs.declared.place.Place.{Place}
use Rattle.mix_model.specs.State.{GraphState}
use Rattle.mix_model.specs.Values.{is_place}
use Rattle.mix_model.specs.Settle.{settle}
use Rattle.mix_model.specs.Edits.{item_enabled, item_locked, item_placed}
use Rattle.mix_model.specs.Shape.{GraphShape}
use Rattle.mix_model.specs.EditedShape.{EditedShape}

-- what an edit leaves has, once it is settled, the shape that all sources have, where the clock doesn't
-- fall
abbrev pub SettlingShapes : Type 0
SettlingShapes = (old new : GraphState) → GraphShape old → EditedShape new →
    old.clock ≤ new.clock → GraphShape (settle old new)

-- to enable, to lock and to place an item keeps the shape
abbrev pub EnablingKeepsShape : Type 0
EnablingKeepsShape = (g : GraphState) → GraphShape g → (parent id : ℕ) (enabled : Bool) →
    GraphShape (item_enabled parent id enabled g)

abbrev pub LockingKeepsShape : Type 0
LockingKeepsShape = (g : GraphState) → GraphShape g → (parent id : ℕ) (locked : Bool) →
    GraphShape (item_locked parent id locked g)

abbrev pub PlacingKeepsShape : Type 0
PlacingKeepsShape = (g : GraphState) → GraphShape g → (parent id : ℕ) (place : Place)
    (blend : Blend) → IsTrue (is_place place) →
    GraphShape (item_placed parent id place blend g)
