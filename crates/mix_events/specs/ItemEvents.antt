-- The fields of the events on items of scenes and groups.
use Rattle.std.specs.Prelude.{ℕ, List, [], ◌∷◌, ◌++◌, ◌+◌, ◌-◌, ◌*◌, Bool, codes}
use Rattle.mix_base.specs.declared.json.Json.{Json}
use Rattle.mix_base.specs.declared.json.Json.TheVariants as json
use Rattle.mix_base.specs.Uuids.{uuid_of}
use Rattle.mix_model.specs.declared.place.Place.{Place}
use Rattle.mix_model.specs.Transforms.{rotation_of}
use Rattle.mix_json.specs.Trees.{obj_of}
use Rattle.mix_events.specs.Trees.{Field, flag, integer, number, object, text, value}
use Rattle.mix_events.specs.SceneEvents.{scene_fields}

-- the source that an item shows: its name, and the UUID that its serial gives
unfoldable pub source_fields : List ℕ → ℕ → List Field
source_fields name serial =
    text (codes "sourceName") name
    ∷ text (codes "sourceUuid") (uuid_of serial)
    ∷ []

-- an item came to a place of its scene or group, counted from 0 at the bottom
unfoldable pub item_created : ℕ → ℕ → List ℕ → ℕ → List ℕ → ℕ → List Field
item_created item index scene serial source source_serial =
    number (codes "sceneItemId") item
    ∷ number (codes "sceneItemIndex") index
    ∷ scene_fields scene serial ++ source_fields source source_serial

-- an item went
unfoldable pub item_removed : ℕ → List ℕ → ℕ → List ℕ → ℕ → List Field
item_removed item scene serial source source_serial =
    number (codes "sceneItemId") item
    ∷ scene_fields scene serial ++ source_fields source source_serial

-- an item and its place, counted from 0 at the bottom
unfoldable pub index_fields : ℕ → ℕ → List Field
index_fields item index =
    number (codes "sceneItemId") item
    ∷ number (codes "sceneItemIndex") index
    ∷ []

abbrev pub indexed_item : ℕ → ℕ → Json
indexed_item item index = json.Obj (obj_of (index_fields item index))

-- items from the bottom to the top, the first of them at this place
abbrev pub indexed_from : ℕ → List ℕ → List Json
indexed_from index [] = []
indexed_from index (item ∷ items) = indexed_item item index ∷ indexed_from (index + 1) items

-- the items of a scene or group lie in another order: all of them from the bottom to the top
unfoldable pub items_reindexed : List ℕ → List ℕ → ℕ → List Field
items_reindexed items scene serial =
    value (codes "sceneItems") (json.List (indexed_from 0 items)) ∷ scene_fields scene serial

-- an item was enabled, or isn't any more
unfoldable pub item_enabled : Bool → ℕ → List ℕ → ℕ → List Field
item_enabled enabled item scene serial =
    flag (codes "sceneItemEnabled") enabled
    ∷ number (codes "sceneItemId") item
    ∷ scene_fields scene serial

-- an item was locked, or isn't any more
unfoldable pub item_locked : ℕ → Bool → List ℕ → ℕ → List Field
item_locked item locked scene serial =
    number (codes "sceneItemId") item
    ∷ flag (codes "sceneItemLocked") locked
    ∷ scene_fields scene serial

-- the pixels of a side that are left between what is cut off at its two ends, none where more is
-- cut off than there is, each repeated as often as the scale says
abbrev pub placed_side : ℕ → ℕ → ℕ → ℕ → ℕ
placed_side side first last scale = (side - (first + last)) * scale

-- how an item is aligned and cropped
abbrev pub crop_fields : Place → List Field
crop_fields place =
    number (codes "alignment") place.align
    ∷ number (codes "cropBottom") place.crop_bottom
    ∷ number (codes "cropLeft") place.crop_left
    ∷ number (codes "cropRight") place.crop_right
    ∷ number (codes "cropTop") place.crop_top
    ∷ []

-- how high its picture is after cropping and scaling, where it stands, and how it is turned and
-- scaled
abbrev pub position_fields : Place → ℕ → List Field
position_fields place height =
    number (codes "height")
    (placed_side height place.crop_top place.crop_bottom place.scale_y)
    ∷ integer (codes "positionX") place.x
    ∷ integer (codes "positionY") place.y
    ∷ number (codes "rotation") (rotation_of place.quarter)
    ∷ number (codes "scaleX") place.scale_x
    ∷ number (codes "scaleY") place.scale_y
    ∷ []

-- how large its source is, and how wide its picture is after cropping and scaling
abbrev pub size_fields : Place → ℕ → ℕ → List Field
size_fields place width height =
    number (codes "sourceHeight") height
    ∷ number (codes "sourceWidth") width
    ∷ number (codes "width")
    (placed_side width place.crop_left place.crop_right place.scale_x)
    ∷ []

-- a transform as it is answered
unfoldable pub transform_fields : Place → ℕ → ℕ → List Field
transform_fields place width height =
    crop_fields place ++ (position_fields place height ++ size_fields place width height)

-- an item stands elsewhere
unfoldable pub item_transformed : ℕ → Place → ℕ → ℕ → List ℕ → ℕ → List Field
item_transformed item place width height scene serial =
    number (codes "sceneItemId") item
    ∷ object (codes "sceneItemTransform") (transform_fields place width height)
    ∷ scene_fields scene serial
