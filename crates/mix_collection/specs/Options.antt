-- What the options of an item say, in an object: any of them may be missing, and no other key
-- stands there. Null is a value of another type.
use Rattle.std.specs.Prelude.{ℕ, ℤ, pos, Bool, true, false, List, [], ◌∷◌, codes, ◌||◌}
use Rattle.std.specs.Prelude.{Option, Some, None, option_and_then, bytes_eq, if◌then◌else◌}
use Rattle.std.specs.List.{list_all, list_any}
use Rattle.mix_base.specs.declared.json.Json.{Json}
use Rattle.mix_base.specs.Json.{Object, as_bool, as_int, as_obj, as_text}
use Rattle.mix_base.specs.Members.{get_of}
use Rattle.mix_model.specs.declared.item.ItemSpec.{ItemSpec}
use Rattle.mix_model.specs.declared.kind.Blend.{Blend}
use Rattle.mix_model.specs.declared.kind.Blend.TheVariants.{Normal}
use Rattle.mix_model.specs.declared.place.Place.{Place}
use Rattle.mix_model.specs.Items.{asked}
use Rattle.mix_model.specs.Texts.{blend_named}
use Rattle.mix_model.specs.Transforms.{quarter_of}
use Rattle.mix_model.specs.Values.{is_align, is_position}
use Rattle.mix_collection.specs.Readers.{where_it, or_standing, natural_of, ◌>>=◌}

-- ---- the keys

-- how an item is shown
abbrev pub item_keys : List (List ℕ)
item_keys = codes "sceneItemBlendMode"
    ∷ (codes "sceneItemEnabled"
    ∷ (codes "sceneItemLocked" ∷ []))

-- and where it stands
abbrev pub place_keys : List (List ℕ)
place_keys = codes "alignment"
    ∷ (codes "cropBottom"
    ∷ (codes "cropLeft"
    ∷ (codes "cropRight"
    ∷ (codes "cropTop"
    ∷ (codes "positionX"
    ∷ (codes "positionY"
    ∷ (codes "rotation"
    ∷ (codes "scaleX"
    ∷ (codes "scaleY" ∷ [])))))))))

-- whether the key is one of these
abbrev pub is_key : List (List ℕ) → List ℕ → Bool
is_key keys key = list_any (λ other. bytes_eq other key) keys

abbrev pub is_option : List ℕ → Bool
is_option key = is_key item_keys key || is_key place_keys key

-- each key is an option's
abbrev pub are_options : Object → Bool
are_options given = list_all (λ m. is_option m.key) given

-- ---- what stands under a key

-- a truth value
unfoldable pub truth_at : List ℕ → Bool → Object → Option Bool
truth_at key standing given = or_standing standing as_bool (get_of key given)

abbrev pub blend_of : Json → Option Blend
blend_of value = option_and_then blend_named (as_text value)

-- how its pixels meet those below
unfoldable pub blend_at : Object → Option Blend
blend_at given = or_standing Normal blend_of (get_of (codes "sceneItemBlendMode") given)

abbrev pub align_of : Json → Option ℕ
align_of value = option_and_then (where_it is_align) (natural_of 0 15 value)

-- which of its sides stands at its position: left 1, right 2, top 4 and bottom 8, no opposites
unfoldable pub align_at : Object → Option ℕ
align_at given = or_standing 5 align_of (get_of (codes "alignment") given)

-- pixels cut off on a side
unfoldable pub crop_at : List ℕ → Object → Option ℕ
crop_at key given = or_standing 0 (natural_of 0 100000) (get_of key given)

abbrev pub position_of : Json → Option ℤ
position_of value = option_and_then (where_it is_position) (as_int value)

-- pixels to the right, or down
unfoldable pub position_at : List ℕ → Object → Option ℤ
position_at key given = or_standing (pos 0) position_of (get_of key given)

abbrev pub turn_of : Json → Option ℕ
turn_of value = option_and_then quarter_of (as_int value)

-- quarter turns to the right
unfoldable pub quarter_at : Object → Option ℕ
quarter_at given = or_standing 0 turn_of (get_of (codes "rotation") given)

-- how often a pixel is repeated
unfoldable pub scale_at : List ℕ → Object → Option ℕ
scale_at key given = or_standing 1 (natural_of 1 16) (get_of key given)

-- ---- all of them

-- where the item stands
unfoldable pub place_in : Object → Option Place
place_in given = do
  align ← align_at given
  bottom ← crop_at (codes "cropBottom") given
  left ← crop_at (codes "cropLeft") given
  right ← crop_at (codes "cropRight") given
  top ← crop_at (codes "cropTop") given
  x ← position_at (codes "positionX") given
  y ← position_at (codes "positionY") given
  quarter ← quarter_at given
  scale_x ← scale_at (codes "scaleX") given
  scale_y ← scale_at (codes "scaleY") given
  Some (record {
    x = x;
    y = y;
    scale_x = scale_x;
    scale_y = scale_y;
    quarter = quarter;
    align = align;
    crop_left = left;
    crop_top = top;
    crop_right = right;
    crop_bottom = bottom;
  })

-- what an item is asked to be: enabled and not locked, where nothing else is said
abbrev pub asked_in : Object → Option ItemSpec
asked_in given = do
  blend ← blend_at given
  enabled ← truth_at (codes "sceneItemEnabled") true given
  locked ← truth_at (codes "sceneItemLocked") false given
  place ← place_in given
  Some (asked enabled locked place blend)

unfoldable pub options_in : Object → Option ItemSpec
options_in given = if are_options given then asked_in given else None

-- the options of a JSON value
abbrev pub options_from : Json → Option ItemSpec
options_from value = option_and_then options_in (as_obj value)
