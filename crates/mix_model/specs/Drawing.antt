-- The drawing of a row at one pixel, as a recursion over rows.
use Rattle.std.specs.Prelude.{ℕ, zero, suc, Bool, true, false, nat_lt, ◌&&◌, List, fold}
use Rattle.std.specs.Prelude.{Option, Some, None, if◌then◌else◌}
use Rattle.std.specs.Option.{option_map_or}
use Rattle.mix_model.specs.declared.settings.Settings.{Settings}
use Rattle.mix_model.specs.declared.kind.Blend.{Blend}
use Rattle.mix_model.specs.declared.kind.Blend.TheVariants.{Normal}
use Rattle.mix_model.specs.declared.item.Item.{Item}
use Rattle.mix_model.specs.declared.row.Row.{Row}
use Rattle.mix_model.specs.Rows.{has_items, is_visible}
use Rattle.mix_model.specs.Lookups.{find_row}
use Rattle.mix_model.specs.Sizes.{size_of}
use Rattle.mix_model.specs.Colours.{Colour}
use Rattle.mix_model.specs.Kinds.{pixel_of}
use Rattle.mix_model.specs.Blending.{over}
use Rattle.mix_model.specs.Placing.{Point, inner_of}

-- what is drawn: rows, on a canvas, at a tick
pub record Stage : Type 0 where
  pub rows : List Row
  pub canvas : ℕ × ℕ
  pub tick : ℕ

-- whether the point lies within a size
abbrev pub is_inside : ℕ × ℕ → ℕ → ℕ → Bool
is_inside size u v = nat_lt u size.0 && nat_lt v size.1

-- what is made of `below` where the test is passed, and where there is a pixel
abbrev pub where_true : Bool → (Colour → Colour) → Colour → Colour
where_true true f below = f below
where_true false f below = below

abbrev pub where_some : Option Point → (ℕ → ℕ → Colour → Colour) → Colour → Colour
where_some (Some p) f below = f p.0 p.1 below
where_some None f below = below

-- an input's pixel over what is below it, within its size
abbrev pub input_over : Settings → ℕ → ℕ → Blend → ℕ → ℕ → Colour → Colour
input_over settings since tick blend u v below =
    where_true (is_inside (size_of settings (0, 0)) u v)
    (over blend (pixel_of settings since tick u v)) below

-- how a row is drawn: with the blend mode of the item that shows it, at a pixel, over what is below
abbrev pub Drawer : Type 0
Drawer = ℕ → Blend → ℕ → ℕ → Colour → Colour

-- the size of a row, by its serial
abbrev pub size_in : Stage → ℕ → ℕ × ℕ
size_in stage x =
    option_map_or (λ r. size_of r.settings stage.canvas) (find_row stage.rows x) (0, 0)

-- a visible item at a pixel of its scene or group: its child, at the pixel that this one shows
abbrev pub item_over : Stage → Drawer → ℕ → ℕ → Colour → Item → Colour
item_over stage draw x y below item =
    let size : ℕ × ℕ = size_in stage item.child in
    where_true (is_visible item)
    (where_some (inner_of item.place size.0 size.1 x y) (draw item.child item.blend)) below

-- a scene or group carries what is below through its items from bottom to top; an input lays its pixel
-- over it. So the blend mode of an item counts only where its child is an input
abbrev pub row_over : Stage → Drawer → Blend → ℕ → ℕ → Colour → Row → Colour
row_over stage draw blend u v below row = if has_items row.kind
    then where_true (is_inside stage.canvas u v)
    (λ b. fold (item_over stage draw u v) b row.items) below
    else input_over row.settings row.since stage.tick blend u v below

abbrev pub found_over : Stage → Drawer → Blend → ℕ → ℕ → Colour → Option Row → Colour
found_over stage draw blend u v below None = below
found_over stage draw blend u v below (Some row) = row_over stage draw blend u v below row

-- the drawing of a row, down through at most so many scenes and groups
abbrev pub drawn : Stage → ℕ → Drawer
drawn stage zero x blend u v below = below
drawn stage (suc deeper) x blend u v below =
    found_over stage (drawn stage deeper) blend u v below (find_row stage.rows x)

-- deeper than any rank
abbrev pub depth : ℕ
depth = 17

-- the rows that channels name are drawn one over the other, in the normal mode
abbrev pub roots_over : Stage → ℕ → ℕ → Colour → List ℕ → Colour
roots_over stage u v below roots =
    fold (λ b root. drawn stage depth root Normal u v b) below roots
