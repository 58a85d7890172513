-- The flat list of draws of a row, as a recursion over rows.
use Rattle.std.specs.Prelude.{ℕ, zero, suc, Bool, List, [], ◌∷◌, ◌++◌, flat_map}
use Rattle.std.specs.Prelude.{Option, Some, None, if◌then◌else◌}
use Rattle.std.specs.Option.{option_map_or}
use Rattle.mix_model.specs.declared.settings.Settings.{Settings}
use Rattle.mix_model.specs.declared.kind.Blend.{Blend}
use Rattle.mix_model.specs.declared.kind.Blend.TheVariants.{Normal}
use Rattle.mix_model.specs.declared.item.Item.{Item}
use Rattle.mix_model.specs.declared.row.Row.{Row}
use Rattle.mix_model.specs.declared.draw.Step.{Step}
use Rattle.mix_model.specs.declared.draw.Draw.{Draw}
use Rattle.mix_model.specs.Rows.{has_items, is_visible}
use Rattle.mix_model.specs.Lookups.{find_row}
use Rattle.mix_model.specs.Sizes.{size_of}
use Rattle.mix_model.specs.Drawing.{is_inside, depth}

-- how the draws of a row are listed: of the row of a serial, to which steps lead from the canvas, and
-- which an item of a blend mode shows
abbrev pub Lister : Type 0
Lister = List Step → Blend → ℕ → List Draw

-- how large the row of a serial is, on a canvas
abbrev pub size_at : List Row → ℕ × ℕ → ℕ → ℕ × ℕ
size_at rows canvas x = option_map_or (λ r. size_of r.settings canvas) (find_row rows x) (0, 0)

-- the step through an item: its place, and the size of what stands there
abbrev pub step_of : List Row → ℕ × ℕ → Item → Step
step_of rows canvas item = let size : ℕ × ℕ = size_at rows canvas item.child in
    record { place = item.place; width = size.0; height = size.1 }

-- an input with a size has pixels; a tone has none, nor has what has no settings
abbrev pub has_pixels : Settings → Bool
has_pixels settings = is_inside (size_of settings (0, 0)) 0 0

-- an input is one draw, where it has pixels
abbrev pub draws_with : List Step → Blend → Settings → ℕ → List Draw
draws_with steps blend settings since = if has_pixels settings
    then record { settings = settings; since = since; steps = steps; blend = blend } ∷ []
    else []

abbrev pub input_draws : List Step → Blend → Row → List Draw
input_draws steps blend row = draws_with steps blend row.settings row.since

-- a visible item is the draws of its child, one step further in and with its own blend mode
abbrev pub item_draws : List Row → ℕ × ℕ → Lister → List Step → Item → List Draw
item_draws rows canvas list steps item = if is_visible item
    then list (steps ++ step_of rows canvas item ∷ []) item.blend item.child else []

-- a scene or group is the draws of its items, from bottom to top. So the blend mode of an item counts
-- only where its child is an input
abbrev pub row_draws : List Row → ℕ × ℕ → Lister → List Step → Blend → Row → List Draw
row_draws rows canvas list steps blend row = if has_items row.kind
    then flat_map (item_draws rows canvas list steps) row.items else input_draws steps blend row

abbrev pub found_draws : List Row → ℕ × ℕ → Lister → List Step → Blend → Option Row → List Draw
found_draws rows canvas list steps blend None = []
found_draws rows canvas list steps blend (Some row) = row_draws rows canvas list steps blend row

-- the draws of a row, down through at most so many scenes and groups
abbrev pub listed : List Row → ℕ × ℕ → ℕ → Lister
listed rows canvas zero steps blend x = []
listed rows canvas (suc deeper) steps blend x =
    found_draws rows canvas (listed rows canvas deeper) steps blend (find_row rows x)

-- the plan of roots: the draws of each, one root after the other, in the normal mode
unfoldable pub plan_of : List Row → ℕ × ℕ → List ℕ → List Draw
plan_of rows canvas roots = flat_map (listed rows canvas depth [] Normal) roots
