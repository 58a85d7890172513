-- Walks, and what is active, showing and still there.
use Rattle.std.specs.Prelude.{ℕ, zero, suc, Bool, List, [], ◌∷◌, ◌++◌, ◌==◌}
use Rattle.std.specs.Prelude.{◌&&◌, ◌||◌, IsTrue, filter, if◌then◌else◌}
use Rattle.std.specs.Prelude.{Option, Some, None, option_to_list, option_and_then}
use Rattle.std.specs.List.{list_any}
use Rattle.mix_model.specs.declared.row.Row.{Row}
use Rattle.mix_model.specs.Sets.{has}
use Rattle.mix_model.specs.Rows.{serials_of}
use Rattle.mix_model.specs.State.{GraphState}
use Rattle.mix_model.specs.Lookups.{channel_roots, is_row, children, visible_children, visible_in}
use Rattle.mix_model.specs.Holders.{is_held}

-- each row of the list leads to the next one, and the last one is the goal
abbrev pub goes_along : (ℕ → List ℕ) → ℕ → List ℕ → ℕ → Bool
goes_along next from [] to = from == to
goes_along next from (x ∷ rest) to = has x (next from) && goes_along next x rest to

-- a walk is a list of rows, at least one, each next one the child of a visible item of the one before:
-- here the first row, those after it, and the last
pub record Walk (g : GraphState) (from to : ℕ) : Type 0 where
  pub rest : List ℕ
  pub walks : IsTrue (goes_along (visible_children g) from rest to)

-- a chain of items, visible or not
pub record Chain (g : GraphState) (from to : ℕ) : Type 0 where
  pub rest : List ℕ
  pub walks : IsTrue (goes_along (children g) from rest to)

-- the goal is the row itself, or can be reached from one of its next ones by one step less
abbrev pub leads : (ℕ → List ℕ) → ℕ → ℕ → ℕ → Bool
leads next zero from to = from == to
leads next (suc n) from to = (from == to) || list_any (λ x. leads next n x to) (next from)

-- more steps than a walk has where ranks are at most sixteen
abbrev pub most_steps : ℕ
most_steps = 17

-- a walk leads from one of these rows to the other
abbrev pub walks_in : List Row → ℕ → ℕ → Bool
walks_in rows from to = leads (visible_in rows) most_steps from to

abbrev pub is_walked : GraphState → ℕ → ℕ → Bool
is_walked g from to = walks_in g.rows from to

-- a chain of items leads from one row to the other, or they are one
abbrev pub is_chained : GraphState → ℕ → ℕ → Bool
is_chained g from to = leads (children g) most_steps from to

-- a weak reference yields its row as long as something holds the row, and then nothing for good
unfoldable pub upgrade : GraphState → ℕ → Option ℕ
upgrade g x = if is_row g x && is_held g x then Some x else None

-- what the preview yields: it is a weak reference
abbrev pub preview_row : GraphState → Option ℕ
preview_row g = option_and_then (upgrade g) g.preview

abbrev pub if_scene : GraphState → ℕ → Option ℕ
if_scene g x = if has x g.scenes then Some x else None

-- the usable preview is the row that the preview yields, where it is a scene of the registry
abbrev pub usable_preview : GraphState → Option ℕ
usable_preview g = option_and_then (if_scene g) (preview_row g)

-- the rows that show: those that a channel names, and the one that the preview yields
abbrev pub showing_roots : GraphState → List ℕ
showing_roots g = channel_roots g ++ option_to_list (preview_row g)

-- x is a row, and a walk leads to it from one of the roots
pub record Reached (g : GraphState) (roots : List ℕ) (x : ℕ) : Type 0 where
  pub row : IsTrue (is_row g x)
  pub root : ℕ
  pub rooted : IsTrue (has root roots)
  pub walk : Walk g root x

-- a row is active exactly when a walk leads to it from a row that a channel names
abbrev pub Active : GraphState → ℕ → Type 0
Active g x = Reached g (channel_roots g) x

-- a row is showing exactly when a walk leads to it from such a row or from the preview's
abbrev pub Showing : GraphState → ℕ → Type 0
Showing g x = Reached g (showing_roots g) x

-- the same, as tests
abbrev pub is_reached : GraphState → List ℕ → ℕ → Bool
is_reached g roots x = is_row g x && list_any (λ root. is_walked g root x) roots

unfoldable pub is_active : GraphState → ℕ → Bool
is_active g x = is_reached g (channel_roots g) x

unfoldable pub is_showing : GraphState → ℕ → Bool
is_showing g x = is_reached g (showing_roots g) x

-- the active rows by rising serial: those that a frame lists
abbrev pub active_rows : GraphState → List ℕ
active_rows g = filter (is_active g) (serials_of g.rows)
