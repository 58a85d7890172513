-- Sources as the rows of a graph alone, and a flag for each row.
use Rattle.std.specs.Prelude.{ℕ, Bool, List, [], ◌∷◌, ◌||◌, ◌+◌, ◌≤◌, ◌<◌, not, find, ◌==◌}
use Rattle.std.specs.Prelude.{slice_set, slice_index_or}
use Rattle.mix_base.specs.Limits.{most_items, last_number}
use Rattle.mix_model.specs.Items.{with_item}
use Rattle.mix_model.specs.declared.item.ItemSpec.{ItemSpec}
use Rattle.std.specs.Prelude.{length, filter, nat_lt, true, false, ◌≡◌, IsTrue}
use Rattle.std.specs.List.{list_any, list_all}
use Rattle.std.specs.Option.{option_map_or}
use Rattle.mix_model.specs.declared.row.Row.{Row}
use Rattle.mix_model.specs.Sets.{has, is_distinct, rises_above}
use Rattle.mix_model.specs.Rows.{is_at, serials_of, children_of, visible_children_of}
use Rattle.mix_model.specs.Causes.{item_count}
use Rattle.mix_model.specs.Walks.{leads, most_steps}
use Rattle.mix_model.specs.Holders.{shows_some}
use Rattle.mix_model.specs.Ranks.{shallow_in, light_in}
use Rattle.mix_shape.specs.declared.new_item.NewItem.{NewItem}

-- rows by rising serial
abbrev pub RowsRise : List Row → Type 0
RowsRise rows = IsTrue (rises_above 0 (serials_of rows))

-- the next rows of a walk: the children that visible items show
abbrev pub next_in : List Row → ℕ → List ℕ
next_in rows x = option_map_or visible_children_of (find (is_at x) rows) []

-- the next rows of a chain: the children that items show, visible or not
abbrev pub chained_in : List Row → ℕ → List ℕ
chained_in rows x = option_map_or children_of (find (is_at x) rows) []

-- a walk leads to x from one of the roots
unfoldable pub reached_in : List Row → List ℕ → ℕ → Bool
reached_in rows roots x = list_any (λ root. leads (next_in rows) most_steps root x) roots

-- a flag for each row, put on also where the row's serial passes the test
abbrev pub flagged_also : (ℕ → Bool) → List Row → List Bool → List Bool
flagged_also test [] flags = flags
flagged_also test (row ∷ rows) [] = []
flagged_also test (row ∷ rows) (flag ∷ flags) =
    (flag || test row.serial) ∷ flagged_also test rows flags

-- the dying list has room for every row that isn't in it
abbrev pub HasRoom : List Row → List ℕ → ℕ → Type 0
HasRoom rows dying room =
    length dying + length (filter (λ x. not (has x dying)) (serials_of rows)) ≤ room

-- what a graph keeps of its rows: room for the dying list, fewer rows in it and beside it than serials
-- were given, serials that rise and so differ, and are below the next one, and no more items than
-- there may be
pub record InOrder (rows : List Row) (dying : List ℕ) (places next : ℕ) : Type 0 where
  pub room : HasRoom rows dying places
  pub few : HasRoom rows dying next
  pub start : 0 < next
  pub drawn : next ≤ last_number
  pub items : item_count rows ≤ most_items
  pub rise : RowsRise rows
  pub differ : is_distinct (serials_of rows) ≡ true
  pub below : list_all (λ x. nat_lt x next) (serials_of rows) ≡ true

-- the item on top of the row at this place
abbrev pub with_item_on : List Row → ℕ → ℕ → ItemSpec → Row → List Row
with_item_on rows at child spec d = slice_set rows at (with_item child spec (slice_index_or rows at d))

-- the row is the parent of a new item, or an item of it shows the parent
abbrev pub is_near : NewItem → Row → Bool
is_near new row = (row.serial == new.parent) || shows_some new.parent row

-- where the row shows the parent, no row shows it
abbrev pub is_top : ℕ → List Row → Row → Bool
is_top parent rows row =
    not (shows_some parent row) || not (list_any (shows_some row.serial) rows)

-- a new item between rows that are no deeper or heavier than may be, where no row shows those that
-- show its parent: so only the near ones get deeper or heavier
pub record IsNear (new : NewItem) (rows : List Row) : Type 0 where
  pub item : new.group ≡ false
  pub tops : IsTrue (list_all (λ r. is_top new.parent rows r) rows)
  pub shallow : IsTrue (shallow_in 16 rows)
  pub light : IsTrue (light_in 4096 rows)
