-- How deep and how heavy sources are.
use Rattle.std.specs.Prelude.{ℕ, zero, suc, ◌+◌, Bool, List, [], ◌∷◌, map}
use Rattle.std.specs.Prelude.{Option, option_and_then, Some, None, nat_le, nat_lt, if◌then◌else◌}
use Rattle.std.specs.List.{list_all}
use Rattle.mix_model.specs.declared.row.Row.{Row}
use Rattle.mix_model.specs.Sets.{greatest}
use Rattle.mix_model.specs.Rows.{has_items, children_of, all_items}
use Rattle.mix_model.specs.State.{GraphState}
use Rattle.mix_model.specs.Lookups.{find_row}

-- the children of a scene or group, of every item, enabled or not; an input has no inside
abbrev pub inside_of : Row → Option (List ℕ)
inside_of row = if has_items row.kind then Some (children_of row) else None

abbrev pub inside_in : List Row → ℕ → Option (List ℕ)
inside_in rows x = option_and_then inside_of (find_row rows x)

abbrev pub inside : GraphState → ℕ → Option (List ℕ)
inside g x = inside_in g.rows x

-- a scene or group has one more than the greatest rank of its items' children, 1 without items; an
-- input has 0
abbrev pub rank_over : (ℕ → ℕ) → Option (List ℕ) → ℕ
rank_over below None = 0
rank_over below (Some xs) = suc (greatest (map below xs))

-- the rank, or the number of rounds where the rank is no lower
abbrev pub rank_by : (ℕ → Option (List ℕ)) → ℕ → ℕ → ℕ
rank_by inner zero x = 0
rank_by inner (suc n) x = rank_over (λ c. rank_by inner n c) (inner x)

-- the rank of a row, among these rows. Seventeen rounds do, since a rank is at most 16: 17 stands for
-- every deeper row, and for a row that lies in itself
abbrev pub rank_in : List Row → ℕ → ℕ
rank_in rows x = rank_by (inside_in rows) 17 x

unfoldable pub rank : GraphState → ℕ → ℕ
rank g x = rank_in g.rows x

abbrev pub sum_of : List ℕ → ℕ
sum_of [] = 0
sum_of (n ∷ ns) = n + sum_of ns

-- a scene or group has one more than the sum of its items' children's weights, each item counted; an
-- input has 1
abbrev pub weight_over : (ℕ → ℕ) → Option (List ℕ) → ℕ
weight_over below None = 1
weight_over below (Some xs) = suc (sum_of (map below xs))

-- the weight, where the rank is below the number of rounds
abbrev pub weight_by : (ℕ → Option (List ℕ)) → ℕ → ℕ → ℕ
weight_by inner zero x = 0
weight_by inner (suc n) x = weight_over (λ c. weight_by inner n c) (inner x)

-- the weight of a row, among these rows
abbrev pub weight_in : List Row → ℕ → ℕ
weight_in rows x = weight_by (inside_in rows) 17 x

unfoldable pub weight : GraphState → ℕ → ℕ
weight g x = weight_in g.rows x

-- ranks fall along every item: so no chain of items comes back, and none is longer than its ranks
abbrev pub fall_in : List Row → Bool
fall_in rows = all_items (λ r i. nat_lt (rank_in rows i.child) (rank_in rows r.serial)) rows

unfoldable pub ranks_fall : GraphState → Bool
ranks_fall g = fall_in g.rows

-- no row is deeper than this
abbrev pub shallow_in : ℕ → List Row → Bool
shallow_in most rows = list_all (λ r. nat_le (rank_in rows r.serial) most) rows

unfoldable pub ranks_within : ℕ → GraphState → Bool
ranks_within most g = shallow_in most g.rows

-- no row is heavier than this
abbrev pub light_in : ℕ → List Row → Bool
light_in most rows = list_all (λ r. nat_le (weight_in rows r.serial) most) rows

unfoldable pub weights_within : ℕ → GraphState → Bool
weights_within most g = light_in most g.rows
