-- Why a call that creates or adds is refused: the first cause that holds, in one order everywhere. The
-- early causes look at the sources as they are, the late ones at what they would become.
use Rattle.std.specs.Prelude.{ℕ, Bool, List, [], ◌∷◌, ◌+◌, not, nat_lt, sum_by}
use Rattle.std.specs.Prelude.{length, Option, Some, None, is_none, if◌then◌else◌}
use Rattle.std.specs.Option.{option_map_or}
use Rattle.mix_base.specs.Limits.{standard}
use Rattle.mix_model.specs.declared.fault.GraphFault.{GraphFault}
use Rattle.mix_model.specs.declared.fault.GraphFault.TheVariants.{NotFound, WrongKind, Exists}
use Rattle.mix_model.specs.declared.fault.GraphFault.TheVariants.{Cycle, Depth, TooMany}
use Rattle.mix_model.specs.declared.item.Item.{Item}
use Rattle.mix_model.specs.declared.kind.Kind.{Kind}
use Rattle.mix_model.specs.declared.row.Row.{Row}
use Rattle.mix_model.specs.Rows.{has_items}
use Rattle.mix_model.specs.State.{GraphState}
use Rattle.mix_model.specs.Lookups.{row_passes, item_at}
use Rattle.mix_model.specs.Holders.{is_named, has_name}
use Rattle.mix_model.specs.Walks.{is_chained}
use Rattle.mix_model.specs.Ranks.{ranks_within, weights_within}

-- a cause, with the test by which it comes
abbrev pub Cause : Type 0
Cause = Bool × GraphFault

-- the first cause whose test is passed
abbrev pub first_cause : List Cause → Option GraphFault
first_cause [] = None
first_cause (cause ∷ causes) = if cause.0 then Some cause.1 else first_cause causes

-- a serial that isn't that of a named row
abbrev pub unknown : GraphState → ℕ → Cause
unknown g x = (not (is_named g x), NotFound)

-- a source of another sort than its place needs
abbrev pub not_kind : (Kind → Bool) → GraphState → ℕ → Cause
not_kind test g x = (not (row_passes g (λ r. test r.kind) x), WrongKind)

-- a parent that isn't a scene or group
abbrev pub not_parent : GraphState → ℕ → Cause
not_parent g x = not_kind has_items g x

-- a name that belongs to a named row
abbrev pub name_taken : GraphState → List ℕ → Cause
name_taken g name = (has_name g name, Exists)

-- a chain of items leads from the child to the parent, or they are one
abbrev pub circle : GraphState → ℕ → ℕ → Cause
circle g parent child = (is_chained g child parent, Cycle)

-- some row would be deeper than the greatest rank
abbrev pub too_deep : GraphState → Cause
too_deep after = (not (ranks_within standard.rank after), Depth)

-- there would be more than the limit allows
abbrev pub above : ℕ → ℕ → Cause
above most count = (nat_lt most count, TooMany most)

-- the items of all rows together, those of dying rows included
abbrev pub item_count : List Row → ℕ
item_count rows = sum_by (λ r. length r.items) rows

-- there would be too many rows or items, or too heavy a row, looked for in this order
abbrev pub too_many : GraphState → List Cause
too_many after = above standard.rows (length after.rows)
    ∷ (above standard.items (item_count after.rows)
    ∷ ((not (weights_within standard.weight after), TooMany standard.weight) ∷ []))

-- too deep, or too many
unfoldable pub late_cause : GraphState → Option GraphFault
late_cause after = first_cause (too_deep after ∷ too_many after)

-- a new scene, or an input that no item shows yet
unfoldable pub source_early : GraphState → List ℕ → Option GraphFault
source_early g name = first_cause (name_taken g name ∷ [])

-- a new group or input with an item of its parent. It has no items, so no circle can come
unfoldable pub shown_early : GraphState → List ℕ → ℕ → Option GraphFault
shown_early g name parent =
    first_cause (unknown g parent ∷ (not_parent g parent ∷ (name_taken g name ∷ [])))

-- a new item
unfoldable pub item_early : GraphState → ℕ → ℕ → Option GraphFault
item_early g parent child =
    first_cause (unknown g parent ∷ (unknown g child ∷ (not_parent g parent ∷ [])))

unfoldable pub item_late : GraphState → ℕ → ℕ → GraphState → Option GraphFault
item_late g parent child after =
    first_cause (circle g parent child ∷ (too_deep after ∷ too_many after))

abbrev pub child_of : Option Item → ℕ
child_of item = option_map_or (λ i. i.child) item 0

-- a copy of an item: its parent, the item and the destination are looked for in this order
unfoldable pub copy_early : GraphState → ℕ → ℕ → ℕ → Option GraphFault
copy_early g parent id to = first_cause (unknown g parent
    ∷ ((is_none (item_at g parent id), NotFound) ∷ (unknown g to ∷ (not_parent g to ∷ []))))

unfoldable pub copy_late : GraphState → ℕ → ℕ → ℕ → GraphState → Option GraphFault
copy_late g parent id to after = item_late g to (child_of (item_at g parent id)) after

-- a hold, a watch, and a frame in flight, one more than there are
unfoldable pub hold_cause : GraphState → ℕ → Option GraphFault
hold_cause g x = first_cause (unknown g x ∷ (above standard.holds (length g.holds + 1) ∷ []))

unfoldable pub watch_cause : GraphState → ℕ → Option GraphFault
watch_cause g x = first_cause (unknown g x ∷ (above standard.watches (length g.watches + 1) ∷ []))

unfoldable pub frame_cause : GraphState → Option GraphFault
frame_cause g = first_cause (above standard.frames (length g.frames + 1) ∷ [])

-- the early cause, and where there is none the late one
abbrev pub cause_or : Option GraphFault → Option GraphFault → Option GraphFault
cause_or None late = late
cause_or (Some cause) late = Some cause

-- a call that creates is refused as its early and late causes say
abbrev pub scene_cause : GraphState → List ℕ → GraphState → Option GraphFault
scene_cause g name after = cause_or (source_early g name) (late_cause after)

abbrev pub shown_cause : GraphState → List ℕ → ℕ → GraphState → Option GraphFault
shown_cause g name parent after = cause_or (shown_early g name parent) (late_cause after)

abbrev pub item_cause : GraphState → ℕ → ℕ → GraphState → Option GraphFault
item_cause g parent child after =
    cause_or (item_early g parent child) (item_late g parent child after)

abbrev pub copy_cause : GraphState → ℕ → ℕ → ℕ → GraphState → Option GraphFault
copy_cause g parent id to after =
    cause_or (copy_early g parent id to) (copy_late g parent id to after)
