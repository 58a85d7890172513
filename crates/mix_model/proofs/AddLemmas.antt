-- What a new item holds.
use Rattle.std.proofs.Common.{◌≡◌, ℕ, Bool, true, false, ◌||◌, ◌&&◌, ◌==◌, List, [], ◌∷◌, map, refl}
use Rattle.std.proofs.Common.{cond}
use Rattle.std.specs.List.{list_any}
use Rattle.std.proofs.lemmas.List.Folds.{list_any-append}
use Rattle.mix_model.specs.declared.row.Row.{Row}
use Rattle.mix_model.specs.declared.item.ItemSpec.{ItemSpec}
use Rattle.mix_model.specs.Sets.{has}
use Rattle.mix_model.specs.Rows.{is_at, shows}
use Rattle.mix_model.specs.Items.{with_item, new_item}
use Rattle.mix_model.specs.State.{GraphState}
use Rattle.mix_model.specs.Lookups.{registry}
use Rattle.mix_model.specs.Holders.{is_held, shows_some, names, is_on, lists}
use Rattle.mix_model.specs.Edits.{item_added}

-- a row with a new item shows what it did, and the new child
with_shows : (x child : ℕ) (spec : ItemSpec) (r : Row) →
    shows_some x (with_item child spec r) ≡ (shows_some x r || (child == x))
unfolding with_item new_item
with_shows x child spec r =
    rw (list_any-append (shows x) r.items (new_item r.next_item child spec ∷ []))
    (end_case (list_any (shows x) r.items) (child == x))
  where
    end_case : (a b : Bool) → (a || (b || false)) ≡ (a || b)
    end_case true b = refl
    end_case false true = refl
    end_case false false = refl

-- whether a row that may be the parent shows it, and the others
row_case : (here a c more rest : Bool) →
    (cond here (a || c) a || (more || (rest && c))) ≡ ((a || more) || ((here || rest) && c))
row_case true true c more rest = refl
row_case true false true true rest = refl
row_case true false true false true = refl
row_case true false true false false = refl
row_case true false false true rest = refl
row_case true false false false true = refl
row_case true false false false false = refl
row_case false true c more rest = refl
row_case false false c more rest = refl

rows_show : (x parent child : ℕ) (spec : ItemSpec) (rows : List Row) →
    list_any (shows_some x) (map (λ r. cond (is_at parent r) (with_item child spec r) r) rows)
    ≡ (list_any (shows_some x) rows || (list_any (is_at parent) rows && (child == x)))
rows_show x parent child spec [] = refl
rows_show x parent child spec (r ∷ rows) =
    rw (rows_show x parent child spec rows, shown_as (is_at parent r))
    (row_case (is_at parent r) (shows_some x r) (child == x) (list_any (shows_some x) rows)
    (list_any (is_at parent) rows))
  where
    shown_as : (b : Bool) → shows_some x (cond b (with_item child spec r) r)
        ≡ cond b (shows_some x r || (child == x)) (shows_some x r)
    shown_as true = with_shows x child spec r
    shown_as false = refl

held_case : (a b c d e f : Bool) →
    (a || (b || ((c || f) || (d || e)))) ≡ ((a || (b || (c || (d || e)))) || f)
held_case true b c d e f = refl
held_case false true c d e f = refl
held_case false false true d e f = refl
held_case false false false true e true = refl
held_case false false false true e false = refl
held_case false false false false true true = refl
held_case false false false false true false = refl
held_case false false false false false true = refl
held_case false false false false false false = refl

-- a new item holds its child, and nothing else changes
pub added_held : (g : GraphState) (parent child : ℕ) (spec : ItemSpec) (x : ℕ) →
    is_held (item_added parent child spec g) x
    ≡ (is_held g x || (list_any (is_at parent) g.rows && (child == x)))
unfolding item_added is_held
added_held g parent child spec x = rw (rows_show x parent child spec g.rows)
    (held_case (has x (registry g)) (list_any (names x) g.channels)
    (list_any (shows_some x) g.rows) (list_any (is_on x) g.holds) (list_any (lists x) g.frames)
    (list_any (is_at parent) g.rows && (child == x)))
