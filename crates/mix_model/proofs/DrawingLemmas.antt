-- More rounds leave a drawing as it is.
use Rattle.std.proofs.Common.{◌≡◌, ℕ, zero, suc, ◌<◌, Bool, true, false, cond, List, [], ◌∷◌, map}
use Rattle.std.proofs.Common.{fold, Option, Some, None, option_and_then, refl, arith}
use Rattle.mix_model.specs.declared.kind.Blend.{Blend}
use Rattle.mix_model.specs.declared.item.Item.{Item}
use Rattle.mix_model.specs.declared.row.Row.{Row}
use Rattle.mix_model.specs.Sets.{greatest}
use Rattle.mix_model.specs.Rows.{has_items, children_of, is_visible}
use Rattle.mix_model.specs.Lookups.{find_row}
use Rattle.mix_model.specs.Ranks.{rank_by, rank_over, inside_of, inside_in}
use Rattle.mix_model.specs.Colours.{Colour}
use Rattle.mix_model.specs.Placing.{Point, inner_of}
use Rattle.mix_model.specs.Drawing.{Stage, Drawer, drawn, found_over, row_over, item_over}
use Rattle.mix_model.specs.Drawing.{input_over, is_inside, size_in, where_true, where_some}

some_same : (f h : ℕ → ℕ → Colour → Colour) → ((u v : ℕ) (b : Colour) → f u v b ≡ h u v b) →
    (o : Option Point) (below : Colour) → where_some o f below ≡ where_some o h below
some_same f h same None below = refl
some_same f h same (Some p) below = same p.0 p.1 below

true_same : (b : Bool) (f h : Colour → Colour) → ((c : Colour) → f c ≡ h c) → (below : Colour) →
    where_true b f below ≡ where_true b h below
true_same true f h same below = same below
true_same false f h same below = refl

-- two drawers that draw a row alike
abbrev Alike : Drawer → Drawer → ℕ → Type 0
Alike deep draw c = (blend : Blend) (u v : ℕ) (below : Colour) →
    deep c blend u v below ≡ draw c blend u v below

item_same : (stage : Stage) (deep draw : Drawer) (item : Item) → Alike deep draw item.child →
    (x y : ℕ) (below : Colour) →
    item_over stage deep x y below item ≡ item_over stage draw x y below item
item_same stage deep draw item same x y below =
    let size : ℕ × ℕ = size_in stage item.child in
    let o : Option Point = inner_of item.place size.0 size.1 x y in
    true_same (is_visible item) (where_some o (deep item.child item.blend))
    (where_some o (draw item.child item.blend))
    (λ c. some_same (deep item.child item.blend) (draw item.child item.blend)
    (same item.blend) o c) below

-- drawers that draw the children alike draw the items alike
items_same : (stage : Stage) (f : ℕ → ℕ) (n : ℕ) (deep draw : Drawer) →
    ((c : ℕ) → f c < n → Alike deep draw c) → (items : List Item) →
    greatest (map f (map (λ i. i.child) items)) < n → (x y : ℕ) (below : Colour) →
    fold (item_over stage deep x y) below items ≡ fold (item_over stage draw x y) below items
items_same stage f n deep draw same [] low x y below = refl
items_same stage f n deep draw same (i ∷ items) low x y below =
    let first : f i.child < n = omega (arith, low) in
    rw (item_same stage deep draw i (same i.child first) x y below)
    (items_same stage f n deep draw same items (omega (arith, low)) x y
    (item_over stage draw x y below i))

-- and so the row
row_same : (stage : Stage) (f : ℕ → ℕ) (n : ℕ) (deep draw : Drawer) →
    ((c : ℕ) → f c < n → Alike deep draw c) → (row : Row) →
    rank_over f (inside_of row) < suc n → (blend : Blend) (u v : ℕ) (below : Colour) →
    row_over stage deep blend u v below row ≡ row_over stage draw blend u v below row
row_same stage f n deep draw same row low blend u v below = by_kind (has_items row.kind) low where
  by_kind : (b : Bool) → rank_over f (cond b (Some (children_of row)) None) < suc n →
      cond b (where_true (is_inside stage.canvas u v)
      (λ c. fold (item_over stage deep u v) c row.items) below)
      (input_over row.settings row.since stage.tick blend u v below)
      ≡ cond b (where_true (is_inside stage.canvas u v)
      (λ c. fold (item_over stage draw u v) c row.items) below)
      (input_over row.settings row.since stage.tick blend u v below)
  by_kind true under = true_same (is_inside stage.canvas u v)
      (λ c. fold (item_over stage deep u v) c row.items)
      (λ c. fold (item_over stage draw u v) c row.items)
      (λ c. items_same stage f n deep draw same row.items (omega (arith, under)) u v c) below
  by_kind false under = refl

found_same : (stage : Stage) (f : ℕ → ℕ) (n : ℕ) (deep draw : Drawer) →
    ((c : ℕ) → f c < n → Alike deep draw c) → (o : Option Row) →
    rank_over f (option_and_then inside_of o) < suc n → (blend : Blend) (u v : ℕ)
    (below : Colour) →
    found_over stage deep blend u v below o ≡ found_over stage draw blend u v below o
found_same stage f n deep draw same None low blend u v below = refl
found_same stage f n deep draw same (Some row) low blend u v below =
    row_same stage f n deep draw same row low blend u v below

-- one round more draws what lies within the rounds as before
pub drawing_stands : (stage : Stage) (n x : ℕ) → rank_by (inside_in stage.rows) n x < n →
    (blend : Blend) (u v : ℕ) (below : Colour) →
    drawn stage (suc n) x blend u v below ≡ drawn stage n x blend u v below
drawing_stands stage zero x low blend u v below = absurd (omega (arith, low))
drawing_stands stage (suc n) x low blend u v below =
    found_same stage (λ c. rank_by (inside_in stage.rows) n c) n (drawn stage (suc n))
    (drawn stage n) (drawing_stands stage n) (find_row stage.rows x) low blend u v below
