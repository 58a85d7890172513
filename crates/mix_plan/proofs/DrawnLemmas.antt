-- A plan is the recursive drawing of its roots.
use Rattle.std.proofs.Common.{◌≡◌, ℕ, zero, suc, refl, sym, ap, ◌∙◌, Bool, true, false, cond}
use Rattle.std.proofs.Common.{lt-ltb, List, [], ◌∷◌, ◌++◌, fold, flat_map, Option, Some, None}
use Rattle.std.proofs.Common.{option_and_then, ◌&&◌, arith}
use Rattle.std.specs.Option.{option_map_or}
use Rattle.std.specs.List.{list_all}
use Rattle.std.proofs.lemmas.List.Sums.{fold-append}
use Rattle.mix_model.specs.declared.settings.Settings.{Settings}
use Rattle.mix_model.specs.declared.settings.Settings.TheVariants.{None as NoSettings}
use Rattle.mix_model.specs.declared.kind.Kind.{Kind}
use Rattle.mix_model.specs.declared.kind.Kind.TheVariants.{Scene, Group}
use Rattle.mix_model.specs.declared.kind.Blend.{Blend}
use Rattle.mix_model.specs.declared.kind.Blend.TheVariants.{Normal}
use Rattle.mix_model.specs.declared.item.Item.{Item}
use Rattle.mix_model.specs.declared.row.Row.{Row}
use Rattle.mix_model.specs.declared.draw.Step.{Step}
use Rattle.mix_model.specs.declared.draw.Draw.{Draw}
use Rattle.mix_model.specs.Rows.{has_items, is_visible}
use Rattle.mix_model.specs.Lookups.{find_row}
use Rattle.mix_model.specs.Sizes.{size_of}
use Rattle.mix_model.specs.Values.{are_of_kind}
use Rattle.mix_model.specs.Colours.{Colour}
use Rattle.mix_model.specs.Placing.{Point, inner_of}
use Rattle.mix_model.specs.Drawing.{Stage, Drawer, is_inside, where_true, where_some, input_over}
use Rattle.mix_model.specs.Drawing.{item_over, row_over, found_over, drawn, depth}
use Rattle.mix_model.specs.Plans.{reached, draw_over, draws_over, is_step}
use Rattle.mix_model.proofs.SetLemmas.{and_first, and_second, and_both}
use Rattle.mix_plan.specs.Listed.{Lister, step_of, has_pixels, draws_with, item_draws}
use Rattle.mix_plan.specs.Listed.{row_draws, found_draws, listed, plan_of}
use Rattle.mix_plan.specs.Seen.{item_is_sound, row_is_sound, found_is_sound, is_sound}
use Rattle.mix_plan.specs.Laws.{IsDrawing, stage_of}
use Rattle.mix_plan.proofs.PlaceLemmas.{lies_in, inner_lies}

-- draws one after the other
draws_append : (tick x y : ℕ) (below : Colour) (first rest : List Draw) →
    draws_over tick x y below (first ++ rest)
    ≡ draws_over tick x y (draws_over tick x y below first) rest
draws_append tick x y below first rest = fold-append (draw_over tick x y) below first rest

-- where a pixel leads nowhere else, what is below stays
idle : (o : Option Point) (below : Colour) → where_some o (λ u v c. c) below ≡ below
idle None below = refl
idle (Some p) below = refl

-- from the pixel that a pixel leads to
chained : (o : Option Point) (f : Point → Option Point) (draw : ℕ → ℕ → Colour → Colour)
    (below : Colour) → where_some (option_and_then f o) draw below
    ≡ where_some o (λ u v c. where_some (f (u, v)) draw c) below
chained None f draw below = refl
chained (Some p) f draw below = refl

-- two drawings at one pixel
joined : (o : Option Point) (f g : ℕ → ℕ → Colour → Colour) (below : Colour) →
    where_some o g (where_some o f below) ≡ where_some o (λ u v c. g u v (f u v c)) below
joined None f g below = refl
joined (Some p) f g below = refl

-- a test that each pixel passes
tested : (o : Option Point) (size : ℕ × ℕ) → lies_in size o ≡ true →
    (f : ℕ → ℕ → Colour → Colour) (below : Colour) →
    where_some o f below ≡ where_some o (λ u v c. where_true (is_inside size u v) (f u v) c) below
tested None size inside f below = refl
tested (Some p) size inside f below = rw inside refl

-- a step more goes on from where the steps lead
reached_further : (steps : List Step) (step : Step) (x y : ℕ) → reached (steps ++ step ∷ []) x y
    ≡ option_and_then (λ p. inner_of step.place step.width step.height p.0 p.1) (reached steps x y)
reached_further [] step x y = last (inner_of step.place step.width step.height x y) where
  last : (o : Option Point) → option_and_then (λ p. reached [] p.0 p.1) o ≡ o
  last None = refl
  last (Some p) = refl
reached_further (s ∷ steps) step x y =
    onwards (λ u v. reached_further steps step u v) (inner_of s.place s.width s.height x y) where
      onwards : ((u v : ℕ) → reached (steps ++ step ∷ []) u v
          ≡ option_and_then (λ p. inner_of step.place step.width step.height p.0 p.1)
          (reached steps u v)) → (o : Option Point) →
          option_and_then (λ p. reached (steps ++ step ∷ []) p.0 p.1) o
          ≡ option_and_then (λ p. inner_of step.place step.width step.height p.0 p.1)
          (option_and_then (λ p. reached steps p.0 p.1) o)
      onwards further None = refl
      onwards further (Some p) = further p.0 p.1

-- a scene or group is reached within its size
abbrev pub found_fits : ℕ × ℕ → Option Point → Option Row → Bool
found_fits canvas o None = true
found_fits canvas o (Some row) =
    cond (has_items row.kind) (lies_in (size_of row.settings canvas) o) true

size_fits : (canvas : ℕ × ℕ) (o : Option Point) (found : Option Row) →
    lies_in (option_map_or (λ r. size_of r.settings canvas) found (0, 0)) o ≡ true →
    found_fits canvas o found ≡ true
size_fits canvas o None lies = refl
size_fits canvas o (Some row) lies = by_kind (has_items row.kind) where
  by_kind : (b : Bool) → cond b (lies_in (size_of row.settings canvas) o) true ≡ true
  by_kind true = lies
  by_kind false = refl

-- a scene or group is as large as the canvas
pub canvas_large : (kind : Kind) (settings : Settings) (canvas : ℕ × ℕ) →
    are_of_kind kind settings ≡ true → has_items kind ≡ true → size_of settings canvas ≡ canvas
unfolding are_of_kind
canvas_large Scene NoSettings canvas fits holds = refl
canvas_large Group NoSettings canvas fits holds = refl
canvas_large kind settings canvas fits holds = cc

-- what has no first pixel has none
no_pixel : (size : ℕ × ℕ) → is_inside size 0 0 ≡ false → (u v : ℕ) → is_inside size u v ≡ false
no_pixel size empty u v = grind arith

-- the list of a row, at the canvas's pixel (X, Y), is its drawing at the pixel to which the steps lead
abbrev Means : Stage → ℕ → ℕ → (ℕ → Bool) → Lister → Drawer → Type 0
Means stage X Y sound list draw = (steps : List Step) (blend : Blend) (x : ℕ) (below : Colour) →
    sound x ≡ true → found_fits stage.canvas (reached steps X Y) (find_row stage.rows x) ≡ true →
    draws_over stage.tick X Y below (list steps blend x)
    ≡ where_some (reached steps X Y) (draw x blend) below

item_means : (stage : Stage) (X Y : ℕ) (sound : ℕ → Bool) (list : Lister) (draw : Drawer) →
    Means stage X Y sound list draw → (steps : List Step) (item : Item) →
    item_is_sound stage.rows stage.canvas sound item ≡ true → (below : Colour) →
    draws_over stage.tick X Y below (item_draws stage.rows stage.canvas list steps item)
    ≡ where_some (reached steps X Y) (λ u v c. item_over stage draw u v c item) below
item_means stage X Y sound list draw means steps item passed below =
    by_flag (is_visible item) passed where
      step : Step
      step = step_of stage.rows stage.canvas item

      leads : reached (steps ++ step ∷ []) X Y
          ≡ option_and_then (λ p. inner_of item.place step.width step.height p.0 p.1)
          (reached steps X Y)
      leads = reached_further steps step X Y

      inside : (o : Option Point) → lies_in (step.width, step.height)
          (option_and_then (λ p. inner_of item.place step.width step.height p.0 p.1) o) ≡ true
      inside None = refl
      inside (Some p) = inner_lies item.place step.width step.height p.0 p.1

      fits : found_fits stage.canvas (reached (steps ++ step ∷ []) X Y)
          (find_row stage.rows item.child) ≡ true
      fits = size_fits stage.canvas (reached (steps ++ step ∷ []) X Y) (find_row stage.rows item.child)
          (rw leads (inside (reached steps X Y)))

      by_flag : (b : Bool) → cond b (is_step step && sound item.child) true ≡ true →
          draws_over stage.tick X Y below
          (cond b (list (steps ++ step ∷ []) item.blend item.child) [])
          ≡ where_some (reached steps X Y) (λ u v c. where_true b
          (where_some (inner_of item.place step.width step.height u v) (draw item.child item.blend)) c)
          below
      by_flag false child = sym (idle (reached steps X Y) below)
      by_flag true child =
          means (steps ++ step ∷ []) item.blend item.child below (and_second _ _ child) fits
          ∙ ap (λ o. where_some o (draw item.child item.blend) below) leads
          ∙ chained (reached steps X Y)
          (λ p. inner_of item.place step.width step.height p.0 p.1) (draw item.child item.blend) below

items_mean : (stage : Stage) (X Y : ℕ) (sound : ℕ → Bool) (list : Lister) (draw : Drawer) →
    Means stage X Y sound list draw → (steps : List Step) (items : List Item) →
    list_all (item_is_sound stage.rows stage.canvas sound) items ≡ true → (below : Colour) →
    draws_over stage.tick X Y below
    (flat_map (item_draws stage.rows stage.canvas list steps) items)
    ≡ where_some (reached steps X Y) (λ u v c. fold (item_over stage draw u v) c items) below
items_mean stage X Y sound list draw means steps [] passed below =
    sym (idle (reached steps X Y) below)
items_mean stage X Y sound list draw means steps (item ∷ items) passed below =
    let rest : List Draw = flat_map (item_draws stage.rows stage.canvas list steps) items in
    draws_append stage.tick X Y below (item_draws stage.rows stage.canvas list steps item) rest
    ∙ ap (λ b. draws_over stage.tick X Y b rest)
    (item_means stage X Y sound list draw means steps item (and_first _ _ passed) below)
    ∙ items_mean stage X Y sound list draw means steps items (and_second _ _ passed)
    (where_some (reached steps X Y) (λ u v c. item_over stage draw u v c item) below)
    ∙ joined (reached steps X Y) (λ u v c. item_over stage draw u v c item)
    (λ u v c. fold (item_over stage draw u v) c items) below

input_means : (tick X Y : ℕ) (steps : List Step) (blend : Blend) (settings : Settings)
    (since : ℕ) (below : Colour) →
    draws_over tick X Y below (draws_with steps blend settings since)
    ≡ where_some (reached steps X Y) (input_over settings since tick blend) below
input_means tick X Y steps blend settings since below =
    by_pixels (has_pixels settings) (no_pixel (size_of settings (0, 0))) where
      nothing : ((u v : ℕ) → is_inside (size_of settings (0, 0)) u v ≡ false) → (o : Option Point) →
          below ≡ where_some o (input_over settings since tick blend) below
      nothing none None = refl
      nothing none (Some p) = rw (none p.0 p.1) refl

      by_pixels : (b : Bool) →
          (b ≡ false → (u v : ℕ) → is_inside (size_of settings (0, 0)) u v ≡ false) →
          draws_over tick X Y below (cond b (record {
            settings = settings;
            since = since;
            steps = steps;
            blend = blend;
          } ∷ []) [])
          ≡ where_some (reached steps X Y) (input_over settings since tick blend) below
      by_pixels true none = refl
      by_pixels false none = nothing (none refl) (reached steps X Y)

row_means : (stage : Stage) (X Y : ℕ) (sound : ℕ → Bool) (list : Lister) (draw : Drawer) →
    Means stage X Y sound list draw → (steps : List Step) (row : Row) →
    row_is_sound stage.rows stage.canvas sound row ≡ true →
    found_fits stage.canvas (reached steps X Y) (Some row) ≡ true →
    (blend : Blend) (below : Colour) →
    draws_over stage.tick X Y below (row_draws stage.rows stage.canvas list steps blend row)
    ≡ where_some (reached steps X Y) (λ u v c. row_over stage draw blend u v c row) below
row_means stage X Y sound list draw means steps row passed fits blend below =
    by_kind (has_items row.kind) (canvas_large row.kind row.settings stage.canvas
    (and_first _ _ (and_first _ _ passed))) (and_second _ _ passed) fits where
      by_kind : (b : Bool) → (b ≡ true → size_of row.settings stage.canvas ≡ stage.canvas) →
          cond b (list_all (item_is_sound stage.rows stage.canvas sound) row.items) true ≡ true →
          cond b (lies_in (size_of row.settings stage.canvas) (reached steps X Y)) true ≡ true →
          draws_over stage.tick X Y below
          (cond b (flat_map (item_draws stage.rows stage.canvas list steps) row.items)
          (draws_with steps blend row.settings row.since))
          ≡ where_some (reached steps X Y) (λ u v c. cond b (where_true (is_inside stage.canvas u v)
          (λ e. fold (item_over stage draw u v) e row.items) c)
          (input_over row.settings row.since stage.tick blend u v c)) below
      by_kind false large items inside =
          input_means stage.tick X Y steps blend row.settings row.since below
      by_kind true large items inside =
          let within : lies_in stage.canvas (reached steps X Y) ≡ true = rw (large refl) at inside in
          items_mean stage X Y sound list draw means steps row.items items below
          ∙ tested (reached steps X Y) stage.canvas within
          (λ u v c. fold (item_over stage draw u v) c row.items) below

found_means : (stage : Stage) (X Y : ℕ) (sound : ℕ → Bool) (list : Lister) (draw : Drawer) →
    Means stage X Y sound list draw → (steps : List Step) (found : Option Row) →
    found_is_sound stage.rows stage.canvas sound found ≡ true →
    found_fits stage.canvas (reached steps X Y) found ≡ true →
    (blend : Blend) (below : Colour) →
    draws_over stage.tick X Y below (found_draws stage.rows stage.canvas list steps blend found)
    ≡ where_some (reached steps X Y) (λ u v c. found_over stage draw blend u v c found) below
found_means stage X Y sound list draw means steps None passed fits blend below =
    sym (idle (reached steps X Y) below)
found_means stage X Y sound list draw means steps (Some row) passed fits blend below =
    row_means stage X Y sound list draw means steps row passed fits blend below

listed_means : (stage : Stage) (X Y n : ℕ) →
    Means stage X Y (is_sound stage.rows stage.canvas n) (listed stage.rows stage.canvas n)
    (drawn stage n)
listed_means stage X Y zero steps blend x below passed fits = sym (idle (reached steps X Y) below)
listed_means stage X Y (suc n) steps blend x below passed fits =
    found_means stage X Y (is_sound stage.rows stage.canvas n) (listed stage.rows stage.canvas n)
    (drawn stage n) (listed_means stage X Y n) steps (find_row stage.rows x) passed fits blend below

-- the canvas's own pixels lie within a root that is a scene or group
root_fits : (canvas : ℕ × ℕ) (x y : ℕ) → is_inside canvas x y ≡ true → (rows : List Row)
    (sound : ℕ → Bool) (found : Option Row) → found_is_sound rows canvas sound found ≡ true →
    found_fits canvas (Some (x, y)) found ≡ true
root_fits canvas x y inside rows sound None passed = refl
root_fits canvas x y inside rows sound (Some row) passed =
    by_kind (has_items row.kind)
    (canvas_large row.kind row.settings canvas (and_first _ _ (and_first _ _ passed))) where
      by_kind : (b : Bool) → (b ≡ true → size_of row.settings canvas ≡ canvas) →
          cond b (lies_in (size_of row.settings canvas) (Some (x, y))) true ≡ true
      by_kind false large = refl
      by_kind true large = rw (large refl) inside

roots_mean : (rows : List Row) (canvas : ℕ × ℕ) (roots : List ℕ) →
    list_all (is_sound rows canvas depth) roots ≡ true →
    IsDrawing rows canvas roots (flat_map (listed rows canvas depth [] Normal) roots)
roots_mean rows canvas [] passed tick x y below right down = refl
roots_mean rows canvas (root ∷ roots) passed tick x y below right down =
    let stage : Stage = stage_of rows canvas tick in
    let rest : List Draw = flat_map (listed rows canvas depth [] Normal) roots in
    let inside : is_inside canvas x y ≡ true =
    and_both _ _ (lt-ltb _ _ right) (lt-ltb _ _ down) in
    draws_append tick x y below (listed rows canvas depth [] Normal root) rest
    ∙ ap (λ b. draws_over tick x y b rest) (listed_means stage x y depth [] Normal root below
    (and_first _ _ passed) (root_fits canvas x y inside rows (is_sound rows canvas 16)
    (find_row rows root) (and_first _ _ passed)))
    ∙ roots_mean rows canvas roots (and_second _ _ passed) tick x y
    (drawn stage depth root Normal x y below) right down

-- what a plan lists of sound roots is their drawing
pub plan_is_drawing : (rows : List Row) (canvas : ℕ × ℕ) (roots : List ℕ) (draws : List Draw) →
    draws ≡ plan_of rows canvas roots → list_all (is_sound rows canvas depth) roots ≡ true →
    IsDrawing rows canvas roots draws
unfolding plan_of
plan_is_drawing rows canvas roots draws is passed = rw is (roots_mean rows canvas roots passed)
