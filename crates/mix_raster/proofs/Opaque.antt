-- A picture of a shot is opaque.
use Rattle.std.proofs.Common.{◌≡◌, ℕ, ◌<◌, ◌+◌, ◌-◌, ◌*◌, ◌/◌, List, [], ◌∷◌, refl, ap, ◌∙◌, arith}
use Rattle.std.proofs.Common.{Bool, true, false, Option, Some, None}
use Rattle.std.proofs.lemmas.Nat.{div-mul-add}
use Rattle.mix_model.specs.declared.draw.Draw.{Draw}
use Rattle.mix_model.specs.declared.draw.Shot.{Shot}
use Rattle.mix_model.specs.declared.settings.Settings.{Settings}
use Rattle.mix_model.specs.declared.kind.Blend.{Blend}
use Rattle.mix_model.specs.Sizes.{size_of}
use Rattle.mix_model.specs.Colours.{Colour, black}
use Rattle.mix_model.specs.Kinds.{pixel_of}
use Rattle.mix_model.specs.Blending.{over, faded}
use Rattle.mix_model.specs.Placing.{Point}
use Rattle.mix_model.specs.Drawing.{is_inside, where_true, where_some, input_over}
use Rattle.mix_model.specs.Plans.{reached, draw_over, draws_over, base_colour, shot_colour}

tested_keeps : (p : Bool) (mode : Blend) (s below : Colour) →
    (where_true p (over mode s) below).alpha ≡ below.alpha
tested_keeps true mode s below = refl
tested_keeps false mode s below = refl

reached_keeps : (settings : Settings) (since tick : ℕ) (mode : Blend) (o : Option Point)
    (below : Colour) →
    (where_some o (input_over settings since tick mode) below).alpha ≡ below.alpha
reached_keeps settings since tick mode None below = refl
reached_keeps settings since tick mode (Some p) below = tested_keeps
    (is_inside (size_of settings (0, 0)) p.0 p.1) mode (pixel_of settings since tick p.0 p.1) below

-- draws keep the alpha of what is below
pub draws_keep : (tick x y : ℕ) (draws : List Draw) (below : Colour) →
    (draws_over tick x y below draws).alpha ≡ below.alpha
draws_keep tick x y [] below = refl
draws_keep tick x y (draw ∷ draws) below = draws_keep tick x y draws (draw_over tick x y below draw)
    ∙ reached_keeps draw.settings draw.since tick draw.blend (reached draw.steps x y) below

-- the whole faded to the whole is the whole
whole_faded : (t n : ℕ) → t < n → faded t n 255 255 ≡ 255
whole_faded t n h =
    let parts : (n - t) * 255 + t * 255 + n / 2 ≡ 255 * n + n / 2 = omega arith in
    ap (λ z. z / n) parts ∙ div-mul-add 255 n (n / 2) (omega arith)

pub base_opaque : (shot : Shot) (tick x y : ℕ) (to : Option (List Draw)) → shot.t < shot.n →
    (base_colour shot tick to x y).alpha ≡ 255
base_opaque shot tick x y None h = draws_keep tick x y shot.from black
base_opaque shot tick x y (Some to) h =
    ap (λ a. faded shot.t shot.n a (draws_over tick x y black to).alpha)
    (draws_keep tick x y shot.from black)
    ∙ ap (λ b. faded shot.t shot.n 255 b) (draws_keep tick x y to black)
    ∙ whole_faded shot.t shot.n h

pub shot_opaque : (shot : Shot) (tick x y : ℕ) → shot.t < shot.n →
    (shot_colour shot tick x y).alpha ≡ 255
shot_opaque shot tick x y h =
    draws_keep tick x y shot.over (base_colour shot tick shot.to x y)
    ∙ base_opaque shot tick x y shot.to h
