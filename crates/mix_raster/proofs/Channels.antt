-- Channels stay channels, and nothing lies over a colour unseen.
use Rattle.std.proofs.Common.{◌≡◌, ℕ, ◌<◌, ◌≤◌, ◌+◌, ◌-◌, ◌*◌, arith, ap, sym, ◌∙◌}
use Rattle.std.proofs.lemmas.Nat.{mul-le}
use Rattle.std.proofs.Common.{refl}
use Rattle.mix_model.specs.declared.kind.Blend.{Blend}
use Rattle.mix_model.specs.Colours.{Colour, clear}
use Rattle.mix_model.specs.Blending.{product_of, covering, mode_over, over}

-- what a channel lacks to the whole, times another, is no more than the whole of it
lacking : (s e d : ℕ) → s + e ≡ 255 → d ≤ 255 → 255 * d ≤ s * d + 255 * e
lacking s e d whole small =
    let part : e * d ≤ e * 255 = mul-le e d e 255 (omega arith) small in
    let parts : 255 * d ≡ s * d + e * d = ap (λ z. z * d) (sym whole) ∙ grind arith in
    omega (arith, part, parts)

-- what a screen makes of two channels fits one
pub screen_is_small : (s d : ℕ) → s < 256 → d < 256 → s + d ≤ product_of s d + 255
screen_is_small s d p q =
    let part : 255 * d ≤ s * d + 255 * (255 - s) =
    lacking s (255 - s) d (omega arith) (omega arith) in
    omega (arith, part)

-- an alpha of 0 leaves a channel as it is
clear_leaves : (f d : ℕ) → covering f 0 d ≡ d
clear_leaves f d = omega arith

pub over_clear : (mode : Blend) (d : Colour) → over mode clear d ≡ d
over_clear mode d = rw (
  clear_leaves (mode_over mode 0 d.red) d.red,
  clear_leaves (mode_over mode 0 d.green) d.green,
  clear_leaves (mode_over mode 0 d.blue) d.blue,
) refl
