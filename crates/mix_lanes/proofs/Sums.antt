-- Sums of channels: how great they are, and their quotients by the whole.
use Rattle.std.proofs.Common.{◌≡◌, ℕ, ◌<◌, ◌≤◌, ◌+◌, ◌-◌, ◌*◌, ◌/◌, ◌%◌, arith, refl, ap, sym, ◌∙◌}
use Rattle.std.proofs.lemmas.Nat.{mul-le}
use Rattle.mix_model.specs.Blending.{product_of}
use Rattle.mix_lanes.specs.Channels.{nearest_of}

-- a product with 257 and a shift are the division by 255
shifted : (z : ℕ) → z ≤ 65025 → (z + 128) * 257 / 65536 ≡ nearest_of z
shifted z h = omega arith

pub unwrapped : (z : ℕ) → z < 65536 → z % 65536 ≡ z
unwrapped z h = omega arith

pub unwrapped_wide : (z : ℕ) → z < 4294967296 → z % 4294967296 ≡ z
unwrapped_wide z h = omega arith

pub nearest_is : (z : ℕ) → z ≤ 65025 →
    (z + 128) % 65536 * 257 % 4294967296 / 65536 ≡ nearest_of z
nearest_is z h = rw (
  unwrapped (z + 128) (omega arith),
  unwrapped_wide ((z + 128) * 257) (omega arith),
) (shifted z h)

pub product_small : (x y : ℕ) → x ≤ 255 → y ≤ 255 → x * y ≤ 65025
product_small x y p q = mul-le x y 255 255 p q

pub product_is : (x y : ℕ) → x ≤ 255 → y ≤ 255 → x * y % 65536 ≡ x * y
product_is x y p q = let small = product_small x y p q in unwrapped (x * y) (omega (arith, small))

pub weighed_small : (f w d : ℕ) → f ≤ 255 → w ≤ 255 → d ≤ 255 → f * w + d * (255 - w) ≤ 65025
weighed_small f w d p q r =
    let one : f * w ≤ 255 * w = mul-le f w 255 w p (omega arith) in
    let other : d * (255 - w) ≤ 255 * (255 - w) = mul-le d (255 - w) 255 (255 - w) r (omega arith) in
    omega (arith, one, other)

pub rest_is : (w : ℕ) → w ≤ 255 → (255 + (65536 - w)) % 65536 ≡ 255 - w
rest_is w h = omega arith

pub weighed_is : (f w d : ℕ) → f ≤ 255 → w ≤ 255 → d ≤ 255 →
    (f * w % 65536 + d * ((255 + (65536 - w)) % 65536) % 65536) % 65536 ≡ f * w + d * (255 - w)
weighed_is f w d p q r =
    let small = weighed_small f w d p q r in
    rw (
      rest_is w q,
      product_is f w p q,
      product_is d (255 - w) r (omega arith),
      unwrapped (f * w + d * (255 - w)) (omega (arith, small)),
    ) refl

-- a product is no greater than either channel, and no less than what they have above the whole
pub product_below : (s d : ℕ) → s ≤ 255 → d ≤ 255 → product_of s d ≤ s
product_below s d p q =
    let part : s * d ≤ s * 255 = mul-le s d s 255 (omega arith) q in omega (arith, part)

lacking : (s e d : ℕ) → s + e ≡ 255 → d ≤ 255 → 255 * d ≤ s * d + 255 * e
lacking s e d whole small =
    let part : e * d ≤ e * 255 = mul-le e d e 255 (omega arith) small in
    let parts : 255 * d ≡ s * d + e * d = ap (λ z. z * d) (sym whole) ∙ grind arith in
    omega (arith, part, parts)

pub screen_small : (s d : ℕ) → s ≤ 255 → d ≤ 255 → s + d ≤ product_of s d + 255
screen_small s d p q =
    let part : 255 * d ≤ s * d + 255 * (255 - s) =
    lacking s (255 - s) d (omega arith) q in
    omega (arith, part)

-- an alpha of 0 leaves a channel as it is
pub clear_leaves : (f d : ℕ) → nearest_of (f * 0 + d * (255 - 0)) ≡ d
clear_leaves f d = omega arith
