use Rattle.std.proofs.Common.{◌≡◌, ◌*◌, take}
use Rattle.mix_model.specs.Encoding.{luma, pixel_in, plane}
use Rattle.mix_encode.proofs.luma.fill_luma.Given as goal

-- the rows so far
abbrev pub invariant-loop-y : goal.invariant-loop-y
invariant-loop-y l = take (l.width * l.y) l.into
    ≡ plane l.width l.y (λ x y. luma (pixel_in l.picture x y))
