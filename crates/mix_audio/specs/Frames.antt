-- Frames of a block: the tracks lie one after the other, each with its 1024 frames, left and then
-- right.
use Rattle.std.specs.Prelude.{ℕ, ℤ, pos, ◌≡◌, ◌+◌, ◌*◌, List, slice_index_or}

-- where the left sample of a frame lies
abbrev pub left_of : ℕ → ℕ → ℕ
left_of track frame = 2 * (1024 * track + frame)

-- a frame of a track has this sample on both sides
pub record HasFrame (block : List ℤ) (track frame : ℕ) (sample : ℤ) : Type 0 where
  pub left : slice_index_or block (left_of track frame) (pos 0) ≡ sample
  pub right : slice_index_or block (left_of track frame + 1) (pos 0) ≡ sample
