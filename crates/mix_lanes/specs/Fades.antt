-- A row of which the first bytes are faded to another.
use Rattle.std.specs.Prelude.{ℕ, ◌≤◌, ◌≡◌, List, ◌++◌, length, take, drop}
use Rattle.mix_model.specs.Blending.{bytes_faded}

pub record IsFadedTo (t n : ℕ) (old to : List ℕ) (at : ℕ) (now : List ℕ) : Type 0 where
  pub within : at ≤ length old
  pub faded : now ≡ bytes_faded t n (take at old) (take at to) ++ drop at old
