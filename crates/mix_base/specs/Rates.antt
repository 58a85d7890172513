-- The rates of frames, and how many frames a duration takes.
use Rattle.std.specs.Prelude.{ℕ, Bool, ◌+◌, ◌-◌, ◌*◌, ◌/◌, ◌&&◌, nat_le}
use Rattle.mix_base.specs.declared.rate.Rate.{Rate}

-- a rate of num / den frames in a second: the divisor is 1 to 1001, and there are 1 to 240 frames
-- in a second
abbrev pub is_rate : Rate → Bool
is_rate rate = nat_le 1 rate.den && nat_le rate.den 1001 && nat_le rate.den rate.num
    && nat_le rate.num (240 * rate.den)

-- the quotient, rounded up
abbrev pub quotient_up : ℕ → ℕ → ℕ
quotient_up n d = (n + (d - 1)) / d

-- the frames that a duration in milliseconds takes, a begun frame counted whole
abbrev pub frames_of : ℕ → Rate → ℕ
frames_of ms rate = quotient_up (ms * rate.num) (1000 * rate.den)
