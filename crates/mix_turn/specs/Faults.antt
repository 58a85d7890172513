-- When a try and a split are refused.
use Rattle.std.specs.Prelude.{◌≡◌, ◌≢◌, ◌⊎◌, ◌^◌, ◌-◌, ◌<◌, ◌≤◌}
use Rattle.mix_turn.specs.declared.faults.Busy.{Busy}
use Rattle.mix_turn.specs.declared.faults.SplitFault.{SplitFault}
use Rattle.mix_turn.specs.declared.faults.SplitFault.TheVariants.{Crowded, NoMemory}
use Rattle.mix_turn.specs.declared.view.Tally.{Tally}
use Rattle.mix_turn.specs.Tally.{with_look, with_try, with_count, with_take}

-- A try is refused in two cases, and tells what it found in this call, between the old tally and the new:
-- it looked once at the serving number and tried once for a ticket, and the ticket found is above the serving number looked at;
-- or it looked once, the serving number is two to the power of 63 or more, and it did not try. Then the ticket told is the same number
abbrev pub IsBusy : Tally → Tally → Busy → Type 0
IsBusy old new busy =
    ((new ≡ with_try busy.ticket (with_look busy.serving old)) × (busy.serving < busy.ticket))
    ⊎ ((new ≡ with_look busy.serving old) × (2 ^ 63 ≤ busy.serving) × (busy.ticket ≡ busy.serving))

-- A split is refused in two cases, for no want of memory, and tells what it found in this call, between the old tally and the new:
-- it looked once at how many numbers were given and tried once to take the next, and the number found at the try is not the one looked at;
-- or it looked once, the number is the last one, and it did not try. Then the number told as found is the same
abbrev pub IsCrowded : Tally → Tally → SplitFault → Type 0
IsCrowded old new (Crowded looked found) =
    ((new ≡ with_take found (with_count looked old)) × (looked ≢ found))
    ⊎ ((new ≡ with_count looked old) × (looked ≡ 2 ^ 32 - 1) × (found ≡ 2 ^ 32 - 1))
IsCrowded old new NoMemory = ⊥
