-- Which statuses are left.
use Rattle.std.proofs.Common.{◌≡◌, ℕ, List, refl}
use Rattle.mix_program.specs.Output.{Written}
use Rattle.mix_program.specs.Ends.{Ends, Finishes, status_at}
use Rattle.mix_program.specs.declared.running.Ended.{Ended}
use Rattle.mix_program.specs.declared.running.Ended.TheVariants as ends

-- a run that no fault and no want of memory ended wrote all its lines
pub all_is_done : (e : Ended) (status : ℕ) (old new : List ℕ) (all : Written) →
    status ≡ status_at e → (e ≡ ends.ReadFault → ⊥) → (e ≡ ends.WriteFault → ⊥) →
    (status ≡ 8 → ⊥) → Ends e old new all → Finishes status old new all
all_is_done (ends.Whole finished) status old new all is read write memory h = rw is h
all_is_done ends.ReadFault status old new all is read write memory h = absurd (read refl)
all_is_done ends.WriteFault status old new all is read write memory h = absurd (write refl)
all_is_done ends.NoMemory status old new all is read write memory h = absurd (memory is)
