-- An item that is hidden or shown.
use Rattle.std.proofs.Common.{ℕ, Bool, refl}
use Rattle.mix_model.specs.Edits.{item_enabled}
use Rattle.mix_model.specs.State.{GraphState}
use Rattle.mix_studio.proofs.ShapeLemmas.{IsBeside}

-- leaves channels, frames in flight and the clock
pub enabled_beside : (parent id : ℕ) (enabled : Bool) (g : GraphState) →
    IsBeside g (item_enabled parent id enabled g)
unfolding item_enabled
enabled_beside parent id enabled g = record { channels = refl; frames = refl; clock = refl }
