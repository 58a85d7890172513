use Rattle.std.proofs.Common.{◌≡◌, ℕ, ◌+◌, ◌*◌, ◌≤◌, List, length, subst}
use Rattle.mix_model.specs.Colours.{colour_at}
use Rattle.mix_raster.proofs.HidingLemmas.{raster_opaque}
use Rattle.mix_raster.proofs.hiding.is_opaque.Goals as goal

-- the pixels of a raster are those of its bytes
pub returns-in-Raster : goal.returns-in-Raster
returns-in-Raster c =
    let P : List ℕ → Type 0 = λ bytes. (k : ℕ) → 4 * k + 4 ≤ length bytes →
    (colour_at bytes (4 * k)).alpha ≡ 255 in record {
      opaque = λ full. raster_opaque c.args.settings.now c.in-Raster.pixels c.in-Raster.width
          c.in-Raster.height c.requires.valid c.in-Raster.is
          (subst P c.bytes.ensures.value (c.are_full.ensures.full full));
    }
