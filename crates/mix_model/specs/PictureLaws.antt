-- What the definitions of pictures and sound promise.
use Rattle.std.specs.Prelude.{◌≡◌, ◌<◌, ◌*◌, ℕ, suc, IsTrue, List, length}
use Rattle.mix_model.specs.declared.kind.Blend.{Blend}
use Rattle.mix_model.specs.State.{StudioState}
use Rattle.mix_model.specs.Lookups.{is_row}
use Rattle.mix_model.specs.Walks.{is_active}
use Rattle.mix_model.specs.Ranks.{rank_by, inside_in}
use Rattle.mix_model.specs.WholeShape.{StudioShape}
use Rattle.mix_model.specs.Colours.{Colour, pixel_at}
use Rattle.mix_model.specs.Drawing.{Stage, drawn}
use Rattle.mix_model.specs.Pictures.{filled, side_roots}
use Rattle.mix_model.specs.Voices.{ends_of, is_reached_by}

-- a row is drawn whole by as many rounds as its rank needs: one more changes nothing
abbrev pub DrawingStands : Type 0
DrawingStands = (stage : Stage) (n x : ℕ) → rank_by (inside_in stage.rows) n x < n →
    (blend : Blend) (u v : ℕ) (below : Colour) →
    drawn stage (suc n) x blend u v below ≡ drawn stage n x blend u v below

-- bytes that have the colour of each pixel are those of the picture that is filled with these colours
abbrev pub FilledByPixels : Type 0
FilledByPixels = (canvas : ℕ × ℕ) (colour : ℕ → ℕ → Colour) (rgba : List ℕ) →
    length rgba ≡ 4 * (canvas.0 * canvas.1) →
    ((x y : ℕ) → x < canvas.0 → y < canvas.1 → pixel_at canvas.0 rgba x y ≡ colour x y) →
    rgba ≡ (filled canvas colour).rgba

-- what is heard is what is active: the program and the further channels reach exactly the active rows
abbrev pub HeardIsActive : Type 0
HeardIsActive = (s : StudioState) → StudioShape s → (x : ℕ) → IsTrue (is_row s.graph x) →
    is_reached_by s.graph.rows (ends_of s.program.shown) (side_roots s.graph) x
    ≡ is_active s.graph x
