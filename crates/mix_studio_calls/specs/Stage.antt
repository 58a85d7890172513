-- The collection on which the calls are made.
use Rattle.std.specs.Prelude.{◌≡◌, ℕ, true, false, List, [], ◌∷◌, pos}
use Rattle.mix_model.specs.declared.collection.Line.{Line}
use Rattle.mix_model.specs.declared.collection.Line.TheVariants.{Scene, Input, Group, Item}
use Rattle.mix_model.specs.declared.collection.Line.TheVariants.{Sound as SoundLine, Channel}
use Rattle.mix_model.specs.declared.kind.Blend.TheVariants.{Normal}
use Rattle.mix_model.specs.declared.kind.Kind.TheVariants.{Color as ColorKind, Tone as ToneKind}
use Rattle.mix_model.specs.declared.settings.Settings.TheVariants.{Color, Tone}
use Rattle.mix_model.specs.Values.{new_place}
use Rattle.mix_studio_calls.specs.declared.stage.Names.{Names}

-- A, B, G, C and T
pub record AreStageNames (names : Names) : Type 0 where
  pub first : names.first ≡ 65 ∷ []
  pub second : names.second ≡ 66 ∷ []
  pub group : names.group ≡ 71 ∷ []
  pub color : names.color ≡ 67 ∷ []
  pub tone : names.tone ≡ 84 ∷ []

-- two scenes, a group in the first, a colour and a tone in that with its sound, the colour twice in the
-- second, and a channel
abbrev pub stage_lines : List ℕ → List ℕ → List ℕ → List ℕ → List ℕ → List Line
stage_lines first second group color tone =
    Scene first
    ∷ (Scene second
    ∷ (Group group first true false new_place Normal
    ∷ (Input ColorKind color (Color 0 1 1)
    ∷ (Input ToneKind tone (Tone 1000 24)
    ∷ (Item group color true false new_place Normal
    ∷ (Item group tone true false new_place Normal
    ∷ (Item second color true false new_place Normal
    ∷ (Item second color true false new_place Normal
    ∷ (SoundLine tone (record { volume = 500; muted = false; tracks = 1; offset = pos 0 })
    ∷ (Channel 5 color ∷ []))))))))))
