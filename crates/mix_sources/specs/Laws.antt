-- What the table of settings promises: settings that are written down are accepted again.
use Rattle.std.specs.Prelude.{◌≡◌, ℕ, ◌<◌, ⊤, List, slice_index, Ok, IsTrue}
use Rattle.mix_model.specs.declared.kind.Kind.{Kind}
use Rattle.mix_model.specs.declared.settings.Settings.{Settings}
use Rattle.mix_model.specs.declared.settings.Settings.TheVariants.{None as NoSettings, Color}
use Rattle.mix_model.specs.declared.settings.Settings.TheVariants.{Checker, Scroll, Raster, Tone}
use Rattle.mix_model.specs.Rows.{is_input}
use Rattle.mix_model.specs.Values.{are_settings}
use Rattle.mix_sources.specs.Checked.{are_over, checked}
use Rattle.mix_sources.specs.Written.{object_of}

-- every item is a byte
abbrev pub AreBytes : List ℕ → Type 0
AreBytes bytes = (i : ℕ) → slice_index bytes i < 256

-- the pixels of a raster are bytes, as their type has them
abbrev pub HasBytes : Settings → Type 0
HasBytes NoSettings = ⊤
HasBytes (Color color width height) = ⊤
HasBytes (Checker a b cell width height) = ⊤
HasBytes (Scroll a b bar speed width height) = ⊤
HasBytes (Raster pixels width height) = AreBytes pixels
HasBytes (Tone level half) = ⊤

-- the object of valid settings gives these very settings, whatever stood before
abbrev pub WrittenIsAccepted : Type 0
WrittenIsAccepted = (kind : Kind) (over settings : Settings) (canvas : ℕ × ℕ) →
    IsTrue (is_input kind) → IsTrue (are_over kind over) →
    IsTrue (are_settings kind settings) → HasBytes settings →
    checked kind over (object_of settings) canvas ≡ Ok settings
