-- How large a step can be: no side of a canvas or of an input is above 4096.
use Rattle.std.proofs.Common.{◌≡◌, ℕ, ◌*◌, Bool, true, ◌&&◌, nat_le, refl, ◌==◌, length, pos, negsuc}
use Rattle.mix_model.specs.declared.settings.Settings.{Settings}
use Rattle.mix_model.specs.declared.settings.Settings.TheVariants.{None as NoSettings, Color}
use Rattle.mix_model.specs.declared.settings.Settings.TheVariants.{Checker, Scroll, Raster, Tone}
use Rattle.mix_model.specs.Values.{is_size, is_between, is_canvas, are_valid, is_color, is_within}
use Rattle.mix_model.specs.Sizes.{size_of}
use Rattle.mix_model.specs.Views.{IsValidView}
use Rattle.mix_model.specs.declared.row.RowView.{RowView}
use Rattle.mix_model.proofs.SetLemmas.{and_first, and_second, and_both}

-- both sides are at most 4096
abbrev pub is_small : ℕ × ℕ → Bool
is_small size = nat_le size.0 4096 && nat_le size.1 4096

size_small : (width height : ℕ) → is_size width height ≡ true → is_small (width, height) ≡ true
size_small width height h = and_both (nat_le width 4096) (nat_le height 4096)
    (and_second (nat_le 1 width) (nat_le width 4096)
    (and_first (is_between 1 4096 width) (is_between 1 4096 height) h))
    (and_second (nat_le 1 height) (nat_le height 4096)
    (and_second (is_between 1 4096 width) (is_between 1 4096 height) h))

-- the second of three tests, and the first
second_of : (a b c : Bool) → (a && b && c) ≡ true → b ≡ true
second_of a b c h = and_second a b (and_first (a && b) c h)

first_of_three : (a b c : Bool) → (a && b && c) ≡ true → a ≡ true
first_of_three a b c h = and_first a b (and_first (a && b) c h)

-- a valid source, on a canvas within the limits, is small
pub source_small : (settings : Settings) (canvas : ℕ × ℕ) → are_valid settings ≡ true →
    is_canvas canvas ≡ true → is_small (size_of settings canvas) ≡ true
unfolding are_valid is_canvas
source_small NoSettings canvas valid within = size_small canvas.0 canvas.1 (and_first _ _ within)
source_small (Color color width height) canvas valid within =
    size_small width height (and_second _ _ valid)
source_small (Checker a b cell width height) canvas valid within =
    size_small width height (and_second _ _ valid)
source_small (Scroll a b bar speed width height) canvas valid within = size_small width height
    (second_of (is_color a && is_color b && is_between 1 4096 bar) (is_size width height)
    (is_within (negsuc 63) (pos 64) speed) valid)
source_small (Raster pixels width height) canvas valid within = size_small width height
    (first_of_three (is_size width height) (nat_le (width * height) 131072)
    (length pixels == 4 * (width * height)) valid)
source_small (Tone level half) canvas valid within = refl

-- so is what stands at an item, of which a look was taken
pub view_small : (view : RowView) (canvas : ℕ × ℕ) → IsValidView view →
    is_canvas canvas ≡ true → is_small (size_of view.settings.now canvas) ≡ true
view_small view canvas valid within =
    source_small view.settings.now canvas (and_second _ _ valid.settings) within
