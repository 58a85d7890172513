-- Which settings, sounds, placements, canvases, formats and durations are allowed.
use Rattle.std.specs.Prelude.{ℕ, ◌*◌, ◌%◌, ◌==◌, ◌&&◌, ◌||◌, not, nat_le, nat_lt, int_le}
use Rattle.std.specs.Prelude.{pos, negsuc, Bool, true, false, length, ℤ, bit_and}
use Rattle.mix_model.specs.declared.kind.Kind.{Kind}
use Rattle.mix_model.specs.declared.kind.Kind.TheVariants.{Color as ColorKind}
use Rattle.mix_model.specs.declared.kind.Kind.TheVariants.{Checker as CheckerKind}
use Rattle.mix_model.specs.declared.kind.Kind.TheVariants.{Scroll as ScrollKind, Tone as ToneKind}
use Rattle.mix_model.specs.declared.kind.Kind.TheVariants.{Raster as RasterKind, Scene, Group}
use Rattle.mix_model.specs.declared.settings.Settings.{Settings}
use Rattle.mix_model.specs.declared.settings.Settings.TheVariants.{None as NoSettings, Color}
use Rattle.mix_model.specs.declared.settings.Settings.TheVariants.{Checker, Scroll, Raster, Tone}
use Rattle.mix_model.specs.declared.place.Place.{Place}
use Rattle.mix_model.specs.declared.place.Sound.{Sound}

-- a number from one to another, ends included
abbrev pub is_between : ℕ → ℕ → ℕ → Bool
is_between least most n = nat_le least n && nat_le n most

-- a whole number from one to another, ends included
abbrev pub is_within : ℤ → ℤ → ℤ → Bool
is_within least most z = int_le least z && int_le z most

-- a colour has four bytes
abbrev pub is_color : ℕ → Bool
is_color color = nat_lt color 4294967296

-- each side has 1 to 4096 pixels
abbrev pub is_size : ℕ → ℕ → Bool
is_size width height = is_between 1 4096 width && is_between 1 4096 height

-- settings, each value in its range: squares and bars are 1 to 4096 pixels, bars move by −64 to 64
-- pixels in a frame, a raster has at most 131,072 pixels of four bytes each, a tone has a level of
-- at most 32767 and half a period of 1 to 48000 samples
unfoldable pub are_valid : Settings → Bool
are_valid NoSettings = true
are_valid (Color color width height) = is_color color && is_size width height
are_valid (Checker a b cell width height) =
    is_color a && is_color b && is_between 1 4096 cell && is_size width height
are_valid (Scroll a b bar speed width height) =
    is_color a && is_color b && is_between 1 4096 bar && is_size width height
    && is_within (negsuc 63) (pos 64) speed
are_valid (Raster pixels width height) =
    is_size width height && nat_le (width * height) 131072
    && (length pixels == 4 * (width * height))
are_valid (Tone level half) = nat_le level 32767 && is_between 1 48000 half

-- each kind of input has settings of its own, and scenes and groups have none
unfoldable pub are_of_kind : Kind → Settings → Bool
are_of_kind Scene NoSettings = true
are_of_kind Group NoSettings = true
are_of_kind ColorKind (Color color width height) = true
are_of_kind CheckerKind (Checker a b cell width height) = true
are_of_kind ScrollKind (Scroll a b bar speed width height) = true
are_of_kind RasterKind (Raster pixels width height) = true
are_of_kind ToneKind (Tone level half) = true
are_of_kind _ _ = false

-- what a row of this kind may have as its settings
abbrev pub are_settings : Kind → Settings → Bool
are_settings kind settings = are_of_kind kind settings && are_valid settings

-- a sound, each value in its range: a volume of 0 to 20000 thousandths, six tracks, and −950 to 20000
-- milliseconds
unfoldable pub is_sound : Sound → Bool
is_sound sound = nat_le sound.volume 20000 && nat_le sound.tracks 63
    && is_within (negsuc 949) (pos 20000) sound.offset

-- the sound of a new source: as loud as it is, not muted, in all six tracks, at its time
unfoldable pub new_sound : Sound
new_sound = record { volume = 1000; muted = false; tracks = 63; offset = pos 0 }

-- not left and right at once, nor top and bottom
abbrev pub is_align : ℕ → Bool
is_align align = nat_le align 15 && not (bit_and align 3 == 3) && not (bit_and align 12 == 12)

-- a position in pixels
abbrev pub is_position : ℤ → Bool
is_position z = is_within (negsuc 89999) (pos 90000) z

-- a placement, each value in its range: scales of 1 to 16, quarter turns of 0 to 3, and up to 100000
-- pixels cut off on each side
unfoldable pub is_place : Place → Bool
is_place place = is_position place.x && is_position place.y
    && is_between 1 16 place.scale_x && is_between 1 16 place.scale_y
    && nat_le place.quarter 3 && is_align place.align
    && nat_le place.crop_left 100000 && nat_le place.crop_top 100000
    && nat_le place.crop_right 100000 && nat_le place.crop_bottom 100000

-- a new item stands unscaled, unturned and uncropped in the corner at the left and the top
unfoldable pub new_place : Place
new_place = record {
  x = pos 0;
  y = pos 0;
  scale_x = 1;
  scale_y = 1;
  quarter = 0;
  align = 5;
  crop_left = 0;
  crop_top = 0;
  crop_right = 0;
  crop_bottom = 0;
}

-- a canvas, each side in its range, with at most 2,088,960 pixels
unfoldable pub is_canvas : ℕ × ℕ → Bool
is_canvas canvas = is_size canvas.0 canvas.1 && nat_le (canvas.0 * canvas.1) 2088960

-- a record has one to six tracks, and as I420 only pictures of even sides
unfoldable pub is_format : ℕ × ℕ → Bool → ℕ → Bool
is_format canvas i420 tracks = is_between 1 63 tracks
    && (not i420 || (canvas.0 % 2 == 0) && (canvas.1 % 2 == 0))

-- the length of a fade in milliseconds
abbrev pub is_duration : ℕ → Bool
is_duration ms = is_between 50 20000 ms
