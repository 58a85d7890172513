-- Small pictures and sounds, as the rules work them out.
use Rattle.std.specs.Prelude.{ℕ, true, false, List, [], ◌∷◌, codes, None, negsuc}
use Rattle.std.specs.Prelude.{flat_map}
use Rattle.mix_model.specs.declared.collection.Collection.{Collection}
use Rattle.mix_model.specs.declared.collection.Line.{Line}
use Rattle.mix_model.specs.declared.collection.Line.TheVariants.{Input as InputLine}
use Rattle.mix_model.specs.declared.collection.Line.TheVariants.{Item as ItemLine}
use Rattle.mix_model.specs.declared.collection.Line.TheVariants.{Sound as SoundLine}
use Rattle.mix_model.specs.declared.kind.Blend.TheVariants.{Normal, Multiply}
use Rattle.mix_model.specs.declared.kind.Kind.TheVariants.{Color as ColorKind}
use Rattle.mix_model.specs.declared.kind.Kind.TheVariants.{Checker as CheckerKind}
use Rattle.mix_model.specs.declared.kind.Kind.TheVariants.{Raster as RasterKind}
use Rattle.mix_model.specs.declared.kind.Kind.TheVariants.{Tone as ToneKind}
use Rattle.mix_model.specs.declared.settings.Settings.TheVariants.{Color, Checker, Raster, Tone}
use Rattle.mix_model.specs.declared.place.Place.{Place}
use Rattle.mix_model.specs.declared.place.Sound.{Sound}
use Rattle.mix_model.specs.State.{StudioState}
use Rattle.mix_model.specs.Values.{new_place, new_sound}
use Rattle.mix_model.specs.Edits.{empty_graph}
use Rattle.mix_model.specs.Studio.{program_set, picture_taken}
use Rattle.mix_model.specs.Lines.{lines_done}
use Rattle.mix_model.specs.Opening.{opening_studio}
use Rattle.mix_model.specs.Worked.{red, thirty, plain_scene, plain_item, sources_or_none}

-- a collection of these lines on this canvas, with scene A as program and fades of 120 milliseconds
abbrev pub collection_of : ℕ × ℕ → List Line → Collection
collection_of canvas lines = record {
  canvas = canvas;
  rate = thirty;
  i420 = false;
  tracks = 1;
  secret = None;
  lines = lines;
  fade = true;
  ms = 120;
  studio = None;
  program = codes "A";
}

abbrev pub studio_of : ℕ × ℕ → List Line → StudioState
studio_of canvas lines = opening_studio (collection_of canvas lines)
    (sources_or_none (lines_done empty_graph lines))

-- scene A shows a red input of two pixels, and scene B, which is source 3, a blue one
abbrev pub red_and_blue : StudioState
red_and_blue = studio_of (2, 1) (plain_scene (codes "A") ∷ (red
    ∷ (plain_item (codes "A") (codes "red") ∷ (plain_scene (codes "B")
    ∷ (InputLine ColorKind (codes "blue") (Color 4294901760 2 1)
    ∷ (plain_item (codes "B") (codes "blue") ∷ []))))))

-- the program is set to B, and pictures are taken
abbrev pub fade_begun : StudioState
fade_begun = program_set 3 red_and_blue

abbrev pub fade_one : StudioState
fade_one = picture_taken fade_begun

abbrev pub fade_two : StudioState
fade_two = picture_taken fade_one

abbrev pub fade_three : StudioState
fade_three = picture_taken fade_two

abbrev pub fade_four : StudioState
fade_four = picture_taken fade_three

-- two pixels of one opaque colour
abbrev pub two_of : ℕ → ℕ → ℕ → List ℕ
two_of r g b = r ∷ (g ∷ (b ∷ (255 ∷ (r ∷ (g ∷ (b ∷ (255 ∷ [])))))))

-- a pixel that lies one to the left of the corner and one above it, twice as large, turned by 90
-- degrees
abbrev pub turned : Place
turned = record new_place {
  x = negsuc 0;
  y = negsuc 0;
  scale_x = 2;
  scale_y = 2;
  quarter = 1;
}

-- a raster of a white and a red pixel, each half transparent, in such a place
abbrev pub turned_raster : StudioState
turned_raster = studio_of (3, 2) (plain_scene (codes "A")
    ∷ (InputLine RasterKind (codes "r") (Raster
    (255 ∷ (255 ∷ (255 ∷ (128 ∷ (255 ∷ (0 ∷ (0 ∷ (128 ∷ [])))))))) 2 1)
    ∷ (ItemLine (codes "A") (codes "r") true false turned Normal ∷ [])))

-- a grey of opaque pixels
abbrev pub greys : List ℕ → List ℕ
greys values = flat_map (λ g. g ∷ (g ∷ (g ∷ (255 ∷ [])))) values

-- black and white squares multiply a red input of two pixels
abbrev pub multiplied : StudioState
multiplied = studio_of (2, 1) (plain_scene (codes "A") ∷ (red
    ∷ (plain_item (codes "A") (codes "red")
    ∷ (InputLine CheckerKind (codes "ck") (Checker 4278190080 4294967295 1 2 1)
    ∷ (ItemLine (codes "A") (codes "ck") true false new_place Multiply ∷ [])))))

-- a red square of four pixels
abbrev pub red_square : StudioState
red_square = studio_of (2, 2) (plain_scene (codes "A")
    ∷ (InputLine ColorKind (codes "red") (Color 4278190335 2 2)
    ∷ (plain_item (codes "A") (codes "red") ∷ [])))

abbrev pub loud : Sound
loud = record new_sound { volume = 20000 }

-- two tones, each loud enough for the greatest sample
abbrev pub two_tones : StudioState
two_tones = studio_of (2, 1) (plain_scene (codes "A")
    ∷ (InputLine ToneKind (codes "t") (Tone 20000 24) ∷ (SoundLine (codes "t") loud
    ∷ (InputLine ToneKind (codes "s") (Tone 20000 24) ∷ (SoundLine (codes "s") loud
    ∷ (plain_item (codes "A") (codes "t") ∷ (plain_item (codes "A") (codes "s") ∷ [])))))))

-- one tone that two items show
abbrev pub one_tone : StudioState
one_tone = studio_of (2, 1) (plain_scene (codes "A")
    ∷ (InputLine ToneKind (codes "t") (Tone 100 24)
    ∷ (plain_item (codes "A") (codes "t") ∷ (plain_item (codes "A") (codes "t") ∷ []))))
