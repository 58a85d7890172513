-- What is written is accepted again.
use Rattle.std.proofs.Common.{◌≡◌, ℕ, ℤ, pos, negsuc, ◌*◌, ◌&&◌, true, false, cond, List, length}
use Rattle.std.proofs.Common.{refl, sym, subst, ◌∙◌, ap, codes, arith, nat_eq, nat_lt, nat_le}
use Rattle.std.proofs.Common.{Some, Result, Ok, Err}
use Rattle.std.specs.Result.{result_ok}
use Rattle.std.proofs.lemmas.Bool.Decides.{nat_tests}
use Rattle.std.proofs.lemmas.Bool.{and_parts}
use Rattle.base64.specs.Engines.{standard}
use Rattle.base64.proofs.EngineFacts.{decode_of-encode_of}
use Rattle.mix_json.specs.Fields.{out_of_range}
use Rattle.mix_json.specs.Trees.{with_field}
use Rattle.mix_model.specs.declared.kind.Kind.{Kind}
use Rattle.mix_model.specs.declared.kind.Kind.TheVariants.{Scene, Group, Color as ColorKind}
use Rattle.mix_model.specs.declared.kind.Kind.TheVariants.{Checker as CheckerKind}
use Rattle.mix_model.specs.declared.kind.Kind.TheVariants.{Scroll as ScrollKind}
use Rattle.mix_model.specs.declared.kind.Kind.TheVariants.{Raster as RasterKind, Tone as ToneKind}
use Rattle.mix_model.specs.declared.settings.Settings.{Settings}
use Rattle.mix_model.specs.declared.settings.Settings.TheVariants.{None as NoSettings, Color}
use Rattle.mix_model.specs.declared.settings.Settings.TheVariants.{Checker, Scroll, Raster, Tone}
use Rattle.mix_model.specs.Rows.{is_input}
use Rattle.mix_model.specs.Values.{are_of_kind, are_valid, is_between, is_color, is_size, is_within}
use Rattle.mix_sources.specs.declared.fault.BadSetting.{BadSetting}
use Rattle.mix_sources.specs.Keys.{bad, color_at, number_at, side_at, speed_at, text_at}
use Rattle.mix_sources.specs.Defaults.{black_number, default_of, white_number, white_pixel}
use Rattle.mix_sources.specs.Rasters.{bytes_in, filled_with, invalid_field, most_pixels, pixels_of}
use Rattle.mix_sources.specs.Rasters.{raster_of}
use Rattle.mix_sources.specs.Checked.{◌>>=◌, are_over, checker_over, color_over, keys_over}
use Rattle.mix_sources.specs.Checked.{raster_over, scroll_over, standing_of, tone_over}
use Rattle.mix_sources.specs.Written.{object_of, text_of}
use Rattle.mix_sources.specs.Laws.{AreBytes, WrittenIsAccepted}
use Rattle.mix_sources.proofs.KeyLemmas.{color_again, number_again, side_again, speed_again}
use Rattle.mix_sources.proofs.KeyLemmas.{text_again}
use Rattle.mix_sources.proofs.CheckedLemmas.{checker_kind, color_kind, raster_kind, scroll_kind}
use Rattle.mix_sources.proofs.CheckedLemmas.{tone_kind}

-- a line that gives a value goes on with it
line_again : {A B : Type 0} (r : Result A BadSetting) (x : A) (rest : A → Result B BadSetting)
    (y : Result B BadSetting) → r ≡ Ok x → rest x ≡ y → (r >>= rest) ≡ y
line_again r x rest y found then = ap (λ q. q >>= rest) found ∙ then

color_written : (c w h color width height : ℕ) → are_valid (Color color width height) ≡ true →
    color_over c w h (object_of (Color color width height)) ≡ Ok (Color color width height)
unfolding color_over object_of with_field are_valid
color_written c w h color width height valid =
    let both = and_parts (is_color color) (is_size width height) valid in
    let sides = and_parts (is_between 1 4096 width) (is_between 1 4096 height) both.1 in
    let obj = object_of (Color color width height) in
    line_again (color_at (codes "color") c obj) color _ _ (color_again _ c color obj refl both.0)
    (line_again (side_at (codes "height") h obj) height _ _
    (side_again _ h height obj refl sides.1)
    (line_again (side_at (codes "width") w obj) width _ _
    (side_again _ w width obj refl sides.0) refl))

checker_written : (x y c w h a b cell width height : ℕ) →
    are_valid (Checker a b cell width height) ≡ true →
    checker_over x y c w h (object_of (Checker a b cell width height))
    ≡ Ok (Checker a b cell width height)
unfolding checker_over object_of with_field are_valid
checker_written x y c w h a b cell width height valid =
    let whole = and_parts (is_color a && is_color b && is_between 1 4096 cell)
    (is_size width height) valid in
    let cells = and_parts (is_color a && is_color b) (is_between 1 4096 cell) whole.0 in
    let colors = and_parts (is_color a) (is_color b) cells.0 in
    let sides = and_parts (is_between 1 4096 width) (is_between 1 4096 height) whole.1 in
    let obj = object_of (Checker a b cell width height) in
    line_again (side_at (codes "cell") c obj) cell _ _ (side_again _ c cell obj refl cells.1)
    (line_again (color_at (codes "color_a") x obj) a _ _ (color_again _ x a obj refl colors.0)
    (line_again (color_at (codes "color_b") y obj) b _ _ (color_again _ y b obj refl colors.1)
    (line_again (side_at (codes "height") h obj) height _ _
    (side_again _ h height obj refl sides.1)
    (line_again (side_at (codes "width") w obj) width _ _
    (side_again _ w width obj refl sides.0) refl))))

scroll_written : (x y r : ℕ) (s : ℤ) (w h a b bar : ℕ) (speed : ℤ) (width height : ℕ) →
    are_valid (Scroll a b bar speed width height) ≡ true →
    scroll_over x y r s w h (object_of (Scroll a b bar speed width height))
    ≡ Ok (Scroll a b bar speed width height)
unfolding scroll_over object_of with_field are_valid
scroll_written x y r s w h a b bar speed width height valid =
    let whole = and_parts
    (is_color a && is_color b && is_between 1 4096 bar && is_size width height)
    (is_within (negsuc 63) (pos 64) speed) valid in
    let sized = and_parts (is_color a && is_color b && is_between 1 4096 bar)
    (is_size width height) whole.0 in
    let bars = and_parts (is_color a && is_color b) (is_between 1 4096 bar) sized.0 in
    let colors = and_parts (is_color a) (is_color b) bars.0 in
    let sides = and_parts (is_between 1 4096 width) (is_between 1 4096 height) sized.1 in
    let obj = object_of (Scroll a b bar speed width height) in
    line_again (side_at (codes "bar") r obj) bar _ _ (side_again _ r bar obj refl bars.1)
    (line_again (color_at (codes "color_a") x obj) a _ _ (color_again _ x a obj refl colors.0)
    (line_again (color_at (codes "color_b") y obj) b _ _ (color_again _ y b obj refl colors.1)
    (line_again (side_at (codes "height") h obj) height _ _
    (side_again _ h height obj refl sides.1)
    (line_again (speed_at (codes "speed") s obj) speed _ _
    (speed_again _ s speed obj refl whole.1)
    (line_again (side_at (codes "width") w obj) width _ _
    (side_again _ w width obj refl sides.0) refl)))))

tone_written : (l h level half : ℕ) → are_valid (Tone level half) ≡ true →
    tone_over l h (object_of (Tone level half)) ≡ Ok (Tone level half)
unfolding tone_over object_of with_field are_valid
tone_written l h level half valid =
    let both = and_parts (nat_le level 32767) (is_between 1 48000 half) valid in
    let obj = object_of (Tone level half) in
    line_again (number_at (codes "half") 1 48000 h obj) half _ _
    (number_again _ 1 48000 h half obj refl both.1)
    (line_again (number_at (codes "level") 0 32767 l obj) level _ _
    (number_again _ 0 32767 l level obj refl (grind (arith, nat_tests))) refl)

bytes_again : (bytes : List ℕ) → AreBytes bytes → bytes_in (text_of bytes) ≡ Some bytes
unfolding bytes_in
bytes_again bytes small = ap result_ok (decode_of-encode_of standard bytes refl small)

made_again : (width height : ℕ) (pixels : List ℕ) →
    are_valid (Raster pixels width height) ≡ true →
    raster_of width height (Some pixels) ≡ Ok (Raster pixels width height)
unfolding raster_of are_valid
made_again width height pixels valid =
    let whole = and_parts (is_size width height && nat_le (width * height) 131072)
    (nat_eq (length pixels) (4 * (width * height))) valid in
    let sized = and_parts (is_size width height) (nat_le (width * height) 131072) whole.0 in
    let few : nat_lt most_pixels (width * height) ≡ false =
    let area = sized.1 in grind (arith, nat_tests) in
    ap (λ t. cond t (Err (bad (codes "height") out_of_range))
    (filled_with width height (Some pixels)))
    few
    ∙ ap (λ t. cond t (Ok (Raster pixels width height)) (Err (bad (codes "pixels") invalid_field)))
    whole.1

raster_written : (p : List ℕ) (w h : ℕ) (pixels : List ℕ) (width height : ℕ) → AreBytes pixels →
    are_valid (Raster pixels width height) ≡ true →
    raster_over p w h (object_of (Raster pixels width height)) ≡ Ok (Raster pixels width height)
unfolding raster_over object_of with_field are_valid
raster_written p w h pixels width height small valid =
    let whole = and_parts (is_size width height && nat_le (width * height) 131072)
    (nat_eq (length pixels) (4 * (width * height))) valid in
    let sized = and_parts (is_size width height) (nat_le (width * height) 131072) whole.0 in
    let sides = and_parts (is_between 1 4096 width) (is_between 1 4096 height) sized.0 in
    let obj = object_of (Raster pixels width height) in
    line_again (side_at (codes "height") h obj) height
    (λ height'. text_at (codes "pixels") obj >>= λ text. side_at (codes "width") w obj
    >>= λ width'. raster_of width' height' (pixels_of p text)) _
    (side_again _ h height obj refl sides.1)
    (line_again (text_at (codes "pixels") obj) (Some (text_of pixels))
    (λ text. side_at (codes "width") w obj
    >>= λ width'. raster_of width' height (pixels_of p text)) _
    (text_again _ (text_of pixels) obj refl)
    (line_again (side_at (codes "width") w obj) width
    (λ width'. raster_of width' height (bytes_in (text_of pixels))) _
    (side_again _ w width obj refl sides.0)
    (ap (raster_of width height) (bytes_again pixels small)
    ∙ made_again width height pixels valid)))

-- ---- the same over whatever stands

color_over_all : (over : Settings) (canvas : ℕ × ℕ) (color width height : ℕ) →
    are_over ColorKind over ≡ true → are_valid (Color color width height) ≡ true →
    keys_over (standing_of ColorKind over canvas) (object_of (Color color width height))
    ≡ Ok (Color color width height)
unfolding default_of are_of_kind
color_over_all NoSettings canvas color width height stands valid =
    color_written white_number canvas.0 canvas.1 color width height valid
color_over_all (Color c w h) canvas color width height stands valid =
    color_written c w h color width height valid
color_over_all _ canvas color width height stands valid = cc

checker_over_all : (over : Settings) (canvas : ℕ × ℕ) (a b cell width height : ℕ) →
    are_over CheckerKind over ≡ true → are_valid (Checker a b cell width height) ≡ true →
    keys_over (standing_of CheckerKind over canvas) (object_of (Checker a b cell width height))
    ≡ Ok (Checker a b cell width height)
unfolding default_of are_of_kind
checker_over_all NoSettings canvas a b cell width height stands valid =
    checker_written black_number white_number 8 canvas.0 canvas.1 a b cell width height valid
checker_over_all (Checker x y c w h) canvas a b cell width height stands valid =
    checker_written x y c w h a b cell width height valid
checker_over_all _ canvas a b cell width height stands valid = cc

scroll_over_all : (over : Settings) (canvas : ℕ × ℕ) (a b bar : ℕ) (speed : ℤ) (width height : ℕ) →
    are_over ScrollKind over ≡ true → are_valid (Scroll a b bar speed width height) ≡ true →
    keys_over (standing_of ScrollKind over canvas) (object_of (Scroll a b bar speed width height))
    ≡ Ok (Scroll a b bar speed width height)
unfolding default_of are_of_kind
scroll_over_all NoSettings canvas a b bar speed width height stands valid =
    scroll_written black_number white_number 8 (pos 1) canvas.0 canvas.1
    a b bar speed width height valid
scroll_over_all (Scroll x y r s w h) canvas a b bar speed width height stands valid =
    scroll_written x y r s w h a b bar speed width height valid
scroll_over_all _ canvas a b bar speed width height stands valid = cc

raster_over_all : (over : Settings) (canvas : ℕ × ℕ) (pixels : List ℕ) (width height : ℕ) →
    AreBytes pixels → are_over RasterKind over ≡ true →
    are_valid (Raster pixels width height) ≡ true →
    keys_over (standing_of RasterKind over canvas) (object_of (Raster pixels width height))
    ≡ Ok (Raster pixels width height)
unfolding default_of are_of_kind
raster_over_all NoSettings canvas pixels width height small stands valid =
    raster_written white_pixel 1 1 pixels width height small valid
raster_over_all (Raster p w h) canvas pixels width height small stands valid =
    raster_written p w h pixels width height small valid
raster_over_all _ canvas pixels width height small stands valid = cc

tone_over_all : (over : Settings) (canvas : ℕ × ℕ) (level half : ℕ) →
    are_over ToneKind over ≡ true → are_valid (Tone level half) ≡ true →
    keys_over (standing_of ToneKind over canvas) (object_of (Tone level half))
    ≡ Ok (Tone level half)
unfolding default_of are_of_kind
tone_over_all NoSettings canvas level half stands valid =
    tone_written 8192 54 level half valid
tone_over_all (Tone l h) canvas level half stands valid = tone_written l h level half valid
tone_over_all _ canvas level half stands valid = cc

-- an input has settings
input_has_settings : (kind : Kind) → is_input kind ≡ true →
    are_of_kind kind NoSettings ≡ true → ⊥
unfolding are_of_kind
input_has_settings Scene input none = cc
input_has_settings Group input none = cc
input_has_settings _ input none = cc

-- whatever stands, settings that are written are accepted
pub written_is_accepted : WrittenIsAccepted
written_is_accepted kind over NoSettings canvas input stands valid bytes =
    absurd (input_has_settings kind input (and_parts _ (are_valid NoSettings) valid).0)
written_is_accepted kind over (Color color width height) canvas input stands valid bytes =
    let both = and_parts _ (are_valid (Color color width height)) valid in
    let is = color_kind kind color width height both.0 in
    let s : Settings = Color color width height in
    subst (λ k. keys_over (standing_of k over canvas) (object_of s) ≡ Ok s) is
    (color_over_all over canvas color width height
    (subst (λ k. are_over k over ≡ true) (sym is) stands) both.1)
written_is_accepted kind over (Checker a b cell width height) canvas input stands valid bytes =
    let both = and_parts _ (are_valid (Checker a b cell width height)) valid in
    let is = checker_kind kind a b cell width height both.0 in
    let s : Settings = Checker a b cell width height in
    subst (λ k. keys_over (standing_of k over canvas) (object_of s) ≡ Ok s) is
    (checker_over_all over canvas a b cell width height
    (subst (λ k. are_over k over ≡ true) (sym is) stands) both.1)
written_is_accepted kind over (Scroll a b bar speed width height) canvas input stands valid bytes =
    let both = and_parts _ (are_valid (Scroll a b bar speed width height)) valid in
    let is = scroll_kind kind a b bar speed width height both.0 in
    let s : Settings = Scroll a b bar speed width height in
    subst (λ k. keys_over (standing_of k over canvas) (object_of s) ≡ Ok s) is
    (scroll_over_all over canvas a b bar speed width height
    (subst (λ k. are_over k over ≡ true) (sym is) stands) both.1)
written_is_accepted kind over (Raster pixels width height) canvas input stands valid bytes =
    let both = and_parts _ (are_valid (Raster pixels width height)) valid in
    let is = raster_kind kind pixels width height both.0 in
    let s : Settings = Raster pixels width height in
    subst (λ k. keys_over (standing_of k over canvas) (object_of s) ≡ Ok s) is
    (raster_over_all over canvas pixels width height bytes
    (subst (λ k. are_over k over ≡ true) (sym is) stands) both.1)
written_is_accepted kind over (Tone level half) canvas input stands valid bytes =
    let both = and_parts _ (are_valid (Tone level half)) valid in
    let is = tone_kind kind level half both.0 in
    let s : Settings = Tone level half in
    subst (λ k. keys_over (standing_of k over canvas) (object_of s) ≡ Ok s) is
    (tone_over_all over canvas level half
    (subst (λ k. are_over k over ≡ true) (sym is) stands) both.1)
