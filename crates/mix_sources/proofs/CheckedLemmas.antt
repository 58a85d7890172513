-- What a table of keys gives is valid, where what stands is.
use Rattle.std.proofs.Common.{◌≡◌, ℕ, ℤ, pos, negsuc, ◌*◌, ◌≤◌, true, false, ◌&&◌, cond}
use Rattle.std.proofs.Common.{List, length}
use Rattle.std.proofs.Common.{refl, arith, nat_eq, nat_lt, nat_le, Option, Some, None}
use Rattle.std.proofs.Common.{Result, Ok, Err, subst, IsTrue, codes}
use Rattle.std.specs.Result.{IfOk}
use Rattle.std.proofs.lemmas.Bool.Decides.{nat_tests}
use Rattle.std.proofs.lemmas.Bool.{and_from, and_parts, le-leb}
use Rattle.mix_base.specs.Json.{Object}
use Rattle.mix_json.specs.Fields.{out_of_range}
use Rattle.mix_model.specs.declared.kind.Kind.{Kind}
use Rattle.mix_model.specs.declared.kind.Kind.TheVariants.{Scene, Group, Color as ColorKind}
use Rattle.mix_model.specs.declared.kind.Kind.TheVariants.{Checker as CheckerKind}
use Rattle.mix_model.specs.declared.kind.Kind.TheVariants.{Scroll as ScrollKind}
use Rattle.mix_model.specs.declared.kind.Kind.TheVariants.{Raster as RasterKind, Tone as ToneKind}
use Rattle.mix_model.specs.declared.settings.Settings.{Settings}
use Rattle.mix_model.specs.declared.settings.Settings.TheVariants.{None as NoSettings, Color}
use Rattle.mix_model.specs.declared.settings.Settings.TheVariants.{Checker, Scroll, Raster, Tone}
use Rattle.mix_model.specs.Rows.{is_input}
use Rattle.mix_model.specs.Values.{are_of_kind, are_settings, are_valid, is_between, is_canvas}
use Rattle.mix_model.specs.Values.{is_color, is_size, is_within}
use Rattle.mix_sources.specs.declared.fault.BadSetting.{BadSetting}
use Rattle.mix_sources.specs.declared.fault.SettingFault.{SettingFault}
use Rattle.mix_sources.specs.Answers.{Answers}
use Rattle.mix_sources.specs.Checked.{◌>>=◌, are_over, checked, checker_over, color_over, keys_over}
use Rattle.mix_sources.specs.Checked.{raster_over, scroll_over, standing_of, tone_over}
use Rattle.mix_sources.specs.Defaults.{default_of}
use Rattle.mix_sources.specs.Keys.{bad, side_at, text_at}
use Rattle.mix_sources.specs.Rasters.{filled_with, invalid_field, most_pixels, pixels_of, raster_of}
use Rattle.mix_sources.proofs.KeyLemmas.{color_within, number_within, side_within, speed_within}

-- a chain that came to its end passed each of its lines
pub line_passed : {A B : Type 0} (r : Result A BadSetting) (rest : A → Result B BadSetting)
    (y : B) → (r >>= rest) ≡ Ok y → (x : A) × (r ≡ Ok x) × (rest x ≡ Ok y)
line_passed (Ok x) rest y found = (x, refl, found)
line_passed (Err fault) rest y found = cc

color_valid : (color width height : ℕ) (given : Object) (s : Settings) →
    color_over color width height given ≡ Ok s →
    are_valid (Color color width height) ≡ true → are_settings ColorKind s ≡ true
unfolding color_over are_valid are_of_kind
color_valid color width height given s found valid =
    let c = line_passed _ _ s found in
    let h = line_passed _ _ s c.2 in
    let w = line_passed _ _ s h.2 in
    let both = and_parts (is_color color) (is_size width height) valid in
    let sides = and_parts _ _ both.1 in
    let same : Color c.0 w.0 h.0 ≡ s = cc in
    subst (λ t. are_settings ColorKind t ≡ true) same
    (and_from _ _ (color_within _ color c.0 given c.1 both.0)
    (and_from _ _ (side_within _ width w.0 given w.1 sides.0)
    (side_within _ height h.0 given h.1 sides.1)))

checker_valid : (a b cell width height : ℕ) (given : Object) (s : Settings) →
    checker_over a b cell width height given ≡ Ok s →
    are_valid (Checker a b cell width height) ≡ true → are_settings CheckerKind s ≡ true
unfolding checker_over are_valid are_of_kind
checker_valid a b cell width height given s found valid =
    let c = line_passed _ _ s found in
    let x = line_passed _ _ s c.2 in
    let y = line_passed _ _ s x.2 in
    let h = line_passed _ _ s y.2 in
    let w = line_passed _ _ s h.2 in
    let whole = and_parts (is_color a && is_color b && is_between 1 4096 cell)
    (is_size width height) valid in
    let cells = and_parts (is_color a && is_color b) (is_between 1 4096 cell) whole.0 in
    let colors = and_parts (is_color a) (is_color b) cells.0 in
    let sides = and_parts _ _ whole.1 in
    let same : Checker x.0 y.0 c.0 w.0 h.0 ≡ s = cc in
    subst (λ t. are_settings CheckerKind t ≡ true) same
    (and_from _ _ (and_from _ _ (and_from _ _ (color_within _ a x.0 given x.1 colors.0)
    (color_within _ b y.0 given y.1 colors.1)) (side_within _ cell c.0 given c.1 cells.1))
    (and_from _ _ (side_within _ width w.0 given w.1 sides.0)
    (side_within _ height h.0 given h.1 sides.1)))

scroll_valid : (a b bar : ℕ) (speed : ℤ) (width height : ℕ) (given : Object) (s : Settings) →
    scroll_over a b bar speed width height given ≡ Ok s →
    are_valid (Scroll a b bar speed width height) ≡ true → are_settings ScrollKind s ≡ true
unfolding scroll_over are_valid are_of_kind
scroll_valid a b bar speed width height given s found valid =
    let c = line_passed _ _ s found in
    let x = line_passed _ _ s c.2 in
    let y = line_passed _ _ s x.2 in
    let h = line_passed _ _ s y.2 in
    let v = line_passed _ _ s h.2 in
    let w = line_passed _ _ s v.2 in
    let whole = and_parts
    (is_color a && is_color b && is_between 1 4096 bar && is_size width height)
    (is_within (negsuc 63) (pos 64) speed) valid in
    let sized = and_parts (is_color a && is_color b && is_between 1 4096 bar)
    (is_size width height) whole.0 in
    let bars = and_parts (is_color a && is_color b) (is_between 1 4096 bar) sized.0 in
    let colors = and_parts (is_color a) (is_color b) bars.0 in
    let sides = and_parts _ _ sized.1 in
    let same : Scroll x.0 y.0 c.0 v.0 w.0 h.0 ≡ s = cc in
    subst (λ t. are_settings ScrollKind t ≡ true) same
    (and_from _ _ (and_from _ _ (and_from _ _
    (and_from _ _ (color_within _ a x.0 given x.1 colors.0)
    (color_within _ b y.0 given y.1 colors.1)) (side_within _ bar c.0 given c.1 bars.1))
    (and_from _ _ (side_within _ width w.0 given w.1 sides.0)
    (side_within _ height h.0 given h.1 sides.1)))
    (speed_within _ speed v.0 given v.1 whole.1))

tone_valid : (level half : ℕ) (given : Object) (s : Settings) →
    tone_over level half given ≡ Ok s →
    are_valid (Tone level half) ≡ true → are_settings ToneKind s ≡ true
unfolding tone_over are_valid are_of_kind
tone_valid level half given s found valid =
    let least : 0 ≤ level = omega arith in
    let h = line_passed _ _ s found in
    let l = line_passed _ _ s h.2 in
    let both = and_parts (nat_le level 32767) (is_between 1 48000 half) valid in
    let same : Tone l.0 h.0 ≡ s = cc in
    let stands = and_from (nat_le 0 level) _ (le-leb 0 level least) both.0 in
    let loud : is_between 0 32767 l.0 ≡ true =
    number_within _ 0 32767 level l.0 given l.1 stands in
    let long = number_within _ 1 48000 half h.0 given h.1 both.1 in
    subst (λ t. are_settings ToneKind t ≡ true) same
    (and_from _ _ (and_parts (nat_le 0 l.0) _ loud).1 long)

-- as many bytes as the pixels need
filled_valid : (width height : ℕ) (pixels : Option (List ℕ)) (s : Settings) →
    filled_with width height pixels ≡ Ok s → is_size width height ≡ true →
    nat_le (width * height) most_pixels ≡ true → are_settings RasterKind s ≡ true
unfolding are_valid are_of_kind
filled_valid width height None s found sized few = cc
filled_valid width height (Some pixels) s found sized few =
    (elim (nat_eq (length pixels) (4 * (width * height))) as (λ test.
    nat_eq (length pixels) (4 * (width * height)) ≡ test →
    cond test (Ok (Raster pixels width height)) (Err (bad (codes "pixels") invalid_field)) ≡ Ok s →
    are_settings RasterKind s ≡ true) [
      | true ↦ λ whole there. let same : Raster pixels width height ≡ s = cc in
          subst (λ t. are_settings RasterKind t ≡ true) same
          (and_from _ _ (and_from _ _ sized few) whole)
      | false ↦ λ whole there. cc
    ]) refl found

made_valid : (width height : ℕ) (pixels : Option (List ℕ)) (s : Settings) →
    raster_of width height pixels ≡ Ok s → is_size width height ≡ true →
    are_settings RasterKind s ≡ true
unfolding raster_of
made_valid width height pixels s found sized =
    (elim (nat_lt most_pixels (width * height)) as (λ test.
    nat_lt most_pixels (width * height) ≡ test →
    cond test (Err (bad (codes "height") out_of_range)) (filled_with width height pixels) ≡ Ok s →
    are_settings RasterKind s ≡ true) [
      | true ↦ λ many there. cc
      | false ↦ λ few there.
          filled_valid width height pixels s there sized (grind (arith, nat_tests))
    ]) refl found

raster_valid : (pixels : List ℕ) (width height : ℕ) (given : Object) (s : Settings) →
    raster_over pixels width height given ≡ Ok s →
    are_valid (Raster pixels width height) ≡ true → are_settings RasterKind s ≡ true
unfolding raster_over are_valid
raster_valid pixels width height given s found valid =
    let h = line_passed (side_at (codes "height") height given)
    (λ h. text_at (codes "pixels") given >>= λ text. side_at (codes "width") width given
    >>= λ w. raster_of w h (pixels_of pixels text)) s found in
    let t = line_passed (text_at (codes "pixels") given)
    (λ text. side_at (codes "width") width given
    >>= λ w. raster_of w h.0 (pixels_of pixels text)) s h.2 in
    let w = line_passed (side_at (codes "width") width given)
    (λ w. raster_of w h.0 (pixels_of pixels t.0)) s t.2 in
    let whole = and_parts (is_size width height && nat_le (width * height) 131072)
    (nat_eq (length pixels) (4 * (width * height))) valid in
    let sized = and_parts (is_size width height) (nat_le (width * height) 131072) whole.0 in
    let sides = and_parts _ _ sized.0 in
    made_valid w.0 h.0 (pixels_of pixels t.0) s w.2
    (and_from _ _ (side_within _ width w.0 given w.1 sides.0)
    (side_within _ height h.0 given h.1 sides.1))

-- settings have one kind
pub color_kind : (kind : Kind) (color width height : ℕ) →
    are_of_kind kind (Color color width height) ≡ true → ColorKind ≡ kind
unfolding are_of_kind
color_kind ColorKind color width height h = refl
color_kind _ color width height h = cc

pub checker_kind : (kind : Kind) (a b cell width height : ℕ) →
    are_of_kind kind (Checker a b cell width height) ≡ true → CheckerKind ≡ kind
unfolding are_of_kind
checker_kind CheckerKind a b cell width height h = refl
checker_kind _ a b cell width height h = cc

pub scroll_kind : (kind : Kind) (a b bar : ℕ) (speed : ℤ) (width height : ℕ) →
    are_of_kind kind (Scroll a b bar speed width height) ≡ true → ScrollKind ≡ kind
unfolding are_of_kind
scroll_kind ScrollKind a b bar speed width height h = refl
scroll_kind _ a b bar speed width height h = cc

pub raster_kind : (kind : Kind) (pixels : List ℕ) (width height : ℕ) →
    are_of_kind kind (Raster pixels width height) ≡ true → RasterKind ≡ kind
unfolding are_of_kind
raster_kind RasterKind pixels width height h = refl
raster_kind _ pixels width height h = cc

pub tone_kind : (kind : Kind) (level half : ℕ) →
    are_of_kind kind (Tone level half) ≡ true → ToneKind ≡ kind
unfolding are_of_kind
tone_kind ToneKind level half h = refl
tone_kind _ level half h = cc

-- the keys over valid settings of a kind give valid settings of the kind
keys_valid : (kind : Kind) (over : Settings) (given : Object) (s : Settings) →
    keys_over over given ≡ Ok s → are_settings kind over ≡ true → are_settings kind s ≡ true
keys_valid kind NoSettings given s found valid = let same : NoSettings ≡ s = cc in
    subst (λ t. are_settings kind t ≡ true) same valid
keys_valid kind (Color color width height) given s found valid =
    let both = and_parts _ (are_valid (Color color width height)) valid in
    subst (λ k. are_settings k s ≡ true) (color_kind kind color width height both.0)
    (color_valid color width height given s found both.1)
keys_valid kind (Checker a b cell width height) given s found valid =
    let both = and_parts _ (are_valid (Checker a b cell width height)) valid in
    subst (λ k. are_settings k s ≡ true) (checker_kind kind a b cell width height both.0)
    (checker_valid a b cell width height given s found both.1)
keys_valid kind (Scroll a b bar speed width height) given s found valid =
    let both = and_parts _ (are_valid (Scroll a b bar speed width height)) valid in
    subst (λ k. are_settings k s ≡ true) (scroll_kind kind a b bar speed width height both.0)
    (scroll_valid a b bar speed width height given s found both.1)
keys_valid kind (Raster pixels width height) given s found valid =
    let both = and_parts _ (are_valid (Raster pixels width height)) valid in
    subst (λ k. are_settings k s ≡ true) (raster_kind kind pixels width height both.0)
    (raster_valid pixels width height given s found both.1)
keys_valid kind (Tone level half) given s found valid =
    let both = and_parts _ (are_valid (Tone level half)) valid in
    subst (λ k. are_settings k s ≡ true) (tone_kind kind level half both.0)
    (tone_valid level half given s found both.1)

-- the defaults are valid
default_valid : (kind : Kind) (canvas : ℕ × ℕ) → is_input kind ≡ true → is_canvas canvas ≡ true →
    are_settings kind (default_of kind canvas) ≡ true
unfolding default_of are_valid are_of_kind is_canvas
default_valid Scene canvas input sized = refl
default_valid Group canvas input sized = refl
default_valid ColorKind canvas input sized = (and_parts _ _ sized).0
default_valid CheckerKind canvas input sized = (and_parts _ _ sized).0
default_valid ScrollKind canvas input sized =
    and_from (is_size canvas.0 canvas.1) true (and_parts _ _ sized).0 refl
default_valid RasterKind canvas input sized = refl
default_valid ToneKind canvas input sized = refl

-- what the keys are put over is valid
standing_valid : (kind : Kind) (over : Settings) (canvas : ℕ × ℕ) → is_input kind ≡ true →
    are_over kind over ≡ true → is_canvas canvas ≡ true →
    are_settings kind (standing_of kind over canvas) ≡ true
standing_valid kind NoSettings canvas input valid sized = default_valid kind canvas input sized
standing_valid kind (Color color width height) canvas input valid sized = valid
standing_valid kind (Checker a b cell width height) canvas input valid sized = valid
standing_valid kind (Scroll a b bar speed width height) canvas input valid sized = valid
standing_valid kind (Raster pixels width height) canvas input valid sized = valid
standing_valid kind (Tone level half) canvas input valid sized = valid

-- so what is answered is valid
pub answer_valid : (kind : Kind) (over : Settings) (given : Object) (canvas : ℕ × ℕ)
    (answer : Result Settings SettingFault) → Answers answer (checked kind over given canvas) →
    is_input kind ≡ true → are_over kind over ≡ true → is_canvas canvas ≡ true →
    IfOk answer (λ s. IsTrue (are_settings kind s))
answer_valid kind over given canvas (Ok s) found input valid sized =
    keys_valid kind (standing_of kind over canvas) given s found
    (standing_valid kind over canvas input valid sized)
answer_valid kind over given canvas (Err fault) found input valid sized = tt

-- where there are settings, they stand
pub standing_is : (kind : Kind) (over : Settings) (canvas : ℕ × ℕ) → (over ≡ NoSettings → ⊥) →
    standing_of kind over canvas ≡ over
standing_is kind NoSettings canvas some = absurd (some refl)
standing_is kind (Color color width height) canvas some = refl
standing_is kind (Checker a b cell width height) canvas some = refl
standing_is kind (Scroll a b bar speed width height) canvas some = refl
standing_is kind (Raster pixels width height) canvas some = refl
standing_is kind (Tone level half) canvas some = refl
