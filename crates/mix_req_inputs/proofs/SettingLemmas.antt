-- Settings that are refused give a status that has a name, and those that are told have no fraction.
use Rattle.std.proofs.Common.{◌≡◌, ◌*◌, ◌==◌, nat_lt, ℕ, ℤ, pos, negsuc, List, length, refl}
use Rattle.std.proofs.Common.{Bool, true, false, rules, Option, Some, None, Result, Ok, Err}
use Rattle.std.specs.Prelude.{if◌then◌else◌}
use Rattle.mix_base.specs.declared.json.Json.{Json}
use Rattle.mix_base.specs.Json.{Object, as_int, as_text, obj_has_frac}
use Rattle.mix_base.specs.Members.{get_of}
use Rattle.mix_json.specs.Fields.{in_range, is_within, opt_in, typed}
use Rattle.mix_model.specs.declared.kind.Kind.{Kind}
use Rattle.mix_model.specs.declared.settings.Settings.{Settings}
use Rattle.mix_model.specs.declared.settings.Settings.TheVariants.{None as NoSettings, Color}
use Rattle.mix_model.specs.declared.settings.Settings.TheVariants.{Checker, Scroll, Raster, Tone}
use Rattle.mix_model.specs.Values.{is_between}
use Rattle.mix_events.specs.Statuses.{status_name}
use Rattle.mix_sources.specs.declared.fault.BadSetting.{BadSetting}
use Rattle.mix_sources.specs.Checked.{◌>>=◌, checked, keys_over, color_over, checker_over}
use Rattle.mix_sources.specs.Checked.{scroll_over, raster_over, standing_of, tone_over}
use Rattle.mix_sources.specs.Keys.{at_key, color_at, number_at, number_in, number_of, or_standing}
use Rattle.mix_sources.specs.Keys.{side_at, speed_at, speed_of, text_at}
use Rattle.mix_sources.specs.Rasters.{filled_with, most_pixels, raster_of}
use Rattle.mix_sources.specs.Written.{fields_of, object_of, text_of}
use Rattle.mix_requests.specs.Laws.{IsNamed}
use Rattle.mix_requests.proofs.ProperLemmas.{AreWhole, Named, after, chosen, fields_whole, int_whole}
use Rattle.mix_requests.proofs.ProperLemmas.{opt_named, or_named, text_whole}
use Rattle.mix_req_inputs.specs.CreateInput.{status_of}

-- ---- settings that are refused

-- the status of a fault has a name
abbrev KnownWhere : {A : Type 0} → Result A BadSetting → Type 0
KnownWhere (Ok x) = Unit {0}
KnownWhere (Err fault) = IsNamed fault.status

record Known {A : Type 0} (r : Result A BadSetting) : Type 0 where
  known : KnownWhere r

-- so it is with what is read in order
then_known : {A B : Type 0} (r : Result A BadSetting) (rest : A → Result B BadSetting) →
    Known r → ((x : A) → Known (rest x)) → Known (r >>= rest)
then_known (Ok x) rest first each = each x
then_known (Err fault) rest first each = record { known = first.known }

ok_known : {A : Type 0} (x : A) → Known (Ok x)
ok_known x = record { known = tt }

-- and with what a test takes
either_known : {A : Type 0} (test : Bool) (x y : Result A BadSetting) → Known x → Known y →
    Known (if test then x else y)
either_known true x y first second = first
either_known false x y first second = second

key_known : {A : Type 0} (key : List ℕ) (r : Result A ℕ) → Named r → Known (at_key key r)
key_known key (Ok x) name = record { known = tt }
key_known key (Err status) name = record { known = name.gives }

standing_named : {A : Type 0} (standing : A) (read : Json → Result A ℕ) (value : Option Json) →
    ((given : Json) → Named (read given)) → Named (or_standing standing read value)
standing_named standing read None each = record { gives = tt }
standing_named standing read (Some value) each = each value

number_in_named : (least most : ℕ) (n : ℤ) → Named (number_in least most n)
unfolding status_name
number_in_named least most (pos n) = chosen (is_between least most n) (Ok n) (Err 402)
    (record { gives = tt }) (record { gives = refl })
number_in_named least most (negsuc n) = record { gives = refl }

number_of_named : (least most : ℕ) (value : Json) → Named (number_of least most value)
unfolding status_name
number_of_named least most value = after (typed as_int value) (number_in least most)
    (or_named 401 (as_int value) refl) (λ n read. number_in_named least most n)

number_known : (key : List ℕ) (least most standing : ℕ) (given : Object) →
    Known (number_at key least most standing given)
unfolding number_at
number_known key least most standing given =
    key_known key (or_standing standing (number_of least most) (get_of key given))
    (standing_named standing (number_of least most) (get_of key given)
    (number_of_named least most))

color_known : (key : List ℕ) (standing : ℕ) (given : Object) → Known (color_at key standing given)
unfolding color_at
color_known key standing given = number_known key 0 4294967295 standing given

side_known : (key : List ℕ) (standing : ℕ) (given : Object) → Known (side_at key standing given)
unfolding side_at
side_known key standing given = number_known key 1 4096 standing given

range_named : (least most n : ℤ) → Named (in_range least most n)
unfolding status_name
range_named least most n = chosen (is_within least most n) (Ok n) (Err 402)
    (record { gives = tt }) (record { gives = refl })

speed_of_named : (value : Json) → Named (speed_of value)
unfolding status_name
speed_of_named value = after (typed as_int value) (in_range (negsuc 63) (pos 64))
    (or_named 401 (as_int value) refl) (λ n read. range_named (negsuc 63) (pos 64) n)

speed_known : (key : List ℕ) (standing : ℤ) (given : Object) → Known (speed_at key standing given)
unfolding speed_at
speed_known key standing given = key_known key (or_standing standing speed_of (get_of key given))
    (standing_named standing speed_of (get_of key given) speed_of_named)

text_known : (key : List ℕ) (given : Object) → Known (text_at key given)
unfolding text_at
text_known key given = key_known key (opt_in as_text (get_of key given))
    (opt_named as_text (get_of key given))

-- a raster's pixels may not fit its size
filled_known : (width height : ℕ) (pixels : Option (List ℕ)) →
    Known (filled_with width height pixels)
unfolding status_name
filled_known width height None = record { known = refl }
filled_known width height (Some pixels) = either_known (length pixels == 4 * (width * height))
    (Ok (Raster pixels width height)) _ (record { known = tt }) (record { known = refl })

raster_known : (width height : ℕ) (pixels : Option (List ℕ)) → Known (raster_of width height pixels)
unfolding raster_of status_name
raster_known width height pixels = either_known (nat_lt most_pixels (width * height))
    _ (filled_with width height pixels) (record { known = refl }) (filled_known width height pixels)

color_settings : (color width height : ℕ) (given : Object) →
    Known (color_over color width height given)
unfolding color_over
color_settings color width height given =
    search (rules, then_known, color_known, side_known, ok_known)

checker_settings : (a b cell width height : ℕ) (given : Object) →
    Known (checker_over a b cell width height given)
unfolding checker_over
checker_settings a b cell width height given =
    search (rules, then_known, color_known, side_known, ok_known)

scroll_settings : (a b bar : ℕ) (speed : ℤ) (width height : ℕ) (given : Object) →
    Known (scroll_over a b bar speed width height given)
unfolding scroll_over
scroll_settings a b bar speed width height given =
    search (rules, then_known, color_known, side_known, speed_known, ok_known)

raster_settings : (pixels : List ℕ) (width height : ℕ) (given : Object) →
    Known (raster_over pixels width height given)
unfolding raster_over
raster_settings pixels width height given =
    search (rules, then_known, side_known, text_known, raster_known)

tone_settings : (level half : ℕ) (given : Object) → Known (tone_over level half given)
unfolding tone_over
tone_settings level half given = search (rules, then_known, number_known, ok_known)

keys_known : (standing : Settings) (given : Object) → Known (keys_over standing given)
keys_known NoSettings given = record { known = tt }
keys_known (Color color width height) given = color_settings color width height given
keys_known (Checker a b cell width height) given = checker_settings a b cell width height given
keys_known (Scroll a b bar speed width height) given =
    scroll_settings a b bar speed width height given
keys_known (Raster pixels width height) given = raster_settings pixels width height given
keys_known (Tone level half) given = tone_settings level half given

status_named : (r : Result Settings BadSetting) → Known r → Named (status_of r)
status_named (Ok settings) known = record { gives = tt }
status_named (Err fault) known = record { gives = known.known }

-- whatever settings stand, the status of those that are put over them has a name
pub settings_named : (kind : Kind) (over : Settings) (given : Object) (canvas : ℕ × ℕ) →
    Named (status_of (checked kind over given canvas))
settings_named kind over given canvas = status_named (checked kind over given canvas)
    (keys_known (standing_of kind over canvas) given)

-- ---- settings that are told

numbers_whole : (settings : Settings) → AreWhole (fields_of settings)
numbers_whole NoSettings = tt
numbers_whole (Color color width height) =
    (int_whole (pos color), (int_whole (pos height), (int_whole (pos width), tt)))
numbers_whole (Checker a b cell width height) = (
  int_whole (pos cell),
  (
    int_whole (pos a),
    (int_whole (pos b), (int_whole (pos height), (int_whole (pos width), tt))),
  ),
)
numbers_whole (Scroll a b bar speed width height) = (
  int_whole (pos bar),
  (
    int_whole (pos a),
    (int_whole (pos b), (int_whole (pos height), (int_whole speed, (int_whole (pos width), tt)))),
  ),
)
numbers_whole (Raster pixels width height) =
    (int_whole (pos height), (text_whole (text_of pixels), (int_whole (pos width), tt)))
numbers_whole (Tone level half) = (int_whole (pos half), (int_whole (pos level), tt))

pub settings_whole : (settings : Settings) → obj_has_frac (object_of settings) ≡ false
unfolding object_of
settings_whole settings = fields_whole (fields_of settings) (numbers_whole settings)
