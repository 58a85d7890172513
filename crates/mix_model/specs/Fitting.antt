-- Values of a collection that are in their ranges.
use Rattle.std.specs.Prelude.{ℕ, Bool, true, List, [], ◌∷◌, ◌==◌, ◌&&◌, length}
use Rattle.std.specs.Prelude.{Option, Some, None, All, flat_map, IsTrue}
use Rattle.mix_base.specs.Names.{is_name}
use Rattle.mix_base.specs.Rates.{is_rate}
use Rattle.mix_model.specs.declared.collection.Collection.{Collection}
use Rattle.mix_model.specs.declared.collection.Line.{Line}
use Rattle.mix_model.specs.declared.collection.Line.TheVariants.{Scene as SceneLine}
use Rattle.mix_model.specs.declared.collection.Line.TheVariants.{Input as InputLine}
use Rattle.mix_model.specs.declared.collection.Line.TheVariants.{Group as GroupLine}
use Rattle.mix_model.specs.declared.collection.Line.TheVariants.{Item as ItemLine}
use Rattle.mix_model.specs.declared.collection.Line.TheVariants.{Sound as SoundLine}
use Rattle.mix_model.specs.declared.collection.Line.TheVariants.{Channel as ChannelLine}
use Rattle.mix_model.specs.Sets.{is_distinct}
use Rattle.mix_model.specs.Rows.{is_input}
use Rattle.mix_model.specs.Values.{are_settings, is_sound, is_place, is_canvas, is_format}
use Rattle.mix_model.specs.Values.{is_duration, is_between}

-- the values of a line are in their ranges, whatever stands above it
unfoldable pub line_fits : Line → Bool
line_fits (SceneLine name) = is_name name
line_fits (InputLine kind name settings) =
    is_name name && is_input kind && are_settings kind settings
line_fits (GroupLine name parent enabled locked place blend) =
    is_name name && is_name parent && is_place place
line_fits (ItemLine parent child enabled locked place blend) =
    is_name parent && is_name child && is_place place
line_fits (SoundLine name sound) = is_name name && is_sound sound
line_fits (ChannelLine number name) = is_between 1 63 number && is_name name

abbrev pub Fits : Line → Type 0
Fits line = IsTrue (line_fits line)

-- the channel that a line sets
abbrev pub channel_number : Line → List ℕ
channel_number (ChannelLine number name) = number ∷ []
channel_number line = []

abbrev pub is_name_or_none : Option (List ℕ) → Bool
is_name_or_none None = true
is_name_or_none (Some name) = is_name name

-- the salt of a login has 32 bytes
abbrev pub is_secret : Option (List ℕ × List ℕ) → Bool
is_secret None = true
is_secret (Some secret) = length secret.1 == 32

-- the values of a collection are in their ranges and no channel is set twice, whatever its lines
-- come to
pub record IsFitting (c : Collection) : Type 0 where
  pub canvas : IsTrue (is_canvas c.canvas)
  pub rate : IsTrue (is_rate c.rate)
  pub format : IsTrue (is_format c.canvas c.i420 c.tracks)
  pub secret : IsTrue (is_secret c.secret)
  pub lines : All Fits c.lines
  pub channels : IsTrue (is_distinct (flat_map channel_number c.lines))
  pub duration : IsTrue (is_duration c.ms)
  pub preview : IsTrue (is_name_or_none c.studio)
  pub program : IsTrue (is_name c.program)
