-- Which bytes are a collection that is built, and what it says.
use Rattle.std.specs.Prelude.{ℕ, ℤ, pos, negsuc, ◌^◌, Bool, true, false, List, [], ◌∷◌}
use Rattle.std.specs.Prelude.{length, take, drop, codes, bytes_eq, nat_le, nat_lt, ◌&&◌, ◌||◌}
use Rattle.std.specs.Prelude.{Option, Some, None, option_and_then, option_map, if◌then◌else◌}
use Rattle.std.specs.List.{list_all}
use Rattle.std.specs.Option.{option_or}
use Rattle.mix_base.specs.declared.json.Json.{Json}
use Rattle.mix_base.specs.Json.{Object, as_list, as_int, as_obj, as_text}
use Rattle.mix_base.specs.Names.{is_name}
use Rattle.mix_base.specs.declared.rate.Rate.{Rate}
use Rattle.mix_base.specs.Rates.{is_rate}
use Rattle.mix_json.specs.Reading.{json_of}
use Rattle.mix_outside.specs.Lines.{Lines, End, Cut, Whole, lines_of}
use Rattle.mix_model.specs.declared.collection.Collection.{Collection}
use Rattle.mix_model.specs.declared.collection.Line.{Line}
use Rattle.mix_model.specs.declared.collection.Line.TheVariants.{Scene, Input, Group, Item}
use Rattle.mix_model.specs.declared.item.ItemSpec.{ItemSpec}
use Rattle.mix_model.specs.declared.kind.Kind.{Kind}
use Rattle.mix_model.specs.declared.settings.Settings.{Settings}
use Rattle.mix_model.specs.declared.settings.Settings.TheVariants.{None as NoSettings}
use Rattle.mix_model.specs.Texts.{kind_named}
use Rattle.mix_model.specs.Values.{is_canvas, is_format}
use Rattle.mix_sources.specs.Checked.{checked}
use Rattle.hex.specs.Hex.{decode_sized}
use Rattle.std.specs.Result.{result_ok}
use Rattle.mix_collection.specs.declared.registry.Registry.{Registry}
use Rattle.mix_collection.specs.Options.{options_from}
pub use Rattle.mix_collection.specs.Readers.{where_it, ◌>>=◌}

-- what stands behind these bytes, where the line begins with them
abbrev pub behind : List ℕ → List ℕ → Option (List ℕ)
behind head line =
    if bytes_eq (take (length head) line) head then Some (drop (length head) line) else None

-- the items of the JSON list that a text writes
unfoldable pub list_of : List ℕ → Option (List Json)
list_of text = option_and_then as_list (json_of text)

-- the items of the JSON list behind a word and exactly one space
unfoldable pub list_behind : List ℕ → List ℕ → Option (List Json)
list_behind word line =
    option_and_then list_of (option_and_then (behind (codes " ")) (behind word line))

-- exactly one item, exactly two, and exactly three
abbrev pub only_item : List Json → Option Json
only_item (x ∷ []) = Some x
only_item _ = None

abbrev pub two_items : List Json → Option (Json × Json)
two_items (x ∷ (y ∷ [])) = Some (x, y)
two_items _ = None

abbrev pub three_items : List Json → Option (Json × Json × Json)
three_items (x ∷ (y ∷ (z ∷ []))) = Some (x, y, z)
three_items _ = None

-- a whole number from 0 to 2^32 - 1
abbrev pub small : ℤ → Option ℕ
small (pos n) = if nat_lt n (2 ^ 32) then Some n else None
small (negsuc n) = None

abbrev pub number_in : Json → Option ℕ
number_in value = option_and_then small (as_int value)

abbrev pub both : {A B : Type 0} → Option A → Option B → Option (A × B)
both None b = None
both (Some a) None = None
both (Some a) (Some b) = Some (a, b)

-- two whole numbers
abbrev pub numbers_in : Json × Json → Option (ℕ × ℕ)
numbers_in pair = both (number_in pair.0) (number_in pair.1)

-- the first line names the format
abbrev pub is_format_line : List ℕ → Bool
is_format_line line = bytes_eq line (codes "mixer-collection 1")

-- the canvas: width and height in pixels
unfoldable pub canvas_in : List ℕ → Option (ℕ × ℕ)
canvas_in line = option_and_then (where_it is_canvas)
    (option_and_then numbers_in (option_and_then two_items (list_behind (codes "canvas") line)))

abbrev pub rate_from : ℕ × ℕ → Rate
rate_from pair = record { num = pair.0; den = pair.1 }

-- the frames of a second
unfoldable pub rate_in : List ℕ → Option Rate
rate_in line = option_and_then (λ pair. where_it is_rate (rate_from pair))
    (option_and_then numbers_in (option_and_then two_items (list_behind (codes "rate") line)))

-- how pictures are recorded: whether as I420, else as RGBA
abbrev pub picture_format : List ℕ → Option Bool
picture_format text =
    if bytes_eq text (codes "rgba") then Some false
    else (if bytes_eq text (codes "i420") then Some true else None)

abbrev pub record_from : Json × Json → Option (Bool × ℕ)
record_from pair =
    both (option_and_then picture_format (as_text pair.0)) (number_in pair.1)

-- what is recorded, of a canvas of this size
unfoldable pub record_in : ℕ × ℕ → List ℕ → Option (Bool × ℕ)
record_in canvas line = option_and_then (where_it (λ f. is_format canvas f.0 f.1))
    (option_and_then record_from (option_and_then two_items (list_behind (codes "record") line)))

-- a digit of base sixteen in lower case
abbrev pub is_lower_digit : ℕ → Bool
is_lower_digit b = (nat_le 48 b && nat_le b 57) || (nat_le 97 b && nat_le b 102)

-- the salt that sixty-four digits in lower case write
abbrev pub salt_from : List ℕ → Option (List ℕ)
salt_from digits =
    if list_all is_lower_digit digits then result_ok (decode_sized digits 32) else None

abbrev pub secret_from : Json × Json → Option (List ℕ × List ℕ)
secret_from pair = both (as_text pair.0) (option_and_then salt_from (as_text pair.1))

-- the password and the salt of a login
unfoldable pub secret_in : List ℕ → Option (List ℕ × List ℕ)
secret_in line =
    option_and_then secret_from (option_and_then two_items (list_behind (codes "secret") line))

abbrev pub name_from : Json → Option (List ℕ)
name_from value = option_and_then (where_it is_name) (as_text value)

-- the name that stands behind a word
unfoldable pub name_in : List ℕ → List ℕ → Option (List ℕ)
name_in word line =
    option_and_then name_from (option_and_then only_item (list_behind word line))

-- the first line, where it has a line feed, and the lines behind it
abbrev pub next : Lines → Option (List ℕ × Lines)
next End = None
next (Cut line) = None
next (Whole line more) = Some (line, more)

-- what the first line says by this reading, where it has a line feed, and the lines behind it
abbrev pub part_in : {A : Type 0} → (List ℕ → Option A) → Lines → Option (A × Lines)
part_in read End = None
part_in read (Cut line) = None
part_in read (Whole line more) = option_map (λ a. (a, more)) (read line)

-- what the four lines at the head say, and the lines behind them
pub record Head : Type 0 where
  pub canvas : ℕ × ℕ
  pub rate : Rate
  pub i420 : Bool
  pub tracks : ℕ
  pub rest : Lines

unfoldable pub head_in : Lines → Option Head
head_in lines = do
  format ← part_in (where_it is_format_line) lines
  canvas ← part_in canvas_in format.1
  rate ← part_in rate_in canvas.1
  recorded ← part_in (record_in canvas.0) rate.1
  Some (record {
    canvas = canvas.0;
    rate = rate.0;
    i420 = recorded.0.0;
    tracks = recorded.0.1;
    rest = recorded.1;
  })

abbrev pub login_or : Lines → Option (List ℕ × List ℕ) → Lines →
    Option (List ℕ × List ℕ) × Lines
login_or lines None more = (None, lines)
login_or lines (Some secret) more = (Some secret, more)

-- the login, where the first line is one, and the lines behind it
abbrev pub login_in : Lines → Option (List ℕ × List ℕ) × Lines
login_in End = (None, End)
login_in (Cut line) = (None, Cut line)
login_in (Whole line more) = login_or (Whole line more) (secret_in line) more

-- a scene
unfoldable pub scene_in : List ℕ → Option Line
scene_in line = option_map Scene (name_in (codes "scene") line)

-- the kind of input whose id this is
abbrev pub kind_from : Json → Option Kind
kind_from value = option_and_then kind_named (as_text value)

-- the settings that an object gives a new input of a kind, where none of its keys is refused
abbrev pub settings_from : ℕ × ℕ → Kind → Object → Option Settings
settings_from canvas kind given = result_ok (checked kind NoSettings given canvas)

-- an input: its kind, its name, and its settings
abbrev pub input_from : ℕ × ℕ → Json × Json × Json → Option Line
input_from canvas items = do
  kind ← kind_from items.0
  name ← name_from items.1
  given ← as_obj items.2
  settings ← settings_from canvas kind given
  Some (Input kind name settings)

unfoldable pub input_in : ℕ × ℕ → List ℕ → Option Line
input_in canvas line = option_and_then (input_from canvas)
    (option_and_then three_items (list_behind (codes "input") line))

-- the names of two sources, and the options of an item
abbrev pub placed_from : Json × Json × Json → Option (List ℕ × List ℕ × ItemSpec)
placed_from items = do
  first ← name_from items.0
  second ← name_from items.1
  options ← options_from items.2
  Some (first, second, options)

unfoldable pub placed_in : List ℕ → List ℕ → Option (List ℕ × List ℕ × ItemSpec)
placed_in word line =
    option_and_then placed_from (option_and_then three_items (list_behind word line))

-- a group: its name, and whose item shows it
abbrev pub group_of : List ℕ × List ℕ × ItemSpec → Line
group_of p = Group p.0 p.1 p.2.enabled p.2.locked p.2.place p.2.blend

unfoldable pub group_in : List ℕ → Option Line
group_in line = option_map group_of (placed_in (codes "group") line)

-- an item: whose it is, and what it shows
abbrev pub item_of : List ℕ × List ℕ × ItemSpec → Line
item_of p = Item p.0 p.1 p.2.enabled p.2.locked p.2.place p.2.blend

unfoldable pub item_in : List ℕ → Option Line
item_in line = option_map item_of (placed_in (codes "item") line)

-- what a line says that stands between the head and the program's line
unfoldable pub line_in : ℕ × ℕ → List ℕ → Option Line
line_in canvas line = option_or (scene_in line)
    (option_or (input_in canvas line) (option_or (group_in line) (item_in line)))

-- nothing is left
abbrev pub is_end : Lines → Bool
is_end End = true
is_end (Cut line) = false
is_end (Whole line more) = false

-- the last line names the program's scene, and nothing stands behind it
abbrev pub last_in : Option (List ℕ) → Lines → Option Registry
last_in (Some program) End = Some (record { lines = []; program = program })
last_in _ _ = None

abbrev pub more_lines : Line → Option Registry → Option Registry
more_lines line None = None
more_lines line (Some registry) = Some (record registry { lines = line ∷ registry.lines })

abbrev pub line_or_last : Option Line → Option Registry → Option Registry → Option Registry
line_or_last (Some line) more last = more_lines line more
line_or_last None more last = last

-- what these lines say in their order, up to the program's line, and the name in that
abbrev pub lines_in : ℕ × ℕ → Lines → Option Registry
lines_in canvas End = None
lines_in canvas (Cut line) = None
lines_in canvas (Whole line more) = line_or_last (line_in canvas line) (lines_in canvas more)
    (last_in (name_in (codes "program") line) more)

-- the collection of these parts: what no line says has its default
abbrev pub collection_from : Head → Option (List ℕ × List ℕ) → Registry → Collection
collection_from head secret registry = record {
  canvas = head.canvas;
  rate = head.rate;
  i420 = head.i420;
  tracks = head.tracks;
  secret = secret;
  lines = registry.lines;
  fade = false;
  ms = 300;
  studio = None;
  program = registry.program;
}

unfoldable pub collection_in : Lines → Option Collection
collection_in lines = do
  head ← head_in lines
  registry ← lines_in head.canvas (login_in head.rest).1
  Some (collection_from head (login_in head.rest).0 registry)

-- the bytes of a file of a collection at most
abbrev pub most_bytes : ℕ
most_bytes = 268435456

-- the collection that these bytes write
unfoldable pub collection_read : List ℕ → Option Collection
collection_read bytes =
    if nat_le (length bytes) most_bytes then collection_in (lines_of bytes) else None
