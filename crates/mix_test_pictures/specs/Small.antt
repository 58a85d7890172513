-- What holds of the tree of the tests.
use Rattle.std.specs.Prelude.{ℕ, ℤ, pos, Bool, true, false, List, [], ◌∷◌, ◌&&◌, length, nat_lt}
use Rattle.std.specs.List.{list_all}
use Rattle.mix_model.specs.declared.kind.Kind.{Kind}
use Rattle.mix_model.specs.declared.kind.Blend.{Blend}
use Rattle.mix_model.specs.declared.kind.Blend.TheVariants.{Normal, Additive, Screen, Multiply}
use Rattle.mix_model.specs.declared.kind.Blend.TheVariants.{Darken}
use Rattle.mix_model.specs.declared.kind.Kind.TheVariants.{Scene, Group, Color as ColorKind}
use Rattle.mix_model.specs.declared.kind.Kind.TheVariants.{Tone as ToneKind}
use Rattle.mix_model.specs.declared.settings.Settings.{Settings}
use Rattle.mix_model.specs.declared.settings.Settings.TheVariants.{None as NoSettings, Color, Tone}
use Rattle.mix_model.specs.declared.item.Item.{Item}
use Rattle.mix_model.specs.declared.row.Row.{Row}
use Rattle.mix_model.specs.Lookups.{has_row}
use Rattle.mix_model.specs.Shape.{is_bare}
use Rattle.mix_model.specs.Values.{are_settings, is_sound, is_place, new_place, new_sound}

-- an item is placed where items may be, and shows a row
abbrev pub is_fine_item : List Row → Item → Bool
is_fine_item rows item = is_place item.place && has_row rows item.child

-- a row has valid values and few items, and an input has none
abbrev pub is_fine_row : List Row → Row → Bool
is_fine_row rows row = are_settings row.kind row.settings && is_sound row.sound && is_bare row
    && nat_lt (length row.items) 256 && list_all (is_fine_item rows) row.items

abbrev pub are_fine : List Row → Bool
are_fine rows = list_all (is_fine_row rows) rows

-- an item so many pixels to the right
abbrev pub shown : ℕ → Bool → ℤ → Blend → Item
shown child enabled x blend = record {
  id = 1;
  child = child;
  enabled = enabled;
  locked = false;
  place = record new_place { x = x };
  blend = blend;
}

-- a source with these items
abbrev pub source : ℕ → List ℕ → Kind → Settings → ℕ → List Item → Row
source serial name kind settings since items = record {
  serial = serial;
  name = name;
  kind = kind;
  settings = settings;
  sound = new_sound;
  since = since;
  items = items;
  next_item = 2;
}

-- the red source, the blue one hidden, the group, the inner scene, the tone, and the empty scene
abbrev pub top_items : List Item
top_items = shown 5 true (pos 0) Normal ∷ (shown 6 false (pos 5) Normal
    ∷ (shown 3 true (pos 10) Screen ∷ (shown 2 true (pos 20) Additive
    ∷ (shown 7 true (pos 30) Normal ∷ (shown 4 true (pos 40) Normal ∷ [])))))

-- the red source twice
abbrev pub inner_items : List Item
inner_items = shown 5 true (pos 1) Multiply ∷ (shown 5 true (pos 2) Normal ∷ [])

-- the blue source
abbrev pub group_items : List Item
group_items = shown 6 true (pos 3) Darken ∷ []

-- the scene on top, the inner scene, the group, the empty scene, red, blue, and the tone
unfoldable pub small_rows : List ℕ → List Row
small_rows name = source 1 name Scene NoSettings 1 top_items
    ∷ (source 2 name Scene NoSettings 2 inner_items
    ∷ (source 3 name Group NoSettings 3 group_items ∷ (source 4 name Scene NoSettings 4 []
    ∷ (source 5 name ColorKind (Color 255 2 1) 5 []
    ∷ (source 6 name ColorKind (Color 65535 1 1) 6 []
    ∷ (source 7 name ToneKind (Tone 100 24) 7 [] ∷ []))))))
