-- The values of lines that were read are in their ranges.
use Rattle.std.proofs.Common.{◌≡◌, List, [], ◌∷◌, ℕ, nat_le, Bool, IsTrue, true, ◌&&◌, All}
use Rattle.std.proofs.Common.{flat_map, refl, ap}
use Rattle.std.proofs.lemmas.Bool.{and_from}
use Rattle.std.proofs.lemmas.List.Elements.{All-head, All-tail}
use Rattle.mix_base.specs.Names.{is_name}
use Rattle.mix_model.specs.declared.collection.Line.{Line}
use Rattle.mix_model.specs.declared.collection.Line.TheVariants.{Input, Group, Item}
use Rattle.mix_model.specs.declared.kind.Kind.{Kind}
use Rattle.mix_model.specs.declared.kind.Blend.{Blend}
use Rattle.mix_model.specs.declared.place.Place.{Place}
use Rattle.mix_model.specs.declared.settings.Settings.{Settings}
use Rattle.mix_model.specs.Rows.{is_input}
use Rattle.mix_model.specs.Values.{are_settings, is_place, is_position, is_between, is_align}
use Rattle.mix_model.specs.Fitting.{Fits, channel_number, line_fits}
use Rattle.mix_model.specs.Sets.{is_distinct}
use Rattle.mix_collection.specs.Read.{SetsNoChannel}

three : (a b c : Bool) → a ≡ true → b ≡ true → c ≡ true → (a && b && c) ≡ true
three a b c first second third = and_from (a && b) c (and_from a b first second) third

pub input_fits : (kind : Kind) (name : List ℕ) (settings : Settings) → IsTrue (is_name name) →
    IsTrue (is_input kind) → IsTrue (are_settings kind settings) → Fits (Input kind name settings)
unfolding line_fits
input_fits kind name settings named input valid =
    three (is_name name) (is_input kind) (are_settings kind settings) named input valid

pub group_fits : (name parent : List ℕ) (enabled locked : Bool) (place : Place) (blend : Blend) →
    IsTrue (is_name name) → IsTrue (is_name parent) → IsTrue (is_place place) →
    Fits (Group name parent enabled locked place blend)
unfolding line_fits
group_fits name parent enabled locked place blend named over stands =
    three (is_name name) (is_name parent) (is_place place) named over stands

pub item_fits : (parent child : List ℕ) (enabled locked : Bool) (place : Place) (blend : Blend) →
    IsTrue (is_name parent) → IsTrue (is_name child) → IsTrue (is_place place) →
    Fits (Item parent child enabled locked place blend)
unfolding line_fits
item_fits parent child enabled locked place blend over under stands =
    three (is_name parent) (is_name child) (is_place place) over under stands

-- a place each of whose numbers is in its range
pub place_fits : (place : Place) → IsTrue (is_position place.x) → IsTrue (is_position place.y) →
    IsTrue (is_between 1 16 place.scale_x) → IsTrue (is_between 1 16 place.scale_y) →
    IsTrue (nat_le place.quarter 3) → IsTrue (is_align place.align) →
    IsTrue (nat_le place.crop_left 100000) → IsTrue (nat_le place.crop_top 100000) →
    IsTrue (nat_le place.crop_right 100000) → IsTrue (nat_le place.crop_bottom 100000) →
    IsTrue (is_place place)
unfolding is_place
place_fits place x y scale_x scale_y quarter align left top right bottom =
    and_from _ _ (and_from _ _ (and_from _ _ (and_from _ _ (and_from _ _ (and_from _ _
    (and_from _ _ (and_from _ _ (and_from _ _ x y) scale_x) scale_y) quarter) align) left) top)
    right) bottom

no_channels : (lines : List Line) → All SetsNoChannel lines → flat_map channel_number lines ≡ []
no_channels [] unset = refl
no_channels (line ∷ lines) unset = rw (All-head SetsNoChannel line lines unset)
    (no_channels lines (All-tail SetsNoChannel line lines unset))

-- where no line sets a channel, none is set twice
pub set_once : (lines : List Line) → All SetsNoChannel lines →
    IsTrue (is_distinct (flat_map channel_number lines))
set_once lines unset = ap is_distinct (no_channels lines unset)
