-- The texts by which kinds, blend modes and transitions go, and the versions.
use Rattle.std.specs.Prelude.{ℕ, Bool, true, false, List, [], ◌∷◌, codes, bytes_eq, find, map}
use Rattle.std.specs.Prelude.{Option}
use Rattle.mix_model.specs.declared.kind.Kind.{Kind}
use Rattle.mix_model.specs.declared.kind.Kind.TheVariants.{Scene, Group, Color, Checker, Scroll}
use Rattle.mix_model.specs.declared.kind.Kind.TheVariants.{Raster, Tone}
use Rattle.mix_model.specs.declared.kind.Blend.{Blend}
use Rattle.mix_model.specs.declared.kind.Blend.TheVariants.{Normal, Additive, Subtract, Screen}
use Rattle.mix_model.specs.declared.kind.Blend.TheVariants.{Multiply, Lighten, Darken}

-- the id of an input's kind; scenes and groups have none
abbrev pub kind_id : Kind → List ℕ
kind_id Scene = []
kind_id Group = []
kind_id Color = codes "color_source_v3"
kind_id Checker = codes "checker_source"
kind_id Scroll = codes "scroll_source"
kind_id Raster = codes "raster_source"
kind_id Tone = codes "tone_source"

-- the kinds of input, their ids in byte order
abbrev pub input_kinds : List Kind
input_kinds = Checker ∷ (Color ∷ (Raster ∷ (Scroll ∷ (Tone ∷ []))))

abbrev pub input_kind_ids : List (List ℕ)
input_kind_ids = map kind_id input_kinds

-- the kind of input of this id
abbrev pub kind_named : List ℕ → Option Kind
kind_named id = find (λ kind. bytes_eq (kind_id kind) id) input_kinds

-- the text of a blend mode, as libobs names it
abbrev pub blend_text : Blend → List ℕ
blend_text Normal = codes "OBS_BLEND_NORMAL"
blend_text Additive = codes "OBS_BLEND_ADDITIVE"
blend_text Subtract = codes "OBS_BLEND_SUBTRACT"
blend_text Screen = codes "OBS_BLEND_SCREEN"
blend_text Multiply = codes "OBS_BLEND_MULTIPLY"
blend_text Lighten = codes "OBS_BLEND_LIGHTEN"
blend_text Darken = codes "OBS_BLEND_DARKEN"

abbrev pub blends : List Blend
blends = Normal ∷ (Additive ∷ (Subtract ∷ (Screen ∷ (Multiply ∷ (Lighten ∷ (Darken ∷ []))))))

-- the blend mode of this text
abbrev pub blend_named : List ℕ → Option Blend
blend_named text = find (λ blend. bytes_eq (blend_text blend) text) blends

-- the two transitions: whether it fades, its name and its kind
abbrev pub transition_name : Bool → List ℕ
transition_name true = codes "Fade"
transition_name false = codes "Cut"

abbrev pub transition_kind : Bool → List ℕ
transition_kind true = codes "fade_transition"
transition_kind false = codes "cut_transition"

-- whether the transition of this name fades
abbrev pub transition_named : List ℕ → Option Bool
transition_named name =
    find (λ fades. bytes_eq (transition_name fades) name) (false ∷ (true ∷ []))

-- the version of obs-websocket that is spoken, and that of its remote calls
abbrev pub version_text : List ℕ
version_text = codes "5.0.0"

abbrev pub rpc_version : ℕ
rpc_version = 1
