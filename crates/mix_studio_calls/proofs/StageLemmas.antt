-- The collection of the stage can be opened.
use Rattle.std.proofs.Common.{◌≡◌, ℕ, refl, true, false, List, [], ◌∷◌, Some, None}
use Rattle.mix_model.specs.declared.collection.Collection.{Collection}
use Rattle.mix_model.specs.declared.collection.Line.{Line}
use Rattle.std.proofs.lemmas.List.Sums.{AllPass-from_list_all}
use Rattle.mix_model.specs.Collections.{IsCollection}
use Rattle.mix_model.specs.Fitting.{line_fits}
use Rattle.mix_model.proofs.Rules.{every_rule}
use Rattle.mix_studio_calls.specs.Stage.{stage_lines}
use Rattle.std.specs.Str.{is_utf8, chars}
use lib.Utf8.{encode}

abbrev pub stage : List ℕ → List ℕ → List Line → Collection
stage first second lines = record {
  canvas = (4, 2);
  rate = record { num = 40; den = 1 };
  i420 = false;
  tracks = 1;
  secret = None;
  lines = lines;
  fade = true;
  ms = 100;
  studio = Some second;
  program = first;
}

named_stage_opens : IsCollection (stage (65 ∷ []) (66 ∷ [])
    (stage_lines (65 ∷ []) (66 ∷ []) (71 ∷ []) (67 ∷ []) (84 ∷ [])))
unfolding every_rule is_utf8 chars encode
named_stage_opens = record {
  fits = record {
    canvas = refl;
    rate = refl;
    format = refl;
    secret = refl;
    lines = AllPass-from_list_all line_fits
        (stage_lines (65 ∷ []) (66 ∷ []) (71 ∷ []) (67 ∷ []) (84 ∷ [])) refl;
    channels = refl;
    duration = refl;
    preview = refl;
    program = refl;
  };
  opening = refl;
}

-- by its names
pub stage_opens : (a b group color tone : List ℕ) (lines : List Line) → a ≡ 65 ∷ [] →
    b ≡ 66 ∷ [] → group ≡ 71 ∷ [] → color ≡ 67 ∷ [] → tone ≡ 84 ∷ [] →
    lines ≡ stage_lines a b group color tone → IsCollection (stage a b lines)
stage_opens a b group color tone lines is_a is_b is_group is_color is_tone are =
    rw (are, is_a, is_b, is_group, is_color, is_tone) named_stage_opens
