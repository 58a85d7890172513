-- Who is heard, and how loud.
use Rattle.std.specs.Prelude.{ℕ, ◌-◌, Bool, true, false, ◌&&◌, ◌||◌, not, nat_le, List, [], ◌∷◌}
use Rattle.std.specs.Prelude.{flat_map, Option, Some, None, if◌then◌else◌}
use Rattle.std.specs.List.{list_any}
use Rattle.mix_model.specs.declared.voice.Voice.{Voice}
use Rattle.mix_model.specs.declared.row.Row.{Row}
use Rattle.mix_model.specs.Rows.{is_tone}
use Rattle.mix_model.specs.State.{StudioState, Shown, Rest, Fade}
use Rattle.mix_model.specs.Walks.{walks_in}
use Rattle.mix_model.specs.Program.{weights_of}
use Rattle.mix_model.specs.Values.{are_valid, is_sound}
use Rattle.mix_model.specs.Pictures.{side_roots}

-- the scene of the program, and in a fade the scene that it goes to
abbrev pub Ends : Type 0
Ends = ℕ × Option ℕ

abbrev pub ends_of : Shown → Ends
ends_of (Rest x) = (x, None)
ends_of (Fade a b t n) = (a, Some b)

-- the weight, of n, of an input that the one end of a fade reaches, or the other: whole for both, and
-- at t of n what is left of the first and what has come of the second
abbrev pub faded_weight : ℕ → ℕ → Bool → Bool → ℕ
faded_weight t n true true = n
faded_weight t n true false = n - t
faded_weight t n false true = t
faded_weight t n false false = 0

-- the weight of x by the program alone; at rest it is whole where the scene reaches x
abbrev pub program_weight : List Row → Ends → ℕ × ℕ → ℕ → ℕ
program_weight rows (a, None) weights x = if walks_in rows a x then weights.1 else 0
program_weight rows (a, Some b) weights x =
    faded_weight weights.0 weights.1 (walks_in rows a x) (walks_in rows b x)

-- the weight of x: whole where one of the further channels reaches it
abbrev pub weight_heard : List Row → Ends → ℕ × ℕ → List ℕ → ℕ → ℕ
weight_heard rows ends weights channels x =
    if list_any (λ root. walks_in rows root x) channels then weights.1
    else program_weight rows ends weights x

-- whether something reaches x
abbrev pub is_reached_by : List Row → Ends → List ℕ → ℕ → Bool
is_reached_by rows (a, None) channels x =
    walks_in rows a x || list_any (λ root. walks_in rows root x) channels
is_reached_by rows (a, Some b) channels x = walks_in rows a x || walks_in rows b x
    || list_any (λ root. walks_in rows root x) channels

-- a tone that is reached and isn't muted is heard once, however many walks lead to it
abbrev pub voice_of : List Row → Ends → ℕ × ℕ → List ℕ → Row → List Voice
voice_of rows ends weights channels row =
    if is_tone row.kind && not row.sound.muted && is_reached_by rows ends channels row.serial
    then record {
      settings = row.settings;
      sound = row.sound;
      w = weight_heard rows ends weights channels row.serial;
      n = weights.1;
    } ∷ [] else []

-- the voices of these rows, by rising serial
abbrev pub voices_of : List Row → Ends → ℕ × ℕ → List ℕ → List Voice
voices_of rows ends weights channels =
    flat_map (voice_of rows ends weights channels) rows

-- the voices of a state
unfoldable pub voices_in : StudioState → List Voice
voices_in s = voices_of s.graph.rows (ends_of s.program.shown) (weights_of s.program.shown)
    (side_roots s.graph)

-- a voice that can be mixed: each value in its range, and a weight w of n
unfoldable pub is_voice : Voice → Bool
is_voice voice = are_valid voice.settings && is_sound voice.sound
    && nat_le 1 voice.n && nat_le voice.w voice.n
