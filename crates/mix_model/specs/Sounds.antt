-- The sound of a block, one sample of one track at a time.
use Rattle.std.specs.Prelude.{ℕ, ◌+◌, ◌*◌, ◌/◌, ◌%◌, ◌==◌, ◌^◌, ◌&&◌, Bool, if◌then◌else◌}
use Rattle.std.specs.Prelude.{ℤ, pos, negsuc, ◌+ℤ◌, ◌-ℤ◌, ◌*ℤ◌, int_div, List, [], ◌∷◌, fold, map}
use Rattle.std.specs.Prelude.{flat_map, length}
use Rattle.std.specs.Int.{int_min, int_max}
use Rattle.std.specs.List.{range_with_len, list_all}
use Rattle.mix_model.specs.declared.voice.Voice.{Voice}
use Rattle.mix_model.specs.declared.picture.Block.{Block}
use Rattle.mix_model.specs.State.{StudioState}
use Rattle.mix_model.specs.Values.{is_within}
use Rattle.mix_model.specs.Kinds.{sample_of}
use Rattle.mix_model.specs.Voices.{voices_in}

-- a sample at a volume in thousandths and a weight w of n, rounded towards zero
abbrev pub scaled : ℤ → ℕ → ℕ → ℕ → ℤ
scaled sample volume w n = int_div (sample *ℤ pos (volume * w)) (pos (1000 * n))

-- what a voice adds at a place in time. A millisecond has 48 samples
abbrev pub share : ℤ → Voice → ℤ
share place voice = scaled (sample_of voice.settings (place -ℤ (pos 48 *ℤ voice.sound.offset)))
    voice.sound.volume voice.w voice.n

-- held within what sixteen bits hold
abbrev pub clamped : ℤ → ℤ
clamped z = int_max (negsuc 32767) (int_min (pos 32767) z)

-- whether a mask has the track, tracks counted from 0
abbrev pub has_track : ℕ → ℕ → Bool
has_track mask track = mask / 2 ^ track % 2 == 1

-- the sum so far and a voice, where it is in the track
abbrev pub added : ℕ → ℤ → ℤ → Voice → ℤ
added track place sum voice =
    sum +ℤ (if has_track voice.sound.tracks track then share place voice else pos 0)

abbrev pub track_sample : List Voice → ℕ → ℤ → ℤ
track_sample voices track place = clamped (fold (added track place) (pos 0) voices)

-- sample i of block j stands at the place 1024 · j + i
abbrev pub track_samples : List Voice → ℕ → ℕ → List ℤ
track_samples voices number track =
    map (λ i. track_sample voices track (pos (1024 * number + i))) (range_with_len 0 1024)

-- the left and the right hear the same
abbrev pub in_stereo : List ℤ → List ℤ
in_stereo samples = flat_map (λ z. z ∷ (z ∷ [])) samples

-- the block of this number, all six tracks
unfoldable pub mixed : List Voice → ℕ → Block
mixed voices number = record {
  tracks = flat_map (λ track. in_stereo (track_samples voices number track))
      (range_with_len 0 6);
}

-- the block of a state
unfoldable pub block_at : StudioState → ℕ → Block
block_at s number = mixed (voices_in s) number

-- a block has six tracks of 1024 stereo frames, and each sample fits sixteen bits
abbrev pub is_block : Block → Bool
is_block block = (length block.tracks == 12288)
    && list_all (is_within (negsuc 32767) (pos 32767)) block.tracks
