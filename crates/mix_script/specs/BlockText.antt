-- The text of a block of sound.
use Rattle.std.specs.Prelude.{ℕ, ℤ, unsigned_abs, max, List, ◌++◌, fold, flat_map, codes, decimal}
use Rattle.std.specs.List.{range_with_len}
use Rattle.hex.specs.Hex.{encode_lower}
use Rattle.sha2.specs.Sha256.{sha256}
use Rattle.mix_model.specs.declared.picture.Block.{Block}
use Rattle.mix_model.specs.Encoding.{pcm_of, samples_of}

-- the mask of all six tracks
abbrev pub all_tracks : ℕ
all_tracks = 63

-- the greatest so far and the absolute value of a sample
abbrev pub greater : ℕ → ℤ → ℕ
greater greatest sample = max greatest (unsigned_abs sample)

-- the greatest absolute value of samples
abbrev pub peak : List ℤ → ℕ
peak samples = fold greater 0 samples

-- the peak of a track behind a space, tracks counted from 0
abbrev pub peak_text : Block → ℕ → List ℕ
peak_text block track = codes " " ++ decimal (peak (samples_of block track))

-- the peaks of the first tracks
abbrev pub peaks_text : Block → ℕ → List ℕ
peaks_text block tracks = flat_map (peak_text block) (range_with_len 0 tracks)

-- the peaks of all six tracks
unfoldable pub all_peaks : Block → List ℕ
all_peaks block = peaks_text block 6

-- the text of a block: the peaks of its tracks, and the SHA-256 of their bytes, each behind a space
unfoldable pub block_text : Block → List ℕ
block_text block = all_peaks block ++ (codes " " ++ encode_lower (sha256 (pcm_of block all_tracks)))
