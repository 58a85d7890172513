-- What the definition of a block promises.
use Rattle.std.specs.Prelude.{ℕ, pos, ◌≡◌, ◌<◌, ◌+◌, ◌*◌, List, [], ◌∷◌, ◌++◌}
use Rattle.std.specs.List.{All}
use Rattle.mix_model.specs.declared.voice.Voice.{Voice}
use Rattle.mix_model.specs.Sounds.{track_sample, mixed}
use Rattle.mix_audio.specs.Frames.{HasFrame}

-- each frame of each track has what the track says at its place, on the left and on the right
abbrev pub FramesAreHeard : Type 0
FramesAreHeard = (voices : List Voice) (number track frame : ℕ) → track < 6 → frame < 1024 →
    HasFrame (mixed voices number).tracks track frame
    (track_sample voices track (pos (1024 * number + frame)))

-- where nobody is heard there is silence
abbrev pub NobodyIsSilence : Type 0
NobodyIsSilence = (number : ℕ) → All (λ sample. sample ≡ pos 0) (mixed [] number).tracks

-- a voice that is in no track changes nothing, wherever it stands
abbrev pub TracklessIsUnheard : Type 0
TracklessIsUnheard = (before after : List Voice) (voice : Voice) (number : ℕ) →
    voice.sound.tracks ≡ 0 → mixed (before ++ voice ∷ after) number ≡ mixed (before ++ after) number
