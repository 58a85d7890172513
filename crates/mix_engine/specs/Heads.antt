-- The head of a recording's record.
use Rattle.std.specs.Prelude.{ℕ}
use Rattle.mix_model.specs.State.{StudioState}
use Rattle.mix_engine.specs.declared.head.Head.{Head}

-- the head of a record: the format, the canvas and the rate of the studio, and which recording it is
abbrev pub head_of : StudioState → ℕ → Head
head_of s recording = record {
  i420 = s.i420;
  tracks = s.tracks;
  width = s.canvas.0;
  height = s.canvas.1;
  rate = s.rate;
  recording = recording;
}
