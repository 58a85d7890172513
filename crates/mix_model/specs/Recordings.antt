-- Recordings: when one runs, and which ticks belong to it.
use Rattle.std.specs.Prelude.{ℕ, Bool, true, false, ◌+◌, ◌*◌, ◌/◌, ◌&&◌, not, count_ones}
use Rattle.std.specs.Prelude.{Option, Some, None, if◌then◌else◌}
use Rattle.mix_model.specs.State.{StudioState, Recording}

-- nothing was recorded
abbrev pub no_recording : Recording
no_recording = record {
  count = 0;
  running = false;
  paused = false;
  video = 0;
  audio = 0;
  bytes = 0;
}

-- recordings count from 1, and each begins without a tick
unfoldable pub record_started : Recording → Recording
record_started r = record no_recording { count = r.count + 1; running = true }

-- a recording that ends is no longer paused, and its ticks count no more
unfoldable pub record_stopped : Recording → Recording
record_stopped r = record no_recording { count = r.count }

unfoldable pub record_paused : Recording → Recording
record_paused r = record r { paused = true }

unfoldable pub record_resumed : Recording → Recording
record_resumed r = record r { paused = false }

-- a tick belongs to the recording that it finds running and not paused
abbrev pub records : Recording → Bool
records r = r.running && not r.paused

-- the number of that recording
abbrev pub recording_of : Recording → Option ℕ
recording_of r = if records r then Some r.count else None

-- the number of the recording that runs, paused or not
abbrev pub running_of : Recording → Option ℕ
running_of r = if r.running then Some r.count else None

-- a picture's payload: as I420 three bytes for two pixels, else four for each
abbrev pub picture_bytes : StudioState → ℕ
picture_bytes s = if s.i420 then 3 * (s.canvas.0 * s.canvas.1) / 2
    else 4 * (s.canvas.0 * s.canvas.1)

-- a block's payload: 1024 stereo frames of two bytes a sample for each track
abbrev pub block_bytes : StudioState → ℕ
block_bytes s = 4096 * count_ones s.tracks

unfoldable pub picture_recorded : ℕ → Recording → Recording
picture_recorded bytes r = if records r
    then record r { video = r.video + 1; bytes = r.bytes + bytes } else r

unfoldable pub block_recorded : ℕ → Recording → Recording
block_recorded bytes r = if records r
    then record r { audio = r.audio + 1; bytes = r.bytes + bytes } else r
