-- What a source and a sink in memory do at each call.
use Rattle.std.specs.Prelude.{ℕ, ◌+◌, ◌-◌, ◌==◌, Bool, ◌||◌, nat_lt, List, [], ◌++◌}
use Rattle.std.specs.Prelude.{length, take, drop, min, if◌then◌else◌}
use Rattle.mix_outside.specs.Calls.{Calls, no_calls, fails_next, one_call_more}
use Rattle.mix_outside.specs.Faults.{one_more}
use Rattle.mix_outside.specs.declared.source.Take.{Take}
use Rattle.mix_outside.specs.declared.source.Take.TheVariants as takes
use Rattle.mix_outside.specs.declared.sink.Put.{Put}
use Rattle.mix_outside.specs.declared.sink.Put.TheVariants as puts

-- a source in memory
pub record SourceState : Type 0 where
  -- the bytes that are left
  pub left : List ℕ
  -- how many bytes it gives at once, at most
  pub piece : ℕ
  pub calls : Calls
  pub faults : ℕ

-- a source that has given nothing yet
abbrev pub new_source : List ℕ → ℕ → List ℕ → SourceState
new_source bytes piece failing =
    record { left = bytes; piece = piece; calls = no_calls failing; faults = 0 }

-- how many bytes come at once: what there is room for, a piece, or all that is left
abbrev pub count_of : SourceState → ℕ → ℕ
count_of source room = min (min room source.piece) (length source.left)

-- What a read answers. It fails exactly where its number is named, and ends where nothing is left.
abbrev pub take_of : SourceState → ℕ → Take
take_of source room =
    if fails_next source.calls then takes.Failed
    else (if length source.left == 0 then takes.End else takes.Bytes (count_of source room))

-- what a read leaves
abbrev pub after_take : Take → SourceState → SourceState
after_take (takes.Bytes n) source =
    record source { left = drop n source.left; calls = one_call_more source.calls }
after_take takes.End source = record source { calls = one_call_more source.calls }
after_take takes.Failed source =
    record source { calls = one_call_more source.calls; faults = one_more source.faults }

-- a sink in memory
pub record SinkState : Type 0 where
  -- the bytes that it holds
  pub held : List ℕ
  -- how many bytes it can hold
  pub room : ℕ
  pub calls : Calls
  pub faults : ℕ

-- a sink that holds nothing yet
abbrev pub new_sink : ℕ → List ℕ → SinkState
new_sink room failing = record { held = []; room = room; calls = no_calls failing; faults = 0 }

-- whether a piece passes the room
abbrev pub is_past : SinkState → List ℕ → Bool
is_past sink piece = nat_lt sink.room (length sink.held + length piece)

-- a write fails exactly where its number is named, or the room is passed
abbrev pub is_refused : SinkState → List ℕ → Bool
is_refused sink piece = fails_next sink.calls || is_past sink piece

-- what a write answers
abbrev pub put_of : SinkState → List ℕ → Put
put_of sink piece = if is_refused sink piece then puts.Failed else puts.Done

-- the bytes held after a write: one that is named appends nothing, and any other what fits
abbrev pub held_after : SinkState → List ℕ → List ℕ
held_after sink piece =
    if fails_next sink.calls then sink.held
    else sink.held ++ take (sink.room - length sink.held) piece

-- the faults after a write
abbrev pub faults_after : Put → ℕ → ℕ
faults_after puts.Done faults = faults
faults_after puts.Failed faults = one_more faults

-- what a write leaves
abbrev pub after_put : SinkState → List ℕ → SinkState
after_put sink piece = record sink {
  held = held_after sink piece;
  calls = one_call_more sink.calls;
  faults = faults_after (put_of sink piece) sink.faults;
}
