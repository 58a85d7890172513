-- the first voices are copied, and room for all of them
use Rattle.std.proofs.Common.{◌≡◌, ◌≤◌, take, length, vec_capacity}
use Rattle.mix_model.proofs.voice.copy_voices.Given as goal

abbrev pub invariant-loop-voice : goal.invariant-loop-voice
invariant-loop-voice l = record {
  items : l.copies.items ≡ take l.voice-index l.voices;
  room : length l.voices ≤ vec_capacity l.copies;
}
