use Rattle.std.proofs.Common.{codes}
use Rattle.std.proofs.lemmas.Result.{on_ok_weaker}
use Rattle.mix_events.specs.InputEvents.{track_fields}
use Rattle.mix_events.proofs.FieldLemmas.{nested, tracks_rise}
use Rattle.mix_events.proofs.inputs.with_tracks.Goals as goal

-- its fields stand in the object, which was opened and closed under the key
pub returns : goal.returns
returns c = record {
  value = on_ok_weaker c.close.result
      (nested (codes "inputAudioTracks") (track_fields c.args.tracks) c.args.out.now (tracks_rise c.args.tracks)
      c.in_ok-key.ensures.value c.in_ok-open.ensures.value c.in_ok-with_each_track.ensures.value)
      c.close.ensures.value;
}
