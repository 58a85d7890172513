-- The state that a collection stands for: nothing is in flight, dying, held, watched or connected, both
-- clocks are 0, and no event comes.
use Rattle.std.specs.Prelude.{ℕ, false, List, []}
use Rattle.std.specs.Prelude.{Option, Some, None, is_some, Result, Ok, Err}
use Rattle.mix_model.specs.declared.fault.GraphFault.{GraphFault}
use Rattle.mix_model.specs.declared.collection.Collection.{Collection}
use Rattle.mix_model.specs.declared.notes.Notes.{Notes}
use Rattle.mix_model.specs.State.{GraphState, ProgramState, StudioState, State, Rest}
use Rattle.mix_model.specs.Recordings.{no_recording}
use Rattle.mix_model.specs.Edits.{preview_set, empty_graph}
use Rattle.mix_model.specs.Causes.{cause_or}
use Rattle.mix_model.specs.Studio.{with_program}
use Rattle.mix_model.specs.Lines.{serial_named, unless, lines_done, named_scene_cause}

-- the preview of a studio that opens in studio mode
abbrev pub opening_preview : GraphState → Option (List ℕ) → Option ℕ
opening_preview g None = None
opening_preview g (Some name) = Some (serial_named g name)

-- the program rests on its scene
abbrev pub opening_program : Collection → GraphState → ProgramState
opening_program c g = record {
  shown = Rest (serial_named g c.program);
  fades = c.fade;
  duration = c.ms;
}

-- the studio over these sources
unfoldable pub opening_studio : Collection → GraphState → StudioState
opening_studio c g = with_program (opening_program c g) (record {
  graph = preview_set (opening_preview g c.studio) g;
  program = opening_program c g;
  canvas = c.canvas;
  rate = c.rate;
  i420 = c.i420;
  tracks = c.tracks;
  studio_mode = is_some c.studio;
  audio_clock = 0;
  recording = no_recording;
})

-- why the scene of the preview is refused, if it is. Behind all lines, since a collection's value doesn't
-- keep where its studio line stood; its text names only what stands above that line
abbrev pub preview_cause : GraphState → Option (List ℕ) → Option GraphFault
preview_cause g None = None
preview_cause g (Some name) = named_scene_cause g name

-- why the scenes of the preview and the program are refused, if they are
abbrev pub ends_cause : Collection → GraphState → Option GraphFault
ends_cause c g = cause_or (preview_cause g c.studio) (named_scene_cause g c.program)

abbrev pub studio_over : Collection → Result GraphState GraphFault → Result StudioState GraphFault
studio_over c (Err cause) = Err cause
studio_over c (Ok g) = unless (ends_cause c g) (Ok (opening_studio c g))

-- the studio that a collection stands for, or the first refusal of its lines
unfoldable pub opening_of : Collection → Result StudioState GraphFault
opening_of c = studio_over c (lines_done empty_graph c.lines)

-- nobody stopped, held or watched anything, or sleeps
abbrev pub no_notes : Notes
no_notes = record { stop = false; holds = []; watches = []; sleep = 0 }

-- the whole over this studio: nobody is connected, and connections count from 1
unfoldable pub opening_state : {Ask Done : Type 0} → Collection → StudioState → State Ask Done
opening_state c studio = record {
  studio = studio;
  notes = no_notes;
  secret = c.secret;
  conns = [];
  next_conn = 1;
}
