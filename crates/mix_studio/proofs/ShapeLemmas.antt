-- What the calls keep of what holds of every studio.
use Rattle.std.proofs.Common.{◌≡◌, ◌∙◌, ℕ, ◌+◌, ◌<◌, Bool, true, false, cond, nat_lt}
use Rattle.std.proofs.Common.{List, [], ◌∷◌, ◌++◌, Option, IsTrue, refl, ap, arith}
use Rattle.std.proofs.Common.{filter, map, take}
use Rattle.std.specs.Prelude.{slice_set}
use Rattle.std.specs.List.{list_all}
use Rattle.std.proofs.lemmas.Bool.{lt-ltb, ltb-true}
use Rattle.mix_base.specs.Rates.{is_rate}
use Rattle.mix_model.specs.Edits.{channel_set, clock_set, emptied_of, frame_held, frame_released}
use Rattle.mix_model.specs.Edits.{next_destroyed, preview_set, source_removed, without_first}
use Rattle.mix_model.specs.Lookups.{named_by}
use Rattle.mix_model.specs.Marks.{Mark, settled_by}
use Rattle.mix_model.specs.Program.{channel_of, choose_transition}
use Rattle.mix_model.specs.Sets.{has}
use Rattle.mix_model.specs.Shape.{GraphShape}
use Rattle.mix_model.specs.State.{Channel, Frame, GraphState, ProgramState, Recording, StudioState}
use Rattle.mix_model.specs.Studio.{transition_chosen, with_program}
use Rattle.mix_model.specs.Values.{is_canvas, is_duration, is_format}
use Rattle.mix_model.specs.WholeShape.{StudioShape}
use Rattle.mix_model.proofs.SetLemmas.{and_both, and_first, and_second}
use Rattle.mix_transition.specs.Shape.{BusShape}
use Rattle.mix_studio.specs.Studios.{settled_since}

-- ---- the settling leaves what the shape sees of a studio beside its sources

settled_channels : (marks : List Mark) (g : GraphState) →
    (settled_by marks g).channels ≡ g.channels
unfolding settled_by
settled_channels marks g = refl

settled_frames : (marks : List Mark) (g : GraphState) → (settled_by marks g).frames ≡ g.frames
unfolding settled_by
settled_frames marks g = refl

settled_clock : (marks : List Mark) (g : GraphState) → (settled_by marks g).clock ≡ g.clock
unfolding settled_by
settled_clock marks g = refl

-- frames in flight are of earlier ticks
abbrev pub ArePast : GraphState → Type 0
ArePast g = list_all (λ f. nat_lt f.number g.clock) g.frames ≡ true

pub past_settled : (marks : List Mark) (g : GraphState) → ArePast g → ArePast (settled_by marks g)
unfolding settled_by
past_settled marks g past = past

-- what holds of a studio whose channel 0 isn't set yet
pub record IsBase (s : StudioState) : Type 0 where
  pub first : Channel
  pub named : take 1 s.graph.channels ≡ first ∷ []
  pub past : ArePast s.graph
  pub canvas : IsTrue (is_canvas s.canvas)
  pub rate : IsTrue (is_rate s.rate)
  pub format : IsTrue (is_format s.canvas s.i420 s.tracks)

pub shaped_base : (s : StudioState) → StudioShape s → IsBase s
shaped_base s shape = record {
  first = channel_of s.program.shown;
  named = shape.program;
  past = shape.frames_past;
  canvas = shape.canvas;
  rate = shape.rate;
  format = shape.format;
}

first_set : (cs : List Channel) (c d : Channel) → take 1 cs ≡ d ∷ [] →
    take 1 (slice_set cs 0 c) ≡ c ∷ []
first_set [] c d first = cc
first_set (e ∷ cs) c d first = refl

-- channel 0 names what the program shows
pub programmed_shape : (marks : List Mark) (s : StudioState) (p : ProgramState) → IsBase s →
    BusShape p → GraphShape (settled_by marks (channel_set 0 (channel_of p.shown) s.graph)) →
    StudioShape (settled_since marks (with_program p s))
unfolding settled_by channel_set
programmed_shape marks s p base bus sources = record {
  sources = sources;
  program = first_set s.graph.channels (channel_of p.shown) base.first base.named;
  fade_running = bus.running;
  duration = bus.duration;
  frames_past = base.past;
  canvas = base.canvas;
  rate = base.rate;
  format = base.format;
}

-- ---- other sources, whose channels, frames in flight and clock are as they were

pub record IsBeside (old new : GraphState) : Type 0 where
  pub channels : new.channels ≡ old.channels
  pub frames : new.frames ≡ old.frames
  pub clock : new.clock ≡ old.clock

-- whoever edits the sources and leaves these as they are leaves the shape
pub regained_shape : (s : StudioState) (g : GraphState) → StudioShape s → GraphShape g →
    IsBeside s.graph g → StudioShape (record s { graph = g })
regained_shape s g shape sources beside = record {
  sources = sources;
  program = ap (take 1) beside.channels ∙ shape.program;
  fade_running = shape.fade_running;
  duration = shape.duration;
  frames_past =
      ap (λ clock. list_all (λ f. nat_lt f.number clock) g.frames) beside.clock
      ∙ ap (list_all (λ f. nat_lt f.number s.graph.clock)) beside.frames ∙ shape.frames_past;
  canvas = shape.canvas;
  rate = shape.rate;
  format = shape.format;
}

pub previewed_beside : (marks : List Mark) (to : Option ℕ) (g : GraphState) →
    IsBeside g (settled_by marks (preview_set to g))
unfolding settled_by preview_set
previewed_beside marks to g = record { channels = refl; frames = refl; clock = refl }

first_gone : (dying : List ℕ) (g : GraphState) → IsBeside g (without_first dying g)
first_gone [] g = record { channels = refl; frames = refl; clock = refl }
first_gone (x ∷ rest) g = record { channels = refl; frames = refl; clock = refl }

destroyed_is : (g : GraphState) → IsBeside g (next_destroyed g)
unfolding next_destroyed
destroyed_is g = first_gone g.dying g

pub destroyed_beside : (marks : List Mark) (g : GraphState) →
    IsBeside g (settled_by marks (next_destroyed g))
destroyed_beside marks g = record {
  channels = settled_channels marks (next_destroyed g) ∙ (destroyed_is g).channels;
  frames = settled_frames marks (next_destroyed g) ∙ (destroyed_is g).frames;
  clock = settled_clock marks (next_destroyed g) ∙ (destroyed_is g).clock;
}

-- ---- a frame less

kept_past : (p : Frame → Bool) (f : Frame) (rest : List Frame) (b : Bool) → p f ≡ true →
    list_all p rest ≡ true → list_all p (cond b (f ∷ rest) rest) ≡ true
kept_past p f rest true here all = and_both _ _ here all
kept_past p f rest false here all = all

fewer_past : (p q : Frame → Bool) (frames : List Frame) → list_all p frames ≡ true →
    list_all p (filter q frames) ≡ true
fewer_past p q [] all = refl
fewer_past p q (f ∷ frames) all = kept_past p f (filter q frames) (q f) (and_first _ _ all)
    (fewer_past p q frames (and_second _ _ all))

pub released_shape : (marks : List Mark) (number : ℕ) (s : StudioState) → StudioShape s →
    GraphShape (settled_by marks (frame_released number s.graph)) →
    StudioShape (record s { graph = settled_by marks (frame_released number s.graph) })
unfolding settled_by frame_released
released_shape marks number s shape sources = record {
  sources = sources;
  program = shape.program;
  fade_running = shape.fade_running;
  duration = shape.duration;
  frames_past = fewer_past (λ f. nat_lt f.number s.graph.clock) _ s.graph.frames shape.frames_past;
  canvas = shape.canvas;
  rate = shape.rate;
  format = shape.format;
}

-- ---- a frame more, and a later clock

later_past : (clock : ℕ) (frames : List Frame) (serials : List ℕ) →
    list_all (λ f. nat_lt f.number clock) frames ≡ true →
    list_all (λ f. nat_lt f.number (clock + 1))
    (frames ++ record { number = clock; serials = serials } ∷ []) ≡ true
later_past clock [] serials past = and_both _ _ (lt-ltb clock (clock + 1) (omega arith)) refl
later_past clock (f ∷ frames) serials past =
    let below : f.number < clock = ltb-true f.number clock (and_first _ _ past) in
    and_both _ _ (lt-ltb f.number (clock + 1) (omega (arith, below)))
    (later_past clock frames serials (and_second _ _ past))

-- the studio with a frame more under the clock's number, and a later clock
abbrev pub framed : Recording → StudioState → StudioState
framed recording s = record s {
  graph = clock_set (s.graph.clock + 1) (frame_held s.graph.clock s.graph);
  recording = recording;
}

pub framed_base : (recording : Recording) (s : StudioState) → StudioShape s →
    IsBase (framed recording s)
unfolding clock_set frame_held
framed_base recording s shape = record {
  first = channel_of s.program.shown;
  named = shape.program;
  past = later_past s.graph.clock s.graph.frames _ shape.frames_past;
  canvas = shape.canvas;
  rate = shape.rate;
  format = shape.format;
}

-- ---- a scene less

kept_channel : (x : ℕ) (c : Channel) (cs : List Channel) → has x (named_by c) ≡ false →
    take 1 cs ≡ c ∷ [] → take 1 (map (emptied_of x) cs) ≡ c ∷ []
kept_channel x c [] other first = cc
kept_channel x c (d ∷ cs) other first =
    let same : d ≡ c = cc in
    ap (λ e. emptied_of x e ∷ []) same ∙ rw other refl

pub removed_shape : (marks : List Mark) (x : ℕ) (s : StudioState) (p : ProgramState) →
    IsBase s → BusShape p → has x (named_by (channel_of p.shown)) ≡ false →
    GraphShape (settled_by marks (source_removed x (channel_set 0 (channel_of p.shown) s.graph))) →
    StudioShape (record s {
      program = p;
      graph = settled_by marks
          (source_removed x (channel_set 0 (channel_of p.shown) s.graph));
    })
unfolding settled_by source_removed channel_set
removed_shape marks x s p base bus other sources = record {
  sources = sources;
  program = kept_channel x (channel_of p.shown) (slice_set s.graph.channels 0 (channel_of p.shown))
      other (first_set s.graph.channels (channel_of p.shown) base.first base.named);
  fade_running = bus.running;
  duration = bus.duration;
  frames_past = base.past;
  canvas = base.canvas;
  rate = base.rate;
  format = base.format;
}

-- ---- another transition

pub chosen_shape : (fades : Bool) (ms : ℕ) (s : StudioState) → StudioShape s →
    IsTrue (is_duration ms) → StudioShape (transition_chosen fades ms s)
unfolding transition_chosen choose_transition
chosen_shape fades ms s shape range = record {
  sources = shape.sources;
  program = shape.program;
  fade_running = shape.fade_running;
  duration = range;
  frames_past = shape.frames_past;
  canvas = shape.canvas;
  rate = shape.rate;
  format = shape.format;
}
