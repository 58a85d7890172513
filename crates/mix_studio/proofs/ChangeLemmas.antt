-- What the calls leave of the whole studio. In each lemma `v` are the parts that the code has in hand,
-- and `m` is the studio that they are.
use Rattle.std.proofs.Common.{◌≡◌, ◌∙◌, ℕ, ◌+◌, ◌<◌, ◌≤◌, Bool, true, false, not}
use Rattle.std.proofs.Common.{List, [], ◌∷◌, Option, Some, None, IsTrue, refl, sym, ap, subst, arith}
use Rattle.std.proofs.Common.{Result, Ok, Err, OnOk, OnErr, is_ok, length, option_to_list}
use Rattle.std.proofs.Common.{take, ◌⊎◌, inr}
use Rattle.std.specs.Option.{option_map_or}
use mathlib.Core.Bool.{beq}
use Rattle.std.specs.Prelude.{slice_get}
use Rattle.std.specs.List.{list_all, list_any}
use Rattle.std.proofs.lemmas.Bool.{lt-ltb, le-ltb}
use Rattle.mix_model.specs.Edits.{channel_set, clock_set, frame_held, frame_released, next_destroyed}
use Rattle.mix_model.specs.Edits.{preview_set, source_removed}
use Rattle.mix_model.specs.declared.kind.Kind.{Kind}
use Rattle.mix_model.specs.declared.kind.Kind.TheVariants.{Scene, Group, Color, Checker, Scroll}
use Rattle.mix_model.specs.declared.kind.Kind.TheVariants.{Raster, Tone}
use Rattle.mix_model.specs.declared.row.Row.{Row}
use Rattle.mix_model.specs.Holders.{names}
use Rattle.mix_model.specs.Lookups.{named_by, row_of, row_passes}
use Rattle.mix_model.specs.Rows.{is_group, is_scene}
use Rattle.mix_model.specs.Marks.{GraphModel, edited, settled_by}
use Rattle.mix_model.specs.Program.{advance_program, channel_of, choose_transition, forget_scene}
use Rattle.mix_model.specs.Program.{set_program, target_of}
use Rattle.mix_model.specs.Recordings.{no_recording, picture_bytes, picture_recorded}
use Rattle.mix_model.specs.Sets.{agree, has}
use Rattle.mix_model.specs.Shape.{GraphShape}
use Rattle.mix_model.specs.State.{GraphState, ProgramState, StudioState}
use Rattle.mix_model.specs.Studio.{frame_ended, has_room, mode_preview, other_scene, picture_taken}
use Rattle.mix_model.specs.Studio.{program_set, row_destroyed, scene_previewed, scene_removed}
use Rattle.mix_model.specs.Studio.{studio_mode_set, transition_chosen}
use Rattle.mix_model.specs.Voices.{ends_of}
use Rattle.mix_model.specs.WholeShape.{StudioShape}
use Rattle.mix_graph.specs.Refused.{is_missing, is_no_other, may_be_set}
use Rattle.mix_transition.specs.Shape.{BusShape}
use Rattle.mix_studio.specs.Programs.{on_program}
use Rattle.mix_studio.specs.Studios.{StudioModel, graph_in, mode_set, studio_edited}
use Rattle.mix_studio.specs.Studios.{studio_with, tick_done, with_graph}
use Rattle.mix_studio.proofs.RemovalLemmas.{unnamed}
use Rattle.mix_studio.proofs.RemovalLemmas.{other_differs, other_listed, forgotten_scene, removed_once}
use Rattle.mix_studio.proofs.SceneLemmas.{advance_passes, forget_passes, given_by, program_listed}
use Rattle.mix_studio.proofs.SceneLemmas.{scene_passes}
use Rattle.mix_studio.proofs.SceneLemmas.{scene_is_no_other, scene_named, set_passes, target_passes}
use Rattle.mix_studio.proofs.SceneLemmas.{ends_differ, ends_may_be_set, ends_not_missing}
use Rattle.mix_studio.proofs.ShapeLemmas.{IsBeside, framed_base, programmed_shape, regained_shape}
use Rattle.mix_studio.proofs.ShapeLemmas.{destroyed_beside, previewed_beside, released_shape}
use Rattle.mix_studio.proofs.ShapeLemmas.{removed_shape, shaped_base}
use Rattle.mix_studio.proofs.TickLemmas.{ticked_once}

-- the same studio with another program
abbrev pub with_shown : StudioModel → ProgramState → StudioModel
with_shown v p = record v { present = record v.present { program = p } }

pub view_shape : (v m : StudioModel) → v ≡ m → StudioShape m.present → StudioShape v.present
view_shape v m view shape = subst (λ (n : StudioModel). StudioShape n.present) (sym view) shape

-- ---- channel 0

pub show_state : (v m : StudioModel) (h : GraphModel) (ends : ℕ × Option ℕ) → v ≡ m →
    ends ≡ ends_of v.present.program.shown →
    h ≡ edited (channel_set 0 (Some ends.0, ends.1)) (graph_in v) →
    with_graph v h ≡ studio_edited on_program m
unfolding edited studio_edited
show_state v m h ends view are is =
    ap (with_graph v) (is ∙ ap (λ c. edited (channel_set 0 c) (graph_in v))
    (given_by ends v.present.program.shown are))
    ∙ ap (studio_edited on_program) view

module _ (v m : StudioModel) (ends : ℕ × Option ℕ) (view : v ≡ m)
    (sources : GraphShape m.present.graph)
    (listed : list_all (λ x. has x m.present.graph.scenes)
    (named_by (channel_of m.present.program.shown)) ≡ true)
    (are : ends ≡ ends_of v.present.program.shown) where
  view_sources : GraphShape v.present.graph
  view_sources = subst (λ (n : StudioModel). GraphShape n.present.graph) (sym view) sources

  view_listed : list_all (λ x. has x v.present.graph.scenes)
      (named_by (channel_of v.present.program.shown)) ≡ true
  view_listed = subst (λ (n : StudioModel). list_all (λ x. has x n.present.graph.scenes)
      (named_by (channel_of n.present.program.shown)) ≡ true) (sym view) listed

  -- what the program shows may be set, and isn't missing
  pub show_given : BusShape v.present.program →
      IsTrue (may_be_set v.present.graph 0 (Some ends.0, ends.1))
  show_given bus = ends_may_be_set v.present.graph view_sources v.present.program.shown view_listed
      bus.ends ends are

  pub show_there :
      IsTrue (list_any (is_missing v.present.graph) (named_by (Some ends.0, ends.1))) →
      false ≡ true
  show_there missing = ends_not_missing v.present.graph view_sources v.present.program.shown
      view_listed ends are missing

-- ---- the program is set

module _ (v m : StudioModel) (view : v ≡ m) (p : ProgramState) (y : ℕ)
    (is : p ≡ (set_program v.present.program v.present.rate y).program) where
  pub set_listed : StudioShape m.present → has y m.present.graph.scenes ≡ true →
      IsTrue (list_all (λ x. has x v.present.graph.scenes) (named_by (channel_of p.shown)))
  set_listed shape here =
      ap (λ (q : ProgramState). list_all (λ x. has x v.present.graph.scenes)
      (named_by (channel_of q.shown))) is
      ∙ set_passes (λ x. has x v.present.graph.scenes) v.present.program v.present.rate y
      (program_listed v.present (view_shape v m view shape))
      (ap (λ (n : StudioModel). has y n.present.graph.scenes) view ∙ here)

  pub set_state : studio_edited on_program (with_shown v p) ≡ studio_edited (program_set y) m
  unfolding studio_edited program_set
  set_state = ap (λ q. studio_edited on_program (with_shown v q)) is
      ∙ ap (studio_edited (program_set y)) view

set_shape_of : (m : StudioModel) (y : ℕ) → StudioShape m.present →
    BusShape (studio_edited (program_set y) m).present.program →
    GraphShape (studio_edited (program_set y) m).present.graph →
    StudioShape (studio_edited (program_set y) m).present
unfolding studio_edited program_set
set_shape_of m y shape bus sources = programmed_shape m.begun m.present
    (set_program m.present.program m.present.rate y).program (shaped_base m.present shape) bus
    sources

pub set_shape : (m new : StudioModel) (y : ℕ) → new ≡ studio_edited (program_set y) m →
    StudioShape m.present → BusShape new.present.program → GraphShape new.present.graph →
    StudioShape new.present
set_shape m new y is shape bus sources =
    subst (λ (n : StudioModel). StudioShape n.present) (sym is) (set_shape_of m y shape
    (subst (λ (n : StudioModel). BusShape n.present.program) is bus)
    (subst (λ (n : StudioModel). GraphShape n.present.graph) is sources))

-- ---- the preview

-- where it isn't in the mode yet
abbrev pub with_mode : StudioModel → Bool → StudioModel
with_mode v enabled = record v { present = record v.present { studio_mode = enabled } }

mode_differs : (m : StudioModel) (enabled : Bool) → agree enabled m.present.studio_mode ≡ false →
    mode_set enabled m ≡ with_graph (with_mode m enabled)
    (edited (preview_set (mode_preview enabled m.present)) (graph_in m))
unfolding mode_set studio_edited studio_mode_set edited
mode_differs m enabled other = rw other refl

pub mode_state : (v m : StudioModel) (h : GraphModel) (enabled : Bool) (to : Option ℕ) → v ≡ m →
    agree enabled m.present.studio_mode ≡ false → to ≡ mode_preview enabled v.present →
    h ≡ edited (preview_set to) (graph_in v) →
    with_graph (with_mode v enabled) h ≡ mode_set enabled m
mode_state v m h enabled to view other to_is is =
    ap (with_graph (with_mode v enabled))
    (is ∙ ap (λ t. edited (preview_set t) (graph_in v)) to_is)
    ∙ ap (λ (n : StudioModel). with_graph (with_mode n enabled)
    (edited (preview_set (mode_preview enabled n.present)) (graph_in n))) view
    ∙ sym (mode_differs m enabled other)

pub mode_same : (m : StudioModel) (enabled : Bool) → agree enabled m.present.studio_mode ≡ true →
    m ≡ mode_set enabled m
unfolding mode_set
mode_same m enabled same = rw same refl

pub preview_state : (v m : StudioModel) (h : GraphModel) (y : ℕ) → v ≡ m →
    h ≡ edited (preview_set (Some y)) (graph_in v) →
    with_graph v h ≡ studio_edited (scene_previewed y) m
unfolding studio_edited scene_previewed edited
preview_state v m h y view is = ap (with_graph v) is ∙ ap (studio_edited (scene_previewed y)) view

-- what the preview is set to is a scene, or nothing
pub target_listed : (s : StudioState) → StudioShape s →
    has (target_of s.program.shown) s.graph.scenes ≡ true
target_listed s shape = target_passes (λ x. has x s.graph.scenes) s.program.shown
    (program_listed s shape)

pub preview_fits : (s : StudioState) → StudioShape s → (y : ℕ) →
    has y s.graph.scenes ≡ true → IsTrue (list_all (is_no_other s.graph) (option_to_list (Some y)))
preview_fits s shape y here = rw (scene_is_no_other s.graph shape.sources y here) refl

pub preview_there : (s : StudioState) → StudioShape s → (y : ℕ) →
    has y s.graph.scenes ≡ true →
    IsTrue (list_any (is_missing s.graph) (option_to_list (Some y))) → false ≡ true
preview_there s shape y here missing =
    let named : not true ≡ true =
    sym (rw (scene_named s.graph shape.sources y here) refl) ∙ missing in named

pub mode_fits : (s : StudioState) → StudioShape s → (enabled : Bool) →
    IsTrue (list_all (is_no_other s.graph) (option_to_list (mode_preview enabled s)))
mode_fits s shape true = preview_fits s shape (target_of s.program.shown) (target_listed s shape)
mode_fits s shape false = refl

pub mode_there : (s : StudioState) → StudioShape s → (enabled : Bool) →
    IsTrue (list_any (is_missing s.graph) (option_to_list (mode_preview enabled s))) →
    false ≡ true
mode_there s shape true missing =
    preview_there s shape (target_of s.program.shown) (target_listed s shape) missing
mode_there s shape false missing = missing

-- another preview leaves the shape
pub preview_shape : (v m : StudioModel) (h : GraphModel) (to : Option ℕ) (mode : Bool) → v ≡ m →
    h ≡ edited (preview_set to) (graph_in v) → StudioShape m.present → GraphShape h.present →
    StudioShape (with_graph (with_mode v mode) h).present
unfolding edited
preview_shape v m h to mode view is shape sources =
    let was : StudioShape v.present = view_shape v m view shape in
    let kept : StudioShape (record v.present { graph = h.present }) =
    regained_shape v.present h.present was sources
    (subst (λ (k : GraphModel). IsBeside v.present.graph k.present) (sym is)
    (previewed_beside v.begun to v.present.graph)) in
    record {
      sources = kept.sources;
      program = kept.program;
      fade_running = kept.fade_running;
      duration = kept.duration;
      frames_past = kept.frames_past;
      canvas = kept.canvas;
      rate = kept.rate;
      format = kept.format;
    }

-- ---- a frame is given back, and a row is destroyed

pub released_state : (v m : StudioModel) (h : GraphModel) (number : ℕ) → v ≡ m →
    h ≡ edited (frame_released number) (graph_in v) →
    with_graph v h ≡ studio_edited (frame_ended number) m
unfolding studio_edited frame_ended edited
released_state v m h number view is =
    ap (with_graph v) is ∙ ap (studio_edited (frame_ended number)) view

pub released_keeps : (v m : StudioModel) (h : GraphModel) (number : ℕ) → v ≡ m →
    h ≡ edited (frame_released number) (graph_in v) → StudioShape m.present →
    GraphShape h.present → StudioShape (with_graph v h).present
unfolding edited
released_keeps v m h number view is shape sources =
    let was : StudioShape v.present = view_shape v m view shape in
    subst (λ (k : GraphModel). StudioShape (with_graph v k).present) (sym is)
    (released_shape v.begun number v.present was
    (subst (λ (k : GraphModel). GraphShape k.present) is sources))

pub destroyed_state : (v m : StudioModel) (h : GraphModel) → v ≡ m →
    h ≡ edited next_destroyed (graph_in v) →
    with_graph v h ≡ studio_edited row_destroyed m
unfolding studio_edited row_destroyed edited
destroyed_state v m h view is = ap (with_graph v) is ∙ ap (studio_edited row_destroyed) view

pub destroyed_keeps : (v m : StudioModel) (h : GraphModel) → v ≡ m →
    h ≡ edited next_destroyed (graph_in v) → StudioShape m.present →
    GraphShape h.present → StudioShape (with_graph v h).present
unfolding edited
destroyed_keeps v m h view is shape sources =
    regained_shape v.present h.present (view_shape v m view shape) sources
    (subst (λ (k : GraphModel). IsBeside v.present.graph k.present) (sym is)
    (destroyed_beside v.begun v.present.graph))

-- ---- a scene is removed

-- a scene is no group
scene_no_group : (kind : Kind) → is_scene kind ≡ true → not (is_group kind) ≡ true
scene_no_group Scene is = refl
scene_no_group Group is = cc
scene_no_group Color is = cc
scene_no_group Checker is = cc
scene_no_group Scroll is = cc
scene_no_group Raster is = cc
scene_no_group Tone is = cc

no_group : (o : Option Row) → option_map_or (λ (r : Row). is_scene r.kind) o false ≡ true →
    option_map_or (λ (r : Row). not (is_group r.kind)) o false ≡ true
no_group None is = cc
no_group (Some r) is = scene_no_group r.kind is

module _ (v m : StudioModel) (view : v ≡ m) (shape : StudioShape m.present) (x other : ℕ)
    (two : 2 ≤ length m.present.graph.scenes) (p : ProgramState)
    (other_is : other ≡ other_scene x v.present.graph)
    (is : p ≡ (forget_scene v.present.program x other).program) where
  was_shaped : StudioShape v.present
  was_shaped = view_shape v m view shape

  two_scenes : 2 ≤ length v.present.graph.scenes
  two_scenes = subst (λ (n : StudioModel). 2 ≤ length n.present.graph.scenes) (sym view) two

  pub forgot_listed :
      IsTrue (list_all (λ y. has y v.present.graph.scenes) (named_by (channel_of p.shown)))
  forgot_listed =
      ap (λ (q : ProgramState). list_all (λ y. has y v.present.graph.scenes)
      (named_by (channel_of q.shown))) is
      ∙ forget_passes (λ y. has y v.present.graph.scenes) v.present.program x other
      (program_listed v.present was_shaped)
      (ap (λ z. has z v.present.graph.scenes) other_is
      ∙ other_listed v.present.graph was_shaped.sources x two_scenes)

  pub forgot_is : p ≡ (forget_scene m.present.program x (other_scene x m.present.graph)).program
  forgot_is = is
      ∙ ap (λ z. (forget_scene v.present.program x z).program) other_is
      ∙ ap (λ (n : StudioModel). (forget_scene n.present.program x
      (other_scene x n.present.graph)).program) view

  -- channel 0 doesn't name it then
  pub forgot_unnamed : has x (named_by (channel_of p.shown)) ≡ false
  forgot_unnamed = ap (λ (q : ProgramState). has x (named_by (channel_of q.shown))) forgot_is
      ∙ forgotten_scene m.present.program x (other_scene x m.present.graph)
      (ends_differ m.present shape)
      (other_differs m.present.graph shape.sources x two)

  -- once channel 0 is set the scene may be removed
  module _ (w : StudioModel) (shown : w ≡ studio_edited on_program (with_shown v p))
      (here : has x m.present.graph.scenes ≡ true) (sources : GraphShape w.present.graph) where
    shown_scenes : w.present.graph.scenes ≡ v.present.graph.scenes
    unfolding studio_edited settled_by channel_set
    shown_scenes = ap (λ (n : StudioModel). n.present.graph.scenes) shown

    still_here : has x w.present.graph.scenes ≡ true
    still_here = ap (has x) shown_scenes
        ∙ ap (λ (n : StudioModel). has x n.present.graph.scenes) view ∙ here

    pub remove_sort : IsTrue (is_missing w.present.graph x)
        ⊎ IsTrue (row_passes w.present.graph (λ r. not (is_group r.kind)) x)
    remove_sort = inr (no_group (row_of w.present.graph x)
        (scene_passes w.present.graph sources x still_here))

    pub remove_there : IsTrue (is_missing w.present.graph x) → false ≡ true
    remove_there missing =
        sym (ap not (scene_named w.present.graph sources x still_here)) ∙ missing

    pub remove_unnamed :
        IsTrue (not (list_any (names x) (take 1 w.present.graph.channels)))
    unfolding studio_edited
    remove_unnamed = subst (λ (n : StudioModel).
        not (list_any (names x) (take 1 n.present.graph.channels)) ≡ true) (sym shown)
        (unnamed v.begun x v.present.graph (channel_of p.shown)
        (channel_of v.present.program.shown) was_shaped.program forgot_unnamed)

  pub removed_state : (w : StudioModel) (h : GraphModel) →
      w ≡ studio_edited on_program (with_shown v p) →
      h ≡ edited (source_removed x) (graph_in w) →
      with_graph w h ≡ studio_edited (scene_removed x) m
  unfolding studio_edited scene_removed edited
  removed_state w h shown gone =
      let q : ProgramState =
      (forget_scene m.present.program x (other_scene x m.present.graph)).program in
      let w_is : w ≡ studio_edited on_program (with_shown m q) =
      shown ∙ ap (λ r. studio_edited on_program (with_shown v r)) forgot_is
      ∙ ap (λ n. studio_edited on_program (with_shown n q)) view in
      ap (with_graph w) gone
      ∙ ap (λ n. with_graph n (edited (source_removed x) (graph_in n))) w_is
      ∙ ap (λ g. let n : StudioModel = record m {
        present = record m.present { program = q; graph = g };
      } in n) (removed_once m.begun x (channel_of q.shown) m.present.graph shape.sources)

  pub removed_keeps : (new : StudioModel) → new ≡ studio_edited (scene_removed x) m →
      BusShape new.present.program → GraphShape new.present.graph → StudioShape new.present
  unfolding studio_edited scene_removed
  removed_keeps new made bus sources =
      let q : ProgramState =
      (forget_scene m.present.program x (other_scene x m.present.graph)).program in
      subst (λ (n : StudioModel). StudioShape n.present) (sym made)
      (removed_shape m.begun x m.present q (shaped_base m.present shape)
      (subst (λ (n : StudioModel). BusShape n.present.program) made bus)
      (ap (λ (r : ProgramState). has x (named_by (channel_of r.shown))) (sym forgot_is)
      ∙ forgot_unnamed)
      (subst (λ (n : StudioModel). GraphShape n.present.graph) made sources))

-- ---- a picture is taken

module _ (v m : StudioModel) (view : v ≡ m) (shape : StudioShape m.present) (p : ProgramState)
    (is : p ≡ (advance_program v.present.program).program)
    (recording : v.present.recording ≡ no_recording) where
  -- the sources on which the program goes on
  abbrev pub clocked : GraphState
  clocked = settled_by v.begun (clock_set (v.present.graph.clock + 1)
      (settled_by v.begun (frame_held v.present.graph.clock v.present.graph)))

  taken_is : studio_edited picture_taken v ≡ record v {
    present = record v.present {
      program = (advance_program v.present.program).program;
      graph = settled_by v.begun (channel_set 0
          (channel_of (advance_program v.present.program).program.shown)
          (clock_set (v.present.graph.clock + 1)
          (frame_held v.present.graph.clock v.present.graph)));
      recording = picture_recorded (picture_bytes v.present) v.present.recording;
    };
  }
  unfolding studio_edited picture_taken
  taken_is = refl

  none_recorded : picture_recorded (picture_bytes v.present) v.present.recording
      ≡ v.present.recording
  unfolding picture_recorded
  none_recorded = ap (picture_recorded (picture_bytes v.present)) recording ∙ sym recording

  shown_is : (g : GraphModel) → g.begun ≡ v.begun → g.present ≡ clocked →
      studio_edited on_program (with_graph (with_shown v p) g) ≡ record v {
        present = record v.present {
          program = (advance_program v.present.program).program;
          graph = settled_by v.begun (channel_set 0
              (channel_of (advance_program v.present.program).program.shown) clocked);
        };
      }
  unfolding studio_edited
  shown_is g begun present =
      let q : ProgramState = (advance_program v.present.program).program in
      ap (λ r. studio_edited on_program (with_graph (with_shown v r) g)) is
      ∙ ap (λ b. let n : StudioModel = record {
        begun = b;
        present = record v.present {
          program = q;
          graph = settled_by b (channel_set 0 (channel_of q.shown) g.present);
        };
      } in n) begun
      ∙ ap (λ h. let n : StudioModel = record v {
        present = record v.present {
          program = q;
          graph = settled_by v.begun (channel_set 0 (channel_of q.shown) h);
        };
      } in n) present

  pub taken_state : (g : GraphModel) → g.begun ≡ v.begun → g.present ≡ clocked →
      studio_edited on_program (with_graph (with_shown v p) g) ≡ studio_edited picture_taken m
  taken_state g begun present =
      let q : ProgramState = (advance_program v.present.program).program in
      shown_is g begun present
      ∙ ap (λ h. let n : StudioModel = record v {
        present = record v.present { program = q; graph = h };
      } in n) (ticked_once v.begun v.present.graph (view_shape v m view shape).sources
      v.present.graph.clock (v.present.graph.clock + 1) (channel_of q.shown))
      ∙ ap (λ r. let n : StudioModel = record v {
        present = record v.present {
          program = q;
          graph = settled_by v.begun (channel_set 0 (channel_of q.shown)
              (clock_set (v.present.graph.clock + 1)
              (frame_held v.present.graph.clock v.present.graph)));
          recording = r;
        };
      } in n) (sym none_recorded)
      ∙ sym taken_is ∙ ap (studio_edited picture_taken) view

taken_shape_of : (m : StudioModel) → StudioShape m.present →
    BusShape (studio_edited picture_taken m).present.program →
    GraphShape (studio_edited picture_taken m).present.graph →
    StudioShape (studio_edited picture_taken m).present
unfolding studio_edited picture_taken
taken_shape_of m shape bus sources = programmed_shape m.begun
    (record m.present {
      graph = clock_set (m.present.graph.clock + 1)
          (frame_held m.present.graph.clock m.present.graph);
      recording = picture_recorded (picture_bytes m.present) m.present.recording;
    }) (advance_program m.present.program).program
    (framed_base (picture_recorded (picture_bytes m.present) m.present.recording) m.present shape)
    bus sources

pub taken_shape : (m new : StudioModel) → new ≡ studio_edited picture_taken m →
    StudioShape m.present → BusShape new.present.program → GraphShape new.present.graph →
    StudioShape new.present
taken_shape m new is shape bus sources =
    subst (λ (n : StudioModel). StudioShape n.present) (sym is) (taken_shape_of m shape
    (subst (λ (n : StudioModel). BusShape n.present.program) is bus)
    (subst (λ (n : StudioModel). GraphShape n.present.graph) is sources))

-- what the program shows is in the registry of the sources whose clock rises
pub tick_listed : (v m : StudioModel) (p : ProgramState) (scenes : List ℕ) → v ≡ m →
    StudioShape m.present → p ≡ (advance_program v.present.program).program →
    scenes ≡ v.present.graph.scenes →
    IsTrue (list_all (λ y. has y scenes) (named_by (channel_of p.shown)))
tick_listed v m p scenes view shape is same =
    ap (λ xs. list_all (λ y. has y xs) (named_by (channel_of p.shown))) same
    ∙ ap (λ (q : ProgramState). list_all (λ y. has y v.present.graph.scenes)
    (named_by (channel_of q.shown))) is
    ∙ advance_passes (λ y. has y v.present.graph.scenes) v.present.program
    (program_listed v.present (view_shape v m view shape))

-- whether there is room
pub room_left : (m : StudioModel) → length m.present.graph.frames < 4 →
    has_room m.present ≡ true
room_left m few = lt-ltb (length m.present.graph.frames) 4 few

pub no_room : (m : StudioModel) → 4 ≤ length m.present.graph.frames → has_room m.present ≡ false
no_room m many = le-ltb (length m.present.graph.frames) 4 many

pub tick_taken : (m : StudioModel) → has_room m.present ≡ true →
    tick_done m ≡ studio_edited picture_taken m
unfolding tick_done
tick_taken m room = rw room refl

pub tick_refused : (m : StudioModel) → has_room m.present ≡ false → tick_done m ≡ m
unfolding tick_done
tick_refused m full = rw full refl

-- ---- the same at the parts in hand

module _ (v m : StudioModel) (view : v ≡ m) (shape : StudioShape m.present) where
  pub scene_fits : (y : ℕ) → has y m.present.graph.scenes ≡ true →
      IsTrue (list_all (is_no_other v.present.graph) (option_to_list (Some y)))
  scene_fits y here = preview_fits v.present (view_shape v m view shape) y
      (ap (λ (n : StudioModel). has y n.present.graph.scenes) view ∙ here)

  pub scene_there : (y : ℕ) → has y m.present.graph.scenes ≡ true →
      IsTrue (list_any (is_missing v.present.graph) (option_to_list (Some y))) → false ≡ true
  scene_there y here missing = preview_there v.present (view_shape v m view shape) y
      (ap (λ (n : StudioModel). has y n.present.graph.scenes) view ∙ here) missing

  pub target_fits : (enabled : Bool) (to : Option ℕ) → to ≡ mode_preview enabled m.present →
      IsTrue (list_all (is_no_other v.present.graph) (option_to_list to))
  target_fits enabled to is =
      ap (λ t. list_all (is_no_other v.present.graph) (option_to_list t))
      (is ∙ ap (λ (n : StudioModel). mode_preview enabled n.present) (sym view))
      ∙ mode_fits v.present (view_shape v m view shape) enabled

  pub target_there : (enabled : Bool) (to : Option ℕ) → to ≡ mode_preview enabled m.present →
      IsTrue (list_any (is_missing v.present.graph) (option_to_list to)) → false ≡ true
  target_there enabled to is missing = mode_there v.present (view_shape v m view shape) enabled
      (sym (ap (λ t. list_any (is_missing v.present.graph) (option_to_list t))
      (is ∙ ap (λ (n : StudioModel). mode_preview enabled n.present) (sym view))) ∙ missing)

  -- a frame that is there is given back, and else nothing changes
  pub frame_keeps : {A E : Type 0} (r : Result A E) (h : GraphModel) (number : ℕ) →
      OnOk r (h ≡ edited (frame_released number) (graph_in v)) → OnErr r (h ≡ graph_in v) →
      GraphShape h.present → StudioShape (with_graph v h).present
  frame_keeps (Ok value) h number ok err sources =
      released_keeps v m h number view ok shape sources
  frame_keeps (Err fault) h number ok err sources =
      subst (λ k. StudioShape (with_graph v k).present) (sym err) (view_shape v m view shape)

pub ok_there : {A E : Type 0} (r : Result A E) (b : Bool) (P : Type 0) → OnOk r P → b ≡ is_ok r →
    b ≡ true → P
ok_there (Ok value) b P ok is there = ok
ok_there (Err fault) b P ok is there = cc

-- ---- the transition is chosen

pub chosen_state : (v m : StudioModel) (p q : ProgramState) (fades : Bool) (ms : ℕ) → v ≡ m →
    p ≡ record v.present.program { fades = fades } → q ≡ record p { duration = ms } →
    with_shown v q ≡ studio_with (transition_chosen fades ms) m
unfolding transition_chosen choose_transition
chosen_state v m p q fades ms view first second =
    ap (with_shown v) (second ∙ ap (λ (r : ProgramState). record r { duration = ms }) first)
    ∙ ap (studio_with (transition_chosen fades ms)) view

-- ---- the first row that dies

pub none_dies : (dying : List ℕ) (r : Option ℕ) → r ≡ slice_get dying 0 → r ≡ None →
    length dying ≡ 0
none_dies [] r is none = refl
none_dies (x ∷ dying) r is none = cc

-- ---- tests of the mode

agrees : (enabled mode : Bool) → beq mode enabled ≡ true → agree enabled mode ≡ true
agrees true true is = refl
agrees true false is = cc
agrees false true is = cc
agrees false false is = refl

differs : (enabled mode : Bool) → beq mode enabled ≡ false → agree enabled mode ≡ false
differs true true is = cc
differs true false is = refl
differs false true is = refl
differs false false is = cc

pub mode_agrees : (v m : StudioModel) → v ≡ m → (enabled : Bool) →
    beq v.present.studio_mode enabled ≡ true → agree enabled m.present.studio_mode ≡ true
mode_agrees v m view enabled is =
    ap (λ (n : StudioModel). agree enabled n.present.studio_mode) (sym view)
    ∙ agrees enabled v.present.studio_mode is

pub mode_is_other : (v m : StudioModel) → v ≡ m → (enabled : Bool) →
    beq v.present.studio_mode enabled ≡ false → agree enabled m.present.studio_mode ≡ false
mode_is_other v m view enabled is =
    ap (λ (n : StudioModel). agree enabled n.present.studio_mode) (sym view)
    ∙ differs enabled v.present.studio_mode is

pub viewed_preview : (v m : StudioModel) → v ≡ m → (enabled : Bool) (to : Option ℕ) →
    to ≡ mode_preview enabled m.present → to ≡ mode_preview enabled v.present
viewed_preview v m view enabled to is =
    is ∙ ap (λ (n : StudioModel). mode_preview enabled n.present) (sym view)

pub view_sources_of : (v m : StudioModel) → v ≡ m → GraphShape m.present.graph →
    GraphShape v.present.graph
view_sources_of v m view sources =
    subst (λ (n : StudioModel). GraphShape n.present.graph) (sym view) sources

pub view_bus_of : (v m : StudioModel) → v ≡ m → BusShape m.present.program →
    BusShape v.present.program
view_bus_of v m view bus = subst (λ (n : StudioModel). BusShape n.present.program) (sym view) bus

-- ---- room, by the parts in hand

pub room_by : (v m : StudioModel) (n : ℕ) → v ≡ m → n ≡ length v.present.graph.frames → n < 4 →
    has_room m.present ≡ true
room_by v m n view is few =
    let count : length m.present.graph.frames ≡ n =
    sym (is ∙ ap (λ (k : StudioModel). length k.present.graph.frames) view) in
    room_left m (omega (arith, count, few))

pub full_by : (v m : StudioModel) (n : ℕ) → v ≡ m → n ≡ length v.present.graph.frames → 4 ≤ n →
    has_room m.present ≡ false
full_by v m n view is many =
    let count : length m.present.graph.frames ≡ n =
    sym (is ∙ ap (λ (k : StudioModel). length k.present.graph.frames) view) in
    no_room m (omega (arith, count, many))
