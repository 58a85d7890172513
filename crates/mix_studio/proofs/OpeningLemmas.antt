-- The studio that a collection opens.
use Rattle.std.proofs.Common.{◌≡◌, ◌≢◌, ◌∙◌, ℕ, ◌+◌, ◌≤◌, ◌==◌, Bool, true, false, not, ◌||◌}
use Rattle.std.proofs.Common.{List, [], ◌∷◌, Option, Some, None, option_to_list, IfSome, IsTrue}
use Rattle.std.proofs.Common.{IsErr, OnOk, ◌↔◌, Result, Ok, Err, is_some, refl, sym, ap, subst}
use Rattle.std.proofs.Common.{take, length, get_or, arith, nat_lt}
use Rattle.std.proofs.lemmas.Bool.{leb-true}
use Rattle.std.proofs.lemmas.List.Sums.{get_or-le-sum_by}
use Rattle.std.specs.Prelude.{slice_set}
use Rattle.std.specs.List.{list_all, list_any}
use Rattle.mix_model.specs.declared.collection.Collection.{Collection}
use Rattle.mix_model.specs.declared.collection.Line.{Line}
use Rattle.mix_model.specs.declared.collection.Line.TheVariants.{Sound as SoundLine}
use Rattle.mix_model.specs.declared.fault.GraphFault.{GraphFault}
use Rattle.mix_model.specs.declared.fault.GraphFault.TheVariants.{NoMemory}
use Rattle.mix_model.specs.declared.place.Sound.{Sound}
use Rattle.mix_model.specs.declared.row.Row.{Row}
use Rattle.mix_model.specs.Causes.{cause_or, item_count}
use Rattle.mix_model.specs.Edits.{channel_set, empty_graph, group_created, input_created}
use Rattle.mix_model.specs.Edits.{input_set, item_added, preview_set, scene_created}
use Rattle.mix_model.specs.Fitting.{IsFitting}
use Rattle.mix_model.specs.Holders.{is_held, is_named_row}
use Rattle.mix_model.specs.Lines.{line_cause, line_done, lines_done, named_scene_cause, row_called}
use Rattle.mix_model.specs.Lines.{serial_named, sound_set, unless}
use Rattle.mix_model.specs.Lookups.{named_by}
use Rattle.mix_model.specs.Marks.{GraphModel, actions_begun, edited, marks_of}
use Rattle.mix_model.specs.Opening.{ends_cause, opening_of, opening_preview}
use Rattle.mix_model.specs.Opening.{opening_studio, preview_cause, studio_over}
use Rattle.mix_model.specs.Shape.{GraphShape}
use Rattle.mix_model.specs.Recordings.{no_recording}
use Rattle.mix_model.specs.State.{Channel, Frame, GraphState, Hold, ProgramState, Recording}
use Rattle.mix_model.specs.State.{StudioState, Watch}
use Rattle.mix_model.specs.WholeShape.{StudioShape}
use Rattle.mix_model.proofs.SetLemmas.{and_both, or_right}
use Rattle.mix_graph.specs.Refused.{is_missing, is_no_other, may_be_set}
use Rattle.mix_studio.specs.Openings.{IsCause, IsFresh, IsLeft, IsLow, IsRefusal, IsScene, bus_of}
use Rattle.mix_studio.specs.Openings.{ends_set}
use Rattle.mix_studio.proofs.FreshLemmas.{channel_fresh, left_by, preview_fresh}
use Rattle.mix_studio.proofs.SceneLemmas.{left_where_ok}

-- ---- the collection is refused

-- what is told is the first refusal
pub refusal_is : {A : Type 0} (r : Result A GraphFault) (fault : GraphFault) → fault ≢ NoMemory →
    IsRefusal r fault → r ≡ Err fault
refusal_is r NoMemory other is = absurd (other refl)
refusal_is r _ other is = is

over_refusal : (c : Collection) (r : Result GraphState GraphFault) (fault : GraphFault) →
    IsRefusal r fault → IsRefusal (studio_over c r) fault
over_refusal c r NoMemory is = tt
over_refusal c r _ is = ap (studio_over c) is

-- for a line
pub line_refuses : (c : Collection) (fault : GraphFault) →
    IsRefusal (lines_done empty_graph c.lines) fault → IsRefusal (opening_of c) fault
unfolding opening_of
line_refuses c fault is = over_refusal c (lines_done empty_graph c.lines) fault is

unless_refusal : {A : Type 0} (r : Result A GraphFault) (cause : Option GraphFault)
    (more : Result A GraphFault) (fault : GraphFault) → r ≡ unless cause more →
    IsCause cause fault → IsRefusal r fault
unless_refusal r cause more NoMemory is told = tt
unless_refusal r cause more _ is told = is ∙ ap (λ o. unless o more) told

early_told : (early late : Option GraphFault) (fault : GraphFault) → IsCause early fault →
    IsCause (cause_or early late) fault
early_told early late NoMemory told = tt
early_told early late _ told = ap (λ o. cause_or o late) told

module _ (c : Collection) (g : GraphState) (done : lines_done empty_graph c.lines ≡ Ok g) where
  opening_is : opening_of c ≡ unless (ends_cause c g) (Ok (opening_studio c g))
  unfolding opening_of
  opening_is = ap (studio_over c) done

  -- for its preview
  pub preview_refuses : (fault : GraphFault) → IsCause (preview_cause g c.studio) fault →
      IsRefusal (opening_of c) fault
  preview_refuses fault told = unless_refusal (opening_of c) (ends_cause c g)
      (Ok (opening_studio c g)) fault opening_is
      (early_told (preview_cause g c.studio) (named_scene_cause g c.program) fault told)

  -- or for its program, and else it opens
  module _ (none : preview_cause g c.studio ≡ None) where
    ends_are : ends_cause c g ≡ named_scene_cause g c.program
    ends_are = ap (λ o. cause_or o (named_scene_cause g c.program)) none

    opening_as : opening_of c ≡ unless (named_scene_cause g c.program) (Ok (opening_studio c g))
    opening_as = opening_is ∙ ap (λ o. unless o (Ok (opening_studio c g))) ends_are

    pub program_refuses : (fault : GraphFault) → IsCause (named_scene_cause g c.program) fault →
        IsRefusal (opening_of c) fault
    program_refuses fault told = unless_refusal (opening_of c) (named_scene_cause g c.program)
        (Ok (opening_studio c g)) fault opening_as told

    pub opens_with : named_scene_cause g c.program ≡ None → opening_of c ≡ Ok (opening_studio c g)
    opens_with named = opening_as ∙ ap (λ o. unless o (Ok (opening_studio c g))) named

-- ---- setting the ends

-- it is a scene beside a preview too
pub scene_beside : (to : Option ℕ) (g : GraphState) (x : ℕ) → IsScene g x →
    IsScene (preview_set to g) x
unfolding preview_set is_named_row is_held
scene_beside to g x is = record { named = is.named; scene = is.scene }

pub none_missing : (g : GraphState) (to : Option ℕ) → IfSome to (IsScene g) →
    IsTrue (list_any (is_missing g) (option_to_list to)) → false ≡ true
none_missing g None is missing = missing
none_missing g (Some x) is missing = sym (ap (λ b. not b || false) is.named) ∙ missing

pub all_scenes : (g : GraphState) (to : Option ℕ) → IfSome to (IsScene g) →
    IsTrue (list_all (is_no_other g) (option_to_list to))
all_scenes g None is = refl
all_scenes g (Some x) is = and_both _ _ (or_right _ _ is.scene) refl

pub scene_may_be_set : (g : GraphState) (x : ℕ) → IsScene g x →
    IsTrue (may_be_set g 0 (Some x, None))
scene_may_be_set g x is = and_both _ _ (or_right _ _ is.scene) refl

pub preview_left : (m new : GraphModel) (to : Option ℕ) → IsFresh m →
    new ≡ edited (preview_set to) m → IsLeft (preview_set to m.present) new
preview_left m new to fresh made =
    left_by m new (preview_set to) fresh (preview_fresh m fresh to) made

-- where the calls aren't refused
module _ {A E : Type 0} (m new : GraphModel) (r : Result A E) where
  pub previewed : (to : Option ℕ) → IsFresh m → IfSome to (IsScene m.present) →
      OnOk r (new ≡ edited (preview_set to) m) →
      IsErr r ↔ IsTrue (list_any (is_missing m.present) (option_to_list to)) →
      IsLeft (preview_set to m.present) new
  previewed to fresh scene ok missing = preview_left m new to fresh (left_where_ok r _ ok
      (λ err. none_missing m.present to scene (missing.0 err)))

  pub set_on : (x : ℕ) → IsScene m.present x →
      OnOk r (new ≡ edited (channel_set 0 (Some x, None)) m) →
      IsErr r ↔ IsTrue (list_any (is_missing m.present) (named_by (Some x, None))) →
      new ≡ edited (channel_set 0 (Some x, None)) m
  set_on x scene ok missing = left_where_ok r _ ok
      (λ err. none_missing m.present (Some x) scene (missing.0 err))

pub ends_left : (g : GraphState) (m new : GraphModel) (x : ℕ) → IsLeft g m →
    new ≡ edited (channel_set 0 (Some x, None)) m → IsLeft (channel_set 0 (Some x, None) g) new
ends_left g m new x left made =
    subst (λ h. IsLeft (channel_set 0 (Some x, None) h) new) left.present
    (left_by m new (channel_set 0 (Some x, None)) left.fresh
    (channel_fresh m left.fresh 0 (Some x, None)) made)

-- the program's scene is one beside the preview that was set
pub scene_left : (g : GraphState) (m : GraphModel) (to : Option ℕ) (x : ℕ) →
    IsLeft (preview_set to g) m → IsScene g x → IsScene m.present x
scene_left g m to x left is =
    subst (λ h. IsScene h x) (sym left.present) (scene_beside to g x is)

pub marks_begun : (m new : GraphModel) → new ≡ actions_begun m →
    new.begun ≡ marks_of new.present
unfolding actions_begun
marks_begun m new begins = ap (λ (n : GraphModel). n.begun) begins
    ∙ ap marks_of (sym (ap (λ (n : GraphModel). n.present) begins))

pub present_begun : (m new : GraphModel) (g : GraphState) → IsLeft g m →
    new ≡ actions_begun m → new.present ≡ g
unfolding actions_begun
present_begun m new g left begins = ap (λ (n : GraphModel). n.present) begins ∙ left.present

-- ---- the studio

first_set : (cs : List Channel) (c : Channel) → (length (slice_set cs 0 c) == 64) ≡ true →
    take 1 (slice_set cs 0 c) ≡ c ∷ []
first_set [] c long = cc
first_set (d ∷ cs) c long = refl

-- a studio of these parts, with the rest of a collection
abbrev pub parts_of : Collection → GraphState → ProgramState → Bool → Recording → StudioState
parts_of c h bus mode recording = record {
  graph = h;
  program = bus;
  canvas = c.canvas;
  rate = c.rate;
  i420 = c.i420;
  tracks = c.tracks;
  studio_mode = mode;
  audio_clock = 0;
  recording = recording;
}

module _ (c : Collection) (g h : GraphState) (to : Option ℕ) (x : ℕ)
    (to_is : to ≡ opening_preview g c.studio) (x_is : x ≡ serial_named g c.program)
    (made : h ≡ ends_set to x g) (bus : ProgramState) (mode : Bool) (recording : Recording)
    (bus_is : bus ≡ bus_of c x) (mode_is : mode ≡ is_some c.studio)
    (none : recording ≡ no_recording) where
  sources_are : h ≡ ends_set (opening_preview g c.studio) (serial_named g c.program) g
  sources_are = made ∙ ap (λ p. ends_set p x g) to_is
      ∙ ap (λ y. ends_set (opening_preview g c.studio) y g) x_is

  abbrev over : GraphState → StudioState
  over k = record (opening_studio c g) { graph = k }

  parts_are : over h ≡ parts_of c h bus mode recording
  unfolding opening_studio
  parts_are =
      ap (λ y. parts_of c h (bus_of c y) (is_some c.studio) no_recording) (sym x_is)
      ∙ ap (λ p. parts_of c h p (is_some c.studio) no_recording) (sym bus_is)
      ∙ ap (λ b. parts_of c h bus b no_recording) (sym mode_is)
      ∙ ap (parts_of c h bus mode) (sym none)

  -- the studio of these sources is the one that the collection stands for
  pub opened_value : opening_of c ≡ Ok (opening_studio c g) →
      opening_of c ≡ Ok (parts_of c h bus mode recording)
  unfolding opening_studio
  opened_value opens = opens ∙ ap (λ k. Ok (over k)) (sym sources_are)
      ∙ ap (λ (s : StudioState). Ok s) parts_are

  pub parts_shape : IsFitting c → g.frames ≡ [] → GraphShape h →
      StudioShape (parts_of c h bus mode recording)
  unfolding opening_studio channel_set preview_set
  parts_shape fits frames sources = subst StudioShape parts_are (record {
    sources = sources;
    program = (let long : (length (slice_set g.channels 0 (Some x, None)) == 64) ≡ true =
        subst (λ (k : GraphState). (length k.channels == 64) ≡ true) made
        sources.parts.beside.channels.channel_count in
        ap (λ (k : GraphState). take 1 k.channels) made ∙ first_set g.channels (Some x, None) long
        ∙ ap (λ y. let channel : Channel = (Some y, None) in channel ∷ []) x_is);
    fade_running = refl;
    duration = fits.duration;
    frames_past = ap (list_all (λ (f : Frame). nat_lt f.number h.clock))
        (ap (λ (k : GraphState). k.frames) made ∙ frames);
    canvas = fits.canvas;
    rate = fits.rate;
    format = fits.format;
  })

-- ---- its numbers are low

-- holds and watches, which lines leave as they are
abbrev Kept : Type 0
Kept = List Hold × (List Watch × (ℕ × ℕ))

abbrev holds_of : GraphState → Kept
holds_of g = (g.holds, (g.watches, (g.next_hold, g.next_watch)))

sound_keeps : (x : ℕ) (sound : Sound) (row : Option Row) (g : GraphState) →
    holds_of (sound_set x sound row g) ≡ holds_of g
unfolding input_set
sound_keeps x sound None g = refl
sound_keeps x sound (Some row) g = refl

line_keeps : (g : GraphState) (line : Line) → holds_of (line_done g line) ≡ holds_of g
unfolding line_done scene_created input_created group_created item_added channel_set
line_keeps g (SoundLine name sound) =
    sound_keeps (serial_named g name) sound (row_called g name) g
line_keeps g _ = refl

not_ok : {A : Type 0} (cause : Option GraphFault) (more : Result A GraphFault) (h : A) →
    unless cause more ≡ Ok h → more ≡ Ok h
not_ok None more h is = is
not_ok (Some fault) more h is = cc

lines_keep : (lines : List Line) (g h : GraphState) → lines_done g lines ≡ Ok h →
    holds_of h ≡ holds_of g
lines_keep [] g h done = let same : g ≡ h = cc in ap holds_of (sym same)
lines_keep (line ∷ lines) g h done = lines_keep lines (line_done g line) h
    (not_ok (line_cause g line) (lines_done (line_done g line) lines) h done) ∙ line_keeps g line

module _ (c : Collection) (m : GraphModel) (fresh : IsFresh m)
    (done : lines_done empty_graph c.lines ≡ Ok m.present) (to : Option ℕ) (x : ℕ)
    (bus : ProgramState) (mode : Bool) (recording : Recording) where
  fresh_low : GraphShape (ends_set to x m.present) →
      IsLow (parts_of c (ends_set to x m.present) bus mode recording)
  unfolding channel_set preview_set empty_graph
  fresh_low shape =
      let g : GraphState = m.present in
      let keeps : holds_of g ≡ ([], ([], (1, 1))) = lines_keep c.lines empty_graph g done in
      let few : length g.rows ≤ 512 = leb-true (length g.rows) 512 shape.limits.few_rows in
      let serials : g.next_serial ≡ length g.rows + 1 = fresh.serials in
      let holds : g.next_hold ≡ 1 = ap (λ (k : Kept). k.1.1.0) keeps in
      let watches : g.next_watch ≡ 1 = ap (λ (k : Kept). k.1.1.1) keeps in
      let clock : g.clock ≡ 0 = fresh.clock in
      record {
        unheld = ap (λ (k : Kept). k.0) keeps;
        unwatched = ap (λ (k : Kept). k.1.0) keeps;
        serials = omega arith;
        items = λ k d within.
            (let many : item_count g.rows ≤ 2048 =
            leb-true (item_count g.rows) 2048 shape.limits.few_items in
            let items : (get_or g.rows k d).next_item ≡ length (get_or g.rows k d).items + 1 =
            (fresh.rows k d within).items in
            let part : length (get_or g.rows k d).items ≤ item_count g.rows =
            get_or-le-sum_by (λ (r : Row). length r.items) g.rows k d within in
            omega (arith, many, items, part));
        holds = omega arith;
        watches = omega arith;
        clock = omega arith;
        audio = omega arith;
      }

  pub parts_low : (h : GraphState) → h ≡ ends_set to x m.present → GraphShape h →
      IsLow (parts_of c h bus mode recording)
  parts_low h made shape = subst (λ k. IsLow (parts_of c k bus mode recording)) (sym made)
      (fresh_low (subst GraphShape made shape))
