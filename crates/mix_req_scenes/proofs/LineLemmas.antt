-- What holds of the line of each request on scenes.
use Rattle.std.proofs.Common.{ℕ, ◌+◌, ◌<◌, ◌≤◌, ◌^◌, Bool, true, false, List, [], ◌∷◌, ◌++◌}
use Rattle.std.proofs.Common.{length, All, codes, get_or, refl, arith, Some, None}
use Rattle.std.proofs.lemmas.List.{length-append}
use Rattle.std.proofs.lemmas.List.Elements.{All-append, All-cons, All-nil, All-push}
use Rattle.mix_events.specs.Sayable.{IsSayableEvent}
use Rattle.mix_model.specs.declared.body.Body.{Body}
use Rattle.mix_model.specs.declared.event.Event.{Event}
use Rattle.mix_model.specs.declared.event.Event.TheVariants as event
use Rattle.mix_model.specs.declared.notes.Notes.{Notes}
use Rattle.mix_model.specs.declared.row.Row.{Row}
use Rattle.mix_model.specs.Causes.{scene_cause}
use Rattle.mix_model.specs.Edits.{channel_set, scene_created}
use Rattle.mix_model.specs.Program.{BusChanged, set_program}
use Rattle.mix_model.specs.Rows.{new_row}
use Rattle.mix_model.specs.Settle.{settle}
use Rattle.mix_model.specs.State.{Channel, GraphState}
use Rattle.mix_model.specs.Studio.{program_set, studio_settled}
use Rattle.mix_requests.specs.declared.caller.Caller.{Caller}
use Rattle.mix_requests.specs.declared.request_type.SceneRequest.TheVariants as scene
use Rattle.mix_requests.specs.Laws.{Grows, IsProper}
use Rattle.mix_requests.specs.Programs.{change_events, event_if}
use Rattle.mix_requests.specs.Read.{needed_fields, new_name, sought_name}
use Rattle.mix_requests.specs.Ready.{IsReady, ItemsWithin}
use Rattle.mix_requests.specs.Refusals.{refused_by}
use Rattle.mix_requests.specs.Sought.{scene_sought}
use Rattle.mix_requests.specs.Sources.{edited_alone}
use Rattle.mix_requests.proofs.ProperLemmas.{Gives, OneMore, after, edit_grows, edit_noted}
use Rattle.mix_requests.proofs.ProperLemmas.{line_proper, needed_named, new_name_named}
use Rattle.mix_requests.proofs.ProperLemmas.{nothing_noted, refused_by_named, scene_below}
use Rattle.mix_requests.proofs.ProperLemmas.{sought_name_named, stays_grow}
use Rattle.mix_studio.specs.Studios.{StudioModel}
use Rattle.mix_req_scenes.specs.CreateScene.{create_scene, scene_answer}
use Rattle.mix_req_scenes.specs.GetSceneList.{get_scene_list}
use Rattle.mix_req_scenes.specs.Laws.{ScenesAreProper}
use Rattle.mix_req_scenes.specs.SetCurrentProgramScene.{set_current_program_scene}
use Rattle.mix_req_scenes.proofs.AnswerLemmas.{scene_answer_whole, scene_list_whole}
use Rattle.mix_requests.proofs.ProperLemmas.{short_below}

-- ---- the sources

items_more : (g : GraphState) (n : ℕ) → ItemsWithin n g → ItemsWithin (n + 1) g
items_more g n all k d within =
    let one : (get_or g.rows k d).next_item ≤ n = all k d within in omega arith

-- with a scene more
created_more : (name : List ℕ) (g : GraphState) → OneMore g (scene_created name g)
unfolding scene_created new_row
created_more name g = record {
  serial = omega arith;
  items = λ n all. All-push (λ (r : Row). r.next_item ≤ n + 1) g.rows _ (items_more g n all)
      (omega arith);
  hold = omega arith;
  watch = omega arith;
  holds = refl;
  watches = refl;
  clock = refl;
}

-- with another channel
channel_more : (channel : Channel) (g : GraphState) → OneMore g (channel_set 0 channel g)
unfolding channel_set
channel_more channel g = record {
  serial = omega arith;
  items = items_more g;
  hold = omega arith;
  watch = omega arith;
  holds = refl;
  watches = refl;
  clock = refl;
}

-- ---- the events of a change of the program

if_few : (b : Bool) (e : Event) → length (event_if b e) ≤ 1
if_few true e = omega arith
if_few false e = omega arith

if_sayable : (b : Bool) (e : Event) → IsSayableEvent e → All IsSayableEvent (event_if b e)
if_sayable true e can = All-cons IsSayableEvent e [] can (All-nil IsSayableEvent)
if_sayable false e can = All-nil IsSayableEvent

four_few : (ws xs ys zs : List Event) → length ws ≤ 1 → length xs ≤ 1 → length ys ≤ 1 →
    length zs ≤ 1 → length (ws ++ (xs ++ (ys ++ zs))) ≤ 4
four_few ws xs ys zs w x y z = omega (
  arith,
  length-append ws (xs ++ (ys ++ zs)),
  length-append xs (ys ++ zs),
  length-append ys zs,
)

four_sayable : (ws xs ys zs : List Event) → All IsSayableEvent ws → All IsSayableEvent xs →
    All IsSayableEvent ys → All IsSayableEvent zs → All IsSayableEvent (ws ++ (xs ++ (ys ++ zs)))
four_sayable ws xs ys zs w x y z = All-append IsSayableEvent ws (xs ++ (ys ++ zs)) w
    (All-append IsSayableEvent xs (ys ++ zs) x (All-append IsSayableEvent ys zs y z))

module _ (g : GraphState) (fades : Bool) (target : ℕ) (change : BusChanged) where
  change_few : length (change_events g fades target change) ≤ 4
  unfolding change_events
  change_few = four_few _ _ _ _ (if_few change.ended _) (if_few change.started _)
      (if_few change.target _) (if_few _ _)

  change_sayable : target < 2 ^ 48 → All IsSayableEvent (change_events g fades target change)
  unfolding change_events
  change_sayable short = four_sayable _ _ _ _ (if_sayable change.ended _ tt)
      (if_sayable change.started _ tt) (if_sayable change.target _ short) (if_sayable _ _ tt)

-- ---- the lines

module _ (m : StudioModel) (notes : Notes) (caller : Caller) (ready : IsReady m notes) where
  -- CreateScene
  created_proper : (name : List ℕ) → IsProper m.present notes caller 1 (record {
    answer = Some (scene_answer m.present.graph.next_serial);
    events = event.SceneCreated name m.present.graph.next_serial ∷ [];
    studio = edited_alone (scene_created name) m.present;
    notes = notes;
  })
  created_proper name = record {
    grows = edit_grows (scene_created name) m.present (created_more name m.present.graph);
    noted = edit_noted (scene_created name) caller.conn m notes ready _ _
        (created_more name m.present.graph);
    few = omega arith;
    events = All-cons IsSayableEvent _ []
        (let few : m.present.graph.next_serial < 4294967295 = ready.serial in omega arith)
        (All-nil IsSayableEvent);
    answer = scene_answer_whole m.present.graph.next_serial;
  }

  create_scene_proper : (body : Body) →
      Gives (IsProper m.present notes caller 1) (create_scene m.present notes caller body)
  unfolding create_scene
  create_scene_proper body =
      after (needed_fields body) _ (needed_named body) (λ fields needed.
      after (new_name (codes "sceneName") fields) _ (new_name_named (codes "sceneName") fields)
      (λ name read.
      after (refused_by (scene_cause m.present.graph name (scene_created name m.present.graph))) _
      (refused_by_named (scene_cause m.present.graph name (scene_created name m.present.graph)))
      (λ may allowed. record { gives = created_proper name })))

  -- GetSceneList
  get_scene_list_proper : (body : Body) →
      Gives (IsProper m.present notes caller 0) (get_scene_list m.present notes caller body)
  unfolding get_scene_list
  get_scene_list_proper body = record {
    gives = record {
      grows = stays_grow m.present;
      noted = nothing_noted caller.conn m notes ready _ refl refl refl;
      few = omega arith;
      events = All-nil IsSayableEvent;
      answer = scene_list_whole m.present;
    };
  }

  -- SetCurrentProgramScene
  set_grows : (x : ℕ) → Grows m.present (studio_settled m.present (program_set x m.present))
  unfolding program_set studio_settled
  set_grows x =
      let more = edit_grows (channel_set 0 _) m.present (channel_more _ m.present.graph) in
      record {
        serial = more.serial;
        items = more.items;
        hold = more.hold;
        watch = more.watch;
        clock = more.clock;
        audio = refl;
        i420 = refl;
        tracks = refl;
      }

  set_proper : (x : ℕ) → x < m.present.graph.next_serial → IsProper m.present notes caller 4 (record {
    answer = None;
    events = change_events m.present.graph m.present.program.fades x
        (set_program m.present.program m.present.rate x).change;
    studio = studio_settled m.present (program_set x m.present);
    notes = notes;
  })
  unfolding channel_set program_set settle studio_settled
  set_proper x below = record {
    grows = set_grows x;
    noted = nothing_noted caller.conn m notes ready _ refl refl refl;
    few = change_few m.present.graph m.present.program.fades x _;
    events = change_sayable m.present.graph m.present.program.fades x _
        (short_below m.present.graph.next_serial x ready.serial below);
    answer = tt;
  }

  set_program_proper : (body : Body) → Gives (IsProper m.present notes caller 4)
      (set_current_program_scene m.present notes caller body)
  unfolding set_current_program_scene
  set_program_proper body =
      after (needed_fields body) _ (needed_named body) (λ fields needed.
      after (sought_name (codes "sceneName") fields) _
      (sought_name_named (codes "sceneName") fields) (λ name read.
      after (scene_sought m.present.graph name) _
      (scene_below m.present.graph ready.shape.sources name)
      (λ x below. record { gives = set_proper x below })))

-- ---- all of them

pub scenes_are_proper : ScenesAreProper
scenes_are_proper m notes caller body scene.CreateScene ready =
    line_proper m.present notes caller 1 _ (create_scene_proper m notes caller ready body)
scenes_are_proper m notes caller body scene.GetSceneList ready =
    line_proper m.present notes caller 0 _ (get_scene_list_proper m notes caller ready body)
scenes_are_proper m notes caller body scene.SetCurrentProgramScene ready =
    line_proper m.present notes caller 4 _ (set_program_proper m notes caller ready body)
scenes_are_proper m notes caller body scene.GetCurrentPreviewScene ready = tt
scenes_are_proper m notes caller body scene.GetCurrentProgramScene ready = tt
scenes_are_proper m notes caller body scene.GetGroupList ready = tt
scenes_are_proper m notes caller body scene.GetSourceActive ready = tt
scenes_are_proper m notes caller body scene.RemoveScene ready = tt
scenes_are_proper m notes caller body scene.SetCurrentPreviewScene ready = tt
scenes_are_proper m notes caller body scene.SetSceneName ready = tt
