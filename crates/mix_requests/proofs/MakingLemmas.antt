-- A source that is made in an action of its own.
use Rattle.std.proofs.Common.{◌≡◌, ◌∙◌, ◌≤◌, ◌<◌, ℕ, List, [], ◌∷◌, All, true, false, cond, find}
use Rattle.std.proofs.Common.{Option, Some, None, Ok, Err, IfSome, refl, sym, ap, subst, arith, get_or, Bool}
use Rattle.std.specs.Option.{option_map_or}
use Rattle.std.proofs.lemmas.List.Elements.{All-head, All-tail}
use Rattle.mix_model.specs.declared.fault.GraphFault.{GraphFault}
use Rattle.mix_model.specs.declared.fault.GraphFault.TheVariants.{NotFound, WrongKind, Exists}
use Rattle.mix_model.specs.declared.fault.GraphFault.TheVariants.{Cycle, Depth, TooMany, NoMemory}
use Rattle.mix_model.specs.declared.item.ItemSpec.{ItemSpec}
use Rattle.mix_model.specs.declared.kind.Kind.{Kind}
use Rattle.mix_model.specs.declared.row.Row.{Row}
use Rattle.mix_model.specs.declared.settings.Settings.{Settings}
use Rattle.mix_model.specs.Causes.{cause_or, late_cause, shown_cause, shown_early}
use Rattle.mix_model.specs.Edits.{scene_created, shown_input_created, input_created, item_added}
use Rattle.mix_model.specs.Holders.{has_name}
use Rattle.mix_model.specs.Lookups.{row_of, row_passes}
use Rattle.mix_model.specs.Marks.{GraphModel, edited, marks_of, settled_by}
use Rattle.mix_model.specs.Rows.{has_items, is_at, is_scene}
use Rattle.mix_model.specs.Sets.{has}
use Rattle.mix_model.specs.Settle.{settle}
use Rattle.mix_model.specs.Shape.{GraphShape}
use Rattle.mix_model.specs.State.{GraphState, StudioState}
use Rattle.mix_model.specs.Studio.{studio_settled}
use Rattle.mix_model.proofs.MarkLemmas.{marks_suffice}
use Rattle.mix_model.proofs.SetLemmas.{or_left}
use Rattle.mix_shape.specs.Refused.{RefusedBy}
use Rattle.mix_shape.proofs.MarkedLemmas.{scene_named, scene_passes, scene_row}
use Rattle.mix_studio.specs.Studios.{StudioModel, graph_in, studio_edited, with_graph}
use Rattle.mix_studio.proofs.ShapeLemmas.{IsBeside}
use Rattle.mix_requests.specs.declared.refused.Refused.{Refused}
use Rattle.mix_requests.specs.Outcomes.{AnswersRefused}
use Rattle.mix_requests.specs.Ready.{ItemsWithin}
use Rattle.mix_requests.specs.Refusals.{refused_as, refused_by}
use Rattle.mix_requests.specs.Sources.{Edits, edited_alone}

-- ---- what a new source leaves of the sources

pub scene_beside : (name : List ℕ) (g : GraphState) → IsBeside g (scene_created name g)
unfolding scene_created
scene_beside name g = record { channels = refl; frames = refl; clock = refl }

pub input_beside : (name : List ℕ) (kind : Kind) (settings : Settings) (parent : ℕ)
    (spec : ItemSpec) (g : GraphState) →
    IsBeside g (shown_input_created name kind settings parent spec g)
unfolding shown_input_created input_created item_added
input_beside name kind settings parent spec g =
    record { channels = refl; frames = refl; clock = refl }

-- ---- the status of a refusal

pub none_refused : (cause : Option GraphFault) → cause ≡ None → refused_by cause ≡ Ok tt
unfolding refused_by
none_refused cause none = ap refused_by none

pub refused_answers : (T : Type 0) (cause : Option GraphFault) (fault : GraphFault) →
    RefusedBy {T = T} cause (Err fault) →
    AnswersRefused {A = Unit {0}} (refused_as fault) (refused_by cause)
unfolding refused_by
refused_answers T cause NotFound is = ap refused_by is
refused_answers T cause WrongKind is = ap refused_by is
refused_answers T cause Exists is = ap refused_by is
refused_answers T cause Cycle is = ap refused_by is
refused_answers T cause Depth is = ap refused_by is
refused_answers T cause (TooMany limit) is = ap refused_by is
refused_answers T cause NoMemory is = tt

-- ---- an edit of sources that a studio lent

module _ (m : StudioModel) (g h : GraphModel) (lent : g ≡ graph_in m) where
  -- in an action that has just begun it is settled against what stood before
  pub made_alone : (edit : GraphState → GraphState) → m.begun ≡ marks_of m.present.graph →
      h ≡ edited edit g → (with_graph m h).present ≡ edited_alone edit m.present
  unfolding edited studio_settled
  made_alone edit begun is =
      let left : h.present ≡ settle m.present.graph (edit m.present.graph) =
      ap (λ (k : GraphModel). k.present) (is ∙ ap (edited edit) lent)
      ∙ ap (λ marks. settled_by marks (edit m.present.graph)) begun
      ∙ marks_suffice m.present.graph (edit m.present.graph) in
      ap (λ (k : GraphState). let s : StudioState = record m.present { graph = k } in s) left

  pub begun_alone : (edit : GraphState → GraphState) → h ≡ edited edit g →
      (with_graph m h).begun ≡ m.begun
  unfolding edited
  begun_alone edit is = ap (λ (k : GraphModel). k.begun) (is ∙ ap (edited edit) lent)

  -- sources that stay leave the studio as it was
  pub stays_alone : h ≡ g → with_graph m h ≡ m
  stays_alone is = ap (with_graph m) (is ∙ lent)

  -- the call did its edit, or is refused with the status of its cause
  pub edits_done : (edit : GraphState → GraphState) (cause : GraphState → Option GraphFault)
      (known : Option GraphFault) → cause m.present.graph ≡ known →
      m.begun ≡ marks_of m.present.graph → h ≡ edited edit g → cause g.present ≡ None →
      Edits {A = Unit {0}} (Ok tt) m (with_graph m h) (refused_by known)
      (edited_alone edit m.present)
  edits_done edit cause known same begun is none = (
    none_refused known (sym same ∙ ap (λ (k : GraphModel). cause k.present) (sym lent) ∙ none),
    made_alone edit begun is,
    begun_alone edit is,
  )

  pub edits_refused : (T : Type 0) (cause : GraphState → Option GraphFault)
      (known : Option GraphFault) → cause m.present.graph ≡ known → (fault : GraphFault)
      (refused : Refused) (after : StudioState) → h ≡ g → refused ≡ refused_as fault →
      RefusedBy {T = T} (cause g.present) (Err fault) →
      Edits {A = Unit {0}} (Err refused) m (with_graph m h) (refused_by known) after
  edits_refused T cause known same fault refused after is answered by =
      let known_by : RefusedBy {T = T} known (Err fault) =
      subst (λ o. RefusedBy {T = T} o (Err fault))
      (ap (λ (k : GraphModel). cause k.present) lent ∙ same) by in (
        subst (λ r. AnswersRefused {A = Unit {0}} r (refused_by known)) (sym answered)
            (refused_answers T known fault known_by),
        stays_alone is,
      )

-- ---- an edit of the whole studio, in an action that has just begun

pub edited_alone_is : (m new : StudioModel) (edit : StudioState → StudioState) →
    m.begun ≡ marks_of m.present.graph → new ≡ studio_edited edit m →
    new.present ≡ studio_settled m.present (edit m.present)
unfolding studio_edited studio_settled
edited_alone_is m new edit begun is =
    ap (λ (k : StudioModel). k.present) is
    ∙ ap (λ (k : GraphState). let s : StudioState = record (edit m.present) { graph = k } in s)
    (ap (λ marks. settled_by marks (edit m.present).graph) begun
    ∙ marks_suffice m.present.graph (edit m.present).graph)

pub edited_begun_is : (m new : StudioModel) (edit : StudioState → StudioState) →
    new ≡ studio_edited edit m → new.begun ≡ m.begun
unfolding studio_edited
edited_begun_is m new edit is = ap (λ (k : StudioModel). k.begun) is

-- ---- a scene of the registry can show an input whose name is free

module _ (g : GraphState) (shape : GraphShape g) (name : List ℕ) (parent : ℕ)
    (here : has parent g.scenes ≡ true) (free : has_name g name ≡ false) where
  parent_passes : row_passes g (λ r. has_items r.kind) parent ≡ true
  parent_passes =
      let found : row_of g parent ≡ Some (scene_row g shape parent here).0 =
      (scene_row g shape parent here).1 in
      let scene : is_scene (scene_row g shape parent here).0.kind ≡ true =
      sym (ap (λ o. option_map_or (λ (r : Row). is_scene r.kind) o false) found)
      ∙ scene_passes g shape parent here in
      ap (λ o. option_map_or (λ (r : Row). has_items r.kind) o false) found ∙ or_left _ _ scene

  no_early : shown_early g name parent ≡ None
  unfolding shown_early
  no_early = rw (scene_named g shape parent here, parent_passes, free) refl

  pub only_late : (after : GraphState) → shown_cause g name parent after ≡ late_cause after
  only_late after = ap (λ early. cause_or early (late_cause after)) no_early

-- ---- the next id of an item

found_has : (P : Row → Type 0) (test : Row → Bool) (rows : List Row) → All P rows →
    IfSome (find test rows) P
found_has P test [] all = tt
found_has P test (r ∷ rows) all = (elim (test r) as (λ (b : Bool).
    IfSome (cond b (Some r) (find test rows)) P) [
      | true ↦ All-head P r rows all
      | false ↦ found_has P test rows (All-tail P r rows all)
    ])

pub item_drawn : (g : GraphState) (x : ℕ) → ItemsWithin 4294967294 g →
    IfSome (row_of g x) (λ r. r.next_item < 4294967295)
item_drawn g x all = found_has (λ r. r.next_item < 4294967295) (is_at x) g.rows
    (λ k d within. let most : (get_or g.rows k d).next_item ≤ 4294967294 = all k d within in
    omega arith)
