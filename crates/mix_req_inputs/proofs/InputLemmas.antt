-- CreateInput is proper: its numbers grow by one, and what it tells and answers can be said.
use Rattle.std.proofs.Common.{◌≡◌, ◌<◌, ◌≤◌, ◌+◌, ◌^◌, ◌==◌, ℕ, pos, [], ◌∷◌, ◌++◌, Bool, true}
use Rattle.std.proofs.Common.{false, cond, get_or, refl, arith, rules, Ok}
use Rattle.std.specs.Prelude.{unwrap_or}
use Rattle.std.proofs.lemmas.Bool.{ne_eqb}
use Rattle.std.proofs.lemmas.List.Elements.{All-from_recursion, All-map, All-push}
use Rattle.mix_base.specs.Json.{Object}
use Rattle.mix_base.specs.Uuids.{uuid_of}
use Rattle.mix_json.specs.Fields.{refused_if}
use Rattle.mix_model.specs.declared.body.Body.{Body}
use Rattle.mix_model.specs.declared.item.ItemSpec.{ItemSpec}
use Rattle.mix_model.specs.declared.notes.Notes.{Notes}
use Rattle.mix_model.specs.declared.row.Row.{Row}
use Rattle.mix_model.specs.declared.settings.Settings.TheVariants.{None as NoSettings}
use Rattle.mix_model.specs.Edits.{shown_input_created, input_created, item_added}
use Rattle.mix_model.specs.Holders.{has_name}
use Rattle.mix_model.specs.Items.{with_item}
use Rattle.mix_model.specs.Rows.{is_at, new_row}
use Rattle.mix_model.specs.Shape.{GraphShape}
use Rattle.mix_model.specs.State.{GraphState, StudioState}
use Rattle.mix_model.specs.Texts.{kind_named}
use Rattle.mix_model.specs.Values.{new_sound}
use Rattle.mix_events.specs.Sayable.{IsSayableEvent}
use Rattle.mix_events.specs.Statuses.{status_name}
use Rattle.mix_studio.specs.Studios.{StudioModel}
use Rattle.mix_requests.specs.declared.caller.Caller.{Caller}
use Rattle.mix_requests.specs.Laws.{IsProper, IsProperLine}
use Rattle.mix_requests.specs.Ready.{IsReady}
use Rattle.mix_requests.specs.Sought.{scene_sought}
use Rattle.mix_requests.proofs.ProperLemmas.{Gives, Named, OneMore, after, edit_grows, edit_noted}
use Rattle.mix_requests.proofs.ProperLemmas.{int_whole, line_proper, needed_named, new_name_named}
use Rattle.mix_requests.proofs.ProperLemmas.{object_whole, opt_bool_named, opt_named, or_named}
use Rattle.mix_requests.proofs.ProperLemmas.{refused_by_named, refused_named, scene_below}
use Rattle.mix_requests.proofs.ProperLemmas.{sought_name_named, text_whole}
use Rattle.mix_req_inputs.specs.declared.new_input.NewInput.{NewInput}
use Rattle.mix_req_inputs.specs.CreateInput.{InputWanted, create_input, input_added, input_answer}
use Rattle.mix_req_inputs.specs.CreateInput.{input_creation, input_events, input_fields, input_found}
use Rattle.mix_req_inputs.specs.CreateInput.{input_wanted, kind_sought, new_settings}
use Rattle.mix_requests.specs.NewItems.{next_item}
use Rattle.mix_req_inputs.proofs.SettingLemmas.{settings_named, settings_whole}

-- a row with an item more where it is the parent
item_more : (b : Bool) (n child : ℕ) (spec : ItemSpec) (r : Row) → r.next_item ≤ n →
    (cond b (with_item child spec r) r).next_item ≤ n + 1
unfolding with_item
item_more true n child spec r most = omega arith
item_more false n child spec r most = omega arith

input_more : (g : GraphState) (input : NewInput) → input.parent < g.next_serial →
    OneMore g (input_added input g)
unfolding shown_input_created input_created item_added new_row
input_more g input below =
    let other : (g.next_serial == input.parent) ≡ false =
    ne_eqb g.next_serial input.parent (λ same. omega (arith, below, same)) in
    let row : Row = new_row g.next_serial input.name input.kind input.settings new_sound in
    let more : Row → Row = (λ r. cond (is_at input.parent r)
    (with_item g.next_serial input.spec r) r) in
    record {
      serial = omega arith;
      items = λ n all. All-map (λ (r : Row). r.next_item ≤ n + 1) more (g.rows ++ row ∷ [])
          (All-push (λ (r : Row). (more r).next_item ≤ n + 1) g.rows row
          (λ k d within. item_more (is_at input.parent (get_or g.rows k d)) n g.next_serial
          input.spec (get_or g.rows k d) (all k d within))
          (rw other (omega arith)));
      hold = omega arith;
      watch = omega arith;
      holds = refl;
      watches = refl;
      clock = refl;
    }

-- what is asked for, and the input that is found
wanted_named : (fields : Object) → Named (input_wanted fields)
unfolding input_wanted
wanted_named fields =
    search (rules, after, sought_name_named, new_name_named, opt_named, opt_bool_named)

found_below : (s : StudioState) → GraphShape s.graph → (w : InputWanted) →
    Gives (λ (input : NewInput). input.parent < s.graph.next_serial) (input_found s w)
unfolding input_found status_name
found_below s shape w = after (scene_sought s.graph w.scene) _ (scene_below s.graph shape w.scene)
    (λ parent below. after (kind_sought w.kind) _ (or_named 605 (kind_named w.kind) refl)
    (λ kind b. after (refused_if (has_name s.graph w.name) 601) _
    (refused_named (has_name s.graph w.name) 601 refl)
    (λ free c. after (new_settings s.canvas kind w.settings) _
    (settings_named kind NoSettings (unwrap_or w.settings []) s.canvas)
    (λ settings d. record { gives = below }))))

module _ (m : StudioModel) (notes : Notes) (ready : IsReady m notes) (caller : Caller) where
  is_proper : (input : NewInput) → input.parent < m.present.graph.next_serial →
      Gives (IsProper m.present notes caller 2) (Ok (input_creation m.present notes input))
  unfolding input_answer
  is_proper input below =
      let g : GraphState = m.present.graph in
      let more : OneMore g (input_added input g) = input_more g input below in
      let few : g.next_serial < 4294967295 = ready.serial in
      let short : g.next_serial < 2 ^ 48 = omega arith in
      record {
        gives = record {
          grows = edit_grows (input_added input) m.present more;
          noted = edit_noted (input_added input) caller.conn m notes ready _ (input_events g input) more;
          few = omega arith;
          events = All-from_recursion IsSayableEvent (input_events g input)
              ((settings_whole input.settings, short), ((omega arith, short), tt));
          answer = object_whole (input_fields g.next_serial (next_item g input.parent))
              (text_whole (uuid_of g.next_serial), (int_whole (pos (next_item g input.parent)), tt));
        };
      }

  pub create_input_proper : (body : Body) →
      IsProperLine m.present notes caller 2 (create_input m.present notes caller body)
  unfolding create_input
  create_input_proper body = line_proper m.present notes caller 2 _
      (search (rules, after, needed_named, wanted_named, found_below, refused_by_named, is_proper))
