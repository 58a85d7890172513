use Rattle.std.proofs.Common.{◌∙◌, ap, sym, codes, ◌∷◌}
use Rattle.std.proofs.lemmas.Result.{on_ok_weaker}
use Rattle.mix_base.specs.declared.json.Json as json
use Rattle.mix_json.specs.Growing.{more_field, more_fields}
use Rattle.mix_json.specs.Trees.{obj_of}
use Rattle.mix_json.proofs.TextLemmas.{more_fields_append}
use Rattle.mix_events.specs.Texts.{done_fields, request_id, response_data, status_fields}
use Rattle.mix_events.specs.Trees.{object, text}
use Rattle.mix_events.proofs.done.done.Goals as goal

-- the id, then the status and the type, then the answer
pub returns : goal.returns
unfolding done_fields
returns c =
    let d = c.args.done.now in
    let start = c.args.out.now in
    let status = json.Obj (obj_of (status_fields d.status)) in
    let rest = object (codes "requestStatus") (status_fields d.status) ∷ text (codes "requestType") d.kind ∷ response_data d.response in
    let typed = c.in_ok-text.ensures.value
    ∙ ap (λ s. more_field (codes "requestType") (json.Text s) c.with_status.new.out) c.as_str.ensures.value
    ∙ ap (more_field (codes "requestType") (json.Text d.kind))
    (c.in_ok-with_status.ensures.value ∙ ap (more_field (codes "requestStatus") status) c.in_ok-with_id.ensures.value) in
    record {
      value = on_ok_weaker c.with_answer.result
          (λ last. last ∙ ap (more_fields (response_data d.response)) typed ∙ sym (more_fields_append (request_id d.id) rest start))
          c.with_answer.ensures.value;
    }
