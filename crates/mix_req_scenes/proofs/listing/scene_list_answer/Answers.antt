use Rattle.std.proofs.Common.{◌≡◌, ◌∙◌, ◌<◌, ◌^◌, ap, subst, sym}
use Rattle.mix_json.specs.Trees.{put_fields}
use Rattle.mix_model.specs.Marks.{GraphModel}
use Rattle.mix_model.specs.Program.{target_of}
use Rattle.mix_model.specs.State.{GraphState, ProgramState}
use Rattle.mix_req_scenes.specs.GetSceneList.{preview_fields, program_fields, scenes_fields}
use Rattle.mix_req_scenes.proofs.ListingLemmas.{listed}
use Rattle.mix_req_scenes.proofs.ShortLemmas.{target_short}
use Rattle.mix_req_scenes.proofs.listing.scene_list_answer.Goals as goal

-- the target of the program has a short serial
pub with_program-requires : goal.with_program-requires
with_program-requires c = record {
  program =
      let target : c.target.result ≡ target_of c.args.studio.now.present.program.shown =
      c.target.ensures.value ∙ ap (λ (p : ProgramState). target_of p.shown) c.bus.ensures.value in
      subst (λ x. x < 2 ^ 48) (sym target)
      (target_short c.args.studio.now.present c.requires.shape c.requires.serial);
}

-- the three parts are the answer
pub returns : goal.returns
returns c = record {
  value =
      let graph : c.graph-graph.result.now.present ≡ c.args.studio.now.present.graph =
      ap (λ (m : GraphModel). m.present) c.graph-graph.ensures.value in
      let target : c.target.result ≡ target_of c.args.studio.now.present.program.shown =
      c.target.ensures.value ∙ ap (λ (p : ProgramState). target_of p.shown) c.bus.ensures.value in
      listed c.args.studio.now.present c.new.result c.in_ok-fields.fields
      c.in_ok-fields-2.fields c.in_ok-fields-3.fields c.into_obj.result c.new.ensures.value
      (c.in_ok-fields.ensures.value
      ∙ ap (λ (k : GraphState). put_fields (preview_fields k) c.new.result) graph)
      (c.in_ok-fields-2.ensures.value
      ∙ ap (λ (k : GraphState). put_fields (program_fields k c.target.result) c.in_ok-fields.fields)
      graph
      ∙ ap (λ x. put_fields (program_fields c.args.studio.now.present.graph x)
      c.in_ok-fields.fields) target)
      (c.in_ok-fields-3.ensures.value
      ∙ ap (λ (k : GraphState). put_fields (scenes_fields k) c.in_ok-fields-2.fields) graph)
      c.into_obj.ensures.value;
}
