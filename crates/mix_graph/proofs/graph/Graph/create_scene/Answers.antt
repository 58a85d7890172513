-- there is one row more, and the sources are settled
use Rattle.std.proofs.Common.{◌+◌, ap, sym, ◌∙◌, subst, Err}
use Rattle.mix_model.specs.Marks.{edited, GraphModel}
use Rattle.mix_store.proofs.CheckLemmas.{scene_count}
use Rattle.mix_model.specs.Edits.{scene_created}
use Rattle.mix_shape.proofs.BareLemmas.{scene_lets_live, bare_scene}
use Rattle.mix_shape.proofs.CreatedShape.{scene_created_shape}
use Rattle.mix_store.proofs.CreateLemmas.{refused_same}
use Rattle.mix_base.specs.declared.numbers.Serial.{Serial}
use Rattle.mix_shape.specs.Refused.{RefusedBy, bare_cause}
use Rattle.mix_model.specs.Causes.{scene_cause}
use Rattle.mix_graph.proofs.graph.Graph.create_scene.Goals as goal

pub settle_living-requires : goal.settle_living-requires
unfolding scene_created
settle_living-requires c = record {
  count = rw (c.in-Ok.ensures.ok, c.in-Ok-create_scene.ensures.ok)
      (ap (λ n. n + 1) c.self.invariant.told.count
      ∙ sym (scene_count c.args.name c.self.inside.sources));
  edited = rw c.in-Ok-create_scene.ensures.ok (scene_created_shape c.args.name c.self.inside.sources
      c.self.invariant.shape
      (bare_scene c.args.name c.self.inside.sources c.self.invariant.shape
      ∙ rw c.bytes.ensures.value at c.in_default.ensures.refused));
  begun = rw (c.in-Ok.ensures.ok, c.in-Ok-create_scene.ensures.ok) c.self.invariant.begun;
  living = rw c.in-Ok-create_scene.ensures.ok
      (scene_lets_live c.args.name c.self.inside.sources c.self.invariant.shape);
}

pub returns-in-Ok-create_scene-clause-ok : goal.returns-in-Ok-create_scene-clause-ok
unfolding edited
returns-in-Ok-create_scene-clause-ok c = rw (
  c.settle_living.ensures.state,
  c.settle_living.ensures.begun,
  c.in-Ok.ensures.ok,
  ← c.self.view_is,
  c.in-Ok-create_scene.ensures.ok,
)

pub returns-in-Err-clause-refused : goal.returns-in-Err-clause-refused
returns-in-Err-clause-refused c =
    subst (λ (m : GraphModel). RefusedBy {T = Serial} (scene_cause m.present c.args.name
    (scene_created c.args.name m.present)) (Err c.in-Err.fault))
    c.self.view_is (refused_same (Unit {0}) Serial _ _ c.in-Err.fault
    (ap (bare_cause c.self.inside.sources) c.bytes.ensures.value
    ∙ sym (bare_scene c.args.name c.self.inside.sources c.self.invariant.shape))
    c.in-Err.ensures.refused)

pub returns-in_default-grow-clause-refused : goal.returns-in_default-grow-clause-refused
returns-in_default-grow-clause-refused c = rw (← c.self.view_is) (bare_scene c.args.name c.self.inside.sources c.self.invariant.shape
    ∙ rw c.bytes.ensures.value at c.in_default.ensures.refused)

pub returns-in-Err-create_scene-clause-refused : goal.returns-in-Err-create_scene-clause-refused
returns-in-Err-create_scene-clause-refused c = rw (← c.self.view_is) (bare_scene c.args.name c.self.inside.sources c.self.invariant.shape
    ∙ rw c.bytes.ensures.value at c.in_default.ensures.refused)

pub returns-in-Ok-create_scene-clause-refused : goal.returns-in-Ok-create_scene-clause-refused
returns-in-Ok-create_scene-clause-refused c = rw (← c.self.view_is) (bare_scene c.args.name c.self.inside.sources c.self.invariant.shape
    ∙ rw c.bytes.ensures.value at c.in_default.ensures.refused)
