-- there is one row more, and the sources are settled
use Rattle.std.proofs.Common.{◌+◌, ap, sym, ◌∙◌, Option, subst, Err}
use Rattle.mix_model.specs.Marks.{edited, GraphModel}
use Rattle.mix_store.proofs.CheckLemmas.{input_count}
use Rattle.mix_shape.proofs.BareLemmas.{input_lets_live}
use Rattle.mix_shape.proofs.CreatedShape.{input_made_shape, made_clock, wanted_place}
use Rattle.mix_store.proofs.CreateLemmas.{refused_same}
use Rattle.mix_base.specs.declared.numbers.ItemId.{ItemId}
use Rattle.mix_base.specs.declared.numbers.Serial.{Serial}
use Rattle.mix_shape.specs.Refused.{RefusedBy}
use Rattle.mix_shape.specs.Created.{input_cause, input_made}
use Rattle.mix_graph.proofs.graph.Graph.create_input.Goals as goal

pub settle_living-requires : goal.settle_living-requires
settle_living-requires c = record {
  count = rw (c.in-Ok.ensures.ok, c.in-Ok-create_input.ensures.ok)
      (ap (λ n. n + 1) c.self.invariant.told.count
      ∙ sym (input_count c.args.name c.args.kind c.args.settings c.args.parent
      c.self.inside.sources));
  edited = rw c.in-Ok-create_input.ensures.ok (input_made_shape c.args.name c.args.kind
      c.args.settings c.args.parent c.self.inside.sources c.self.invariant.shape
      c.requires.input (wanted_place c.args.parent c.requires.place)
      (rw c.bytes.ensures.value at (c.in_default.ensures.refused c.args.settings)));
  begun = rw (
    c.in-Ok.ensures.ok,
    c.in-Ok-create_input.ensures.ok,
    made_clock c.args.name c.args.kind c.args.settings c.args.parent c.self.inside.sources,
  ) c.self.invariant.begun;
  living = rw c.in-Ok-create_input.ensures.ok (input_lets_live c.args.name c.args.kind
      c.args.settings c.args.parent c.self.inside.sources c.self.invariant.shape);
}

pub returns-in-Ok-create_input-clause-ok : goal.returns-in-Ok-create_input-clause-ok
unfolding edited
returns-in-Ok-create_input-clause-ok c = rw (
  c.settle_living.ensures.state,
  c.settle_living.ensures.begun,
  c.in-Ok.ensures.ok,
  ← c.self.view_is,
  c.in-Ok-create_input.ensures.ok,
)

pub returns-in-Err-clause-refused : goal.returns-in-Err-clause-refused
returns-in-Err-clause-refused c =
    subst (λ (m : GraphModel). RefusedBy {T = (Serial × Option ItemId)} (input_cause m.present c.args.name c.args.parent
    (input_made c.args.name c.args.kind c.args.settings c.args.parent m.present)) (Err c.in-Err.fault))
    c.self.view_is (refused_same (Unit {0}) (Serial × Option ItemId) _ _ c.in-Err.fault
    (ap (λ n. input_cause c.self.inside.sources n c.args.parent
    (input_made n c.args.kind c.args.settings c.args.parent c.self.inside.sources))
    c.bytes.ensures.value) (c.in-Err.ensures.refused c.args.settings))

pub returns-in_default-grow-clause-refused : goal.returns-in_default-grow-clause-refused
returns-in_default-grow-clause-refused c = rw (← c.self.view_is) (rw c.bytes.ensures.value at (c.in_default.ensures.refused c.args.settings))

pub returns-in-Err-create_input-clause-refused : goal.returns-in-Err-create_input-clause-refused
returns-in-Err-create_input-clause-refused c = rw (← c.self.view_is) (rw c.bytes.ensures.value at (c.in_default.ensures.refused c.args.settings))

pub returns-in-Ok-create_input-clause-refused : goal.returns-in-Ok-create_input-clause-refused
returns-in-Ok-create_input-clause-refused c = rw (← c.self.view_is) (rw c.bytes.ensures.value at (c.in_default.ensures.refused c.args.settings))
