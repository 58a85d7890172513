-- Sources that a studio lends: what is owed of them, and which calls leave it so.
use Rattle.std.proofs.Common.{◌≡◌, ℕ, List, Result, Ok, Err, OnOk, OnErr, refl, sym, subst}
use Rattle.mix_model.specs.declared.row.Row.{Row}
use Rattle.mix_model.specs.Edits.{row_changed}
use Rattle.mix_model.specs.Marks.{GraphModel, Mark, edited, settled_by}
use Rattle.mix_model.specs.Shape.{GraphShape}
use Rattle.mix_model.specs.State.{GraphState}
use Rattle.mix_model.specs.WholeShape.{StudioShape}
use Rattle.mix_studio.specs.Studios.{StudioModel, graph_in, with_graph}
use Rattle.mix_studio.proofs.ShapeLemmas.{IsBeside, regained_shape}

-- who leaves channels, frames in flight and the clock as they are gives the shape back
pub lent_shape : (m : StudioModel) (g h : GraphModel) → g ≡ graph_in m → StudioShape m.present →
    GraphShape h.present → IsBeside g.present h.present → StudioShape (with_graph m h).present
lent_shape m g h lent shape sources beside = regained_shape m.present h.present shape sources
    (subst (λ (k : GraphModel). IsBeside k.present h.present) lent beside)

settled_beside : (marks : List Mark) (g new : GraphState) → IsBeside g new →
    IsBeside g (settled_by marks new)
unfolding settled_by
settled_beside marks g new beside = record {
  channels = beside.channels;
  frames = beside.frames;
  clock = beside.clock;
}

-- a call whose edit leaves them does so, whether it is refused or not
pub call_beside : {A E : Type 0} (r : Result A E) (g h : GraphModel)
    (edit : GraphState → GraphState) → ((k : GraphState) → IsBeside k (edit k)) →
    OnOk r (h ≡ edited edit g) → OnErr r (h ≡ g) → IsBeside g.present h.present
unfolding edited
call_beside (Ok value) g h edit leaves ok err =
    subst (λ (k : GraphModel). IsBeside g.present k.present) (sym ok)
    (settled_beside g.begun g.present (edit g.present) (leaves g.present))
call_beside (Err fault) g h edit leaves ok err =
    subst (λ (k : GraphModel). IsBeside g.present k.present) (sym err)
    (record { channels = refl; frames = refl; clock = refl })

-- a change of one row leaves them
pub row_beside : (x : ℕ) (change : Row → Row) (g : GraphState) →
    IsBeside g (row_changed x change g)
row_beside x change g = record { channels = refl; frames = refl; clock = refl }
