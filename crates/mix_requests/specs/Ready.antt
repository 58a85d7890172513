-- A studio in which a request can be done.
use Rattle.std.specs.Prelude.{◌≡◌, ℕ, ◌≤◌, ◌<◌, All, map}
use Rattle.mix_model.specs.declared.notes.Notes.{Notes}
use Rattle.mix_model.specs.Marks.{marks_of}
use Rattle.mix_model.specs.State.{GraphState}
use Rattle.mix_model.specs.WholeShape.{StudioShape, hold_of, watch_of}
use Rattle.mix_studio.specs.Studios.{StudioModel}

-- the next id of each row's items is at most this
abbrev pub ItemsWithin : ℕ → GraphState → Type 0
ItemsWithin most g = All (λ r. r.next_item ≤ most) g.rows

-- an action has just begun, the studio has the shape of every studio, its next numbers can still be
-- given, and the notes have the holds and watches of the sources
pub record IsReady (m : StudioModel) (notes : Notes) : Type 0 where
  pub begun : m.begun ≡ marks_of m.present.graph
  pub shape : StudioShape m.present
  pub serial : m.present.graph.next_serial < 4294967295
  pub items : ItemsWithin 4294967294 m.present.graph
  pub hold : m.present.graph.next_hold < 4294967295
  pub watch : m.present.graph.next_watch < 4294967295
  pub holds : map hold_of notes.holds ≡ m.present.graph.holds
  pub watches : map watch_of notes.watches ≡ m.present.graph.watches

-- of these what the making of a source needs: an action has just begun, the studio has the shape of
-- every studio, and a source and an item more can be numbered
pub record MayMake (m : StudioModel) : Type 0 where
  pub begun : m.begun ≡ marks_of m.present.graph
  pub shape : StudioShape m.present
  pub serial : m.present.graph.next_serial < 4294967295
  pub items : ItemsWithin 4294967294 m.present.graph
