-- What lending the sources of a studio leaves.
use Rattle.std.specs.Borrow.{Lends, MutBor, Fml}
use Rattle.mix_graph.specs.contracts.graph.Graph as graphs
use Rattle.mix_model.specs.Marks.{GraphModel}
use Rattle.mix_studio.specs.contracts.studio.Studio as studios
use Rattle.mix_studio.specs.Studios.{StudioModel, with_graph}

-- the studio ends with the sources as they are left
abbrev pub LendsGraph : MutBor StudioModel → MutBor GraphModel → Fml
LendsGraph studio graph =
    Lends studios.the_row graphs.the_row studio graph (with_graph studio.now)
