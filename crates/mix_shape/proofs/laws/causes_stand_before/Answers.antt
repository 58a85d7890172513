-- rows as they are, with what would be new, have the ranks and weights that they will have
use Rattle.mix_model.specs.Rows.{serials_of}
use Rattle.mix_model.proofs.DistinctLemmas.{rises_distinct}
use Rattle.mix_shape.proofs.BareLemmas.{bare_scene, bare_input}
use Rattle.mix_shape.proofs.WithLemmas.{late_added}
use Rattle.mix_shape.proofs.laws.causes_stand_before.Goals as goal

pub returns-clause-scene : goal.returns-clause-scene
returns-clause-scene c = λ g shape name. bare_scene name g shape

pub returns-clause-input : goal.returns-clause-input
returns-clause-input c = λ g shape name kind settings. bare_input name kind settings g shape

pub returns-clause-item : goal.returns-clause-item
returns-clause-item c = λ g shape parent child spec there.
    late_added parent child spec g
    (rises_distinct 0 (serials_of g.rows) shape.parts.rows.serials_rise) there
