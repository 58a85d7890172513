-- What holds of the sources after an edit, before the settling: as of all sources, but rows that
-- nothing holds don't die yet, and numbers of activity may be later than the clock.
use Rattle.std.specs.Prelude.{IsTrue, filter}
use Rattle.mix_model.specs.State.{GraphState}
use Rattle.mix_model.specs.Holders.{is_named_row}
use Rattle.mix_model.specs.Shape.{PartsFit, LimitsKept, names_differ}

pub record EditedShape (g : GraphState) : Type 0 where
  pub parts : PartsFit g
  pub limits : LimitsKept g
  -- named rows have different names
  pub names : IsTrue (names_differ (filter (is_named_row g) g.rows))
