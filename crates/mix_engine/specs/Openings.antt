-- Which collections an engine opens.
use Rattle.std.specs.Prelude.{Bool, ◌&&◌, is_none, is_ok}
use Rattle.mix_model.specs.declared.collection.Collection.{Collection}
use Rattle.mix_model.specs.Opening.{opening_of}

-- a collection is opened where no preview is asked for, and nothing in it is refused: no line, and not
-- the scene of its program. Which lines are read is the affair of whoever reads them
unfoldable pub can_open : Collection → Bool
can_open c = is_none c.studio && is_ok (opening_of c)
