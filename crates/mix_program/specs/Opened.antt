-- The collection that bytes write, where an engine opens it.
use Rattle.std.specs.Prelude.{ℕ, List, Option}
use Rattle.mix_model.specs.declared.collection.Collection.{Collection}
use Rattle.mix_collection.specs.Collections.{collection_read, where_it, ◌>>=◌}
use Rattle.mix_engine.specs.Openings.{can_open}

-- the collection that is built of these bytes; none where it isn't built or is refused
abbrev pub collection_of : List ℕ → Option Collection
collection_of bytes = collection_read bytes >>= where_it can_open
