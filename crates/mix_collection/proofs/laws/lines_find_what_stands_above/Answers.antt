use Rattle.mix_collection.proofs.Named.{found_where_given, named_where_given, names_above}
use Rattle.mix_collection.proofs.Named.{same_among_named, scenes_given, studio_names_above}
use Rattle.mix_collection.proofs.laws.lines_find_what_stands_above.Goals as goal

pub returns : goal.returns
returns c = record {
  found = found_where_given;
  named = named_where_given;
  same = same_among_named;
  above = names_above;
  scenes = scenes_given;
  studio = studio_names_above;
}
