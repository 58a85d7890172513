-- What missing options are.
use Rattle.std.proofs.Common.{◌≡◌, [], true, false, Some, refl}
use Rattle.mix_model.specs.declared.kind.Blend.TheVariants.{Normal}
use Rattle.mix_model.specs.Items.{asked}
use Rattle.mix_model.specs.Values.{new_place}
use Rattle.mix_collection.specs.Options.{options_in, place_in, align_at, blend_at, crop_at}
use Rattle.mix_collection.specs.Options.{position_at, quarter_at, scale_at, truth_at}

pub without_options : options_in [] ≡ Some (asked true false new_place Normal)
unfolding options_in place_in align_at blend_at crop_at position_at quarter_at scale_at truth_at
    new_place
without_options = refl
