-- What a change of the program says.
use Rattle.std.proofs.Common.{◌≡◌, refl, is_some}
use Rattle.mix_model.specs.Program.{is_fading}
use Rattle.mix_model.specs.State.{Shown, Rest, Fade}
use Rattle.mix_model.specs.Voices.{ends_of}

-- what the program shows has a second end exactly while it fades
pub fades_to_its_end : (s : Shown) → is_some (ends_of s).1 ≡ is_fading s
fades_to_its_end (Rest x) = refl
fades_to_its_end (Fade a b t n) = refl
