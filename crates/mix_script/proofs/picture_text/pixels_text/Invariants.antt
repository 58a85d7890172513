use Rattle.std.proofs.Common.{◌≡◌, string_bytes}
use Rattle.mix_script.specs.PictureText.{pixels_text}
use Rattle.mix_script.proofs.picture_text.pixels_text.Given as goal

abbrev pub invariant-loop-pixel : goal.invariant-loop-pixel
invariant-loop-pixel l = string_bytes l.text ≡ pixels_text l.rgba l.pixel
