use Rattle.std.proofs.Common.{◌∙◌, arith}
use Rattle.mix_script.proofs.Pixels.{next_pixel}
use Rattle.mix_script.proofs.picture_text.pixels_text.Goals as goal

-- one pixel more is written
pub loop-pixel-preserved : goal.loop-pixel-preserved
loop-pixel-preserved c = next_pixel c.args.rgba.now c.loop-pixel.pixel _ _ _ _ _
    c.loop-pixel.invariant c.in_ok-push_str.ensures.bytes c.in_ok-push_str-2.ensures.bytes
    (c.as_str.ensures.value ∙ c.in_ok-digits.ensures) (omega arith)
