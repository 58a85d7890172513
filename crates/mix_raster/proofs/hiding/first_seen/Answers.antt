use Rattle.std.proofs.Common.{◌-◌, subst, arith}
use Rattle.mix_model.specs.declared.draw.Draw.{Draw}
use Rattle.mix_raster.specs.Hiding.{Hides}
use Rattle.mix_raster.proofs.HidingLemmas.{seen_from}
use Rattle.mix_raster.proofs.hiding.first_seen.Goals as goal

-- the draws below one that hides them aren't seen
pub returns-then-hides : goal.returns-then-hides
returns-then-hides c =
    let P : Draw → Type 0 = λ draw. Hides draw c.args.band in record {
      seen = seen_from c.args.draws.now c.args.band (c.loop-k.k - 1) c.index-draws-k.result
          (omega arith) (subst P c.index-draws-k.is (c.hides.ensures.hides c.if-hides.true));
    }
