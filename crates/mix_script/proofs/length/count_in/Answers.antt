-- a block's mask has a bit for each such byte
use Rattle.std.proofs.Common.{◌≡◌, eqb, ap, ◌∙◌, arith, w8}
use Rattle.std.specs.Prelude.{count_by, count_ones}
use Rattle.std.proofs.lemmas.Simd.{bitmask_splat, ones-mask_l}
use Rattle.std.proofs.lemmas.List.Sums.{count_by-le-length}
use Rattle.mix_script.proofs.length.count_in.Goals as goal

pub returns : goal.returns
returns c =
    let block = c.args.block in
    let byte = c.args.byte in
    let counted = ap count_ones (bitmask_splat w8 eqb block 64 byte c.requires (omega arith))
    ∙ ones-mask_l (λ b. eqb b byte) block in
    record {
      value = counted;
      within = omega (arith, counted, count_by-le-length (λ b. eqb b byte) block);
    }
