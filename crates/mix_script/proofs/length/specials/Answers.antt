-- one more block
use Rattle.std.proofs.Common.{◌≡◌, ◌+◌, ◌≤◌, length, drop, arith}
use Rattle.std.specs.Prelude.{count_by}
use Rattle.std.proofs.lemmas.List.Sums.{count_by-le-length}
use Rattle.std.proofs.lemmas.Simd.{length-chunk}
use Rattle.mix_script.specs.Escapes.{is_special}
use Rattle.mix_script.proofs.EscapeLemmas.{counted-block}
use Rattle.mix_script.proofs.length.specials.Goals as goal

pub blocks-2-preserved : goal.blocks-2-preserved
blocks-2-preserved c =
    let l = c.blocks-2 in
    let text = c.args.text.now in
    let block = counted-block is_special text l.at 64 in
    record {
      all = omega (arith, l.invariant.all, block, c.specials_of-found.ensures.value);
      within = omega arith;
    }

-- a block has sixty-four bytes
pub specials_of-found-requires : goal.specials_of-found-requires
specials_of-found-requires c =
    length-chunk c.blocks-2.at 64 c.args.text.now (omega (arith, c.blocks-2.invariant.within))

-- there are no more of them than bytes
pub overflow_add-found : goal.overflow_add-found
overflow_add-found c =
    let l = c.blocks-2 in
    let text = c.args.text.now in
    let block = counted-block is_special text l.at 64 in
    let few = count_by-le-length is_special text in
    omega (arith, l.invariant.all, block, c.specials_of-found.ensures.value, few)
