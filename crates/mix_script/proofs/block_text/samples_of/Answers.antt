use Rattle.std.proofs.Common.{◌≡◌, ◌+◌, ◌-◌, ◌*◌, ℤ, negsuc, pos, List, take, drop, length}
use Rattle.std.proofs.Common.{IsTrue, ap, sym, subst, ◌∙◌, arith}
use Rattle.std.specs.List.{list_all}
use Rattle.mix_model.specs.Values.{is_within}
use Rattle.mix_script.proofs.Samples.{block_within, some_within}
use Rattle.mix_script.proofs.block_text.samples_of.Goals as goal

-- 2048 samples from the track's first on
pub returns-clause-value : goal.returns-clause-value
returns-clause-value c =
    let start = 2048 * c.args.track in
    let size : start + 2048 - start ≡ 2048 = omega arith in
    ap (λ n. take n (drop start c.as_slice-samples.result.now)) size
    ∙ ap (λ samples. take 2048 (drop start samples)) c.as_slice-samples.ensures.value

-- are some of the block's
pub returns-clause-within : goal.returns-clause-within
returns-clause-within c =
    let block = c.args.block.now in
    let start = 2048 * c.args.track in
    let P : List ℤ → Type 0 = λ samples. IsTrue (list_all (is_within (negsuc 32767) (pos 32767))
    (take (start + 2048 - start) (drop start samples))) in
    subst P (sym c.as_slice-samples.ensures.value)
    (some_within (is_within (negsuc 32767) (pos 32767)) start _ block.tracks
    (block_within block c.requires.block))
