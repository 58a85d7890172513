-- The samples of a block, and what stands for its tracks.
use Rattle.std.proofs.Common.{◌≡◌, ℕ, suc, ◌+◌, Bool, true, ℤ, negsuc, pos, List, ◌++◌, length, take, drop}
use Rattle.std.proofs.Common.{IsTrue, flat_map, codes, decimal, sym, ap, ◌∙◌, arith}
use Rattle.std.specs.Prelude.{◌==◌, ◌&&◌}
use Rattle.std.specs.List.{list_all, range_with_len}
use Rattle.std.proofs.lemmas.Bool.Decides.{nat_tests}
use Rattle.std.proofs.lemmas.List.Elements.{All-take, All-drop}
use Rattle.std.proofs.lemmas.List.Sums.{AllPass-from_list_all, list_all-from_AllPass}
use Rattle.mix_model.specs.declared.picture.Block.{Block}
use Rattle.mix_model.specs.Encoding.{samples_of}
use Rattle.mix_model.specs.Sounds.{is_block}
use Rattle.mix_model.specs.Values.{is_within}
use Rattle.mix_script.specs.BlockText.{peak, peak_text, peaks_text}
use Rattle.mix_script.proofs.Pixels.{one_more}

passes : (b : Bool) → IsTrue b → b ≡ true
passes b h = grind (arith, nat_tests)

passed : (b : Bool) → b ≡ true → IsTrue b
passed b h = grind (arith, nat_tests)

second : (a b : Bool) → IsTrue (a && b) → IsTrue b
second a b h = grind (arith, nat_tests)

-- each sample of a block is within its range
pub block_within : (block : Block) → IsTrue (is_block block) →
    IsTrue (list_all (is_within (negsuc 32767) (pos 32767)) block.tracks)
block_within block valid = second (length block.tracks == 12288) _ valid

-- and so is each of some of them
pub some_within : (test : ℤ → Bool) (from n : ℕ) (samples : List ℤ) →
    IsTrue (list_all test samples) → IsTrue (list_all test (take n (drop from samples)))
some_within test from n samples all =
    let each = AllPass-from_list_all test samples (passes _ all) in
    passed _ (list_all-from_AllPass test (take n (drop from samples))
    (All-take (λ z. test z ≡ true) n (drop from samples)
    (All-drop (λ z. test z ≡ true) from samples each)))

-- what stands for the tracks below one, and for that one
pub place_more : (f : ℕ → List ℕ) (n : ℕ) → flat_map f (range_with_len 0 (n + 1))
    ≡ flat_map f (range_with_len 0 n) ++ f n
place_more f n =
    let next : n + 1 ≡ suc n = omega arith in
    let here : 0 + n ≡ n = omega arith in
    ap (λ k. flat_map f (range_with_len 0 k)) next ∙ one_more f 0 n
    ∙ ap (λ k. flat_map f (range_with_len 0 n) ++ f k) here

-- the peak of a track behind those of the tracks before it
pub next_peak : (block : Block) (track greatest : ℕ) (samples : List ℤ) (text piece whole : List ℕ) →
    text ≡ peaks_text block track → whole ≡ text ++ piece →
    piece ≡ codes " " ++ decimal greatest → greatest ≡ peak samples →
    samples ≡ samples_of block track → whole ≡ peaks_text block (track + 1)
next_peak block track greatest samples text piece whole before behind here is_peak are =
    behind ∙ ap (λ t. t ++ piece) before
    ∙ ap (λ t. peaks_text block track ++ t)
    (here ∙ ap (λ g. codes " " ++ decimal g) (is_peak ∙ ap peak are))
    ∙ sym (place_more (peak_text block) track)
