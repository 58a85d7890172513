-- The tracks of a mask, and how many bytes they have.
use Rattle.std.proofs.Common.{◌≡◌, ℕ, zero, suc, ◌+◌, ◌-◌, ◌*◌, ◌≤◌, ◌<◌}
use Rattle.std.proofs.Common.{Bool, true, false, cond, IsTrue}
use Rattle.std.proofs.Common.{List, [], ◌∷◌, ◌++◌, length, take, drop, filter, flat_map, get_or}
use Rattle.std.proofs.Common.{refl, ap, sym, subst, ◌∙◌, arith, add-one, zero-add}
use Rattle.std.specs.Prelude.{ℤ, ◌==◌, count_ones}
use Rattle.std.specs.List.{list_all, range_with_len}
use Rattle.std.proofs.lemmas.Bool.{eqb-true}
use Rattle.std.proofs.lemmas.List.{append-nil, length-append, length-drop, length-take-le}
use Rattle.std.proofs.lemmas.List.Elements.{All-get_or, All-take, All-drop, filter-append}
use Rattle.std.proofs.lemmas.List.FromFn.{get_or-range_with_len, length-range_with_len}
use Rattle.std.proofs.lemmas.List.Sums.{AllPass-from_list_all, list_all-from_AllPass}
use Rattle.std.proofs.lemmas.Grind.{flat_map-append}
use lib.Count.{ones}
use Rattle.mix_model.specs.declared.picture.Block.{Block}
use Rattle.mix_model.specs.Encoding.{pcm_of, sample_bytes, samples_of}
use Rattle.mix_model.specs.Sounds.{has_track, is_block}
use Rattle.mix_encode.proofs.Counting.{range_more}
use Rattle.mix_encode.proofs.TestLemmas.{both_true, is_true, true_is}

-- the numbers that pass a test, and the next one if it passes
passing_more : (test : ℕ → Bool) (n : ℕ) → filter test (range_with_len 0 (n + 1))
    ≡ filter test (range_with_len 0 n) ++ cond (test n) (n ∷ []) []
passing_more test n = ap (filter test) (range_more n)
    ∙ filter-append test (range_with_len 0 n) (n ∷ [])

-- a piece for each of them, and one for the next number, which passes
pub piece_more : {X : Type 0} (piece : ℕ → List X) (test : ℕ → Bool) (n : ℕ) →
    test n ≡ true → flat_map piece (filter test (range_with_len 0 (n + 1)))
    ≡ flat_map piece (filter test (range_with_len 0 n)) ++ piece n
piece_more piece test n passes =
    ap (flat_map piece) (passing_more test n)
    ∙ ap (λ b. flat_map piece (filter test (range_with_len 0 n) ++ cond b (n ∷ []) [])) passes
    ∙ flat_map-append piece (filter test (range_with_len 0 n)) (n ∷ [])
    ∙ ap (λ end. flat_map piece (filter test (range_with_len 0 n)) ++ end) (append-nil (piece n))

-- or doesn't
pub no_piece_more : {X : Type 0} (piece : ℕ → List X) (test : ℕ → Bool) (n : ℕ) →
    test n ≡ false → flat_map piece (filter test (range_with_len 0 (n + 1)))
    ≡ flat_map piece (filter test (range_with_len 0 n))
no_piece_more piece test n fails =
    ap (flat_map piece) (passing_more test n)
    ∙ ap (λ b. flat_map piece (filter test (range_with_len 0 n) ++ cond b (n ∷ []) [])) fails
    ∙ ap (flat_map piece) (append-nil (filter test (range_with_len 0 n)))

-- pieces of one length fill a list
abbrev Fill : (ℕ → List ℕ) → (ℕ → Bool) → ℕ → ℕ → Type 0
Fill piece test size n = length (flat_map piece (filter test (range_with_len 0 n)))
    ≡ size * length (filter test (range_with_len 0 n))

-- with the next number too
fill_more : (piece : ℕ → List ℕ) (test : ℕ → Bool) (n size : ℕ) (b : Bool) → test n ≡ b →
    length (piece n) ≡ size → Fill piece test size n → Fill piece test size (n + 1)
fill_more piece test n size true passes long before =
    let one : length (filter test (range_with_len 0 (n + 1)))
    ≡ length (filter test (range_with_len 0 n)) + 1 =
    ap length (passing_more test n)
    ∙ ap (λ b. length (filter test (range_with_len 0 n) ++ cond b (n ∷ []) [])) passes
    ∙ length-append (filter test (range_with_len 0 n)) (n ∷ []) in
    let more : size * (length (filter test (range_with_len 0 n)) + 1)
    ≡ size * length (filter test (range_with_len 0 n)) + size = grind arith in
    ap length (piece_more piece test n passes)
    ∙ length-append (flat_map piece (filter test (range_with_len 0 n))) (piece n)
    ∙ omega (arith, before, long, more, ap (λ k. size * k) one)
fill_more piece test n size false fails long before =
    let none : length (filter test (range_with_len 0 (n + 1)))
    ≡ length (filter test (range_with_len 0 n)) =
    ap length (passing_more test n)
    ∙ ap (λ b. length (filter test (range_with_len 0 n) ++ cond b (n ∷ []) [])) fails
    ∙ ap length (append-nil (filter test (range_with_len 0 n))) in
    ap length (no_piece_more piece test n fails) ∙ before ∙ sym (ap (λ k. size * k) none)

-- with all numbers below one
like_pieces : (piece : ℕ → List ℕ) (test : ℕ → Bool) (n size : ℕ) →
    ((k : ℕ) → k < n → length (piece k) ≡ size) → Fill piece test size n
like_pieces piece test zero size each = omega arith
like_pieces piece test (suc n) size each =
    let before : Fill piece test size n =
    like_pieces piece test n size (λ k below. each k (omega arith)) in
    let next : Fill piece test size (n + 1) =
    fill_more piece test n size (test n) refl (each n (omega arith)) before in
    let P : ℕ → Type 0 = Fill piece test size in
    subst P (add-one n) next

-- a sample has two bytes
two_bytes : (samples : List ℤ) → length (flat_map sample_bytes samples) ≡ 2 * length samples
two_bytes [] = refl
two_bytes (z ∷ samples) = let rest = two_bytes samples in omega (arith, rest)

-- a track has 2048 samples
track_long : (block : Block) (track : ℕ) → length block.tracks ≡ 12288 → track < 6 →
    length (flat_map sample_bytes (samples_of block track)) ≡ 4096
track_long block track whole below =
    let left : length (drop (2048 * track) block.tracks) ≡ 12288 - 2048 * track =
    length-drop (2048 * track) block.tracks ∙ ap (λ n. n - 2048 * track) whole in
    let long = length-take-le 2048 (drop (2048 * track) block.tracks) (omega (arith, left)) in
    two_bytes (samples_of block track) ∙ ap (λ n. 2 * n) long

-- whether a mask has as many ones as tracks
abbrev has_as_many : ℕ → Bool
has_as_many mask = count_ones mask == length (filter (has_track mask) (range_with_len 0 6))

-- each mask has
each_mask : list_all has_as_many (range_with_len 0 64) ≡ true
unfolding ones
each_mask = refl

-- so it counts them
tracks_counted : (mask : ℕ) → mask ≤ 63 →
    length (filter (has_track mask) (range_with_len 0 6)) ≡ count_ones mask
tracks_counted mask small =
    let inside : mask < length (range_with_len 0 64) = omega (arith, length-range_with_len 0 64) in
    let found = All-get_or (λ m. has_as_many m ≡ true) (range_with_len 0 64) mask 0 inside
    (AllPass-from_list_all has_as_many (range_with_len 0 64) each_mask) in
    let place : get_or (range_with_len 0 64) mask 0 ≡ mask =
    get_or-range_with_len 0 64 mask 0 (omega arith) ∙ zero-add mask in
    let P : ℕ → Type 0 = λ m. has_as_many m ≡ true in
    sym (eqb-true _ _ (subst P place found))

-- the bytes of all tracks of a mask
pub pcm_long : (block : Block) (mask : ℕ) → IsTrue (is_block block) → mask ≤ 63 →
    length (pcm_of block mask) ≡ 4096 * count_ones mask
unfolding pcm_of
pcm_long block mask valid small =
    let parts = both_true (length block.tracks == 12288) _ valid in
    let whole : length block.tracks ≡ 12288 = eqb-true _ _ (is_true _ parts.0) in
    like_pieces (λ track. flat_map sample_bytes (samples_of block track)) (has_track mask) 6 4096
    (λ track below. track_long block track whole below)
    ∙ ap (λ n. 4096 * n) (tracks_counted mask small)

-- samples within a range, and some of them
pub some_within : (test : ℤ → Bool) (from n : ℕ) (samples : List ℤ) →
    IsTrue (list_all test samples) → IsTrue (list_all test (take n (drop from samples)))
some_within test from n samples all =
    let each = AllPass-from_list_all test samples (is_true _ all) in
    true_is _ (list_all-from_AllPass test (take n (drop from samples))
    (All-take (λ z. test z ≡ true) n (drop from samples)
    (All-drop (λ z. test z ≡ true) from samples each)))
