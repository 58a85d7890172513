-- Bytes that are moved onto a line, up to its line feed.
use Rattle.std.proofs.Common.{◌≡◌, ℕ, zero, suc, ◌+◌, ◌-◌, ◌<◌, ◌≤◌, Bool, true, false, cond, Some, None}
use Rattle.std.proofs.Common.{List, [], ◌∷◌, ◌++◌, length, take, drop, get_or, refl, sym, ap, ◌∙◌, arith}
use Rattle.std.specs.List.{position, position_or_len, slice_range}
use Rattle.std.proofs.lemmas.Bool.{ltb-false}
use Rattle.std.proofs.lemmas.List.{length-take, drop-take, drop-drop}
use Rattle.std.proofs.lemmas.List.Quantifiers.{position-Some}
use Rattle.std.proofs.lemmas.List.Sums.{fails_before_first}
use Rattle.mix_outside.specs.Lines.{Lines, End, Cut, Whole, is_feed, onto, lines_of, last_line, bytes_of_first, put_before}

-- bytes put before bytes
put-append : (xs ys : List ℕ) (m : Lines) → put_before (xs ++ ys) m ≡ put_before xs (put_before ys m)
put-append [] ys m = refl
put-append (x ∷ xs) ys m = ap (onto x) (put-append xs ys m)

-- bytes put before a line feed are a line
put-whole : (xs ys : List ℕ) (m : Lines) → put_before xs (Whole ys m) ≡ Whole (xs ++ ys) m
put-whole [] ys m = refl
put-whole (x ∷ xs) ys m = ap (onto x) (put-whole xs ys m)

onto-last : (x : ℕ) (xs : List ℕ) → onto x (last_line xs) ≡ last_line (x ∷ xs)
onto-last x [] = refl
onto-last x (y ∷ xs) = refl

-- bytes put before nothing are the last line
pub put-end : (xs : List ℕ) → put_before xs End ≡ last_line xs
put-end [] = refl
put-end (x ∷ xs) = ap (onto x) (put-end xs) ∙ onto-last x xs

first-onto : (x : ℕ) (m : Lines) → bytes_of_first (onto x m) ≡ suc (bytes_of_first m)
first-onto x End = refl
first-onto x (Cut line) = refl
first-onto x (Whole line m) = omega arith

-- the first line takes the bytes that are put before it
first-put : (xs : List ℕ) (m : Lines) → bytes_of_first (put_before xs m) ≡ length xs + bytes_of_first m
first-put [] m = omega arith
first-put (x ∷ xs) m = let e = first-onto x (put_before xs m) in let h = first-put xs m in omega arith

NoFeedBelow : ℕ → List ℕ → Type 0
NoFeedBelow i xs = (k : ℕ) → k < i → is_feed (get_or xs k 0) ≡ false

feed-first : (x : ℕ) (m n : Lines) → is_feed x ≡ true → cond (is_feed x) m n ≡ m
feed-first x m n e = rw e refl

byte-first : (x : ℕ) (m n : Lines) → is_feed x ≡ false → cond (is_feed x) m n ≡ n
byte-first x m n e = rw e refl

-- the bytes up to the first line feed are the first line
run-to : (xs rest : List ℕ) (i : ℕ) → i < length xs → is_feed (get_or xs i 0) ≡ true →
    ((k : ℕ) → k < i → is_feed (get_or xs k 0) ≡ false) →
    lines_of (xs ++ rest) ≡ Whole (take i xs) (lines_of (drop (suc i) xs ++ rest))
run-to [] rest i below feed before = absurd (omega arith)
run-to (x ∷ xs) rest zero below feed before = feed-first x _ _ feed
run-to (x ∷ xs) rest (suc i) below feed before =
    byte-first x _ _ (before 0 (omega arith)) ∙
    ap (onto x) (run-to xs rest i (omega arith) feed (λ k h. before (suc k) (omega arith)))

-- bytes without a line feed stand before what comes
run-all : (xs rest : List ℕ) → ((k : ℕ) → k < length xs → is_feed (get_or xs k 0) ≡ false) →
    lines_of (xs ++ rest) ≡ put_before xs (lines_of rest)
run-all [] rest before = refl
run-all (x ∷ xs) rest before =
    byte-first x _ _ (before 0 (omega arith)) ∙
    ap (onto x) (run-all xs rest (λ k h. before (suc k) (omega arith)))

run-to-feed : (xs rest : List ℕ) (at : ℕ) → position is_feed xs ≡ Some at →
    lines_of (xs ++ rest) ≡ Whole (take at xs) (lines_of (drop (at + 1) xs ++ rest))
run-to-feed xs rest at found =
    let found_is = position-Some is_feed xs at 0 found in
    let next : suc at ≡ at + 1 = omega arith in
    run-to xs rest at found_is.0 found_is.1 found_is.2 ∙
    ap (λ n. Whole (take at xs) (lines_of (drop n xs ++ rest))) next

none-only : (b : Bool) (n : ℕ) → cond b (Some n) None ≡ None → b ≡ false
none-only true n e = absurd (grind arith)
none-only false n e = refl

-- where no line feed is found there is none
no-feed : (xs : List ℕ) → position is_feed xs ≡ None → (k : ℕ) → k < length xs →
    is_feed (get_or xs k 0) ≡ false
no-feed xs none k below =
    let past = ltb-false (position_or_len is_feed xs) (length xs) (none-only _ _ none) in
    fails_before_first is_feed xs k 0 (omega arith)

-- what stood ahead up to a line feed goes onto the line, which is then whole
pub whole_moves : (begun line ahead left : List ℕ) (at : ℕ) → position is_feed ahead ≡ Some at →
    line ≡ begun ++ take at ahead → left ≡ drop (at + 1) ahead → (rest : List ℕ) →
    put_before begun (lines_of (ahead ++ rest)) ≡ Whole line (lines_of (left ++ rest))
whole_moves begun line ahead left at found grown gone rest =
    ap (put_before begun) (run-to-feed ahead rest at found) ∙
    put-whole begun (take at ahead) _ ∙ rw (← grown, ← gone) refl

-- all that stood ahead goes onto the line, which goes on
pub open_moves : (begun line ahead left : List ℕ) → position is_feed ahead ≡ None →
    line ≡ begun ++ ahead → left ≡ [] → (rest : List ℕ) →
    put_before begun (lines_of (ahead ++ rest)) ≡ put_before line (lines_of (left ++ rest))
open_moves begun line ahead left none grown gone rest =
    ap (put_before begun) (run-all ahead rest (no-feed ahead none)) ∙
    sym (put-append begun ahead (lines_of rest)) ∙ rw (← grown, gone) refl

-- a line feed that comes too late
pub whole_past : (begun ahead : List ℕ) (at room : ℕ) → position is_feed ahead ≡ Some at →
    length begun ≤ room → room - length begun ≤ at → (rest : List ℕ) →
    room < bytes_of_first (put_before begun (lines_of (ahead ++ rest)))
whole_past begun ahead at room found fits late rest =
    let found_is = position-Some is_feed ahead at 0 found in
    let taken = length-take at ahead in
    rw (run-to-feed ahead rest at found, first-put) (omega (arith, found_is.0))

-- too many bytes without a line feed
pub open_past : (begun ahead : List ℕ) (room : ℕ) → position is_feed ahead ≡ None →
    length begun ≤ room → room - length begun < length ahead → (rest : List ℕ) →
    room < bytes_of_first (put_before begun (lines_of (ahead ++ rest)))
open_past begun ahead room none fits late rest =
    rw (run-all ahead rest (no-feed ahead none), first-put, first-put) (omega arith)

-- the front of a range goes
pub range_goes : (bytes : List ℕ) (start end n : ℕ) → n ≤ end - start →
    slice_range bytes (start + n) end ≡ drop n (slice_range bytes start end)
range_goes bytes start end n fits =
    let size : end - start ≡ n + (end - (start + n)) = omega arith in
    rw size (rw (drop-take n (end - (start + n)) (drop start bytes), drop-drop n start bytes) refl)

-- bytes with nothing behind them are the last line
pub ends_there : (all : Lines) (line left : List ℕ) → all ≡ put_before line (lines_of left) →
    left ≡ [] → all ≡ last_line line
ends_there all line left begun none =
    begun ∙ ap (λ bytes. put_before line (lines_of bytes)) none ∙ put-end line
