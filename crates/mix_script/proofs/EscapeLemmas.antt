-- Escaped texts, byte by byte.
use Rattle.std.proofs.Common.{◌≡◌, ℕ, suc, ◌+◌, ◌<◌, List, [], ◌∷◌, ◌++◌, length, get_or, drop, take, Bool, true, false, Option, Some, None, refl, sym, ap, ◌∙◌, append_assoc, add-one, arith}
use Rattle.std.proofs.Math.Seq.{drop-cons, drop-drop}
use Rattle.std.proofs.lemmas.Bool.{cases_Bool, ne_eqb}
use Rattle.std.specs.List.{list_any}
use Rattle.std.specs.Option.{option_map}
use Rattle.std.specs.Prelude.{◌||◌, ◌==◌, if◌then◌else◌, count_by, cond, ◌≤◌}
use Rattle.std.proofs.Common.{subst, inl, inr, lit<, append-nil, length-append}
use Rattle.std.proofs.lemmas.Bool.{and_parts, cases_lt, le-ltb, eqb-true}
use Rattle.std.proofs.lemmas.Str.{IsUtf8-nil, IsUtf8-append, IsUtf8-from_ascii, encode_ascii}
use Rattle.std.proofs.lemmas.Str.Ascii.{IsAscii-nil, IsAscii-cons}
use Rattle.std.specs.Str.{IsUtf8, IsAscii}
use Rattle.std.proofs.lemmas.List.{drop_all}
use Rattle.std.proofs.lemmas.List.Recursion.{is_count_by}
use Rattle.std.proofs.lemmas.List.Sums.{sum_by-cons, sum_by-take-drop}
use lib.Utf8.{scalar, scalars, encode, encodes}
use lib.Dec.{ltb}
use Rattle.mix_script.specs.Escapes.{escaped, escaped_byte, unescaped, unescaped_after, put_first, meaning, is_special, is_backslash, is_line_feed}

-- bytes before a text, where there is one
abbrev pub put_before : List ℕ → Option (List ℕ) → Option (List ℕ)
put_before front text = option_map (λ t. front ++ t) text

-- one byte more before it
pub put_before-more : (front : List ℕ) (b : ℕ) (text : Option (List ℕ))
    → put_before front (put_first (Some b) text) ≡ put_before (front ++ (b ∷ [])) text
put_before-more front b None = refl
put_before-more front b (Some text) = ap Some (sym (append_assoc front (b ∷ []) text))

-- what is left begins with the byte at its place
pub left-cons : (marked : Bool) (written : List ℕ) (i : ℕ) → i < length written
    → unescaped_after marked (drop i written)
    ≡ unescaped_after marked (get_or written i 0 ∷ drop (i + 1) written)
left-cons marked written i within =
    rw add-one (ap (unescaped_after marked) (drop-cons written i 0 within))

-- a backslash
mark-cons : (rest : List ℕ) (b : ℕ) → b ≡ 92 → unescaped_after false (b ∷ rest) ≡ unescaped_after true rest
mark-cons rest b is = rw is refl

-- a backslash and the byte behind it
pub pair-at : (written : List ℕ) (at : ℕ) → at + 1 < length written → get_or written at 0 ≡ 92
    → unescaped_after false (drop at written)
    ≡ put_first (meaning (get_or written (at + 1) 0)) (unescaped_after false (drop (at + 2) written))
pair-at written at within mark =
    let on : at + 1 + 1 ≡ at + 2 = omega arith in
    left-cons false written at (omega arith) ∙ mark-cons (drop (at + 1) written) _ mark
    ∙ left-cons true written (at + 1) within
    ∙ ap (λ n. put_first (meaning (get_or written (at + 1) 0)) (unescaped_after false (drop n written))) on

pub pair-meant : (written : List ℕ) (at m : ℕ) → at + 1 < length written → get_or written at 0 ≡ 92
    → meaning (get_or written (at + 1) 0) ≡ Some m
    → unescaped_after false (drop at written) ≡ put_first (Some m) (unescaped_after false (drop (at + 2) written))
pair-meant written at m within mark is =
    pair-at written at within mark
    ∙ ap (λ byte. put_first byte (unescaped_after false (drop (at + 2) written))) is

pub pair-other : (written : List ℕ) (at : ℕ) → at + 1 < length written → get_or written at 0 ≡ 92
    → meaning (get_or written (at + 1) 0) ≡ None → unescaped_after false (drop at written) ≡ None
pair-other written at within mark is =
    pair-at written at within mark
    ∙ ap (λ byte. put_first byte (unescaped_after false (drop (at + 2) written))) is

-- a backslash at the end
pub mark-at-end : (written : List ℕ) (at : ℕ) → at + 1 ≡ length written → get_or written at 0 ≡ 92
    → unescaped_after false (drop at written) ≡ None
mark-at-end written at end mark =
    left-cons false written at (omega arith) ∙ mark-cons (drop (at + 1) written) _ mark
    ∙ ap (unescaped_after true) (drop_all (at + 1) written (omega arith))

-- a line feed as it is
feed-cons : (rest : List ℕ) (b : ℕ) → b ≡ 10 → unescaped_after false (b ∷ rest) ≡ None
feed-cons rest b is = rw is refl

pub feed-at : (written : List ℕ) (at : ℕ) → at < length written → get_or written at 0 ≡ 10
    → unescaped_after false (drop at written) ≡ None
feed-at written at within feed =
    left-cons false written at within ∙ feed-cons (drop (at + 1) written) _ feed

-- a byte that stands for itself
pub plain-cons : (rest : List ℕ) (b : ℕ) → is_backslash b ≡ false → is_line_feed b ≡ false
    → unescaped_after false (b ∷ rest) ≡ put_first (Some b) (unescaped_after false rest)
plain-cons rest b not_mark not_feed = rw (not_mark, not_feed) refl

pub plain-at : (written : List ℕ) (at : ℕ) → at < length written
    → is_backslash (get_or written at 0) ≡ false → is_line_feed (get_or written at 0) ≡ false
    → unescaped_after false (drop at written)
    ≡ put_first (Some (get_or written at 0)) (unescaped_after false (drop (at + 1) written))
plain-at written at within not_mark not_feed =
    left-cons false written at within ∙ plain-cons (drop (at + 1) written) _ not_mark not_feed

-- a byte that isn't special
plain_parts : (x y : Bool) (any : Bool) → x || y || any ≡ false → (x ≡ false) × (y ≡ false) × (any ≡ false)
plain_parts false false false h = (refl, refl, refl)
plain_parts true y any h = cc
plain_parts false true any h = cc
plain_parts false false true h = cc

-- a text without a special byte stands as it is
pub unescaped-plain : (written : List ℕ) → list_any is_special written ≡ false
    → unescaped written ≡ Some written
unescaped-plain [] h = refl
unescaped-plain (b ∷ rest) h =
    let parts = plain_parts (is_backslash b) (is_line_feed b) (list_any is_special rest) h in
    plain-cons rest b parts.0 parts.1 ∙ ap (put_first (Some b)) (unescaped-plain rest parts.2)

-- a byte more is written
pub written-more : (text written : List ℕ) (i : ℕ) → i < length text
    → escaped text ≡ written ++ escaped (drop i text)
    → escaped text ≡ (written ++ escaped_byte (get_or text i 0)) ++ escaped (drop (i + 1) text)
written-more text written i within so_far =
    so_far ∙ rw add-one (ap (λ t. written ++ escaped t) (drop-cons text i 0 within))
    ∙ sym (append_assoc written (escaped_byte (get_or text i 0)) (escaped (drop (i + 1) text)))

-- a byte that isn't special is written as it is
escaped_byte-plain : (b : ℕ) → is_backslash b ≡ false → is_line_feed b ≡ false → escaped_byte b ≡ b ∷ []
escaped_byte-plain b not_mark not_feed = rw (not_mark, not_feed) refl

-- so is a text without a special byte
pub escaped-plain : (text : List ℕ) → list_any is_special text ≡ false → escaped text ≡ text
escaped-plain [] h = refl
escaped-plain (b ∷ rest) h =
    let parts = plain_parts (is_backslash b) (is_line_feed b) (list_any is_special rest) h in
    rw (escaped_byte-plain b parts.0 parts.1) (ap (λ t. b ∷ t) (escaped-plain rest parts.2))

pub escaped-append : (front text : List ℕ) → escaped (front ++ text) ≡ escaped front ++ escaped text
escaped-append [] text = refl
escaped-append (b ∷ front) text =
    rw (escaped-append front text) (sym (append_assoc (escaped_byte b) (escaped front) (escaped text)))

-- each special byte is written as two
length-escaped_byte : (b : ℕ) (mark feed : Bool) → is_backslash b ≡ mark → is_line_feed b ≡ feed
    → length (escaped_byte b) ≡ (if mark || feed then 2 else 1)
length-escaped_byte b true feed is_mark is_feed = rw is_mark refl
length-escaped_byte b false true is_mark is_feed = rw (is_mark, is_feed) refl
length-escaped_byte b false false is_mark is_feed = rw (is_mark, is_feed) refl

-- how many bytes are written as two
abbrev specials : List ℕ → ℕ
specials [] = 0
specials (b ∷ rest) = cond (is_special b) (1 + specials rest) (specials rest)

length-step : (special : Bool) (one rest all n count : ℕ) → one ≡ (if special then 2 else 1)
    → rest ≡ n + count → all ≡ one + rest → all ≡ suc n + cond special (1 + count) count
length-step true one rest all n count is_one is_rest is_all = omega arith
length-step false one rest all n count is_one is_rest is_all = omega arith

length-specials : (text : List ℕ) → length (escaped text) ≡ length text + specials text
length-specials [] = refl
length-specials (b ∷ rest) =
    length-step (is_special b) (length (escaped_byte b)) (length (escaped rest)) _ (length rest) (specials rest)
    (length-escaped_byte b (is_backslash b) (is_line_feed b) refl refl) (length-specials rest)
    (length-append (escaped_byte b) (escaped rest))

pub length-escaped : (text : List ℕ) → length (escaped text) ≡ length text + count_by is_special text
length-escaped text =
    length-specials text ∙ ap (λ n. length text + n) (is_count_by specials is_special refl (λ b rest. refl) text)

-- a byte is a backslash or a line feed, and never both
apart : (b : ℕ) → is_backslash b ≡ true → is_line_feed b ≡ false
apart b mark = let is : b ≡ 92 = eqb-true b 92 mark in rw is refl

one_of : (mark feed : Bool) → (mark ≡ true → feed ≡ false)
    → cond (mark || feed) 1 0 ≡ cond mark 1 0 + cond feed 1 0
one_of true true never = cc (never refl)
one_of true false never = refl
one_of false true never = refl
one_of false false never = refl

pub special-counts : (text : List ℕ)
    → count_by is_special text ≡ count_by is_backslash text + count_by is_line_feed text
special-counts [] = refl
special-counts (b ∷ rest) =
    let all = sum_by-cons (λ y. cond (is_special y) 1 0) b rest in
    let marks = sum_by-cons (λ y. cond (is_backslash y) 1 0) b rest in
    let feeds = sum_by-cons (λ y. cond (is_line_feed y) 1 0) b rest in
    let here = one_of (is_backslash b) (is_line_feed b) (apart b) in
    omega (arith, all, marks, feeds, here, special-counts rest)

pub ruleset counts = (special-counts)

-- what is counted in a block, and then in what is left
pub counted-block : (p : ℕ → Bool) (text : List ℕ) (at n : ℕ)
    → count_by p (drop at text) ≡ count_by p (take n (drop at text)) + count_by p (drop (at + n) text)
counted-block p text at n =
    sym (sum_by-take-drop (λ y. cond (p y) 1 0) (drop at text) n)
    ∙ ap (λ rest. count_by p (take n (drop at text)) + count_by p rest) (drop-drop n at text)

-- an escaped text, byte by byte
pub ruleset bytes_in_turn = (pair-meant, pair-other, mark-at-end, feed-at, plain-at)

pub ruleset lengths = (length-escaped)

-- the bytes of a character beyond ASCII are written as they are
high-cons : (b : ℕ) (rest : List ℕ) → 128 ≤ b → escaped rest ≡ rest → escaped (b ∷ rest) ≡ b ∷ rest
high-cons b rest high is =
    let not_mark : is_backslash b ≡ false = ne_eqb b 92 (λ e. omega arith) in
    let not_feed : is_line_feed b ≡ false = ne_eqb b 10 (λ e. omega arith) in
    rw (escaped_byte-plain b not_mark not_feed) (ap (λ t. b ∷ t) is)

high-cases : (two three : Bool) (a b c d e f g h i : ℕ) → 128 ≤ a → 128 ≤ b → 128 ≤ c → 128 ≤ d → 128 ≤ e → 128 ≤ f → 128 ≤ g → 128 ≤ h → 128 ≤ i
    → escaped (cond two (a ∷ b ∷ []) (cond three (c ∷ d ∷ e ∷ []) (f ∷ g ∷ h ∷ i ∷ [])))
    ≡ cond two (a ∷ b ∷ []) (cond three (c ∷ d ∷ e ∷ []) (f ∷ g ∷ h ∷ i ∷ []))
high-cases true three a b c d e f g h i pa pb pc pd pe pf pg ph pi = high-cons a _ pa (high-cons b [] pb refl)
high-cases false true a b c d e f g h i pa pb pc pd pe pf pg ph pi = high-cons c _ pc (high-cons d _ pd (high-cons e [] pe refl))
high-cases false false a b c d e f g h i pa pb pc pd pe pf pg ph pi = high-cons f _ pf (high-cons g _ pg (high-cons h _ ph (high-cons i [] pi refl)))

high-char : (c : ℕ) → 128 ≤ c → escaped (encode c) ≡ encode c
unfolding encode
high-char c high =
    rw (le-ltb c 128 high) (high-cases (ltb c 2048) (ltb c 65536) _ _ _ _ _ _ _ _ _
    (omega arith) (omega arith) (omega arith) (omega arith) (omega arith) (omega arith) (omega arith) (omega arith) (omega arith))

ascii-char : (c : ℕ) → c < 128 → (mark feed : Bool) → is_backslash c ≡ mark → is_line_feed c ≡ feed
    → IsAscii (escaped_byte c)
ascii-char c low true feed is_mark is_feed =
    rw is_mark (IsAscii-cons 92 (92 ∷ []) (lit< tt) (IsAscii-cons 92 [] (lit< tt) IsAscii-nil))
ascii-char c low false true is_mark is_feed =
    rw (is_mark, is_feed) (IsAscii-cons 92 (110 ∷ []) (lit< tt) (IsAscii-cons 110 [] (lit< tt) IsAscii-nil))
ascii-char c low false false is_mark is_feed =
    rw (is_mark, is_feed) (IsAscii-cons c [] low IsAscii-nil)

-- a character with its escape is a text
char-utf8 : (c : ℕ) → scalar c ≡ true → IsUtf8 (escaped (encode c))
char-utf8 c ok = elim (cases_lt c 128) [
  | inl low ↦
      rw (encode_ascii c low, append-nil) (IsUtf8-from_ascii (escaped_byte c) (ascii-char c low (is_backslash c) (is_line_feed c) refl refl))
  | inr high ↦ rw (high-char c high) (c ∷ [], (rw ok refl, append-nil (encode c)))
]

chars-utf8 : (cs : List ℕ) → scalars cs ≡ true → IsUtf8 (escaped (encodes cs))
chars-utf8 [] ok = IsUtf8-nil
chars-utf8 (c ∷ cs) ok =
    let parts = and_parts (scalar c) (scalars cs) ok in
    rw (escaped-append (encode c) (encodes cs))
    (IsUtf8-append (escaped (encode c)) (escaped (encodes cs)) (char-utf8 c parts.0) (chars-utf8 cs parts.1))

-- and so is a text with its escapes
pub IsUtf8-escaped : (text : List ℕ) → IsUtf8 text → IsUtf8 (escaped text)
IsUtf8-escaped text utf8 = subst (λ (t : List ℕ). IsUtf8 (escaped t)) utf8.1.1 (chars-utf8 utf8.0 utf8.1.0)

-- a byte with its escape stands for itself
unescaped-byte : (b : ℕ) (rest : List ℕ) (mark feed : Bool) → is_backslash b ≡ mark → is_line_feed b ≡ feed
    → unescaped_after false (escaped_byte b ++ rest) ≡ put_first (Some b) (unescaped_after false rest)
unescaped-byte b rest true feed is_mark is_feed =
    let is : b ≡ 92 = eqb-true b 92 is_mark in rw is refl
unescaped-byte b rest false true is_mark is_feed =
    let is : b ≡ 10 = eqb-true b 10 is_feed in rw is refl
unescaped-byte b rest false false is_mark is_feed =
    rw (escaped_byte-plain b is_mark is_feed) (plain-cons rest b is_mark is_feed)

-- a text with its escapes stands for the text
pub unescaped-escaped : (text : List ℕ) → unescaped (escaped text) ≡ Some text
unescaped-escaped [] = refl
unescaped-escaped (b ∷ rest) =
    unescaped-byte b (escaped rest) (is_backslash b) (is_line_feed b) refl refl
    ∙ ap (put_first (Some b)) (unescaped-escaped rest)

-- what a byte before a text is
put_first-some : (byte : Option ℕ) (rest : Option (List ℕ)) (text : List ℕ) → put_first byte rest ≡ Some text
    → (b : ℕ) × (t : List ℕ) × (byte ≡ Some b) × (rest ≡ Some t) × (b ∷ t ≡ text)
put_first-some None rest text h = cc h
put_first-some (Some b) None text h = cc h
put_first-some (Some b) (Some t) text h = (b, t, refl, refl, cc h)

-- the backslash that isn't counted yet
abbrev before : Bool → List ℕ → List ℕ
before true rest = 92 ∷ rest
before false rest = rest

-- a byte after a backslash is written back with it
meant-other : (b m : ℕ) (n : Bool) → (b == 110) ≡ n → (if n then Some 10 else None) ≡ Some m
    → escaped_byte m ≡ 92 ∷ (b ∷ [])
meant-other b m true is_n h =
    let feed : 10 ≡ m = cc h in
    let is : b ≡ 110 = eqb-true b 110 is_n in
    rw (← feed, is) refl
meant-other b m false is_n h = cc h

meant-back : (b m : ℕ) (mark : Bool) → is_backslash b ≡ mark
    → (if mark then Some 92 else (if b == 110 then Some 10 else None)) ≡ Some m
    → escaped_byte m ≡ 92 ∷ (b ∷ [])
meant-back b m true is_mark h =
    let meant : 92 ≡ m = cc h in
    let is : b ≡ 92 = eqb-true b 92 is_mark in
    rw (← meant, is) refl
meant-back b m false is_mark h = meant-other b m (b == 110) refl h

back-meant : (b m : ℕ) (t rest text : List ℕ) → meaning b ≡ Some m → escaped t ≡ rest → m ∷ t ≡ text
    → escaped text ≡ 92 ∷ (b ∷ rest)
back-meant b m t rest text is ih e =
    subst (λ (x : List ℕ). escaped x ≡ 92 ∷ (b ∷ rest)) e
    (rw (meant-back b m (is_backslash b) refl is) (ap (λ x. 92 ∷ (b ∷ x)) ih))

back-plain : (b m : ℕ) (t rest text : List ℕ) → is_backslash b ≡ false → is_line_feed b ≡ false
    → Some b ≡ Some m → escaped t ≡ rest → m ∷ t ≡ text → escaped text ≡ b ∷ rest
back-plain b m t rest text not_mark not_feed is ih e =
    let same : b ≡ m = cc is in
    subst (λ (x : List ℕ). escaped x ≡ b ∷ rest) e
    (rw (← same, escaped_byte-plain b not_mark not_feed) (ap (λ x. b ∷ x) ih))

-- a text that was read is written back
pub unescaped-back : (marked : Bool) (written text : List ℕ) → unescaped_after marked written ≡ Some text
    → escaped text ≡ before marked written
unescaped-back true [] text h = cc h
unescaped-back false [] text h =
    let e : [] ≡ text = cc h in rw (← e) refl
unescaped-back true (b ∷ rest) text h =
    let parts = put_first-some (meaning b) (unescaped_after false rest) text h in
    back-meant b parts.0 parts.1 rest text parts.2 (unescaped-back false rest parts.1 parts.3) parts.4
unescaped-back false (b ∷ rest) text h = elim (cases_Bool (is_backslash b)) [
  | inl mark ↦
      let ih = unescaped-back true rest text (rw mark at h) in
      rw (eqb-true b 92 mark) ih
  | inr not_mark ↦ elim (cases_Bool (is_line_feed b)) [
    | inl feed ↦ cc (rw (not_mark, feed) at h)
    | inr not_feed ↦
        let parts = put_first-some (Some b) (unescaped_after false rest) text (rw (not_mark, not_feed) at h) in
        back-plain b parts.0 parts.1 rest text not_mark not_feed parts.2 (unescaped-back false rest parts.1 parts.3) parts.4
  ]
]
