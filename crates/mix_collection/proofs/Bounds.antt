-- No more than so many bytes are read.
use Rattle.std.proofs.Common.{◌≡◌, ℕ, ◌+◌, ◌-◌, ◌<◌, ◌≤◌, Bool, true, false, cond, nat_le, nat_lt}
use Rattle.std.proofs.Common.{List, [], ◌∷◌, length, refl, ap, arith, codes}
use Rattle.std.proofs.Common.{Option, Some, None, option_map, Result, subst}
use Rattle.std.proofs.lemmas.Bool.{lt-ltb, ltb-true, leb-true, leb-false}
use Rattle.mix_outside.specs.Lines.{Lines, End, Cut, Whole, is_feed, onto, lines_of}
use Rattle.mix_model.specs.declared.collection.Collection.{Collection}
use Rattle.mix_model.specs.declared.collection.Line.{Line}
use Rattle.mix_collection.specs.Collections.{most_bytes, collection_in, collection_read, lines_in}
use Rattle.mix_collection.specs.Collections.{Head, head_in, login_in, login_or, last_in, name_in}
use Rattle.mix_collection.specs.Collections.{line_in, line_or_last, where_it, is_format_line, canvas_in}
use Rattle.mix_collection.specs.Collections.{rate_in, record_in, secret_in, collection_from, part_in, ◌>>=◌}
use Rattle.mix_collection.specs.Read.{Reads, Collects}
use Rattle.mix_collection.specs.Within.{within, lines_left}
use Rattle.mix_collection.specs.declared.collection_fault.CollectionFault.{CollectionFault}
use Rattle.mix_collection.specs.declared.feed.Feed.{Feed}

-- the bytes that lines take, each line feed among them
abbrev size_of : Lines → ℕ
size_of End = 0
size_of (Cut line) = length line
size_of (Whole line more) = length line + 1 + size_of more

size-onto : (byte : ℕ) (lines : Lines) → size_of (onto byte lines) ≡ size_of lines + 1
size-onto byte End = refl
size-onto byte (Cut line) = omega arith
size-onto byte (Whole line more) = omega arith

size-first : (feed : Bool) (byte : ℕ) (lines : Lines) →
    size_of (cond feed (Whole [] lines) (onto byte lines)) ≡ size_of lines + 1
size-first true byte lines = omega arith
size-first false byte lines = size-onto byte lines

size-lines : (bytes : List ℕ) → size_of (lines_of bytes) ≡ length bytes
size-lines [] = refl
size-lines (byte ∷ bytes) =
    let here = size-first (is_feed byte) byte (lines_of bytes) in
    let rest = size-lines bytes in omega arith

-- where there is room for all lines, all of them are read
all_fit : (room : ℕ) (lines : Lines) → size_of lines ≤ room → within room lines ≡ lines
all_fit room End small = refl
all_fit room (Cut line) small = refl
all_fit room (Whole line more) small =
    let here : nat_lt (length line) room ≡ true = lt-ltb (length line) room (omega arith) in
    let rest = all_fit (room - (length line + 1)) more (omega arith) in
    rw here (ap (Whole line) rest)

-- the last line is cut
abbrev is_torn : Lines → Bool
is_torn End = false
is_torn (Cut line) = true
is_torn (Whole line more) = is_torn more

-- where there isn't room for all lines, a line is cut
torn_at : (fits : Bool) (room : ℕ) (line : List ℕ) (more : Lines) →
    nat_lt (length line) room ≡ fits → room < size_of (Whole line more) →
    ((r : ℕ) → r < size_of more → is_torn (within r more) ≡ true) →
    is_torn (cond fits (Whole line (within (room - (length line + 1)) more)) (Cut line)) ≡ true
torn_at true room line more here large rest =
    let below = ltb-true (length line) room here in
    rest (room - (length line + 1)) (omega (arith, below))
torn_at false room line more here large rest = refl

too_large : (room : ℕ) (lines : Lines) → room < size_of lines → is_torn (within room lines) ≡ true
too_large room End large = absurd (omega arith)
too_large room (Cut line) large = refl
too_large room (Whole line more) large =
    torn_at (nat_lt (length line) room) room line more refl large (λ r h. too_large r more h)

last_torn : (program : Option (List ℕ)) (more : Lines) → is_torn more ≡ true →
    last_in program more ≡ None
last_torn None more h = refl
last_torn (Some name) End h = absurd (grind arith)
last_torn (Some name) (Cut line) h = refl
last_torn (Some name) (Whole line more) h = refl

neither : (line : Option Line) → line_or_last line None None ≡ None
neither None = refl
neither (Some line) = refl

lines_torn : (canvas : ℕ × ℕ) (lines : Lines) → is_torn lines ≡ true → lines_in canvas lines ≡ None
lines_torn canvas End h = refl
lines_torn canvas (Cut line) h = refl
lines_torn canvas (Whole line more) h =
    rw (lines_torn canvas more h, last_torn (name_in (codes "program") line) more h)
    (neither (line_in canvas line))

login_kept : (lines more : Lines) (secret : Option (List ℕ × List ℕ)) → is_torn lines ≡ true →
    is_torn more ≡ true → is_torn (login_or lines secret more).1 ≡ true
login_kept lines more None a b = a
login_kept lines more (Some secret) a b = b

login_torn : (lines : Lines) → is_torn lines ≡ true → is_torn (login_in lines).1 ≡ true
login_torn End h = h
login_torn (Cut line) h = refl
login_torn (Whole line more) h = login_kept (Whole line more) more (secret_in line) h h

-- where there is a part, or a head, a line behind it is cut
abbrev is_part_torn : {A : Type 0} → Option (A × Lines) → Bool
is_part_torn None = true
is_part_torn (Some part) = is_torn part.1

abbrev is_rest_torn : Option Head → Bool
is_rest_torn None = true
is_rest_torn (Some head) = is_torn head.rest

said_torn : {A : Type 0} (said : Option A) (more : Lines) → is_torn more ≡ true →
    is_part_torn (option_map (λ a. (a, more)) said) ≡ true
said_torn None more h = refl
said_torn (Some a) more h = h

part_torn : {A : Type 0} (read : List ℕ → Option A) (lines : Lines) → is_torn lines ≡ true →
    is_part_torn (part_in read lines) ≡ true
part_torn read End h = refl
part_torn read (Cut line) h = refl
part_torn read (Whole line more) h = said_torn (read line) more h

rest_torn : {A : Type 0} (part : Option (A × Lines)) (f : A × Lines → Option Head) →
    is_part_torn part ≡ true →
    ((p : A × Lines) → is_torn p.1 ≡ true → is_rest_torn (f p) ≡ true) →
    is_rest_torn (part >>= f) ≡ true
rest_torn None f h g = refl
rest_torn (Some part) f h g = g part h

head_torn : (lines : Lines) → is_torn lines ≡ true → is_rest_torn (head_in lines) ≡ true
unfolding head_in
head_torn lines h =
    rest_torn (part_in (where_it is_format_line) lines) _ (part_torn _ lines h) (λ a torn_a.
    rest_torn (part_in canvas_in a.1) _ (part_torn _ a.1 torn_a) (λ b torn_b.
    rest_torn (part_in rate_in b.1) _ (part_torn _ b.1 torn_b) (λ c torn_c.
    rest_torn (part_in (record_in b.0) c.1) _ (part_torn _ c.1 torn_c) (λ d torn_d. torn_d))))

none_torn : (head : Option Head) → is_rest_torn head ≡ true →
    (head >>= (λ h. lines_in h.canvas (login_in h.rest).1 >>= (λ registry.
    Some (collection_from h (login_in h.rest).0 registry)))) ≡ None
none_torn None h = refl
none_torn (Some head) h = rw (lines_torn head.canvas _ (login_torn head.rest h)) refl

collection_torn : (lines : Lines) → is_torn lines ≡ true → collection_in lines ≡ None
unfolding collection_in
collection_torn lines h = none_torn (head_in lines) (head_torn lines h)

bounded_at : (fits : Bool) (bytes : List ℕ) → nat_le (length bytes) most_bytes ≡ fits →
    collection_in (within most_bytes (lines_of bytes))
    ≡ cond fits (collection_in (lines_of bytes)) None
bounded_at true bytes h =
    let size = size-lines bytes in
    let small = leb-true (length bytes) most_bytes h in
    ap collection_in (all_fit most_bytes (lines_of bytes) (omega (arith, small)))
bounded_at false bytes h =
    let size = size-lines bytes in
    let large = leb-false (length bytes) most_bytes h in
    collection_torn _ (too_large most_bytes (lines_of bytes) (omega (arith, large)))

-- what is written by the lines that are read is the collection of all bytes
bounded : (bytes : List ℕ) →
    collection_in (within most_bytes (lines_of bytes)) ≡ collection_read bytes
unfolding collection_read
bounded bytes = bounded_at (nat_le (length bytes) most_bytes) bytes refl

-- what a reader with all its room that has read nothing ahead reads is the collection of all bytes
pub reads_all : (feed : Feed) (bytes : List ℕ) (result : Result Collection CollectionFault) →
    feed.ahead ≡ [] → feed.room ≡ most_bytes → Collects result (lines_left feed bytes) →
    Reads result (collection_read bytes)
reads_all feed bytes result none room h =
    let P : Option Collection → Type 0 = λ defined. Reads result defined in
    subst P (bounded bytes) (rw (none, room) at h)
