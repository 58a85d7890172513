-- Lines and actions stand one to one.
use Rattle.std.proofs.Common.{◌≡◌, ℕ, ◌<◌, ◌≤◌, ◌^◌, List, [], ◌∷◌, ◌++◌, length, take, drop, decimal, Bool, true, false, refl, sym, ap, subst, ◌∙◌, lit<}
use Rattle.std.specs.Prelude.{Option, Some, None, Result, Ok, codes, replicate, if◌then◌else◌}
use Rattle.std.specs.Str.{IsUtf8, is_utf8, bytes_eq}
use Rattle.std.proofs.Common.{zero, suc, inl, inr}
use Rattle.std.proofs.lemmas.Bool.{cases_Bool}
use Rattle.std.proofs.lemmas.List.{take-append-drop}
use Rattle.std.proofs.lemmas.Str.{is_utf8-from_IsUtf8, IsUtf8-from_is_utf8}
use Rattle.std.proofs.lemmas.Slice.Eq.{bytes_eq-Decides}
use Rattle.hex.specs.Hex.{encode_lower}
use Rattle.mix_model.specs.declared.action.Action.{Action}
use Rattle.mix_model.specs.declared.action.Action.TheVariants.{Arrive, Hear, Poll, BatchNext, Leave, VideoTick, AudioTick, FrameDone, Destroy}
use Rattle.mix_model.specs.declared.message.Message.TheVariants.{Text, Binary}
use Rattle.mix_script.specs.declared.bad_line.BadLine.{BadLine}
use Rattle.mix_script.specs.Escapes.{escaped, unescaped}
use Rattle.mix_script.specs.Hexadecimal.{bytes_of_digits, challenge_of_digits, is_unset}
use Rattle.mix_script.specs.Laws.{AreBytes, InRange, LinesReadBack}
use Rattle.mix_script.specs.Lines.{action_of, line_text, arrival_text, begins, connection_line, connection_of, heard_as, in_utf8, lone_line, no_challenge, or_form, said, text_heard, binary_heard}
use Rattle.mix_script.specs.Numbers.{greatest_connection, greatest_frame, number_up_to}
use Rattle.mix_script.proofs.NumberLemmas.{number-read, number-written}
use Rattle.mix_script.proofs.DigitLemmas.{bytes-read, bytes-written, challenge-read, challenge-written, unset-zeros}
use Rattle.mix_script.proofs.EscapeLemmas.{unescaped-back, unescaped-escaped}
use Rattle.mix_script.proofs.SaidLemmas.{said-read, said-back}

-- ---- from an action to its line and back

arrival-read : (challenge : List ℕ) (unset : Bool) → length challenge ≡ 32 → AreBytes challenge
    → is_unset challenge ≡ unset → action_of (arrival_text challenge) ≡ Ok (Arrive challenge)
arrival-read challenge true len bytes is =
    rw is (ap (λ c. Ok (Arrive c)) (unset-zeros challenge len is))
arrival-read challenge false len bytes is =
    rw is (ap (or_form Arrive) (challenge-read challenge len bytes is))

text-read : (conn : ℕ) (text : List ℕ) → IsUtf8 text → text_heard conn (escaped text) ≡ Ok (Hear conn (Text text))
text-read conn text utf8 = rw (unescaped-escaped text, is_utf8-from_IsUtf8 text utf8) refl

connection-read : (conn : ℕ) → conn ≤ greatest_connection → connection_of (decimal conn) ≡ Some conn
connection-read conn most = number-read greatest_connection conn most (lit< tt)

pub lines_read_back : LinesReadBack
lines_read_back (Arrive challenge) h = arrival-read challenge (is_unset challenge) h.0 h.1 refl
lines_read_back (Hear conn (Text text)) h = said-read text_heard conn (escaped text) h.0 ∙ text-read conn text h.1
lines_read_back (Hear conn (Binary bytes)) h =
    said-read binary_heard conn (encode_lower bytes) h.0
    ∙ ap (or_form (λ bytes. Hear conn (Binary bytes))) (bytes-read bytes h.1)
lines_read_back (Poll conn) h = ap (or_form Poll) (connection-read conn h)
lines_read_back (BatchNext conn) h = ap (or_form BatchNext) (connection-read conn h)
lines_read_back (Leave conn) h = ap (or_form Leave) (connection-read conn h)
lines_read_back VideoTick h = refl
lines_read_back AudioTick h = refl
lines_read_back (FrameDone number) h = ap (or_form FrameDone) (number-read greatest_frame number h (lit< tt))
lines_read_back Destroy h = refl

-- ---- from a line to its action and back

abbrev pub Stands : List ℕ → Action → Type 0
Stands line action = (line_text action ≡ line) × InRange action

stands-as : (line : List ℕ) (is action : Action) → ◌≡◌ {A = Result Action BadLine} (Ok is) (Ok action) → Stands line is → Stands line action
stands-as line is action h s = let e : is ≡ action = cc h in subst (λ (a : Action). Stands line a) e s

-- a row of a table of lines
by-test : (test : Bool) (here below : Result Action BadLine) (line : List ℕ) (action : Action)
    → (if test then here else below) ≡ Ok action
    → (test ≡ true → here ≡ Ok action → Stands line action) → (below ≡ Ok action → Stands line action)
    → Stands line action
by-test true here below line action h found later = found refl h
by-test false here below line action h found later = later h

exact : (line text : List ℕ) → bytes_eq line text ≡ true → text ≡ line
exact line text h = sym ((bytes_eq-Decides line text).0 h)

-- a line that begins so is its head and what follows
headed : (line : List ℕ) (x y : ℕ) → begins (x ∷ y ∷ []) line ≡ true → x ∷ y ∷ drop 2 line ≡ line
headed line x y h =
    let head = (bytes_eq-Decides (take 2 line) (x ∷ y ∷ [])).0 h in
    rw head at (take-append-drop 2 line)

zero-bytes : (n : ℕ) → AreBytes (replicate n 0)
zero-bytes zero i = lit< tt
zero-bytes (suc n) zero = lit< tt
zero-bytes (suc n) (suc i) = zero-bytes n i

form-some : {A : Type 0} (make : A → Action) (o : Option A) (action : Action) → or_form make o ≡ Ok action
    → (value : A) × (o ≡ Some value) × (◌≡◌ {A = Result Action BadLine} (Ok (make value)) (Ok action))
form-some make None action h = cc h
form-some make (Some value) action h = (value, refl, h)

-- a sign and a number
number-row : (make : ℕ → Action) (greatest x y : ℕ) (line : List ℕ) (action : Action) → greatest < 2 ^ 64
    → ((n : ℕ) → line_text (make n) ≡ x ∷ y ∷ decimal n) → ((n : ℕ) → n ≤ greatest → InRange (make n))
    → begins (x ∷ y ∷ []) line ≡ true → or_form make (number_up_to greatest (drop 2 line)) ≡ Ok action
    → Stands line action
number-row make greatest x y line action fits text range head h =
    let form = form-some make (number_up_to greatest (drop 2 line)) action h in
    let number = number-written greatest (drop 2 line) form.0 fits form.1 in
    stands-as line (make form.0) action form.2 (
      text form.0 ∙ ap (λ t. x ∷ y ∷ t) number.0 ∙ headed line x y head,
      range form.0 number.1,
    )

arrival-row : (line : List ℕ) (action : Action) → begins (43 ∷ 32 ∷ []) line ≡ true
    → or_form Arrive (challenge_of_digits (drop 2 line)) ≡ Ok action → Stands line action
arrival-row line action head h =
    let form = form-some Arrive (challenge_of_digits (drop 2 line)) action h in
    let challenge = challenge-written (drop 2 line) form.0 form.1 in
    stands-as line (Arrive form.0) action form.2 (
      rw challenge.3 (ap (λ t. 43 ∷ 32 ∷ t) challenge.0 ∙ headed line 43 32 head),
      (challenge.1, challenge.2),
    )

utf8-some : (o : Option (List ℕ)) (conn : ℕ) (action : Action) → heard_as Text conn (in_utf8 o) ≡ Ok action
    → (text : List ℕ) × (o ≡ Some text) × IsUtf8 text × (◌≡◌ {A = Result Action BadLine} (Ok (Hear conn (Text text))) (Ok action))
utf8-some None conn action h = cc h
utf8-some (Some text) conn action h = elim (cases_Bool (is_utf8 text)) [
  | inl utf8 ↦ (text, refl, IsUtf8-from_is_utf8 text utf8, rw utf8 at h)
  | inr other ↦ cc (rw other at h)
]

text-row : (line : List ℕ) (action : Action) → begins (60 ∷ 99 ∷ []) line ≡ true
    → said text_heard (drop 2 line) ≡ Ok action → Stands line action
text-row line action head h =
    let s = said-back text_heard (drop 2 line) action h in
    let text = utf8-some (unescaped s.after) s.conn action s.heard_is in
    let written = unescaped-back false s.after text.0 text.1 in
    stands-as line (Hear s.conn (Text text.0)) action text.3 (
      ap (λ t. 60 ∷ 99 ∷ (decimal s.conn ++ (32 ∷ t))) written ∙ ap (λ t. 60 ∷ 99 ∷ t) s.is ∙ headed line 60 99 head,
      (s.most, text.2),
    )

binary-row : (line : List ℕ) (action : Action) → begins (35 ∷ 99 ∷ []) line ≡ true
    → said binary_heard (drop 2 line) ≡ Ok action → Stands line action
binary-row line action head h =
    let s = said-back binary_heard (drop 2 line) action h in
    let form = form-some (λ bytes. Hear s.conn (Binary bytes)) (bytes_of_digits s.after) action s.heard_is in
    let written = bytes-written s.after form.0 form.1 in
    stands-as line (Hear s.conn (Binary form.0)) action form.2 (
      ap (λ t. 35 ∷ 99 ∷ (decimal s.conn ++ (32 ∷ t))) written.0 ∙ ap (λ t. 35 ∷ 99 ∷ t) s.is ∙ headed line 35 99 head,
      (s.most, written.1),
    )

-- the lines of a connection
connection_lines_stand : (line : List ℕ) (action : Action) → connection_line line ≡ Ok action → Stands line action
connection_lines_stand line action h =
    by-test (begins (codes "<c") line) _ _ line action h (text-row line action) (λ h.
    by-test (begins (codes "#c") line) _ _ line action h (binary-row line action) (λ h.
    by-test (begins (codes "?c") line) _ _ line action h (number-row Poll greatest_connection 63 99 line action (lit< tt) (λ n. refl) (λ n most. most)) (λ h.
    by-test (begins (codes "*c") line) _ _ line action h (number-row BatchNext greatest_connection 42 99 line action (lit< tt) (λ n. refl) (λ n most. most)) (λ h.
    by-test (begins (codes "-c") line) _ _ line action h (number-row Leave greatest_connection 45 99 line action (lit< tt) (λ n. refl) (λ n most. most)) (λ h.
    cc h)))))

-- the others that have something after the sign
lone_lines_stand : (line : List ℕ) (action : Action) → lone_line line ≡ Ok action → Stands line action
lone_lines_stand line action h =
    by-test (begins (codes "+ ") line) _ _ line action h (arrival-row line action) (λ h.
    by-test (begins (codes "f ") line) _ _ line action h (number-row FrameDone greatest_frame 102 32 line action (lit< tt) (λ n. refl) (λ n most. most))
    (connection_lines_stand line action))

-- all lines
pub lines_stand : (line : List ℕ) (action : Action) → action_of line ≡ Ok action → Stands line action
lines_stand line action h =
    by-test (bytes_eq line (codes "+")) _ _ line action h
    (λ is here. stands-as line (Arrive no_challenge) action here (exact line (codes "+") is, (refl, zero-bytes 32))) (λ h.
    by-test (bytes_eq line (codes "v")) _ _ line action h
    (λ is here. stands-as line VideoTick action here (exact line (codes "v") is, tt)) (λ h.
    by-test (bytes_eq line (codes "a")) _ _ line action h
    (λ is here. stands-as line AudioTick action here (exact line (codes "a") is, tt)) (λ h.
    by-test (bytes_eq line (codes "d")) _ _ line action h
    (λ is here. stands-as line Destroy action here (exact line (codes "d") is, tt))
    (lone_lines_stand line action))))
