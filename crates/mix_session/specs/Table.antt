-- Tables of faults: a line for each, in order, and the first that comes gives its code.
use Rattle.std.specs.Prelude.{◌≡◌, ℕ, List, [], ◌∷◌, Option, Some, None}
use Rattle.std.specs.Prelude.{Result, Ok, Err}
use Rattle.mix_json.specs.Fields.{◌>>=◌}
use Rattle.mix_session.specs.declared.fault.Fault.{Fault}
use Rattle.mix_session.specs.declared.fault.Fault.TheVariants.{Close, NoMemory}

-- the line for a value, where there is one
abbrev pub if_there : {A B : Type 0} → (A → Result B ℕ) → Option A → Result (Option B) ℕ
if_there line None = Ok None
if_there line (Some x) = line x >>= λ y. Ok (Some y)

-- a line for each, in order
abbrev pub for_each : {A B : Type 0} → (A → Result B ℕ) → List A → Result (List B) ℕ
for_each line [] = Ok []
for_each line (x ∷ xs) = line x >>= λ y. for_each line xs >>= λ ys. Ok (y ∷ ys)

-- what a call answered, seen by `view`, is what the table gives
abbrev pub Gives : {X Y : Type 0} → (X → Y) → Result X ℕ → Result Y ℕ → Type 0
Gives view (Ok x) table = table ≡ Ok (view x)
Gives view (Err code) table = table ≡ Err code

-- a call answered the fault of the table, or found no memory
abbrev pub AnswersFault : {A : Type 0} → Fault → Result A ℕ → Type 0
AnswersFault (Close code) table = table ≡ Err code
AnswersFault NoMemory table = Unit {0}

-- a call answered what the table gives, or found no memory
abbrev pub Answers : {A : Type 0} → Result A Fault → Result A ℕ → Type 0
Answers (Ok x) table = table ≡ Ok x
Answers (Err fault) table = AnswersFault fault table
