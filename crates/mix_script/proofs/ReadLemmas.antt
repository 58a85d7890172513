-- What a reader's answer says of the definition.
use Rattle.std.specs.Str.{IsUtf8, is_utf8}
use Rattle.std.proofs.lemmas.Str.{is_utf8-from_IsUtf8}
use Rattle.std.proofs.Common.{◌≡◌, ℕ, List, true, subst, ap, refl, sym, ◌∙◌, Ok, Err, Option, Some, None}
use Rattle.mix_script.specs.Lines.{or_text, in_utf8}
use Rattle.std.specs.Prelude.{◌↔◌, ◌≢◌, Result, IfOk}
use Rattle.mix_script.specs.declared.bad_line.BadLine.{BadLine}
use Rattle.mix_script.specs.declared.bad_line.BadLine.TheVariants.{Form, Text, NoMemory}
use Rattle.mix_script.specs.Reading.{Reads}

-- a value is the one that is defined
pub read-value : {A : Type 0} (defined result : Result A BadLine) → Reads defined result
    → IfOk result (λ value. defined ≡ Ok value)
read-value defined (Ok value) h = h
read-value defined (Err fault) h = tt

-- where there was memory, the answer is what is defined
pub read-same : {A : Type 0} (defined result : Result A BadLine) → Reads defined result
    → result ≢ Err NoMemory → defined ≡ result
read-same defined (Ok value) h remembered = h
read-same defined (Err Form) h remembered = h
read-same defined (Err Text) h remembered = h
read-same defined (Err NoMemory) h remembered = absurd (remembered refl)

-- and so is each refusal
pub read-refused : {A : Type 0} (defined result : Result A BadLine) (fault : BadLine)
    → Reads defined result → result ≢ Err NoMemory → (result ≡ Err fault) ↔ (defined ≡ Err fault)
read-refused defined result fault h remembered =
    let same = read-same defined result h remembered in
    (λ is. same ∙ is, λ is. sym same ∙ is)

-- bytes that stand for no text are no text in UTF-8 either
pub reads-fault : (text : Option (List ℕ)) (fault : BadLine) → Reads (or_text text) (Err fault)
    → Reads {A = List ℕ} (in_utf8 text) (Err fault)
reads-fault None Form h = cc h
reads-fault None Text h = refl
reads-fault None NoMemory h = tt
reads-fault (Some text) Form h = cc h
reads-fault (Some text) Text h = cc h
reads-fault (Some text) NoMemory h = tt

-- what stands for a text is one
pub some-from-ok : (text : Option (List ℕ)) (bytes : List ℕ) → or_text text ≡ Ok bytes → text ≡ Some bytes
some-from-ok None bytes h = cc h
some-from-ok (Some text) bytes h = cc h

-- bytes that a string holds are a text
pub taken-text : (bytes text copy : List ℕ) → IsUtf8 text → text ≡ bytes → copy ≡ text
    → in_utf8 (Some bytes) ≡ Ok copy
taken-text bytes text copy utf8 is copied =
    let holds : is_utf8 bytes ≡ true = is_utf8-from_IsUtf8 bytes (subst IsUtf8 is utf8) in
    rw holds (ap Ok (sym (copied ∙ is)))
