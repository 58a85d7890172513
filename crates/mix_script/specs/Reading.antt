-- What a reader may answer.
use Rattle.std.specs.Prelude.{◌≡◌, ⊤, Result, Ok, Err}
use Rattle.mix_script.specs.declared.bad_line.BadLine.{BadLine}
use Rattle.mix_script.specs.declared.bad_line.BadLine.TheVariants.{Form, Text, NoMemory}

-- it answers what is defined, or that there was no memory
abbrev pub Reads : {A : Type 0} → Result A BadLine → Result A BadLine → Type 0
Reads defined (Ok value) = defined ≡ Ok value
Reads defined (Err Form) = defined ≡ Err Form
Reads defined (Err Text) = defined ≡ Err Text
Reads defined (Err NoMemory) = ⊤
