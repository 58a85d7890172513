-- What the program makes of words that were read before a run begins.
use Rattle.std.specs.Prelude.{ℕ, List, [], ◌∷◌, codes}

-- the words of a replay that names three files
abbrev pub spoken : List ℕ → List ℕ → List ℕ → List (List ℕ)
spoken collection script tape = codes "replay" ∷ collection ∷ script ∷ tape ∷ []
