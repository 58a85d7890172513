-- Which names the lines of a collection give, and which they find.
use Rattle.std.specs.Prelude.{ℕ, Bool, List, [], ◌∷◌, bytes_eq, flat_map, Option}
use Rattle.std.specs.List.{list_any, list_all}
use Rattle.mix_model.specs.declared.collection.Line.{Line}
use Rattle.mix_model.specs.declared.collection.Line.TheVariants.{Scene, Input, Group, Item}
use Rattle.mix_model.specs.declared.collection.Line.TheVariants.{Sound, Channel}
use Rattle.mix_model.specs.declared.fault.GraphFault.{GraphFault}
use Rattle.mix_model.specs.Lines.{studio_line_cause}

-- the name that a line gives to a new source: that of a scene, an input or a group
abbrev pub given : Line → List (List ℕ)
given (Scene name) = name ∷ []
given (Input kind name settings) = name ∷ []
given (Group name parent enabled locked place blend) = name ∷ []
given (Item parent child enabled locked place blend) = []
given (Sound name sound) = []
given (Channel number name) = []

-- the names by which a line finds sources that are there
abbrev pub sought : Line → List (List ℕ)
sought (Scene name) = []
sought (Input kind name settings) = []
sought (Group name parent enabled locked place blend) = parent ∷ []
sought (Item parent child enabled locked place blend) = parent ∷ (child ∷ [])
sought (Sound name sound) = name ∷ []
sought (Channel number name) = name ∷ []

-- whether the name is one of these
abbrev pub is_among : List (List ℕ) → List ℕ → Bool
is_among names name = list_any (λ other. bytes_eq other name) names

-- whether one of these lines gave the name
abbrev pub gave : List Line → List ℕ → Bool
gave lines name = is_among (flat_map given lines) name

-- a line finds the names that lines above it gave, apart from which rows are named
abbrev pub finds_above : List Line → Line → Bool
finds_above above line = list_all (gave above) (sought line)

-- why a studio line is refused that stands between these lines: it finds the scenes that lines above it
-- gave, and those below it never help
abbrev pub studio_cause : List Line → List Line → List ℕ → Option GraphFault
studio_cause above below name = studio_line_cause above name
