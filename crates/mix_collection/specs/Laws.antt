-- What the names of a collection's text are to the sources that its lines make, and what missing
-- options are.
use Rattle.std.specs.Prelude.{◌≡◌, ℕ, true, false, List, [], ◌∷◌, ◌++◌}
use Rattle.std.specs.Prelude.{Some, None, is_some, Ok, IfSome}
use Rattle.mix_model.specs.declared.collection.Collection.{Collection}
use Rattle.mix_model.specs.declared.collection.Line.{Line}
use Rattle.mix_model.specs.declared.kind.Blend.TheVariants.{Normal}
use Rattle.mix_model.specs.Edits.{empty_graph}
use Rattle.mix_model.specs.Holders.{find_named, is_named}
use Rattle.mix_model.specs.Items.{asked}
use Rattle.mix_model.specs.Lines.{lines_done, row_called, serial_named}
use Rattle.mix_model.specs.Opening.{opening_of}
use Rattle.mix_model.specs.State.{GraphState, StudioState}
use Rattle.mix_model.specs.Values.{new_place}
use Rattle.mix_collection.specs.Names.{gave, finds_above, studio_cause}
use Rattle.mix_collection.specs.Options.{options_in}

-- behind lines of which none is refused a name is found exactly where one of them gave it, whichever
-- rows are named
abbrev pub FoundWhereGiven : Type 0
FoundWhereGiven = (lines : List Line) (g : GraphState) → lines_done empty_graph lines ≡ Ok g →
    (name : List ℕ) → is_some (row_called g name) ≡ gave lines name

-- and what is found there is named, since every row that lines made is
abbrev pub NamedWhereGiven : Type 0
NamedWhereGiven = (lines : List Line) (g : GraphState) → lines_done empty_graph lines ≡ Ok g →
    (name : List ℕ) → is_named g (serial_named g name) ≡ gave lines name

-- so a look-up among named rows finds the same
abbrev pub SameAmongNamed : Type 0
SameAmongNamed = (lines : List Line) (g : GraphState) → lines_done empty_graph lines ≡ Ok g →
    (name : List ℕ) → find_named g name ≡ row_called g name

-- a line that isn't refused names only what stands above it
abbrev pub NamesWhatStandsAbove : Type 0
NamesWhatStandsAbove = (above below : List Line) (line : Line) (g : GraphState) →
    lines_done empty_graph (above ++ line ∷ below) ≡ Ok g → finds_above above line ≡ true

-- and the scenes of the program and of the preview are named by lines
abbrev pub ScenesAreGiven : Type 0
ScenesAreGiven = (c : Collection) (studio : StudioState) → opening_of c ≡ Ok studio →
    (gave c.lines c.program ≡ true) × IfSome c.studio (λ name. gave c.lines name ≡ true)

-- a studio line that isn't refused names what stands above it, whatever stands below
abbrev pub StudioNamesAbove : Type 0
StudioNamesAbove = (above below : List Line) (name : List ℕ) →
    studio_cause above below name ≡ None → gave above name ≡ true

-- an item without options is enabled and not locked, stands where a new item stands, and covers what
-- is below
abbrev pub NewWithoutOptions : Type 0
NewWithoutOptions = options_in [] ≡ Some (asked true false new_place Normal)
