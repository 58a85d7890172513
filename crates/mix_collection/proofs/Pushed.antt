-- What lines of a collection add, as far as they were pushed.
use Rattle.std.proofs.Common.{◌≡◌, ℕ, List, [], ◌∷◌, ◌++◌, refl, sym, ap, ◌∙◌, codes}
use Rattle.std.proofs.Common.{Option, Some, None, option_map, Result, Ok, Err}
use Rattle.std.proofs.lemmas.List.{append-nil, append_assoc}
use Rattle.mix_outside.specs.Lines.{Lines, End, Cut, Whole}
use Rattle.mix_model.specs.declared.collection.Line.{Line}
use Rattle.mix_collection.specs.Collections.{next, lines_in, line_in, more_lines, last_in, name_in}
use Rattle.mix_collection.specs.Read.{behind_lines, Pushes, Ends}
use Rattle.mix_collection.specs.declared.collection_fault.CollectionFault.{CollectionFault}
use Rattle.mix_collection.specs.declared.collection_fault.CollectionFault.TheVariants.{NotBuilt}
use Rattle.mix_collection.specs.declared.registry.Registry.{Registry}
use Rattle.mix_collection.proofs.Parts.{none_next}

abbrev registry_of : List Line → List ℕ → Option Registry
registry_of lines program = Some (record { lines = lines; program = program })

none_behind : (pushed : List Line) (last : Option Registry) →
    option_map (λ r. r.program) last ≡ None → option_map (behind_lines pushed) last ≡ None
none_behind pushed None h = refl
none_behind pushed (Some registry) h = absurd (cc)

last_behind : (pushed : List Line) (name : Option (List ℕ)) (more : Lines) (program : List ℕ) →
    option_map (λ r. r.program) (last_in name more) ≡ Some program →
    option_map (behind_lines pushed) (last_in name more)
    ≡ registry_of pushed program
last_behind pushed None more program h = absurd (cc)
last_behind pushed (Some name) End program h =
    let same : name ≡ program = cc in
    ap (λ l. registry_of l name) (append-nil pushed) ∙ ap (registry_of pushed) same
last_behind pushed (Some name) (Cut line) program h = absurd (cc)
last_behind pushed (Some name) (Whole line more) program h = absurd (cc)

behind_more : (pushed : List Line) (added : Line) (rest : Option Registry) →
    option_map (behind_lines pushed) (more_lines added rest)
    ≡ option_map (behind_lines (pushed ++ added ∷ [])) rest
behind_more pushed added None = refl
behind_more pushed added (Some registry) =
    ap (λ l. Some (record registry { lines = l }))
    (sym (append_assoc pushed (added ∷ []) registry.lines))

pub pushes_failed : (canvas : ℕ × ℕ) (result : Result (List ℕ) CollectionFault)
    (fault : CollectionFault) (pushed : List Line) (lines : Lines) → result ≡ Err fault →
    (fault ≡ NotBuilt → lines_in canvas lines ≡ None) → Pushes canvas result pushed lines
pushes_failed canvas result fault pushed lines is none = rw is none

-- these lines were pushed, and behind them stand a line and more
module _ (canvas : ℕ × ℕ) (start more : Lines) (line : List ℕ) (pushed : List Line)
    (is : lines_in canvas start ≡ option_map (behind_lines pushed) (lines_in canvas (Whole line more)))
  where
    -- the line adds nothing, so it is the program's
    pub program_pushed : (result : Result (List ℕ) CollectionFault) → line_in canvas line ≡ None →
        Ends result line more → Pushes canvas result pushed start
    program_pushed (Err fault) none h = λ built. is ∙ rw none (none_behind pushed _ (h built))
    program_pushed (Ok program) none h =
        is ∙ rw none (last_behind pushed (name_in (codes "program") line) more program h)

    -- the line adds something, and no line stands behind it
    pub cut_pushed : (added : Line) → line_in canvas line ≡ Some added → next more ≡ None →
        lines_in canvas start ≡ None
    cut_pushed added adds h = is ∙ rw (adds, none_next canvas more h) refl
