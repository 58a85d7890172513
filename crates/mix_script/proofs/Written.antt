-- Lines that are written one behind the other.
use Rattle.std.proofs.Common.{◌≡◌, ℕ, zero, suc, ◌+◌, List, [], ◌∷◌, ◌++◌, take, drop, map, flat_map, refl, sym}
use Rattle.std.proofs.Common.{ap, ◌∙◌, subst, arith, Option, Some, None, Result, Ok, Err}
use Rattle.std.proofs.lemmas.List.{append-nil, append_assoc, map-append, take-append-drop}
use Rattle.std.proofs.lemmas.Grind.{flat_map-append}
use Rattle.mix_outside.specs.Bytes.{AppendsPrefix}
use Rattle.mix_script.specs.declared.write_fault.WriteFault.{WriteFault}
use Rattle.mix_script.specs.declared.write_fault.WriteFault.TheVariants.{Failed, NoMemory}
use Rattle.mix_events.specs.declared.said.Said.{Said}
use Rattle.mix_script.specs.Output.{close_line, said_lines, text_line}
use Rattle.mix_script.specs.Writing.{joined, AppendsLines, Writes}

-- lines, and lines behind them
joined_both : (first second : List (List ℕ)) → joined (first ++ second) ≡ joined first ++ joined second
joined_both first second = flat_map-append (λ (line : List ℕ). line) first second

-- no line is written
pub no_line : (lines : List (List ℕ)) (old : List ℕ) → AppendsLines lines old old
no_line lines old = ([], (lines, refl), sym (append-nil old))

-- one line is written whole, or a front of it
pub one_whole : (line old new : List ℕ) → new ≡ old ++ line → new ≡ old ++ joined (line ∷ [])
one_whole line old new h = h ∙ ap (λ l. old ++ l) (sym (append-nil line))

pub one_front : (line old new : List ℕ) → AppendsPrefix line old new →
    AppendsPrefix (joined (line ∷ [])) old new
one_front line old new h =
    (h.0, (h.1.0, append-nil line ∙ h.1.1), h.2)

-- lines were written, and then what is written of those behind them
pub lines_more : (r : Result (Unit {0}) WriteFault) (first second : List (List ℕ))
    (old mid new : List ℕ) → mid ≡ old ++ joined first → Writes r second mid new →
    Writes r (first ++ second) old new
lines_more (Ok done) first second old mid new whole h =
    h ∙ ap (λ l. l ++ joined second) whole ∙ append_assoc old (joined first) (joined second)
    ∙ ap (λ l. old ++ l) (sym (joined_both first second))
lines_more (Err Failed) first second old mid new whole h = (
  joined first ++ h.0,
  (
    h.1.0,
    joined_both first second ∙ ap (λ l. joined first ++ l) h.1.1
        ∙ sym (append_assoc (joined first) h.0 h.1.0),
  ),
  h.2 ∙ ap (λ l. l ++ h.0) whole ∙ append_assoc old (joined first) h.0,
)
lines_more (Err NoMemory) first second old mid new whole h = (
  first ++ h.0,
  (h.1.0, ap (λ l. first ++ l) h.1.1 ∙ sym (append_assoc first h.0 h.1.0)),
  h.2 ∙ ap (λ l. l ++ joined h.0) whole ∙ append_assoc old (joined first) (joined h.0)
      ∙ ap (λ l. old ++ l) (sym (joined_both first h.0)),
)

-- where not all of the first lines were written, nothing is written of those behind them
pub lines_stop : (fault : WriteFault) (first second : List (List ℕ)) (old new : List ℕ) →
    Writes (Err fault) first old new → Writes (Err fault) (first ++ second) old new
lines_stop Failed first second old new h = (
  h.0,
  (
    h.1.0 ++ joined second,
    joined_both first second ∙ ap (λ l. l ++ joined second) h.1.1
        ∙ append_assoc h.0 h.1.0 (joined second),
  ),
  h.2,
)
lines_stop NoMemory first second old new h = (
  h.0,
  (h.1.0 ++ second, ap (λ l. l ++ second) h.1.1 ∙ append_assoc h.0 h.1.0 second),
  h.2,
)

-- the lines of some, of one more, and of the rest are those of all
lines_cut : {A : Type 0} (line : A → List ℕ) (all : List A) (i : ℕ) (x : A) (more : List A) →
    drop i all ≡ x ∷ more →
    map line all ≡ map line (take i all) ++ ((line x ∷ []) ++ map line more)
lines_cut line all i x more next =
    ap (map line) (sym (take-append-drop i all)) ∙ map-append line (take i all) (drop i all)
    ∙ ap (λ l. map line (take i all) ++ map line l) next

-- a line of all couldn't be written whole behind the lines before it
pub one_stops : {A : Type 0} (line : A → List ℕ) (all : List A) (i : ℕ) (x : A) (more : List A)
    (fault : WriteFault) (old mid new : List ℕ) → drop i all ≡ x ∷ more →
    mid ≡ old ++ joined (map line (take i all)) → Writes (Err fault) (line x ∷ []) mid new →
    Writes (Err fault) (map line all) old new
one_stops line all i x more fault old mid new next held h =
    let P : List (List ℕ) → Type 0 = λ l. Writes (Err fault) l old new in
    subst P (sym (lines_cut line all i x more next))
    (lines_more (Err fault) (map line (take i all)) ((line x ∷ []) ++ map line more) old mid new held
    (lines_stop fault (line x ∷ []) (map line more) mid new h))

take_next : {A : Type 0} (all : List A) (i : ℕ) (x : A) (more : List A) → drop i all ≡ x ∷ more →
    take (suc i) all ≡ take i all ++ x ∷ []
take_next [] zero x more next = cc
take_next [] (suc i) x more next = cc
take_next (y ∷ all) zero x more next = cc
take_next (y ∷ all) (suc i) x more next = ap (λ l. y ∷ l) (take_next all i x more next)

-- a line was written whole behind the lines before it
pub one_follows : {A : Type 0} (line : A → List ℕ) (all : List A) (i : ℕ) (x : A) (more : List A)
    (old mid new : List ℕ) → drop i all ≡ x ∷ more →
    mid ≡ old ++ joined (map line (take i all)) → new ≡ mid ++ joined (line x ∷ []) →
    new ≡ old ++ joined (map line (take (i + 1) all))
one_follows line all i x more old mid new next held h =
    let place : i + 1 ≡ suc i = omega arith in
    lines_more (Ok tt) (map line (take i all)) (line x ∷ []) old mid new held h
    ∙ ap (λ l. old ++ joined l) (sym (map-append line (take i all) (x ∷ [])))
    ∙ ap (λ l. old ++ joined (map line l)) (sym (take_next all i x more next))
    ∙ ap (λ n. old ++ joined (map line (take n all))) (sym place)

-- what is written of lines is a front of their bytes
pub front_of_lines : (lines : List (List ℕ)) (old new : List ℕ) → AppendsLines lines old new →
    AppendsPrefix (joined lines) old new
front_of_lines lines old new h =
    (joined h.0, (joined h.1.0, ap joined h.1.1 ∙ joined_both h.0 h.1.0), h.2)

-- where what is told couldn't be written, no close is
pub said_stops : (conn : ℕ) (told : List Said) (close : Option ℕ) (fault : WriteFault)
    (old new : List ℕ) → Writes (Err fault) (map (text_line conn) told) old new →
    Writes (Err fault) (said_lines conn told close) old new
said_stops conn told None fault old new h = h
said_stops conn told (Some code) fault old new h =
    lines_stop fault (map (text_line conn) told) (close_line conn code ∷ []) old new h
