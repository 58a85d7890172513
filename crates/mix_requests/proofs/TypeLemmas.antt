-- The look-up of a request by its type.
use Rattle.std.proofs.Common.{◌≡◌, ◌∙◌, ℕ, List, [], ◌∷◌, Bool, true, false, cond, map, find, ap, refl}
use Rattle.std.proofs.Common.{Option, Some, Bor, bytes_eq}
use Rattle.std.specs.Option.{option_map_or}
use Rattle.mix_requests.specs.declared.request_type.RequestType.{RequestType}
use Rattle.mix_requests.specs.declared.request_type.RequestType.TheVariants.{Unknown}
use Rattle.mix_requests.specs.Table.{Entry, request_among}

-- an entry as the code has it, and the entry of the table that it is
abbrev pub Kept : Type 0
Kept = Bor (List ℕ) × RequestType

abbrev pub entry_in : Kept → Entry
entry_in e = (e.0.now, e.1)

abbrev pub kept_named : List ℕ → List Kept → Option Kept
kept_named type entries = find (λ (e : Kept). bytes_eq e.0.now type) entries

-- what is found among the entries of the code is what the table has
found_in : (type : List ℕ) (entries : List Kept) →
    option_map_or (λ (e : Kept). e.1) (kept_named type entries) Unknown
    ≡ request_among (map entry_in entries) type
found_in type [] = refl
found_in type (x ∷ entries) = (elim (bytes_eq x.0.now type) as (λ (b : Bool).
    option_map_or (λ (e : Kept). e.1) (cond b (Some x) (kept_named type entries)) Unknown
    ≡ option_map_or (λ (e : Entry). e.1) (cond b (Some (entry_in x))
    (find (λ (e : Entry). bytes_eq e.0 type) (map entry_in entries))) Unknown) [
      | true ↦ refl
      | false ↦ found_in type entries
    ])

pub request_found : (type : List ℕ) (entries : List Kept) (found : Option Kept) →
    found ≡ kept_named type entries →
    option_map_or (λ (e : Kept). e.1) found Unknown ≡ request_among (map entry_in entries) type
request_found type entries found is =
    ap (λ o. option_map_or (λ (e : Kept). e.1) o Unknown) is ∙ found_in type entries
