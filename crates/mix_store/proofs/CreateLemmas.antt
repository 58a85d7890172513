-- Names, causes, and room for what is created.
use Rattle.std.proofs.Common.{◌≡◌, ℕ, ◌+◌, ◌<◌, ◌≤◌, Bool, not, List, [], ◌∷◌, ◌++◌, length, filter}
use Rattle.std.proofs.Common.{is_some, refl, ap, sym, ◌∙◌, arith, Option, Some, None, length-append}
use Rattle.std.proofs.Common.{Err, option_copied}
use denote.Ref.{Bor}
use Rattle.mix_model.specs.declared.fault.GraphFault.{GraphFault}
use Rattle.mix_model.specs.declared.fault.GraphFault.TheVariants.{NoMemory}
use Rattle.mix_model.specs.declared.row.Row.{Row}
use Rattle.mix_model.specs.Sets.{has}
use Rattle.std.proofs.lemmas.List.Elements.{filter-append}
use Rattle.std.proofs.lemmas.List.{map-append, length-map}
use Rattle.std.proofs.lemmas.List.Filters.{length-filter_both}
use Rattle.mix_model.specs.Rows.{serials_of}
use Rattle.std.proofs.lemmas.List.Sums.{sum_by_push}
use Rattle.mix_model.specs.Causes.{item_count}
use Rattle.mix_shape.specs.Refused.{RefusedBy}
use Rattle.mix_store.specs.Searched.{HasRoom, InOrder}
use Rattle.mix_shape.proofs.GrownShape.{rises_more}
use Rattle.mix_shape.proofs.ThinnerLemmas.{differ_more, below_more}

-- a cause is a refusal
pub refused_by : (T : Type 0) (cause : Option GraphFault) (fault : GraphFault) →
    cause ≡ Some fault → (cause ≡ Some NoMemory → ⊥) → RefusedBy {T = T} cause (Err fault)
refused_by T cause NoMemory h other = absurd (other h)
refused_by T cause fault h other = h

-- a refusal of one call is that of another of the same cause
pub refused_same : (T U : Type 0) (a b : Option GraphFault) (fault : GraphFault) → a ≡ b →
    RefusedBy {T = T} a (Err fault) → RefusedBy {T = U} b (Err fault)
refused_same T U a b NoMemory same h = sym same ∙ h
refused_same T U a b fault same h = sym same ∙ h

-- there is room where there is room for all rows
pub room_enough : (rows : List Row) (dying : List ℕ) (room : ℕ) →
    length dying + length rows ≤ room → HasRoom rows dying room
room_enough rows dying room had = omega (
  arith,
  had,
  length-map rows (λ (r : Row). r.serial),
  length-filter_both (λ x. not (has x dying)) (λ x. not (not (has x dying))) (λ x. refl)
      (serials_of rows),
)

-- what is behind a reference is there where the reference is
pub copied_some : {X : Type 0} (o : Option (Bor X)) → is_some (option_copied o) ≡ is_some o
copied_some None = refl
copied_some (Some x) = refl

-- and there is where one more comes
few_for_row : (xs : List ℕ) (x : ℕ) (dying : List ℕ) (next : ℕ) →
    length dying + length (filter (λ y. not (has y dying)) xs) ≤ next →
    length dying + length (filter (λ y. not (has y dying)) (xs ++ x ∷ [])) ≤ next + 1
few_for_row xs x dying next had =
    let fresh : ℕ → Bool = λ y. not (has y dying) in
    omega (
      arith,
      ap length (filter-append fresh xs (x ∷ [])),
      length-append (filter fresh xs) (filter fresh (x ∷ [])),
      length-filter_both fresh (λ y. not (fresh y)) (λ y. refl) (x ∷ []),
      had,
    )

-- the rows are in order with a new one, which has no items
pub order_row : (rows after : List Row) (row : Row) (dying : List ℕ) (before room next : ℕ) →
    InOrder rows dying before next → after ≡ rows ++ row ∷ [] → row.items ≡ [] →
    length dying + (length rows + 1) ≤ room → next < 4294967295 → row.serial ≡ next →
    InOrder after dying room (next + 1)
order_row rows after row dying before room next order added bare had below own =
    let count : length (rows ++ row ∷ []) ≡ length rows + 1 = length-append rows (row ∷ []) in
    let none : length row.items ≡ 0 = ap length bare in
    let items : item_count (rows ++ row ∷ []) ≡ item_count rows + length row.items =
    sum_by_push (λ (r : Row). length r.items) rows row in
    let few : item_count rows ≤ 2048 = order.items in
    let serials : serials_of (rows ++ row ∷ []) ≡ serials_of rows ++ next ∷ [] =
    map-append (λ (r : Row). r.serial) rows (row ∷ []) ∙ ap (λ n. serials_of rows ++ n ∷ []) own in
    rw added (record {
      room = room_enough (rows ++ row ∷ []) dying room (omega (arith, count, had));
      few = rw serials (few_for_row (serials_of rows) next dying next order.few);
      start = omega arith;
      drawn = omega (arith, below);
      items = omega (arith, items, none, few);
      rise = rw serials (rises_more 0 next (serials_of rows) order.start order.rise order.below);
      differ = rw serials (differ_more (serials_of rows) next order.differ order.below);
      below = rw serials (below_more (serials_of rows) next order.below);
    })
