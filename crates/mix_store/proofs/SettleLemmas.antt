-- What the settling by flags leaves, and the room of the dying list.
use Rattle.std.proofs.Common.{◌≡◌, ℕ, suc, ◌+◌, ◌<◌, ◌≤◌, Bool, true, false, ◌||◌, ◌&&◌, not, cond}
use Rattle.std.proofs.Common.{List, [], ◌∷◌, ◌++◌, length, get_or, drop, map, filter, refl, ap, sym}
use Rattle.std.proofs.Common.{◌∙◌, arith, append_assoc, length-append, append-nil, eq-eqb}
use Rattle.std.proofs.lemmas.Bool.{or_left, or_right, not-true, both_ways}
use Rattle.std.proofs.lemmas.List.{drop_more}
use Rattle.mix_model.specs.declared.row.Row.{Row}
use Rattle.mix_model.specs.Sets.{has}
use Rattle.mix_model.specs.Rows.{serials_of}
use Rattle.mix_model.specs.State.{GraphState}
use Rattle.mix_model.specs.Marks.{Mark, row_settled, settled_by}
use Rattle.mix_model.specs.Settle.{newly_dying}
use Rattle.mix_model.specs.Walks.{is_active}
use Rattle.mix_model.specs.Causes.{item_count}
use Rattle.mix_model.specs.declared.item.ItemSpec.{ItemSpec}
use Rattle.mix_model.specs.Edits.{item_added}
use Rattle.mix_model.specs.Holders.{is_held}
use Rattle.mix_model.specs.Shape.{GraphShape}
use Rattle.mix_model.proofs.AddLemmas.{added_held}
use Rattle.mix_model.proofs.SteadyLemmas.{steady_serials}
use Rattle.mix_shape.proofs.FrameShape.{none_die}
use Rattle.mix_shape.proofs.AddedShape.{at_parent, steady_parent}
use Rattle.mix_model.proofs.SetLemmas.{and_both, and_second}
use Rattle.mix_model.proofs.DyingLemmas.{has_filter}
use Rattle.mix_shape.proofs.SumLemmas.{one_if}
use Rattle.mix_shape.proofs.ThinnerLemmas.{has_append}
use Rattle.mix_store.specs.Searched.{HasRoom}
use Rattle.mix_store.specs.Settling.{since_by, numbered, begins_to_die, flagged, with_numbers}
use Rattle.mix_store.proofs.ChangeLemmas.{some_row, count_cons}

-- a row whose flag is off isn't the next to die
pub flag_off : (rows : List Row) (flags : List Bool) (i : ℕ) →
    length flags ≡ length rows → i < length flags →
    get_or flags i false ≡ false →
    flagged (drop i rows) (drop i flags) ≡ flagged (drop (i + 1) rows) (drop (i + 1) flags)
flag_off rows flags i same below off =
    let within : i < length rows = omega (arith, same, below) in
    rw (drop_more rows i some_row within, drop_more flags i false below, off)

module _ (rows : List Row) (flags : List Bool) (i : ℕ) (row : Row)
    (same : length flags ≡ length rows) (below : i < length flags)
    (there : row ≡ get_or rows i row) (on : get_or flags i false ≡ true) where
  -- and one whose flag is on is
  flag_on : flagged (drop i rows) (drop i flags)
      ≡ row.serial ∷ flagged (drop (i + 1) rows) (drop (i + 1) flags)
  flag_on =
      let within : i < length rows = omega (arith, same, below) in
      rw (drop_more rows i row within, drop_more flags i false below, on, ← there)

  -- there is room for it
  pub room_for_one : (before now : List ℕ) (room : ℕ) →
      now ++ flagged (drop i rows) (drop i flags) ≡ before ++ flagged rows flags →
      length before + length (flagged rows flags) ≤ room → length now < room
  room_for_one before now room so_far had =
      let all : length now + length (flagged (drop i rows) (drop i flags))
      ≡ length before + length (flagged rows flags) =
      sym (length-append now (flagged (drop i rows) (drop i flags))) ∙ ap length so_far
      ∙ length-append before (flagged rows flags) in
      let next : length (flagged (drop i rows) (drop i flags))
      ≡ suc (length (flagged (drop (i + 1) rows) (drop (i + 1) flags))) = ap length flag_on in
      omega (arith, all, next, had)

  -- a row more is in the dying list
  pub one_more : (now all : List ℕ) → now ++ flagged (drop i rows) (drop i flags) ≡ all →
      (now ++ row.serial ∷ []) ++ flagged (drop (i + 1) rows) (drop (i + 1) flags) ≡ all
  one_more now all so_far =
      append_assoc now (row.serial ∷ []) (flagged (drop (i + 1) rows) (drop (i + 1) flags))
      ∙ ap (λ xs. now ++ xs) (sym flag_on) ∙ so_far

-- flags by a test
pub flagged_by : (p : ℕ → Bool) (rows : List Row) →
    flagged rows (map (λ r. p r.serial) rows) ≡ filter p (serials_of rows)
flagged_by p [] = refl
flagged_by p (row ∷ rows) = elim (p row.serial) as (λ b.
    cond b (row.serial ∷ flagged rows (map (λ r. p r.serial) rows))
    (flagged rows (map (λ r. p r.serial) rows))
    ≡ cond b (row.serial ∷ filter p (serials_of rows)) (filter p (serials_of rows))) [
      | true ↦ ap (λ xs. row.serial ∷ xs) (flagged_by p rows)
      | false ↦ flagged_by p rows
    ]

-- the numbers are those of the settling
pub numbered_by : (marks : List Mark) (g : GraphState) (rows : List Row) →
    numbered marks g.clock rows (map (λ r. is_active g r.serial) rows)
    ≡ map (row_settled marks g) rows
unfolding row_settled
numbered_by marks g [] = refl
numbered_by marks g (row ∷ rows) = rw (numbered_by marks g rows)

-- where nothing begins to die, numbers are all that the settling writes
pub settled_living : (marks : List Mark) (g : GraphState) → newly_dying g ≡ [] →
    with_numbers marks g ≡ settled_by marks g
unfolding settled_by
settled_living marks g none = rw (none, append-nil g.dying) refl

-- an item takes no holder away, so no row begins to die
pub item_lets_live : (parent child : ℕ) (spec : ItemSpec) (g : GraphState) → GraphShape g →
    newly_dying (item_added parent child spec g) ≡ []
unfolding item_added at_parent newly_dying
item_lets_live parent child spec g shape =
    let new : GraphState = item_added parent child spec g in
    ap (filter (λ x. not (is_held new x) && not (has x g.dying)))
    (steady_serials (at_parent parent child spec) (steady_parent parent child spec) g.rows)
    ∙ none_die (is_held g) (is_held new) (λ x. has x g.dying)
    (λ x held. added_held g parent child spec x ∙ or_left _ _ held) g.rows shape.dying_unheld

first_kept : (p : ℕ → Bool) (x : ℕ) (xs : List ℕ) →
    length (filter p (x ∷ xs)) ≡ one_if (p x) + length (filter p xs)
first_kept p x xs =
    elim (p x) as (λ b. length (cond b (x ∷ filter p xs) (filter p xs))
    ≡ one_if b + length (filter p xs)) [ true ↦ omega arith | false ↦ omega arith ]

-- one test lets through what the other two let through together
kept_split : (p q r : ℕ → Bool) (xs : List ℕ) →
    ((x : ℕ) → has x xs ≡ true → one_if (p x) + one_if (q x) ≤ one_if (r x)) →
    length (filter p xs) + length (filter q xs) ≤ length (filter r xs)
kept_split p q r [] all = omega arith
kept_split p q r (x ∷ xs) all =
    let here : one_if (p x) + one_if (q x) ≤ one_if (r x) =
    all x (or_left _ _ (eq-eqb x x refl)) in
    let rest : length (filter p xs) + length (filter q xs) ≤ length (filter r xs) =
    kept_split p q r xs (λ y there. all y (or_right _ _ there)) in
    omega (arith, here, rest, first_kept p x xs, first_kept q x xs, first_kept r x xs)

-- who begins to die takes the place that was kept for it
one_place : (p before more : Bool) → (p ≡ true → before ≡ false) → (p ≡ true → more ≡ true) →
    one_if (not (before || more)) + one_if p ≤ one_if (not before)
one_place true true more was now = absurd (both_ways true (was refl) refl)
one_place true false false was now = absurd (both_ways false refl (now refl))
one_place false false true was now = omega arith
one_place p before more was now = omega arith

places : (g : GraphState) (p : ℕ → Bool) → ((x : ℕ) → p x ≡ true → has x g.dying ≡ false) →
    length (filter (λ x. not (has x (g.dying ++ filter p (serials_of g.rows)))) (serials_of g.rows))
    + length (filter p (serials_of g.rows))
    ≤ length (filter (λ x. not (has x g.dying)) (serials_of g.rows))
places g p was = kept_split (λ x. not (has x (g.dying ++ filter p (serials_of g.rows)))) p
    (λ x. not (has x g.dying)) (serials_of g.rows)
    (λ x there. rw (has_append x g.dying (filter p (serials_of g.rows)))
    (one_place (p x) (has x g.dying) (has x (filter p (serials_of g.rows))) (was x)
    (λ passed. has_filter p x (serials_of g.rows) ∙ and_both _ _ passed there)))

begins_unlisted : (g : GraphState) (x : ℕ) → begins_to_die g x ≡ true → has x g.dying ≡ false
unfolding begins_to_die
begins_unlisted g x h = not-true _ (and_second _ _ h)

-- there is room for what begins to die
pub room_for_new : (g : GraphState) (room : ℕ) → HasRoom g.rows g.dying room →
    length g.dying + length (flagged g.rows (map (λ r. begins_to_die g r.serial) g.rows)) ≤ room
room_for_new g room had = rw (flagged_by (begins_to_die g) g.rows)
    (omega (arith, places g (begins_to_die g) (begins_unlisted g), had))

-- and then for the rows that don't die yet
pub room_stays : (g : GraphState) (room : ℕ) → HasRoom g.rows g.dying room → HasRoom g.rows
    (g.dying ++ flagged g.rows (map (λ r. begins_to_die g r.serial) g.rows)) room
room_stays g room had = rw (
  flagged_by (begins_to_die g) g.rows,
  length-append g.dying (filter (begins_to_die g) (serials_of g.rows)),
) (omega (arith, places g (begins_to_die g) (begins_unlisted g), had))

-- numbers leave serials
pub serials_numbered : (marks : List Mark) (clock : ℕ) (rows : List Row) (flags : List Bool) →
    serials_of (numbered marks clock rows flags) ≡ serials_of rows
serials_numbered marks clock [] flags = refl
serials_numbered marks clock (row ∷ rows) [] = refl
serials_numbered marks clock (row ∷ rows) (flag ∷ flags) =
    ap (λ xs. row.serial ∷ xs) (serials_numbered marks clock rows flags)

-- numbers leave items
pub count_numbered : (marks : List Mark) (clock : ℕ) (rows : List Row) (flags : List Bool) →
    item_count (numbered marks clock rows flags) ≡ item_count rows
count_numbered marks clock [] flags = refl
count_numbered marks clock (row ∷ rows) [] = refl
count_numbered marks clock (row ∷ rows) (flag ∷ flags) =
    count_cons (record row { since = since_by marks clock row.serial flag })
    (numbered marks clock rows flags)
    ∙ ap (λ n. length row.items + n) (count_numbered marks clock rows flags)
    ∙ sym (count_cons row rows)

-- no more rows have their flag on than there are
pub flagged_few : (rows : List Row) (flags : List Bool) → length (flagged rows flags) ≤ length rows
flagged_few [] flags = omega arith
flagged_few (row ∷ rows) [] = omega arith
flagged_few (row ∷ rows) (true ∷ flags) = omega (arith, flagged_few rows flags)
flagged_few (row ∷ rows) (false ∷ flags) = omega (arith, flagged_few rows flags)
