-- What is settled twice against the same marks is settled once, where nothing begins to die between.
use Rattle.std.proofs.Common.{◌≡◌, ℕ, zero, suc, ◌==◌, Bool, true, false, cond, not, ◌&&◌, ◌||◌}
use Rattle.std.proofs.Common.{List, [], ◌∷◌, ◌++◌, map, filter, refl, ap, ◌∙◌, append-nil}
use Rattle.std.specs.List.{list_all, list_any}
use Rattle.mix_model.specs.declared.row.Row.{Row}
use Rattle.mix_model.specs.Edits.{channel_set, clock_set, source_removed}
use Rattle.mix_model.specs.Holders.{is_held}
use Rattle.mix_model.specs.Items.{without_child}
use Rattle.mix_model.specs.Lookups.{row_of, is_row, visible_children, channel_roots}
use Rattle.mix_model.specs.Marks.{Mark, row_settled, settled_by, since_marked, was_active}
use Rattle.mix_model.specs.Rows.{is_at, serials_of, visible_children_of}
use Rattle.mix_model.specs.Sets.{agree, has}
use Rattle.mix_model.specs.Settle.{newly_dying}
use Rattle.mix_model.specs.Shape.{GraphShape}
use Rattle.mix_model.specs.State.{GraphState, Channel}
use Rattle.mix_model.specs.Walks.{is_active, is_reached, is_walked, leads}
use Rattle.mix_model.proofs.SteadyLemmas.{steady_serials}
use Rattle.mix_model.proofs.BlindLemmas.{Blind, held_same}
use Rattle.mix_model.proofs.SetLemmas.{and_first, and_second}
use Rattle.mix_model.proofs.SettleLemmas.{find_changed, some_changed, unseen_option}

-- ---- other numbers of activity

-- a row with another number, by its serial
abbrev pub numbered : (ℕ → ℕ) → Row → Row
numbered f r = record r { since = f r.serial }

-- the sources with other numbers
abbrev pub renumbered : (ℕ → ℕ) → GraphState → GraphState
renumbered f g = record g { rows = map (numbered f) g.rows }

pub blind_to_numbers : (f : ℕ → ℕ) → Blind (numbered f)
blind_to_numbers f = record {
  steady = record { serial = λ r. refl; kind = λ r. refl };
  children = λ r. refl;
  ids = λ r. refl;
  next = λ r. refl;
}

any_same : (p q : ℕ → Bool) → ((x : ℕ) → p x ≡ q x) → (xs : List ℕ) →
    list_any p xs ≡ list_any q xs
any_same p q same [] = refl
any_same p q same (x ∷ xs) = rw (same x, any_same p q same xs) refl

leads_same : (next other : ℕ → List ℕ) → ((y : ℕ) → next y ≡ other y) → (n from to : ℕ) →
    leads next n from to ≡ leads other n from to
leads_same next other same zero from to = refl
leads_same next other same (suc n) from to = rw (same from) (ap (λ b. (from == to) || b)
    (any_same (λ x. leads next n x to) (λ x. leads other n x to)
    (λ x. leads_same next other same n x to) (other from)))

module _ (f : ℕ → ℕ) (g : GraphState) where
  children_same : (y : ℕ) → visible_children (renumbered f g) y ≡ visible_children g y
  children_same y = rw (find_changed (is_at y) (numbered f) (λ r. refl) g.rows)
      (unseen_option visible_children_of [] (numbered f) (λ r. refl) (row_of g y))

  row_same : (y : ℕ) → is_row (renumbered f g) y ≡ is_row g y
  row_same y = rw (find_changed (is_at y) (numbered f) (λ r. refl) g.rows)
      (some_changed (numbered f) (row_of g y))

  reached_same : (roots : List ℕ) (x : ℕ) →
      is_reached (renumbered f g) roots x ≡ is_reached g roots x
  reached_same roots x = rw (row_same x) (ap (λ b. is_row g x && b)
      (any_same (λ root. is_walked (renumbered f g) root x) (λ root. is_walked g root x)
      (λ root. leads_same (visible_children (renumbered f g)) (visible_children g)
      children_same 17 root x) roots))

  -- what is active is so whatever its number is
  pub active_same : (x : ℕ) → is_active (renumbered f g) x ≡ is_active g x
  unfolding is_active
  active_same x = reached_same (channel_roots g) x

  pub dying_same : newly_dying (renumbered f g) ≡ newly_dying g
  unfolding newly_dying
  dying_same =
      ap (filter (λ x. not (is_held (renumbered f g) x) && not (has x g.dying)))
      (steady_serials (numbered f) (blind_to_numbers f).steady g.rows)
      ∙ filter_same (λ x. not (is_held (renumbered f g) x) && not (has x g.dying))
      (λ x. not (is_held g x) && not (has x g.dying))
      (λ x. ap (λ b. not b && not (has x g.dying))
      (held_same (numbered f) (blind_to_numbers f) g x)) (serials_of g.rows)
    where
      kept : (a b : Bool) (x : ℕ) (xs ys : List ℕ) → a ≡ b → xs ≡ ys →
          cond a (x ∷ xs) xs ≡ cond b (x ∷ ys) ys
      kept a b x xs ys same rest = rw (same, rest) refl

      filter_same : (p q : ℕ → Bool) → ((x : ℕ) → p x ≡ q x) → (xs : List ℕ) →
          filter p xs ≡ filter q xs
      filter_same p q same [] = refl
      filter_same p q same (x ∷ xs) =
          kept (p x) (q x) x (filter p xs) (filter q xs) (same x) (filter_same p q same xs)

module _ (marks : List Mark) where
  -- the number that the settling gives
  abbrev pub number_in : GraphState → ℕ → ℕ
  number_in g x =
      cond (is_active g x && not (was_active marks x)) g.clock (since_marked marks x)

  settled_row : (f : ℕ → ℕ) (g : GraphState) (r : Row) →
      row_settled marks (renumbered f g) (numbered f r) ≡ row_settled marks g r
  unfolding row_settled
  settled_row f g r = rw (active_same f g r.serial) refl

  settled_rows : (f : ℕ → ℕ) (g : GraphState) (rows : List Row) →
      map (row_settled marks (renumbered f g)) (map (numbered f) rows)
      ≡ map (row_settled marks g) rows
  settled_rows f g [] = refl
  settled_rows f g (r ∷ rows) = rw (settled_row f g r, settled_rows f g rows) refl

  -- the settling doesn't look at the numbers
  pub settled_same : (f : ℕ → ℕ) (g : GraphState) →
      settled_by marks (renumbered f g) ≡ settled_by marks g
  unfolding settled_by
  settled_same f g =
      ap (λ rows. let h : GraphState = record g {
        rows = rows;
        dying = g.dying ++ newly_dying (renumbered f g);
      } in h) (settled_rows f g g.rows)
      ∙ ap (λ dying. let h : GraphState = record g {
        rows = map (row_settled marks g) g.rows;
        dying = g.dying ++ dying;
      } in h) (dying_same f g)

  -- where nothing begins to die only numbers are set
  pub settled_alone : (g : GraphState) → newly_dying g ≡ [] →
      settled_by marks g ≡ renumbered (number_in g) g
  unfolding settled_by row_settled
  settled_alone g none =
      ap (λ dying. let h : GraphState = record (renumbered (number_in g) g) {
        dying = g.dying ++ dying;
      } in h) none
      ∙ ap (λ dying. let h : GraphState = record (renumbered (number_in g) g) { dying = dying } in h)
      (append-nil g.dying)

  -- so an edit that doesn't look at the numbers may find them settled
  pub settled_once : (edit : GraphState → GraphState) (g : GraphState) → newly_dying g ≡ [] →
      ((f : ℕ → ℕ) (h : GraphState) → edit (renumbered f h) ≡ renumbered f (edit h)) →
      settled_by marks (edit (settled_by marks g)) ≡ settled_by marks (edit g)
  settled_once edit g none passes =
      ap (λ h. settled_by marks (edit h)) (settled_alone g none)
      ∙ ap (settled_by marks) (passes (number_in g) g)
      ∙ settled_same (number_in g) (edit g)

-- ---- edits that don't look at the numbers

pub clock_passes : (clock : ℕ) (f : ℕ → ℕ) (g : GraphState) →
    clock_set clock (renumbered f g) ≡ renumbered f (clock_set clock g)
unfolding clock_set
clock_passes clock f g = refl

pub channel_passes : (number : ℕ) (channel : Channel) (f : ℕ → ℕ) (g : GraphState) →
    channel_set number channel (renumbered f g) ≡ renumbered f (channel_set number channel g)
unfolding channel_set
channel_passes number channel f g = refl

child_passes : (x : ℕ) (f : ℕ → ℕ) (r : Row) →
    without_child x (numbered f r) ≡ numbered f (without_child x r)
unfolding without_child
child_passes x f r = refl

children_pass : (x : ℕ) (f : ℕ → ℕ) (rows : List Row) →
    map (without_child x) (map (numbered f) rows) ≡ map (numbered f) (map (without_child x) rows)
children_pass x f [] = refl
children_pass x f (r ∷ rows) = rw (child_passes x f r, children_pass x f rows) refl

pub removed_passes : (x : ℕ) (f : ℕ → ℕ) (g : GraphState) →
    source_removed x (renumbered f g) ≡ renumbered f (source_removed x g)
unfolding source_removed
removed_passes x f g =
    ap (λ rows. let h : GraphState = record (source_removed x g) { rows = rows } in h)
    (children_pass x f g.rows)

-- ---- where nothing begins to die

stays : (held later dies : Bool) → (held ≡ true → later ≡ true) →
    agree dies (not held) ≡ true → (not later && not dies) ≡ false
stays true later dies more was = rw (more refl) refl
stays false true dies more was = refl
stays false false true more was = refl
stays false false false more was = cc

none_of : (held later dies : ℕ → Bool) → ((x : ℕ) → held x ≡ true → later x ≡ true) →
    (rows : List Row) → list_all (λ r. agree (dies r.serial) (not (held r.serial))) rows ≡ true →
    filter (λ x. not (later x) && not (dies x)) (serials_of rows) ≡ []
none_of held later dies more [] all = refl
none_of held later dies more (r ∷ rows) all =
    ap (λ b. cond b (r.serial ∷ filter (λ x. not (later x) && not (dies x)) (serials_of rows))
    (filter (λ x. not (later x) && not (dies x)) (serials_of rows)))
    (stays (held r.serial) (later r.serial) (dies r.serial) (more r.serial) (and_first _ _ all))
    ∙ none_of held later dies more rows (and_second _ _ all)

-- nothing begins to die where what was held is held
pub none_die : (g h : GraphState) → GraphShape g → h.rows ≡ g.rows → h.dying ≡ g.dying →
    ((x : ℕ) → is_held g x ≡ true → is_held h x ≡ true) → newly_dying h ≡ []
unfolding newly_dying
none_die g h shape rows dying more =
    ap (λ rs. filter (λ x. not (is_held h x) && not (has x h.dying)) (serials_of rs)) rows
    ∙ ap (λ ds. filter (λ x. not (is_held h x) && not (has x ds)) (serials_of g.rows)) dying
    ∙ none_of (is_held g) (is_held h) (λ x. has x g.dying) more g.rows shape.dying_unheld
