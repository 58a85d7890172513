-- What holds of the sources after an edit, and of the settled ones.
use Rattle.std.proofs.Common.{◌≡◌, ℕ, ◌≤◌, Bool, true, false, ◌&&◌, not, cond, List, []}
use Rattle.std.proofs.Common.{◌∷◌, ◌++◌, map, filter, refl, ap, nat_le, ◌∙◌, arith, le-leb}
use Rattle.std.specs.List.{list_all}
use Rattle.std.proofs.lemmas.List.Folds.{list_all-append}
use Rattle.mix_model.specs.declared.row.Row.{Row}
use Rattle.mix_model.specs.Sets.{has, is_distinct}
use Rattle.mix_model.specs.Rows.{serials_of}
use Rattle.mix_model.specs.State.{GraphState}
use Rattle.mix_model.specs.Lookups.{is_row}
use Rattle.mix_model.specs.Holders.{is_held, is_named_row}
use Rattle.mix_model.specs.Walks.{is_active}
use Rattle.mix_model.specs.Settle.{settle, with_since, newly_dying, since_before}
use Rattle.mix_model.specs.Values.{are_settings, is_sound}
use Rattle.mix_model.specs.Values.{is_place}
use Rattle.mix_model.specs.Shape.{GraphShape, DyingFits, are_rows, names_differ}
use Rattle.mix_model.specs.EditedShape.{EditedShape}
use Rattle.mix_model.proofs.SetLemmas.{and_both, and_second, all_imply, and_first}
use Rattle.mix_model.proofs.DyingLemmas.{settled_dying}
use Rattle.mix_model.proofs.SettleLemmas.{settled_held}
use Rattle.mix_model.proofs.DistinctLemmas.{distinct_append, distinct_filter, rises_distinct}
use Rattle.mix_model.proofs.DistinctLemmas.{serials_there, all_filter, filter_passes}
use Rattle.mix_model.proofs.SteadyLemmas.{steady_rows}
use Rattle.mix_model.proofs.BlindLemmas.{Blind, all_congr, all_rows_same, named_same}
use Rattle.mix_model.proofs.KeptShape.{filter_changed, differ_changed, kept_parts, kept_limits}

-- the settling writes numbers of activity, and nothing that is seen of rows
blind_since : (old new : GraphState) → Blind (with_since old new)
unfolding with_since
blind_since old new = record {
  steady = record { serial = λ r. refl; kind = λ r. refl };
  children = λ r. refl;
  ids = λ r. refl;
  next = λ r. refl;
}

-- numbers of activity lie in the past where the old ones do
since_case : (b : Bool) (since clock : ℕ) → since ≤ clock →
    nat_le (cond b clock since) clock ≡ true
since_case true since clock past = le-leb clock clock (omega arith)
since_case false since clock past = le-leb since clock past

sinces_past : (old new : GraphState) → ((x : ℕ) → since_before old x ≤ new.clock) →
    (rows : List Row) →
    list_all (λ r. nat_le r.since new.clock) (map (with_since old new) rows) ≡ true
unfolding with_since
sinces_past old new past [] = refl
sinces_past old new past (r ∷ rows) = and_both _ _
    (since_case (is_active new r.serial && not (is_active old r.serial))
    (since_before old r.serial) new.clock (past r.serial)) (sinces_past old new past rows)

module _ (old new : GraphState) (e : EditedShape new) where
  named_once : names_differ (filter (is_named_row (settle old new)) (settle old new).rows) ≡ true
  unfolding settle with_since is_named_row is_held
  named_once =
      ap names_differ (filter_changed (is_named_row (settle old new)) (is_named_row new)
      (with_since old new) (named_same (with_since old new) (blind_since old new) new) new.rows)
      ∙ differ_changed (with_since old new) (λ r. refl) (filter (is_named_row new) new.rows)
      ∙ e.names

  -- who begins to die: rows, each once, none of which died yet or is held
  abbrev begins : ℕ → Bool
  begins x = not (is_held new x) && not (has x new.dying)

  newly_rows : are_rows new (newly_dying new) ≡ true
  unfolding newly_dying
  newly_rows = all_filter (is_row new) begins (serials_of new.rows) (serials_there new.rows)

  newly_pass : list_all begins (newly_dying new) ≡ true
  unfolding newly_dying
  newly_pass = filter_passes begins (serials_of new.rows)

  newly_once : is_distinct (newly_dying new) ≡ true
  unfolding newly_dying
  newly_once = distinct_filter begins (serials_of new.rows)
      (rises_distinct 0 (serials_of new.rows) e.parts.rows.serials_rise)

  all_dying : DyingFits (settle old new)
  unfolding settle
  all_dying = record {
    dying_rows = steady_rows (with_since old new) (blind_since old new).steady new
        (new.dying ++ newly_dying new) (new.dying ++ newly_dying new)
        (list_all-append (is_row new) new.dying (newly_dying new)
        ∙ and_both _ _ e.parts.dying.dying_rows newly_rows);
    none_held = all_congr (λ x. not (is_held (settle old new) x)) (λ x. not (is_held new x))
        (λ x. ap not (settled_held old new x)) (new.dying ++ newly_dying new)
        ∙ list_all-append (λ x. not (is_held new x)) new.dying (newly_dying new)
        ∙ and_both _ _ e.parts.dying.none_held
        (all_imply begins (λ x. not (is_held new x)) (λ x both. and_first _ _ both)
        (newly_dying new) newly_pass);
    dying_once = distinct_append new.dying (newly_dying new) e.parts.dying.dying_once newly_once
        (all_imply begins (λ x. not (has x new.dying)) (λ x both. and_second _ _ both)
        (newly_dying new) newly_pass);
  }

  -- settled, it has the shape that all sources have
  pub settled_shape : ((x : ℕ) → since_before old x ≤ new.clock) → GraphShape (settle old new)
  unfolding settle with_since
  settled_shape past = let h : Row → Row = with_since old new in
      let b : Blind h = blind_since old new in
      let dying : List ℕ = new.dying ++ newly_dying new in
      record {
        parts = kept_parts h b new dying e.parts e.limits
            (all_rows_same h b (λ r. are_settings r.kind r.settings && is_sound r.sound)
            (λ r. are_settings r.kind r.settings && is_sound r.sound) (λ r. refl) new.rows
            ∙ e.parts.rows.settings_fit)
            (all_rows_same h b (λ r. list_all (λ i. is_place i.place) r.items)
            (λ r. list_all (λ i. is_place i.place) r.items) (λ r. refl) new.rows
            ∙ e.parts.rows.places_fit) all_dying;
        limits = kept_limits h b new dying e.parts e.limits;
        names = named_once;
        dying_unheld = settled_dying old new e.parts.dying.none_held;
        since_past = sinces_past old new past new.rows;
      }
