-- What holds of the sources still holds after a change of rows that serials, kinds, children and item
-- ids don't see.
use Rattle.std.proofs.Common.{◌≡◌, ℕ, Bool, ◌&&◌, not, List, [], ◌∷◌, map, filter}
use Rattle.std.proofs.Common.{refl, ap, nat_lt, nat_le, IsTrue, ◌∙◌, bytes_eq, cond, true, false}
use Rattle.std.specs.List.{list_all}
use Rattle.std.proofs.lemmas.List.{length-map}
use Rattle.mix_base.specs.Limits.{standard}
use Rattle.mix_model.specs.declared.row.Row.{Row}
use Rattle.mix_model.specs.Sets.{has, agree, rises_above}
use Rattle.mix_model.specs.Rows.{all_items}
use Rattle.mix_model.specs.State.{GraphState}
use Rattle.mix_model.specs.Lookups.{is_row}
use Rattle.mix_model.specs.Holders.{is_held, is_named_row}
use Rattle.mix_model.specs.Ranks.{ranks_fall, ranks_within, weights_within}
use Rattle.mix_model.specs.Values.{are_settings, is_sound, is_place}
use Rattle.mix_model.specs.Shape.{GraphShape, PartsFit, LimitsKept, DyingFits, RowsFit, names_differ}
use Rattle.mix_model.specs.Shape.{is_child}
use Rattle.mix_model.proofs.SetLemmas.{all_imply}
use Rattle.mix_model.proofs.SettleLemmas.{any_changed}
use Rattle.mix_model.proofs.SteadyLemmas.{rows_changed, steady_serials, steady_item, steady_rows}
use Rattle.mix_model.proofs.SteadyLemmas.{steady_beside, steady_registry}
use Rattle.mix_model.proofs.BlindLemmas.{Blind, all_congr, children_all, shallow_same, light_same}
use Rattle.mix_model.proofs.BlindLemmas.{count_same, bare_same, ids_same, all_rows_same, changed}
use Rattle.mix_model.proofs.BlindLemmas.{held_same, named_same}
use Rattle.mix_model.proofs.FallLemmas.{shallow_falls_in}

-- a filter of changed rows
pub filter_changed : (p q : Row → Bool) (h : Row → Row) → ((r : Row) → p (h r) ≡ q r) →
    (rows : List Row) → filter p (map h rows) ≡ map h (filter q rows)
filter_changed p q h same [] = refl
filter_changed p q h same (r ∷ rows) =
    rw (same r, filter_changed p q h same rows) (kept (q r))
  where
    kept : (b : Bool) → cond b (h r ∷ map h (filter q rows)) (map h (filter q rows))
        ≡ map h (cond b (r ∷ filter q rows) (filter q rows))
    kept true = refl
    kept false = refl

-- rows that keep their names differ as they did
pub differ_changed : (h : Row → Row) → ((r : Row) → (h r).name ≡ r.name) → (rows : List Row) →
    names_differ (map h rows) ≡ names_differ rows
differ_changed h same [] = refl
differ_changed h same (r ∷ rows) =
    rw (
      same r,
      any_changed (λ s. bytes_eq s.name r.name) h (λ s. ap (λ n. bytes_eq n r.name) (same s)) rows,
      differ_changed h same rows,
    )

-- the sources with these rows, and this dying list
module _ (h : Row → Row) (b : Blind h) (g : GraphState) (dying : List ℕ) (parts : PartsFit g)
    (limits : LimitsKept g) where
  abbrev pub kept : GraphState
  kept = record g { rows = map h g.rows; dying = dying }

  kept_rows : IsTrue (list_all (λ r. are_settings r.kind r.settings && is_sound r.sound) kept.rows) →
      IsTrue (all_items (λ r i. is_place i.place) kept.rows) → RowsFit kept
  kept_rows settings places = record {
    serials_rise = ap (rises_above 0) (steady_serials h b.steady g.rows) ∙ parts.rows.serials_rise;
    serials_start = parts.rows.serials_start;
    serials_below = ap (list_all (λ x. nat_lt x g.next_serial)) (steady_serials h b.steady g.rows)
        ∙ parts.rows.serials_below;
    item_ids = ids_same h b g.rows ∙ parts.rows.item_ids;
    children_rows = rows_changed h
        (λ r. list_all (λ i. is_row g i.child && is_child g i.child) r.items)
        (λ r. list_all (λ i. is_row kept i.child && is_child kept i.child) r.items)
        (λ r all. children_all h b (λ c. is_row kept c && is_child kept c) r
        ∙ all_imply (λ i. is_row g i.child && is_child g i.child)
        (λ i. is_row kept i.child && is_child kept i.child) (steady_item h b.steady g dying)
        r.items all) g.rows parts.rows.children_rows;
    inputs_bare = bare_same h b g.rows ∙ parts.rows.inputs_bare;
    settings_fit = settings;
    places_fit = places;
  }

  pub kept_limits : LimitsKept kept
  unfolding ranks_fall ranks_within weights_within
  kept_limits =
      let shallow : ranks_within standard.rank kept ≡ true =
      shallow_same h b standard.rank g.rows ∙ limits.shallow in
      record {
        few_rows = ap (λ n. nat_le n standard.rows) (length-map g.rows h) ∙ limits.few_rows;
        few_items = ap (λ n. nat_le n standard.items) (count_same h b g.rows) ∙ limits.few_items;
        light = light_same h b standard.weight g.rows ∙ limits.light;
        shallow = shallow;
        falling = shallow_falls_in (map h g.rows)
            (ap (rises_above 0) (steady_serials h b.steady g.rows) ∙ parts.rows.serials_rise)
            (bare_same h b g.rows ∙ parts.rows.inputs_bare) shallow;
      }

  -- what is left to show of its parts: settings, places, and what dies
  pub kept_parts :
      IsTrue (list_all (λ r. are_settings r.kind r.settings && is_sound r.sound) kept.rows) →
      IsTrue (all_items (λ r i. is_place i.place) kept.rows) → DyingFits kept → PartsFit kept
  kept_parts settings places dies = record {
    rows = kept_rows settings places;
    registry = steady_registry h b.steady g dying parts.registry;
    beside = steady_beside h b.steady g dying parts.beside;
    dying = dies;
  }

-- where the dying list stays, too
module _ (h : Row → Row) (b : Blind h) (g : GraphState) (shape : GraphShape g) where
  -- names stay where rows keep theirs
  pub names_kept : ((r : Row) → (h r).name ≡ r.name) →
      names_differ (filter (is_named_row (changed h b g)) (changed h b g).rows) ≡ true
  names_kept same =
      ap names_differ (filter_changed (is_named_row (changed h b g)) (is_named_row g) h
      (named_same h b g) g.rows)
      ∙ differ_changed h same (filter (is_named_row g) g.rows) ∙ shape.names

  -- what is left to show of such a change: names, numbers of activity, settings and places
  pub kept_shape :
      IsTrue (names_differ (filter (is_named_row (changed h b g)) (changed h b g).rows)) →
      IsTrue (list_all (λ r. nat_le r.since g.clock) (map h g.rows)) →
      IsTrue (list_all (λ r. are_settings r.kind r.settings && is_sound r.sound) (map h g.rows)) →
      IsTrue (all_items (λ r i. is_place i.place) (map h g.rows)) → GraphShape (changed h b g)
  kept_shape named since settings places = record {
    parts = kept_parts h b g g.dying shape.parts shape.limits settings places (record {
      dying_rows = steady_rows h b.steady g g.dying g.dying shape.parts.dying.dying_rows;
      none_held = all_congr (λ x. not (is_held (changed h b g) x)) (λ x. not (is_held g x))
          (λ x. ap not (held_same h b g x)) g.dying ∙ shape.parts.dying.none_held;
      dying_once = shape.parts.dying.dying_once;
    });
    limits = kept_limits h b g g.dying shape.parts shape.limits;
    names = named;
    dying_unheld = all_rows_same h b
        (λ r. agree (has r.serial g.dying) (not (is_held (changed h b g) r.serial)))
        (λ r. agree (has r.serial g.dying) (not (is_held g r.serial)))
        (λ r. rw (b.steady.serial r, held_same h b g r.serial)) g.rows ∙ shape.dying_unheld;
    since_past = since;
  }
