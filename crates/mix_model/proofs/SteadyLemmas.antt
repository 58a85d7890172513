-- Changes of rows that keep serials and kinds, and what is seen of rows by their serials alone.
use Rattle.std.proofs.Common.{◌≡◌, ℕ, ◌==◌, ◌&&◌, ◌||◌, ◌++◌, Bool, true, false, cond, not, List, [], ◌∷◌}
use Rattle.std.proofs.Common.{map, drop, take, Option, Some, None, refl, ap, sym, ◌∙◌, nat_lt, is_some}
use Rattle.std.proofs.Common.{option_map}
use Rattle.std.specs.List.{list_all}
use Rattle.std.specs.Option.{option_map_or}
use Rattle.std.proofs.lemmas.List.Folds.{list_all-map}
use Rattle.mix_model.specs.declared.item.Item.{Item}
use Rattle.mix_model.specs.declared.kind.Kind.{Kind}
use Rattle.mix_model.specs.declared.row.Row.{Row}
use Rattle.mix_model.specs.Sets.{has, is_distinct}
use Rattle.mix_model.specs.Rows.{is_at, is_scene, is_group, is_input, serials_of}
use Rattle.mix_model.specs.State.{GraphState, Channel}
use Rattle.mix_model.specs.Lookups.{find_row, has_row, is_row, row_passes, registry, named_by}
use Rattle.mix_model.specs.Shape.{RegistryFits, HoldsFit, WatchesFit, FramesFit}
use Rattle.mix_model.specs.Shape.{BesideFits, are_rows, is_child, is_side_channel, is_preview}
use Rattle.mix_model.specs.Shape.{is_program_channel}
use Rattle.mix_model.proofs.SetLemmas.{and_both, and_first, and_second, and_imply, or_imply}
use Rattle.mix_model.proofs.SetLemmas.{not_imply, all_imply}
use Rattle.mix_model.proofs.SettleLemmas.{find_changed, unseen_option, some_changed}

-- what a changed row has in common with the row, the one that is taken of them has
pub at_same : {A : Type 0} (f : Row → A) (b : Bool) (changed r : Row) → f changed ≡ f r →
    f (cond b changed r) ≡ f r
at_same f true changed r same = same
at_same f false changed r same = refl

-- what holds of each row, changed, holds of all
pub rows_changed : (h : Row → Row) (p q : Row → Bool) →
    ((r : Row) → p r ≡ true → q (h r) ≡ true) → (rows : List Row) → list_all p rows ≡ true →
    list_all q (map h rows) ≡ true
rows_changed h p q imply rows all =
    list_all-map q h rows ∙ all_imply p (λ r. q (h r)) imply rows all

-- a change of rows that keeps their serials and kinds
pub record Steady (h : Row → Row) : Type 0 where
  pub serial : (r : Row) → (h r).serial ≡ r.serial
  pub kind : (r : Row) → (h r).kind ≡ r.kind

-- a change of the row of one serial is such a change where the change of that row is
pub steady_at : (x : ℕ) (change : Row → Row) → Steady change →
    Steady (λ r. cond (is_at x r) (change r) r)
steady_at x change s = record {
  serial = λ r. at_same (λ (t : Row). t.serial) (is_at x r) (change r) r (s.serial r);
  kind = λ r. at_same (λ (t : Row). t.kind) (is_at x r) (change r) r (s.kind r);
}

module _ (h : Row → Row) (s : Steady h) where
  pub steady_found : (rows : List Row) (x : ℕ) →
      find_row (map h rows) x ≡ option_map h (find_row rows x)
  steady_found rows x = find_changed (is_at x) h (λ r. ap (λ n. n == x) (s.serial r)) rows

  pub steady_there : (rows : List Row) (x : ℕ) → has_row (map h rows) x ≡ has_row rows x
  steady_there rows x = ap is_some (steady_found rows x) ∙ some_changed h (find_row rows x)

  pub steady_pass : (test : Kind → Bool) (rows : List Row) (x : ℕ) →
      option_map_or (λ r. test r.kind) (find_row (map h rows) x) false
      ≡ option_map_or (λ r. test r.kind) (find_row rows x) false
  steady_pass test rows x =
      ap (λ o. option_map_or (λ r. test r.kind) o false) (steady_found rows x)
      ∙ unseen_option (λ r. test r.kind) false h (λ r. ap test (s.kind r)) (find_row rows x)

  pub steady_serials : (rows : List Row) → serials_of (map h rows) ≡ serials_of rows
  steady_serials [] = refl
  steady_serials (r ∷ rows) = rw (s.serial r, steady_serials rows)

module _ (g : GraphState) (rows : List Row) (scenes inputs dying : List ℕ) (next : ℕ) where
  -- the sources with these rows, this registry and this dying list
  abbrev pub seen : GraphState
  seen = record g {
    rows = rows;
    scenes = scenes;
    inputs = inputs;
    dying = dying;
    next_serial = next;
  }

  -- rows are still rows, of their kinds, and no serial that was given has become one
  pub record Sees : Type 0 where
    pub there : (x : ℕ) → is_row g x ≡ true → is_row seen x ≡ true
    pub pass : (test : Kind → Bool) (x : ℕ) → row_passes g (λ r. test r.kind) x ≡ true →
        row_passes seen (λ r. test r.kind) x ≡ true
    pub before : (x : ℕ) → nat_lt x g.next_serial ≡ true → is_row seen x ≡ true →
        is_row g x ≡ true
    pub later : (x : ℕ) → nat_lt x g.next_serial ≡ true → nat_lt x next ≡ true

  module _ (s : Sees) where
    pub rows_seen : (xs : List ℕ) → are_rows g xs ≡ true → are_rows seen xs ≡ true
    rows_seen xs = all_imply (is_row g) (is_row seen) s.there xs

    pub passes_seen : (test : Kind → Bool) (xs : List ℕ) →
        list_all (row_passes g (λ r. test r.kind)) xs ≡ true →
        list_all (row_passes seen (λ r. test r.kind)) xs ≡ true
    passes_seen test xs = all_imply (row_passes g (λ r. test r.kind))
        (row_passes seen (λ r. test r.kind)) (s.pass test) xs

    pub holds_seen : HoldsFit g.rows g.holds g.next_hold → HoldsFit rows g.holds g.next_hold
    holds_seen fits = record {
      hold_ids = fits.hold_ids;
      holds_rows = rows_seen (map (λ h. h.serial) g.holds) fits.holds_rows;
      few_holds = fits.few_holds;
    }

    watches_seen : WatchesFit g.watches g.next_watch g.next_serial →
        WatchesFit g.watches g.next_watch next
    watches_seen fits = record {
      watch_ids = fits.watch_ids;
      watched_before = all_imply (λ w. nat_lt w.serial g.next_serial)
          (λ w. nat_lt w.serial next) (λ w. s.later w.serial) g.watches fits.watched_before;
      few_watches = fits.few_watches;
    }

    pub frames_seen : FramesFit g.rows g.frames → FramesFit rows g.frames
    frames_seen fits = record {
      frame_numbers = fits.frame_numbers;
      frames_rows = all_imply (λ f. are_rows g f.serials) (λ f. are_rows seen f.serials)
          (λ f. rows_seen f.serials) g.frames fits.frames_rows;
      frames_once = fits.frames_once;
      few_frames = fits.few_frames;
    }

    pub preview_seen : (o : Option ℕ) → is_preview g o ≡ true → is_preview seen o ≡ true
    preview_seen None ok = refl
    preview_seen (Some x) ok =
        let less : nat_lt x g.next_serial ≡ true = and_first _ _ ok in
        and_both _ _ (s.later x less)
        (or_imply (not (is_row g x)) (row_passes g (λ r. is_scene r.kind) x)
        (not (is_row seen x)) (row_passes seen (λ r. is_scene r.kind) x)
        (not_imply (is_row g x) (is_row seen x) (s.before x less)) (s.pass is_scene x)
        (and_second _ _ ok))

    -- where no serial leaves the registry, children are still children
    module _ (listed : (y : ℕ) → has y (registry g) ≡ true → has y (scenes ++ inputs) ≡ true) where
      pub child_seen : (y : ℕ) → is_child g y ≡ true → is_child seen y ≡ true
      child_seen y = or_imply _ _ _ _ (listed y) (s.pass is_group y)

      pub item_seen : (i : Item) → (is_row g i.child && is_child g i.child) ≡ true →
          (is_row seen i.child && is_child seen i.child) ≡ true
      item_seen i = and_imply _ _ _ _ (s.there i.child) (child_seen i.child)

      side_seen : (c : Channel) → is_side_channel g c ≡ true → is_side_channel seen c ≡ true
      side_seen c = and_imply _ _ _ _
          (all_imply (is_child g) (is_child seen) child_seen (named_by c)) (λ d. d)

      -- and so all that is beside them fits
      module _ (more : (y : ℕ) → has y g.scenes ≡ true → has y scenes ≡ true) where
        program_seen : (c : Channel) → is_program_channel g c ≡ true →
            is_program_channel seen c ≡ true
        program_seen c = and_imply
            (list_all (λ x. has x g.scenes) (named_by c) && is_distinct (named_by c))
            (is_some c.0 || not (is_some c.1)) _ _
            (and_imply (list_all (λ x. has x g.scenes) (named_by c)) (is_distinct (named_by c)) _ _
            (all_imply (λ x. has x g.scenes) (λ x. has x scenes) more (named_by c)) (λ d. d))
            (λ d. d)

        pub beside_seen : BesideFits g → BesideFits seen
        beside_seen fits = record {
          holds = holds_seen fits.holds;
          watches = watches_seen fits.watches;
          frames = frames_seen fits.frames;
          channels = record {
            channel_count = fits.channels.channel_count;
            program_channel = all_imply (is_program_channel g) (is_program_channel seen)
                program_seen (take 1 g.channels) fits.channels.program_channel;
            side_channels = all_imply (is_side_channel g) (is_side_channel seen) side_seen
                (drop 1 g.channels) fits.channels.side_channels;
          };
          preview_scene = preview_seen g.preview fits.preview_scene;
        }

-- such a change of the rows leaves what is beside them
module _ (h : Row → Row) (s : Steady h) (g : GraphState) (dying : List ℕ) where
  abbrev pub steadied : GraphState
  steadied = record g { rows = map h g.rows; dying = dying }

  pub steady_sees : Sees g (map h g.rows) g.scenes g.inputs dying g.next_serial
  steady_sees = record {
    there = λ x here. steady_there h s g.rows x ∙ here;
    pass = λ test x here. steady_pass h s test g.rows x ∙ here;
    before = λ x less here. sym (steady_there h s g.rows x) ∙ here;
    later = λ x less. less;
  }

  pub steady_item : (i : Item) → (is_row g i.child && is_child g i.child) ≡ true →
      (is_row steadied i.child && is_child steadied i.child) ≡ true
  steady_item = item_seen g (map h g.rows) g.scenes g.inputs dying g.next_serial steady_sees
      (λ y here. here)

  pub steady_beside : BesideFits g → BesideFits steadied
  steady_beside = beside_seen g (map h g.rows) g.scenes g.inputs dying g.next_serial steady_sees
      (λ y here. here) (λ y here. here)

  pub steady_registry : RegistryFits g → RegistryFits steadied
  steady_registry fits = record {
    scenes_scenes = passes_seen g (map h g.rows) g.scenes g.inputs dying g.next_serial
        steady_sees is_scene g.scenes fits.scenes_scenes;
    inputs_inputs = passes_seen g (map h g.rows) g.scenes g.inputs dying g.next_serial
        steady_sees is_input g.inputs fits.inputs_inputs;
    registry_once = fits.registry_once;
  }

  pub steady_rows : (xs : List ℕ) → are_rows g xs ≡ true → are_rows steadied xs ≡ true
  steady_rows = rows_seen g (map h g.rows) g.scenes g.inputs dying g.next_serial steady_sees
