-- Fresh sources stay fresh with each line, and there is nothing to settle.
use Rattle.std.proofs.Common.{◌≡◌, ◌∙◌, ℕ, ◌+◌, ◌<◌, ◌≤◌, ◌==◌, Bool, true, false, cond, not, ◌&&◌, ◌||◌}
use Rattle.std.proofs.Common.{List, [], ◌∷◌, ◌++◌, All, map, filter, find, length, get_or}
use Rattle.std.proofs.Common.{Option, Some, None, is_some, IfSome, refl, sym, ap, subst, arith}
use Rattle.std.proofs.Common.{option_map, unwrap_or}
use Rattle.std.proofs.Common.{append-nil, eq-eqb, leb-true}
use Rattle.std.specs.List.{list_any}
use Rattle.std.specs.Option.{option_map_or}
use Rattle.std.proofs.lemmas.List.{length-append, length-map}
use Rattle.std.proofs.lemmas.List.Sums.{get_or-le-sum_by}
use Rattle.std.proofs.lemmas.List.Folds.{list_any-append}
use Rattle.std.proofs.lemmas.List.Elements.{All-nil, All-head, All-tail, All-push, All-map}
use Rattle.mix_model.specs.declared.item.ItemSpec.{ItemSpec}
use Rattle.mix_model.specs.declared.kind.Kind.{Kind}
use Rattle.mix_model.specs.declared.kind.Kind.TheVariants.{Scene, Group}
use Rattle.mix_model.specs.declared.place.Sound.{Sound}
use Rattle.mix_model.specs.declared.row.Row.{Row}
use Rattle.mix_model.specs.declared.settings.Settings.{Settings}
use Rattle.mix_model.specs.declared.settings.Settings.TheVariants.{None as NoSettings}
use Rattle.mix_model.specs.Causes.{item_count}
use Rattle.mix_model.specs.Edits.{channel_set, empty_graph, group_created, input_created}
use Rattle.mix_model.specs.Edits.{input_set, item_added, preview_set, scene_created}
use Rattle.mix_model.specs.Edits.{set_to}
use Rattle.mix_model.specs.Holders.{find_named, is_held, is_named_row, is_on, lists, names}
use Rattle.mix_model.specs.Holders.{shows_some}
use Rattle.mix_model.specs.Items.{new_item, with_item}
use Rattle.mix_model.specs.Lines.{serial_named}
use Rattle.mix_model.specs.Lookups.{registry, row_of}
use Rattle.mix_model.specs.Marks.{GraphModel, edited, row_settled, settled_by}
use Rattle.mix_model.specs.Rows.{is_at, is_group, new_row, serials_of, shows}
use Rattle.mix_model.specs.Sets.{has}
use Rattle.mix_model.specs.Settle.{newly_dying}
use Rattle.mix_model.specs.Shape.{GraphShape}
use Rattle.mix_model.specs.State.{Channel, GraphState}
use Rattle.mix_model.specs.Values.{new_sound}
use Rattle.mix_model.specs.Walks.{is_active}
use Rattle.mix_model.proofs.CalledLemmas.{AreNamed, called}
use Rattle.mix_model.proofs.SetLemmas.{and_imply, or_imply, or_left, or_right}
use Rattle.mix_studio.specs.Openings.{IsFresh, IsFreshRow, IsLeft, is_rooted}

-- ---- there is nothing to settle

numbered_so : (r : Row) (active : Bool) (clock : ℕ) → clock ≡ 0 → r.since ≡ 0 →
    record r { since = cond (active && true) clock 0 } ≡ r
numbered_so r true clock stands unmarked =
    ap (λ n. let row : Row = record r { since = n } in row) (stands ∙ sym unmarked)
numbered_so r false clock stands unmarked =
    ap (λ n. let row : Row = record r { since = n } in row) (sym unmarked)

row_kept : (g : GraphState) (r : Row) → g.clock ≡ 0 → r.since ≡ 0 → row_settled [] g r ≡ r
unfolding row_settled
row_kept g r clock unmarked = numbered_so r (is_active g r.serial) g.clock clock unmarked

rows_kept : (g : GraphState) (rows : List Row) → g.clock ≡ 0 → All (λ r. r.since ≡ 0) rows →
    map (row_settled [] g) rows ≡ rows
rows_kept g [] clock unmarked = refl
rows_kept g (r ∷ rows) clock unmarked =
    ap (λ x. x ∷ map (row_settled [] g) rows)
    (row_kept g r clock (All-head (λ r. r.since ≡ 0) r rows unmarked))
    ∙ ap (λ l. r ∷ l) (rows_kept g rows clock (All-tail (λ r. r.since ≡ 0) r rows unmarked))

holds_rooted : (a b c d e : Bool) → (a || (b && c)) ≡ true → (a || (d || (c || e))) ≡ true
holds_rooted true b c d e rooted = refl
holds_rooted false b c true e rooted = refl
holds_rooted false b true false e rooted = refl
holds_rooted false b false false e rooted = absurd (none b rooted)
  where
    none : (b : Bool) → (b && false) ≡ true → ⊥
    none true some = cc
    none false some = cc

rooted_held : (g : GraphState) (r : Row) → is_rooted g r ≡ true → is_held g r.serial ≡ true
unfolding is_held
rooted_held g r rooted = holds_rooted (has r.serial (registry g)) (is_group r.kind)
    (list_any (shows_some r.serial) g.rows) (list_any (names r.serial) g.channels)
    (list_any (is_on r.serial) g.holds || list_any (lists r.serial) g.frames) rooted

names_rooted : (a b c d : Bool) → (c ≡ true → d ≡ true) → (a || (b && c)) ≡ true →
    (a || (b && d)) ≡ true
names_rooted a b c d more rooted =
    or_imply a (b && c) a (b && d) (λ here. here) (and_imply b c b d (λ kind. kind) more) rooted

shown_held : (g : GraphState) (x : ℕ) → list_any (shows_some x) g.rows ≡ true →
    is_held g x ≡ true
unfolding is_held
shown_held g x shown = or_right _ _ (or_right _ _ (or_left _ _ shown))

rooted_named : (g : GraphState) (r : Row) → is_rooted g r ≡ true → is_named_row g r ≡ true
unfolding is_named_row
rooted_named g r rooted = names_rooted (has r.serial (registry g)) (is_group r.kind)
    (list_any (shows_some r.serial) g.rows) (is_held g r.serial) (shown_held g r.serial) rooted

-- so every row of fresh sources is named
pub all_named : (m : GraphModel) → IsFresh m → AreNamed m.present
all_named m fresh = record {
  named = λ k d within. rooted_named m.present (get_or m.present.rows k d)
      (fresh.rows k d within).rooted;
  counted = λ k d within. (fresh.rows k d within).counted;
}

mapped_or : (o : Option Row) → unwrap_or (option_map (λ r. r.serial) o) 0
    ≡ option_map_or (λ r. r.serial) o 0
mapped_or None = refl
mapped_or (Some r) = refl

-- and the serial that a look-up of named rows finds is the one that a line finds
pub serial_found : (m : GraphModel) → IsFresh m → (name : List ℕ) (found : Option ℕ) →
    found ≡ option_map (λ r. r.serial) (find_named m.present name) →
    unwrap_or found 0 ≡ serial_named m.present name
serial_found m fresh name found is = ap (λ (o : Option ℕ). unwrap_or o 0) is
    ∙ mapped_or (find_named m.present name)
    ∙ ap (λ (o : Option Row). option_map_or (λ r. r.serial) o 0)
    (called m.present (all_named m fresh) name)

none_dies : (g : GraphState) (rows : List Row) → All (λ r. is_rooted g r ≡ true) rows →
    filter (λ x. not (is_held g x) && not (has x g.dying)) (serials_of rows) ≡ []
none_dies g [] rooted = refl
none_dies g (r ∷ rows) rooted =
    let dies : ℕ → Bool = λ x. not (is_held g x) && not (has x g.dying) in
    ap (λ b. cond (not b && not (has r.serial g.dying)) (r.serial ∷ filter dies (serials_of rows))
    (filter dies (serials_of rows)))
    (rooted_held g r (All-head (λ r. is_rooted g r ≡ true) r rows rooted))
    ∙ none_dies g rows (All-tail (λ r. is_rooted g r ≡ true) r rows rooted)

settled_already : (g : GraphState) → g.clock ≡ 0 → All (IsFreshRow g) g.rows →
    settled_by [] g ≡ g
unfolding settled_by newly_dying
settled_already g clock rows =
    ap (λ l. let h : GraphState = record g { rows = l; dying = g.dying ++ newly_dying g } in h)
    (rows_kept g g.rows clock (λ k d within. (rows k d within).unmarked))
    ∙ ap (λ l. let h : GraphState = record g { dying = g.dying ++ l } in h)
    (none_dies g g.rows (λ k d within. (rows k d within).rooted))
    ∙ ap (λ l. let h : GraphState = record g { dying = l } in h) (append-nil g.dying)

-- the same sources as these
abbrev now_are : GraphModel → GraphState → GraphModel
now_are m g = record m { present = g }

edit_alone : (m : GraphModel) (edit : GraphState → GraphState) → m.begun ≡ [] →
    settled_by [] (edit m.present) ≡ edit m.present →
    edited edit m ≡ now_are m (edit m.present)
unfolding edited
edit_alone m edit begun rests =
    ap (λ b. let n : GraphModel = record m { present = settled_by b (edit m.present) } in n) begun
    ∙ ap (λ h. let n : GraphModel = record m { present = h } in n) rests

-- an edit that leaves fresh sources leaves what it says
pub left_by : (m new : GraphModel) (edit : GraphState → GraphState) → IsFresh m →
    IsFresh (now_are m (edit m.present)) → new ≡ edited edit m → IsLeft (edit m.present) new
left_by m new edit fresh more made =
    let same : now_are m (edit m.present) ≡ new =
    sym (made ∙ edit_alone m edit fresh.begun
    (settled_already (edit m.present) more.clock more.rows)) in
    subst (IsLeft (edit m.present)) same (record { fresh = more; present = refl })

-- ---- rows stay rooted

either_more : (a b c d : Bool) → (a ≡ true → c ≡ true) → (b ≡ true → d ≡ true) →
    (a || b) ≡ true → (c || d) ≡ true
either_more true b c d left right rooted = or_left c d (left refl)
either_more false true c d left right rooted = or_right c d (right refl)
either_more false false c d left right rooted = cc

-- what is rooted stays so where neither the registry nor the items of the rows get less
pub rooted_more : (g h : GraphState) (r : Row) →
    (has r.serial (registry g) ≡ true → has r.serial (registry h) ≡ true) →
    (list_any (shows_some r.serial) g.rows ≡ true →
    list_any (shows_some r.serial) h.rows ≡ true) →
    is_rooted g r ≡ true → is_rooted h r ≡ true
rooted_more g h r listed shown rooted = or_imply (has r.serial (registry g))
    (is_group r.kind && list_any (shows_some r.serial) g.rows) (has r.serial (registry h))
    (is_group r.kind && list_any (shows_some r.serial) h.rows) listed
    (and_imply (is_group r.kind) (list_any (shows_some r.serial) g.rows) (is_group r.kind)
    (list_any (shows_some r.serial) h.rows) (λ kind. kind) shown) rooted

pub fresh_row : (g h : GraphState) (r s : Row) → s.since ≡ r.since → s.serial ≡ r.serial →
    s.kind ≡ r.kind → s.next_item ≡ length s.items + 1 →
    (is_rooted g r ≡ true → is_rooted h r ≡ true) → IsFreshRow g r → IsFreshRow h s
fresh_row g h r s since serial kind items more fresh = record {
  unmarked = since ∙ fresh.unmarked;
  rooted = ap (λ x. has x (registry h) || (is_group s.kind && list_any (shows_some x) h.rows))
      serial
      ∙ ap (λ k. has r.serial (registry h)
      || (is_group k && list_any (shows_some r.serial) h.rows)) kind
      ∙ more fresh.rooted;
  counted = subst (λ (x : ℕ). 0 < x) (sym serial) fresh.counted;
  items = items;
}

any_append : (x : ℕ) (rows more : List Row) → list_any (shows_some x) rows ≡ true →
    list_any (shows_some x) (rows ++ more) ≡ true
any_append x rows more shown = list_any-append (shows_some x) rows more
    ∙ or_left (list_any (shows_some x) rows) (list_any (shows_some x) more) shown

any_map : (p : Row → Bool) (h : Row → Row) → ((r : Row) → p r ≡ true → p (h r) ≡ true) →
    (rows : List Row) → list_any p rows ≡ true → list_any p (map h rows) ≡ true
any_map p h more [] any = any
any_map p h more (r ∷ rows) any =
    either_more (p r) (list_any p rows) (p (h r)) (list_any p (map h rows)) (more r)
    (any_map p h more rows) any

-- ---- a row more

scene_listed : (x y : ℕ) (scenes inputs : List ℕ) → has x (scenes ++ inputs) ≡ true →
    has x ((scenes ++ y ∷ []) ++ inputs) ≡ true
scene_listed x y scenes inputs listed =
    list_any-append (λ z. z == x) (scenes ++ y ∷ []) inputs
    ∙ either_more (has x scenes) (has x inputs) (has x (scenes ++ y ∷ [])) (has x inputs)
    (λ there. list_any-append (λ z. z == x) scenes (y ∷ []) ∙ or_left _ _ there) (λ there. there)
    (sym (list_any-append (λ z. z == x) scenes inputs) ∙ listed)

scene_itself : (x : ℕ) (scenes inputs : List ℕ) → has x ((scenes ++ x ∷ []) ++ inputs) ≡ true
scene_itself x scenes inputs = list_any-append (λ z. z == x) (scenes ++ x ∷ []) inputs
    ∙ or_left _ _ (list_any-append (λ z. z == x) scenes (x ∷ [])
    ∙ or_right _ _ (or_left _ _ (eq-eqb x x refl)))

input_listed : (x y : ℕ) (scenes inputs : List ℕ) → has x (scenes ++ inputs) ≡ true →
    has x (scenes ++ (inputs ++ y ∷ [])) ≡ true
input_listed x y scenes inputs listed =
    list_any-append (λ z. z == x) scenes (inputs ++ y ∷ [])
    ∙ either_more (has x scenes) (has x inputs) (has x scenes) (has x (inputs ++ y ∷ []))
    (λ there. there) (λ there. list_any-append (λ z. z == x) inputs (y ∷ []) ∙ or_left _ _ there)
    (sym (list_any-append (λ z. z == x) scenes inputs) ∙ listed)

input_itself : (x : ℕ) (scenes inputs : List ℕ) → has x (scenes ++ (inputs ++ x ∷ [])) ≡ true
input_itself x scenes inputs = list_any-append (λ z. z == x) scenes (inputs ++ x ∷ [])
    ∙ or_right _ _ (list_any-append (λ z. z == x) inputs (x ∷ [])
    ∙ or_right _ _ (or_left _ _ (eq-eqb x x refl)))

-- a new row is fresh where something roots it
new_fresh : (g : GraphState) (x : ℕ) (name : List ℕ) (kind : Kind) (settings : Settings) →
    0 < x → (has x (registry g) || (is_group kind && list_any (shows_some x) g.rows)) ≡ true →
    IsFreshRow g (new_row x name kind settings new_sound)
unfolding new_row
new_fresh g x name kind settings above rooted =
    record { unmarked = refl; rooted = rooted; counted = above; items = refl }

above_none : (rows : List Row) (next : ℕ) → next ≡ length rows + 1 → 0 < next
above_none rows next serials = omega (arith, serials)

counted : (rows : List Row) (r : Row) (next : ℕ) → next ≡ length rows + 1 →
    next + 1 ≡ length (rows ++ r ∷ []) + 1
counted rows r next serials =
    let longer : length (rows ++ r ∷ []) ≡ length rows + 1 = length-append rows (r ∷ []) in
    omega (arith, longer, serials)

module _ (m : GraphModel) (fresh : IsFresh m) where
  abbrev g : GraphState
  g = m.present

  pub scene_fresh : (name : List ℕ) → IsFresh (now_are m (scene_created name g))
  unfolding scene_created
  scene_fresh name =
      let row : Row = new_row g.next_serial name Scene NoSettings new_sound in
      record {
        begun = fresh.begun;
        clock = fresh.clock;
        frames = fresh.frames;
        rows = All-push (IsFreshRow (scene_created name g)) g.rows row
            (λ k d within. fresh_row g (scene_created name g) (get_or g.rows k d) (get_or g.rows k d)
            refl refl refl (fresh.rows k d within).items
            (rooted_more g (scene_created name g) (get_or g.rows k d)
            (scene_listed (get_or g.rows k d).serial g.next_serial g.scenes g.inputs)
            (any_append (get_or g.rows k d).serial g.rows (row ∷ []))) (fresh.rows k d within))
            (new_fresh (scene_created name g) g.next_serial name Scene NoSettings
            (above_none g.rows g.next_serial fresh.serials)
            (or_left _ _ (scene_itself g.next_serial g.scenes g.inputs)));
        serials = counted g.rows row g.next_serial fresh.serials;
      }

  pub input_fresh : (name : List ℕ) (kind : Kind) (settings : Settings) →
      IsFresh (now_are m (input_created name kind settings g))
  unfolding input_created
  input_fresh name kind settings =
      let row : Row = new_row g.next_serial name kind settings new_sound in
      record {
        begun = fresh.begun;
        clock = fresh.clock;
        frames = fresh.frames;
        rows = All-push (IsFreshRow (input_created name kind settings g)) g.rows row
            (λ k d within. fresh_row g (input_created name kind settings g) (get_or g.rows k d)
            (get_or g.rows k d) refl refl refl (fresh.rows k d within).items
            (rooted_more g (input_created name kind settings g) (get_or g.rows k d)
            (input_listed (get_or g.rows k d).serial g.next_serial g.scenes g.inputs)
            (any_append (get_or g.rows k d).serial g.rows (row ∷ []))) (fresh.rows k d within))
            (new_fresh (input_created name kind settings g) g.next_serial name kind settings
            (above_none g.rows g.next_serial fresh.serials)
            (or_left _ _ (input_itself g.next_serial g.scenes g.inputs)));
        serials = counted g.rows row g.next_serial fresh.serials;
      }

  -- what a channel names, and the preview, are nothing to the rows
  pub channel_fresh : (number : ℕ) (channel : Channel) →
      IsFresh (now_are m (channel_set number channel g))
  unfolding channel_set
  channel_fresh number channel = record {
    begun = fresh.begun;
    clock = fresh.clock;
    frames = fresh.frames;
    rows = λ k d within. fresh_row g (channel_set number channel g) (get_or g.rows k d)
        (get_or g.rows k d) refl refl refl (fresh.rows k d within).items (λ rooted. rooted)
        (fresh.rows k d within);
    serials = fresh.serials;
  }

  pub preview_fresh : (to : Option ℕ) → IsFresh (now_are m (preview_set to g))
  unfolding preview_set
  preview_fresh to = record {
    begun = fresh.begun;
    clock = fresh.clock;
    frames = fresh.frames;
    rows = λ k d within. fresh_row g (preview_set to g) (get_or g.rows k d)
        (get_or g.rows k d) refl refl refl (fresh.rows k d within).items (λ rooted. rooted)
        (fresh.rows k d within);
    serials = fresh.serials;
  }

-- ---- an item more

abbrev with_item_in : ℕ → ℕ → ItemSpec → Row → Row
with_item_in parent child spec r = cond (is_at parent r) (with_item child spec r) r

item_since : (child : ℕ) (spec : ItemSpec) (r : Row) (b : Bool) →
    (cond b (with_item child spec r) r).since ≡ r.since
unfolding with_item
item_since child spec r true = refl
item_since child spec r false = refl

item_serial : (child : ℕ) (spec : ItemSpec) (r : Row) (b : Bool) →
    (cond b (with_item child spec r) r).serial ≡ r.serial
unfolding with_item
item_serial child spec r true = refl
item_serial child spec r false = refl

item_kind : (child : ℕ) (spec : ItemSpec) (r : Row) (b : Bool) →
    (cond b (with_item child spec r) r).kind ≡ r.kind
unfolding with_item
item_kind child spec r true = refl
item_kind child spec r false = refl

item_next : (child : ℕ) (spec : ItemSpec) (r : Row) (b : Bool) →
    r.next_item ≡ length r.items + 1 →
    (cond b (with_item child spec r) r).next_item
    ≡ length (cond b (with_item child spec r) r).items + 1
unfolding with_item
item_next child spec r true items =
    let longer : length (r.items ++ new_item r.next_item child spec ∷ []) ≡ length r.items + 1 =
    length-append r.items (new_item r.next_item child spec ∷ []) in
    omega (arith, longer, items)
item_next child spec r false items = items

item_shown : (x child : ℕ) (spec : ItemSpec) (r : Row) (b : Bool) → shows_some x r ≡ true →
    shows_some x (cond b (with_item child spec r) r) ≡ true
unfolding with_item
item_shown x child spec r true shown =
    list_any-append (shows x) r.items (new_item r.next_item child spec ∷ []) ∙ or_left _ _ shown
item_shown x child spec r false shown = shown

rows_shown : (x parent child : ℕ) (spec : ItemSpec) (rows : List Row) →
    list_any (shows_some x) rows ≡ true →
    list_any (shows_some x) (map (with_item_in parent child spec) rows) ≡ true
rows_shown x parent child spec rows shown = any_map (shows_some x) (with_item_in parent child spec)
    (λ r. item_shown x child spec r (is_at parent r)) rows shown

-- a row with an item more, or as it was
item_fresh_row : (g h : GraphState) (parent child : ℕ) (spec : ItemSpec) (r : Row) →
    (is_rooted g r ≡ true → is_rooted h r ≡ true) → IsFreshRow g r →
    IsFreshRow h (with_item_in parent child spec r)
item_fresh_row g h parent child spec r more fresh = fresh_row g h r
    (with_item_in parent child spec r) (item_since child spec r (is_at parent r))
    (item_serial child spec r (is_at parent r)) (item_kind child spec r (is_at parent r))
    (item_next child spec r (is_at parent r) fresh.items) more fresh

-- rows with an item more
item_added_rows : (g : GraphState) (parent child : ℕ) (spec : ItemSpec) →
    All (IsFreshRow g) g.rows → All (IsFreshRow (item_added parent child spec g))
    (item_added parent child spec g).rows
unfolding item_added
item_added_rows g parent child spec rows =
    All-map (IsFreshRow (item_added parent child spec g)) (with_item_in parent child spec) g.rows
    (λ k d within. item_fresh_row g (item_added parent child spec g) parent child spec
    (get_or g.rows k d) (rooted_more g (item_added parent child spec g) (get_or g.rows k d)
    (λ listed. listed) (rows_shown (get_or g.rows k d).serial parent child spec g.rows))
    (rows k d within))

item_added_count : (g : GraphState) (parent child : ℕ) (spec : ItemSpec) →
    length (item_added parent child spec g).rows ≡ length g.rows
unfolding item_added
item_added_count g parent child spec = length-map g.rows (with_item_in parent child spec)

pub item_fresh : (m : GraphModel) → IsFresh m → (parent child : ℕ) (spec : ItemSpec) →
    IsFresh (now_are m (item_added parent child spec m.present))
unfolding item_added
item_fresh m fresh parent child spec =
    let same : length (item_added parent child spec m.present).rows ≡ length m.present.rows =
    item_added_count m.present parent child spec in
    record {
      begun = fresh.begun;
      clock = fresh.clock;
      frames = fresh.frames;
      rows = item_added_rows m.present parent child spec fresh.rows;
      serials = fresh.serials ∙ ap (λ n. n + 1) (sym same);
    }

-- ---- a group, which an item of its parent shows

shows_itself : (x : ℕ) (spec : ItemSpec) (r : Row) → shows_some x (with_item x spec r) ≡ true
unfolding with_item new_item
shows_itself x spec r =
    list_any-append (shows x) r.items (new_item r.next_item x spec ∷ [])
    ∙ or_right _ _ (or_left _ _ (eq-eqb x x refl))

-- the parent is the first row, or one of the others
shown_first : (x parent : ℕ) (spec : ItemSpec) (r : Row) (rows more : List Row) (b : Bool) →
    is_at parent r ≡ b →
    is_some (cond (is_at parent r) (Some r) (find (is_at parent) rows)) ≡ true →
    (is_some (find (is_at parent) rows) ≡ true →
    list_any (shows_some x) (map (with_item_in parent x spec) (rows ++ more)) ≡ true) →
    (shows_some x (cond (is_at parent r) (with_item x spec r) r)
    || list_any (shows_some x) (map (with_item_in parent x spec) (rows ++ more))) ≡ true
shown_first x parent spec r rows more true is there others =
    rw is (or_left _ _ (shows_itself x spec r))
shown_first x parent spec r rows more false is there others = or_right _ _ (others
    (ap (λ b. is_some (cond b (Some r) (find (is_at parent) rows))) (sym is) ∙ there))

shown_in : (x parent : ℕ) (spec : ItemSpec) (rows more : List Row) →
    is_some (find (is_at parent) rows) ≡ true →
    list_any (shows_some x) (map (with_item_in parent x spec) (rows ++ more)) ≡ true
shown_in x parent spec [] more there = cc
shown_in x parent spec (r ∷ rows) more there = shown_first x parent spec r rows more
    (is_at parent r) refl there (shown_in x parent spec rows more)

group_rows : (g : GraphState) (name : List ℕ) (parent : ℕ) (spec : ItemSpec) →
    is_some (row_of g parent) ≡ true → 0 < g.next_serial → All (IsFreshRow g) g.rows →
    All (IsFreshRow (group_created name parent spec g)) (group_created name parent spec g).rows
unfolding group_created item_added
group_rows g name parent spec there above rows =
    let row : Row = new_row g.next_serial name Group NoSettings new_sound in
    let h : GraphState = group_created name parent spec g in
    All-map (IsFreshRow h) (with_item_in parent g.next_serial spec) (g.rows ++ row ∷ [])
    (All-push (λ r. IsFreshRow h (with_item_in parent g.next_serial spec r)) g.rows row
    (λ k d within. item_fresh_row g h parent g.next_serial spec (get_or g.rows k d)
    (rooted_more g h (get_or g.rows k d) (λ listed. listed)
    (λ shown. rows_shown (get_or g.rows k d).serial parent g.next_serial spec (g.rows ++ row ∷ [])
    (any_append (get_or g.rows k d).serial g.rows (row ∷ []) shown))) (rows k d within))
    (item_fresh_row h h parent g.next_serial spec row (λ rooted. rooted)
    (new_fresh h g.next_serial name Group NoSettings above
    (or_right _ _ (shown_in g.next_serial parent spec g.rows (row ∷ []) there)))))

group_counted : (g : GraphState) (name : List ℕ) (parent : ℕ) (spec : ItemSpec) →
    g.next_serial ≡ length g.rows + 1 →
    (group_created name parent spec g).next_serial
    ≡ length (group_created name parent spec g).rows + 1
unfolding group_created item_added
group_counted g name parent spec serials =
    let row : Row = new_row g.next_serial name Group NoSettings new_sound in
    counted g.rows row g.next_serial serials
    ∙ ap (λ n. n + 1)
    (sym (length-map (g.rows ++ row ∷ []) (with_item_in parent g.next_serial spec)))

pub group_fresh : (m : GraphModel) → IsFresh m → (name : List ℕ) (parent : ℕ)
    (spec : ItemSpec) → is_some (row_of m.present parent) ≡ true →
    IsFresh (now_are m (group_created name parent spec m.present))
unfolding group_created item_added
group_fresh m fresh name parent spec there = record {
  begun = fresh.begun;
  clock = fresh.clock;
  frames = fresh.frames;
  rows = group_rows m.present name parent spec there
      (above_none m.present.rows m.present.next_serial fresh.serials) fresh.rows;
  serials = group_counted m.present name parent spec fresh.serials;
}

-- ---- an input that is set

abbrev set_in : ℕ → Settings → Sound → Row → Row
set_in x settings sound r = cond (is_at x r) (set_to settings sound r) r

set_row : (g h : GraphState) (settings : Settings) (sound : Sound) (r : Row) (b : Bool) →
    (is_rooted g r ≡ true → is_rooted h r ≡ true) → IsFreshRow g r →
    IsFreshRow h (cond b (set_to settings sound r) r)
set_row g h settings sound r true more fresh =
    fresh_row g h r (set_to settings sound r) refl refl refl fresh.items more fresh
set_row g h settings sound r false more fresh =
    fresh_row g h r r refl refl refl fresh.items more fresh

set_shown : (x : ℕ) (settings : Settings) (sound : Sound) (r : Row) (b : Bool) →
    shows_some x r ≡ true → shows_some x (cond b (set_to settings sound r) r) ≡ true
set_shown x settings sound r true shown = shown
set_shown x settings sound r false shown = shown

pub set_fresh : (m : GraphModel) → IsFresh m → (x : ℕ) (settings : Settings) (sound : Sound) →
    IsFresh (now_are m (input_set x settings sound m.present))
unfolding input_set
set_fresh m fresh x settings sound =
    let g : GraphState = m.present in
    let h : GraphState = input_set x settings sound g in
    record {
      begun = fresh.begun;
      clock = fresh.clock;
      frames = fresh.frames;
      rows = All-map (IsFreshRow h) (set_in x settings sound) g.rows
          (λ k d within. set_row g h settings sound (get_or g.rows k d)
          (is_at x (get_or g.rows k d)) (rooted_more g h (get_or g.rows k d)
          (λ listed. listed) (any_map (shows_some (get_or g.rows k d).serial)
          (set_in x settings sound)
          (λ r. set_shown (get_or g.rows k d).serial settings sound r (is_at x r)) g.rows))
          (fresh.rows k d within));
      serials = fresh.serials ∙ ap (λ n. n + 1) (sym (length-map g.rows (set_in x settings sound)));
    }

-- ---- the beginning

abbrev no_sources : GraphModel
no_sources = record { begun = []; present = empty_graph }

none_fresh : IsFresh no_sources
unfolding empty_graph
none_fresh = record {
  begun = refl;
  clock = refl;
  frames = refl;
  rows = All-nil (IsFreshRow empty_graph);
  serials = refl;
}

pub fresh_empty : (m : GraphModel) → m.begun ≡ [] → m.present ≡ empty_graph → IsFresh m
fresh_empty m begun present =
    let same : no_sources ≡ m =
    ap (λ b. let n : GraphModel = record { begun = b; present = empty_graph } in n) (sym begun)
    ∙ ap (λ g. let n : GraphModel = record m { present = g } in n) (sym present) in
    subst IsFresh same none_fresh

-- ---- numbers can still be given

pub serials_left : (m : GraphModel) → IsFresh m → GraphShape m.present →
    m.present.next_serial < 4294967295
serials_left m fresh shape =
    let few : length m.present.rows ≤ 512 = leb-true (length m.present.rows) 512 shape.limits.few_rows in
    let serials : m.present.next_serial ≡ length m.present.rows + 1 = fresh.serials in
    omega (arith, few, serials)

found_has : (P : Row → Type 0) (test : Row → Bool) (rows : List Row) → All P rows →
    IfSome (find test rows) P
found_has P test [] all = tt
found_has P test (r ∷ rows) all =
    elim (test r) as (λ b. IfSome (cond b (Some r) (find test rows)) P) [
      | true ↦ All-head P r rows all
      | false ↦ found_has P test rows (All-tail P r rows all)
    ]

pub items_left : (m : GraphModel) (x : ℕ) → IsFresh m → GraphShape m.present →
    IfSome (row_of m.present x) (λ r. r.next_item < 4294967295)
items_left m x fresh shape =
    let rows : List Row = m.present.rows in
    found_has (λ r. r.next_item < 4294967295) (is_at x) rows
    (λ k d within.
    let few : item_count rows ≤ 2048 = leb-true (item_count rows) 2048 shape.limits.few_items in
    let items : (get_or rows k d).next_item ≡ length (get_or rows k d).items + 1 =
    (fresh.rows k d within).items in
    let part : length (get_or rows k d).items ≤ item_count rows =
    get_or-le-sum_by (λ (r : Row). length r.items) rows k d within in
    omega (arith, few, items, part))
