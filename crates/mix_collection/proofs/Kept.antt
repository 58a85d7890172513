-- What edits keep of rows that a registry or an item of others names.
use Rattle.std.proofs.Common.{◌≡◌, ◌∙◌, ℕ, ◌+◌, ◌<◌, ◌==◌, Bool, true, false, cond, ◌&&◌, ◌||◌}
use Rattle.std.proofs.Common.{List, [], ◌∷◌, ◌++◌, All, map, find, get_or}
use Rattle.std.proofs.Common.{Option, Some, None, is_some, refl, sym, ap, subst}
use Rattle.std.proofs.Common.{arith, eq-eqb, inl, inr}
use Rattle.std.specs.List.{list_any}
use Rattle.std.proofs.lemmas.List.Folds.{list_any-append}
use Rattle.std.proofs.lemmas.List.Elements.{All-nil, All-push, All-map}
use Rattle.mix_model.specs.declared.item.ItemSpec.{ItemSpec}
use Rattle.mix_model.specs.declared.kind.Kind.{Kind}
use Rattle.mix_model.specs.declared.kind.Kind.TheVariants.{Scene, Group}
use Rattle.mix_model.specs.declared.place.Sound.{Sound}
use Rattle.mix_model.specs.declared.row.Row.{Row}
use Rattle.mix_model.specs.declared.settings.Settings.{Settings}
use Rattle.mix_model.specs.declared.settings.Settings.TheVariants.{None as NoSettings}
use Rattle.mix_model.specs.Edits.{channel_set, empty_graph, group_created, input_created}
use Rattle.mix_model.specs.Edits.{input_set, item_added, scene_created, set_to}
use Rattle.mix_model.specs.Holders.{shows_some}
use Rattle.mix_model.specs.Items.{new_item, with_item}
use Rattle.mix_model.specs.Lines.{sound_set}
use Rattle.mix_model.specs.Lookups.{registry, row_of}
use Rattle.mix_model.specs.Rows.{is_at, is_group, new_row, shows}
use Rattle.mix_model.specs.Sets.{has}
use Rattle.mix_model.specs.State.{Channel, GraphState}
use Rattle.mix_model.specs.Values.{new_sound}
use Rattle.mix_model.proofs.SetLemmas.{or_cases, or_left, or_right}

-- a row that the registry names, or a group that an item shows
abbrev pub is_kept : List ℕ → List Row → Row → Bool
is_kept registered rows r =
    has r.serial registered || (is_group r.kind && list_any (shows_some r.serial) rows)

-- rows each of which is kept, with serials from 1 on
pub record AreKept (registered : List ℕ) (rows : List Row) (next : ℕ) : Type 0 where
  pub kept : All (λ r. is_kept registered rows r ≡ true) rows
  pub counted : All (λ r. 0 < r.serial) rows
  pub start : 0 < next

abbrev pub Kept : GraphState → Type 0
Kept g = AreKept (registry g) g.rows g.next_serial

-- ---- rows stay kept

kept_more : (a b c d e : Bool) → (a ≡ true → d ≡ true) → (c ≡ true → e ≡ true) →
    (a || (b && c)) ≡ true → (d || (b && e)) ≡ true
kept_more true b c d e left right kept = or_left d (b && e) (left refl)
kept_more false true c d e left right kept = or_right d e (right kept)
kept_more false false c d e left right kept = cc

row_kept : (registered more : List ℕ) (rows others : List Row) (r s : Row) →
    s.serial ≡ r.serial → s.kind ≡ r.kind →
    (has r.serial registered ≡ true → has r.serial more ≡ true) →
    (list_any (shows_some r.serial) rows ≡ true → list_any (shows_some r.serial) others ≡ true) →
    is_kept registered rows r ≡ true → is_kept more others s ≡ true
row_kept registered more rows others r s serial kind listed shown kept =
    ap (λ x. has x more || (is_group s.kind && list_any (shows_some x) others)) serial
    ∙ ap (λ k. has r.serial more || (is_group k && list_any (shows_some r.serial) others)) kind
    ∙ kept_more (has r.serial registered) (is_group r.kind) (list_any (shows_some r.serial) rows)
    (has r.serial more) (list_any (shows_some r.serial) others) listed shown kept

any_append : (x : ℕ) (rows more : List Row) → list_any (shows_some x) rows ≡ true →
    list_any (shows_some x) (rows ++ more) ≡ true
any_append x rows more shown = list_any-append (shows_some x) rows more
    ∙ or_left (list_any (shows_some x) rows) (list_any (shows_some x) more) shown

-- ---- a change that serials and kinds don't see, and that takes no item

record Keeps (f : Row → Row) : Type 0 where
  pub serial : (r : Row) → (f r).serial ≡ r.serial
  pub kind : (r : Row) → (f r).kind ≡ r.kind
  pub shown : (x : ℕ) (r : Row) → shows_some x r ≡ true → shows_some x (f r) ≡ true

abbrev changed : ℕ → (Row → Row) → Row → Row
changed x change r = cond (is_at x r) (change r) r

serial_at : (change : Row → Row) → Keeps change → (r : Row) (b : Bool) →
    (cond b (change r) r).serial ≡ r.serial
serial_at change keeps r true = keeps.serial r
serial_at change keeps r false = refl

kind_at : (change : Row → Row) → Keeps change → (r : Row) (b : Bool) →
    (cond b (change r) r).kind ≡ r.kind
kind_at change keeps r true = keeps.kind r
kind_at change keeps r false = refl

shown_at : (change : Row → Row) → Keeps change → (x : ℕ) (r : Row) (b : Bool) →
    shows_some x r ≡ true → shows_some x (cond b (change r) r) ≡ true
shown_at change keeps x r true shown = keeps.shown x r shown
shown_at change keeps x r false shown = shown

keeps_at : (x : ℕ) (change : Row → Row) → Keeps change → Keeps (changed x change)
keeps_at x change keeps = record {
  serial = λ r. serial_at change keeps r (is_at x r);
  kind = λ r. kind_at change keeps r (is_at x r);
  shown = λ y r. shown_at change keeps y r (is_at x r);
}

rows_shown : (f : Row → Row) → Keeps f → (x : ℕ) (rows : List Row) →
    list_any (shows_some x) rows ≡ true → list_any (shows_some x) (map f rows) ≡ true
rows_shown f keeps x [] shown = cc
rows_shown f keeps x (r ∷ rows) shown = elim (or_cases _ _ shown) [
  | inl here ↦ or_left _ _ (keeps.shown x r here)
  | inr there ↦ or_right _ _ (rows_shown f keeps x rows there)
]

counted_at : (f : Row → Row) → Keeps f → (r : Row) → 0 < r.serial → 0 < (f r).serial
counted_at f keeps r above = let P : ℕ → Type 0 = λ n. 0 < n in subst P (sym (keeps.serial r)) above

mapped : (registered : List ℕ) (rows : List Row) (next : ℕ) (f : Row → Row) → Keeps f →
    AreKept registered rows next → AreKept registered (map f rows) next
mapped registered rows next f keeps are = record {
  kept = All-map (λ r. is_kept registered (map f rows) r ≡ true) f rows
      (λ k d within. row_kept registered registered rows (map f rows) (get_or rows k d)
      (f (get_or rows k d)) (keeps.serial (get_or rows k d)) (keeps.kind (get_or rows k d))
      (λ listed. listed) (rows_shown f keeps (get_or rows k d).serial rows)
      (are.kept k d within));
  counted = All-map (λ r. 0 < r.serial) f rows
      (λ k d within. counted_at f keeps (get_or rows k d) (are.counted k d within));
  start = are.start;
}

-- ---- a row more, which the registry names

or_more : (a b c : Bool) → (a || c) ≡ true → ((a || b) || c) ≡ true
or_more true b c some = refl
or_more false true c some = refl
or_more false false c some = some

or_longer : (a b c : Bool) → (a || b) ≡ true → (a || (b || c)) ≡ true
or_longer true b c some = refl
or_longer false true c some = refl
or_longer false false c some = cc

next_above : (next : ℕ) → 0 < next → 0 < next + 1
next_above next start = omega arith

pushed : (registered more : List ℕ) (rows : List Row) (next : ℕ) (name : List ℕ) (kind : Kind)
    (settings : Settings) → AreKept registered rows next →
    ((x : ℕ) → has x registered ≡ true → has x more ≡ true) → has next more ≡ true →
    AreKept more (rows ++ new_row next name kind settings new_sound ∷ []) (next + 1)
unfolding new_row
pushed registered more rows next name kind settings are grows itself =
    let row : Row = new_row next name kind settings new_sound in
    record {
      kept = All-push (λ r. is_kept more (rows ++ row ∷ []) r ≡ true) rows row
          (λ k d within. row_kept registered more rows (rows ++ row ∷ []) (get_or rows k d)
          (get_or rows k d) refl refl (grows (get_or rows k d).serial)
          (any_append (get_or rows k d).serial rows (row ∷ [])) (are.kept k d within))
          (or_left _ _ itself);
      counted = All-push (λ r. 0 < r.serial) rows row are.counted are.start;
      start = next_above next are.start;
    }

listed_left : (x : ℕ) (first more others : List ℕ) → has x (first ++ others) ≡ true →
    has x ((first ++ more) ++ others) ≡ true
listed_left x first more others listed =
    let p : ℕ → Bool = λ y. y == x in
    let split : (list_any p first || list_any p others) ≡ true =
    sym (list_any-append p first others) ∙ listed in
    list_any-append p (first ++ more) others
    ∙ ap (λ b. b || list_any p others) (list_any-append p first more)
    ∙ or_more (list_any p first) (list_any p more) (list_any p others) split

listed_right : (x : ℕ) (first others more : List ℕ) → has x (first ++ others) ≡ true →
    has x (first ++ (others ++ more)) ≡ true
listed_right x first others more listed =
    let p : ℕ → Bool = λ y. y == x in
    let split : (list_any p first || list_any p others) ≡ true =
    sym (list_any-append p first others) ∙ listed in
    list_any-append p first (others ++ more)
    ∙ ap (λ b. list_any p first || b) (list_any-append p others more)
    ∙ or_longer (list_any p first) (list_any p others) (list_any p more) split

last_listed : (x : ℕ) (first : List ℕ) → has x (first ++ x ∷ []) ≡ true
last_listed x first = list_any-append (λ y. y == x) first (x ∷ [])
    ∙ or_right _ _ (or_left _ _ (eq-eqb x x refl))

pub scene_kept : (g : GraphState) (name : List ℕ) → Kept g → Kept (scene_created name g)
unfolding scene_created
scene_kept g name are = pushed (registry g)
    ((g.scenes ++ g.next_serial ∷ []) ++ g.inputs) g.rows g.next_serial name Scene NoSettings are
    (λ x. listed_left x g.scenes (g.next_serial ∷ []) g.inputs)
    (list_any-append (λ y. y == g.next_serial) (g.scenes ++ g.next_serial ∷ []) g.inputs
    ∙ or_left _ _ (last_listed g.next_serial g.scenes))

pub input_kept : (g : GraphState) (name : List ℕ) (kind : Kind) (settings : Settings) → Kept g →
    Kept (input_created name kind settings g)
unfolding input_created
input_kept g name kind settings are = pushed (registry g)
    (g.scenes ++ (g.inputs ++ g.next_serial ∷ [])) g.rows g.next_serial name kind settings are
    (λ x. listed_right x g.scenes g.inputs (g.next_serial ∷ []))
    (list_any-append (λ y. y == g.next_serial) g.scenes (g.inputs ++ g.next_serial ∷ [])
    ∙ or_right _ _ (last_listed g.next_serial g.inputs))

-- ---- an item more, and a group that an item shows

keeps_with_item : (child : ℕ) (spec : ItemSpec) → Keeps (with_item child spec)
unfolding with_item
keeps_with_item child spec = record {
  serial = λ r. refl;
  kind = λ r. refl;
  shown = λ x r shown. list_any-append (shows x) r.items (new_item r.next_item child spec ∷ [])
      ∙ or_left _ _ shown;
}

pub item_kept : (g : GraphState) (parent child : ℕ) (spec : ItemSpec) → Kept g →
    Kept (item_added parent child spec g)
unfolding item_added
item_kept g parent child spec are = mapped (registry g) g.rows g.next_serial
    (changed parent (with_item child spec))
    (keeps_at parent (with_item child spec) (keeps_with_item child spec)) are

shows_itself : (x : ℕ) (spec : ItemSpec) (r : Row) → shows_some x (with_item x spec r) ≡ true
unfolding with_item new_item
shows_itself x spec r =
    list_any-append (shows x) r.items (new_item r.next_item x spec ∷ [])
    ∙ or_right _ _ (or_left _ _ (eq-eqb x x refl))

-- the parent is the first row, or one of the others
shown_first : (x parent : ℕ) (spec : ItemSpec) (r : Row) (rows more : List Row) (b : Bool) →
    is_at parent r ≡ b →
    is_some (cond (is_at parent r) (Some r) (find (is_at parent) rows)) ≡ true →
    (is_some (find (is_at parent) rows) ≡ true →
    list_any (shows_some x) (map (changed parent (with_item x spec)) (rows ++ more)) ≡ true) →
    (shows_some x (cond (is_at parent r) (with_item x spec r) r)
    || list_any (shows_some x) (map (changed parent (with_item x spec)) (rows ++ more))) ≡ true
shown_first x parent spec r rows more true is there others =
    rw is (or_left _ _ (shows_itself x spec r))
shown_first x parent spec r rows more false is there others = or_right _ _ (others
    (ap (λ b. is_some (cond b (Some r) (find (is_at parent) rows))) (sym is) ∙ there))

shown_in : (x parent : ℕ) (spec : ItemSpec) (rows more : List Row) →
    is_some (find (is_at parent) rows) ≡ true →
    list_any (shows_some x) (map (changed parent (with_item x spec)) (rows ++ more)) ≡ true
shown_in x parent spec [] more there = cc
shown_in x parent spec (r ∷ rows) more there = shown_first x parent spec r rows more
    (is_at parent r) refl there (shown_in x parent spec rows more)

pub group_kept : (g : GraphState) (name : List ℕ) (parent : ℕ) (spec : ItemSpec) →
    is_some (row_of g parent) ≡ true → Kept g → Kept (group_created name parent spec g)
unfolding group_created item_added new_row
group_kept g name parent spec there are =
    let row : Row = new_row g.next_serial name Group NoSettings new_sound in
    let f : Row → Row = changed parent (with_item g.next_serial spec) in
    let keeps : Keeps f = keeps_at parent (with_item g.next_serial spec)
    (keeps_with_item g.next_serial spec) in
    let rows : List Row = g.rows ++ row ∷ [] in
    record {
      kept = All-map (λ r. is_kept (registry g) (map f rows) r ≡ true) f rows
          (All-push (λ r. is_kept (registry g) (map f rows) (f r) ≡ true) g.rows row
          (λ k d within. row_kept (registry g) (registry g) g.rows (map f rows)
          (get_or g.rows k d) (f (get_or g.rows k d)) (keeps.serial (get_or g.rows k d))
          (keeps.kind (get_or g.rows k d)) (λ listed. listed)
          (λ shown. rows_shown f keeps (get_or g.rows k d).serial rows
          (any_append (get_or g.rows k d).serial g.rows (row ∷ []) shown)) (are.kept k d within))
          (row_kept (registry g) (registry g) (map f rows) (map f rows) row (f row)
          (keeps.serial row) (keeps.kind row) (λ listed. listed) (λ shown. shown)
          (or_right (has g.next_serial (registry g))
          (list_any (shows_some g.next_serial) (map f rows))
          (shown_in g.next_serial parent spec g.rows (row ∷ []) there))));
      counted = All-map (λ r. 0 < r.serial) f rows
          (All-push (λ r. 0 < (f r).serial) g.rows row
          (λ k d within. counted_at f keeps (get_or g.rows k d) (are.counted k d within))
          (counted_at f keeps row are.start));
      start = next_above g.next_serial are.start;
    }

-- ---- what makes no source

keeps_set : (settings : Settings) (sound : Sound) → Keeps (set_to settings sound)
keeps_set settings sound = record {
  serial = λ r. refl;
  kind = λ r. refl;
  shown = λ x r shown. shown;
}

pub sound_kept : (g : GraphState) (x : ℕ) (sound : Sound) (found : Option Row) → Kept g →
    Kept (sound_set x sound found g)
unfolding input_set
sound_kept g x sound None are = are
sound_kept g x sound (Some row) are = mapped (registry g) g.rows g.next_serial
    (changed x (set_to row.settings sound))
    (keeps_at x (set_to row.settings sound) (keeps_set row.settings sound)) are

pub channel_kept : (g : GraphState) (number : ℕ) (channel : Channel) → Kept g →
    Kept (channel_set number channel g)
unfolding channel_set
channel_kept g number channel are = are

pub empty_kept : Kept empty_graph
unfolding empty_graph
empty_kept = record {
  kept = All-nil (λ r. is_kept [] [] r ≡ true);
  counted = All-nil (λ r. 0 < r.serial);
  start = omega arith;
}
