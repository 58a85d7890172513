-- What makes the line of a request proper, whichever request it is.
use Rattle.std.proofs.Common.{◌≡◌, ◌∙◌, ◌≤◌, ◌<◌, ◌+◌, ◌==◌, ◌&&◌, ℕ, ℤ, nat_lt, List, [], ◌∷◌, ◌++◌}
use Rattle.std.proofs.Common.{Bool, true, false, bytes_eq, length, map, find, Option, Some, None}
use Rattle.std.proofs.Common.{Result, Ok, Err, refl, sym, ap, subst, rules, arith, get_or, ◌^◌}
use Rattle.std.specs.Prelude.{if◌then◌else◌}
use Rattle.std.specs.List.{list_all}
use Rattle.std.proofs.lemmas.Bool.{eqb-true, ltb-true}
use Rattle.std.proofs.lemmas.List.Elements.{All-map}
use Rattle.std.proofs.lemmas.List.Folds.{list_all-map}
use Rattle.mix_base.specs.declared.json.Json.{Json, the_lemmas}
use Rattle.mix_base.specs.declared.json.Json as json
use Rattle.mix_base.specs.declared.name.NameFault.{NameFault}
use Rattle.mix_base.specs.declared.name.NameFault.TheVariants.{Empty, Long, NotUtf8, Control}
use Rattle.mix_base.specs.Json.{Object, as_bool, as_obj, as_text, has_frac, obj_has_frac, present}
use Rattle.mix_base.specs.Names.{name_fault}
use Rattle.mix_base.specs.Uuids.{uuid_of}
use Rattle.mix_json.specs.Fields.{◌>>=◌, need, need_kept, need_obj, need_text, opt, opt_bool, opt_in}
use Rattle.mix_json.specs.Fields.{or_status, refused_if, typed}
use Rattle.mix_json.specs.Trees.{obj_of, put_fields, with_field}
use Rattle.mix_json.proofs.TreeLemmas.{obj_whole, put_whole}
use Rattle.mix_model.specs.declared.body.Body.{Body}
use Rattle.mix_model.specs.declared.body.Body.TheVariants.{Absent, Fields, Wrong}
use Rattle.mix_model.specs.declared.event.Event.{Event}
use Rattle.mix_model.specs.declared.fault.GraphFault.{GraphFault}
use Rattle.mix_model.specs.declared.fault.GraphFault.TheVariants.{NotFound, WrongKind, Exists}
use Rattle.mix_model.specs.declared.fault.GraphFault.TheVariants.{Cycle, Depth, TooMany, NoMemory}
use Rattle.mix_model.specs.declared.kind.Kind.{Kind}
use Rattle.mix_model.specs.declared.notes.Notes.{Notes}
use Rattle.mix_model.specs.declared.row.Row.{Row}
use Rattle.mix_model.specs.Holders.{find_named, is_named_row}
use Rattle.mix_model.specs.Rows.{is_at, is_scene}
use Rattle.mix_model.specs.Sets.{has}
use Rattle.mix_model.specs.Settle.{settle, with_since}
use Rattle.mix_model.specs.Shape.{GraphShape}
use Rattle.mix_model.specs.State.{GraphState, StudioState}
use Rattle.mix_model.specs.Studio.{studio_settled}
use Rattle.mix_model.specs.WholeShape.{hold_of, is_noted, watch_of}
use Rattle.mix_model.proofs.SetLemmas.{found_passes, found_test}
use Rattle.mix_shape.proofs.MarkedLemmas.{scene_row}
use Rattle.mix_events.specs.Statuses.{status_name}
use Rattle.mix_studio.specs.Studios.{StudioModel}
use Rattle.mix_requests.specs.declared.caller.Caller.{Caller}
use Rattle.mix_requests.specs.Effects.{Effect}
use Rattle.mix_requests.specs.Laws.{Grows, IsNamed, IsNoted, IsProper, IsProperLine}
use Rattle.mix_requests.specs.Named.{name_at, named, named_or_null}
use Rattle.mix_requests.specs.Read.{name_or, needed_fields, new_name, sought_name}
use Rattle.mix_requests.specs.Ready.{IsReady, ItemsWithin}
use Rattle.mix_requests.specs.Refusals.{refused_by}
use Rattle.mix_requests.specs.Sought.{of_sort, scene_sought, sought}
use Rattle.mix_requests.specs.Sources.{edited_alone}

-- ---- lines, step by step

-- what a line gives is so, and a status that refuses has a name
abbrev pub GivesWhere : {B : Type 0} → (B → Type 0) → Result B ℕ → Type 0
GivesWhere P (Ok x) = P x
GivesWhere P (Err status) = IsNamed status

-- the same as a record, so that what it speaks of is found
pub record Gives {B : Type 0} (P : B → Type 0) (line : Result B ℕ) : Type 0 where
  pub gives : GivesWhere P line

-- a line of which only this is known, that its status has a name
abbrev pub Named : {B : Type 0} → Result B ℕ → Type 0
Named {B} line = Gives {B = B} (λ x. Unit {0}) line

-- what is so of all that may come after a step is so with it
pub after : {A B : Type 0} {P : A → Type 0} {Q : B → Type 0} (step : Result A ℕ)
    (rest : A → Result B ℕ) → Gives P step → ((x : A) → P x → Gives Q (rest x)) →
    Gives Q (step >>= rest)
after (Ok x) rest first each = each x first.gives
after (Err status) rest first each = record { gives = first.gives }

-- and what is so of both is so of what a test takes
pub chosen : {B : Type 0} {P : B → Type 0} (test : Bool) (x y : Result B ℕ) → Gives P x → Gives P y →
    Gives P (if test then x else y)
chosen true x y first second = first
chosen false x y first second = second

-- a line of a request that gives what is proper is proper
pub line_proper : (s : StudioState) (notes : Notes) (caller : Caller) (most : ℕ)
    (line : Result Effect ℕ) → Gives (IsProper s notes caller most) line →
    IsProperLine s notes caller most line
line_proper s notes caller most (Ok effect) proper = proper.gives
line_proper s notes caller most (Err status) proper = proper.gives

-- ---- what is read

pub or_named : {A : Type 0} (status : ℕ) (x : Option A) → IsNamed status →
    Named (or_status status x)
or_named status None name = record { gives = name }
or_named status (Some x) name = record { gives = tt }

pub refused_named : (refused : Bool) (status : ℕ) → IsNamed status →
    Named (refused_if refused status)
refused_named true status name = record { gives = name }
refused_named false status name = record { gives = tt }

pub need_named : {A : Type 0} (as_type : Json → Option A) (key : List ℕ) (fields : Object) →
    Named (need as_type key fields)
unfolding status_name
need_named as_type key fields = after (or_status 300 (present key fields)) (typed as_type)
    (or_named 300 (present key fields) refl) (λ value read. or_named 401 (as_type value) refl)

pub opt_named : {A : Type 0} (as_type : Json → Option A) (value : Option Json) →
    Named (opt_in as_type value)
unfolding status_name
opt_named as_type None = record { gives = tt }
opt_named as_type (Some value) = after (typed as_type value) (λ x. Ok (Some x))
    (or_named 401 (as_type value) refl) (λ x read. record { gives = tt })

pub opt_bool_named : (absent : Bool) (key : List ℕ) (fields : Object) →
    Named (opt_bool absent key fields)
opt_bool_named absent key fields = after (opt as_bool key fields) _
    (opt_named as_bool (present key fields)) (λ x read. record { gives = tt })

-- an object that is kept has no fraction
pub kept_whole : (key : List ℕ) (fields : Object) →
    Gives (λ kept. obj_has_frac kept ≡ false) (need_kept key fields)
unfolding status_name
kept_whole key fields = after (need_obj key fields) _ (need_named as_obj key fields)
    (λ kept read. whole kept (obj_has_frac kept) refl)
  where
    whole : (kept : Object) (b : Bool) → obj_has_frac kept ≡ b →
        Gives (λ (o : Object). obj_has_frac o ≡ false) (if b then Err 401 else Ok kept)
    whole kept true is = record { gives = refl }
    whole kept false is = record { gives = is }

pub needed_named : (body : Body) → Named (needed_fields body)
unfolding status_name
needed_named Absent = record { gives = refl }
needed_named (Fields fields) = record { gives = tt }
needed_named Wrong = record { gives = refl }

name_or_named : (bytes : List ℕ) (fault : Option NameFault) → Named (name_or bytes fault)
unfolding status_name
name_or_named bytes None = record { gives = tt }
name_or_named bytes (Some Empty) = record { gives = refl }
name_or_named bytes (Some Long) = record { gives = refl }
name_or_named bytes (Some NotUtf8) = record { gives = refl }
name_or_named bytes (Some Control) = record { gives = refl }

pub new_name_named : (key : List ℕ) (fields : Object) → Named (new_name key fields)
unfolding new_name
new_name_named key fields = after (need_text key fields) _ (need_named as_text key fields)
    (λ bytes read. name_or_named bytes (name_fault bytes))

pub sought_name_named : (key : List ℕ) (fields : Object) → Named (sought_name key fields)
unfolding sought_name status_name
sought_name_named key fields = after (need_text key fields) _ (need_named as_text key fields)
    (λ bytes read. chosen (length bytes == 0) (Err 403) (Ok bytes) (record { gives = refl })
    (record { gives = tt }))

-- ---- what is sought

-- the serial of a row that is found was given
pub found_below : (g : GraphState) → GraphShape g → (test : Row → Bool) (r : Row) →
    find test g.rows ≡ Some r → r.serial < g.next_serial
found_below g shape test r found = ltb-true r.serial g.next_serial
    (found_passes test (λ (s : Row). nat_lt s.serial g.next_serial) g.rows r found
    (sym (list_all-map (λ y. nat_lt y g.next_serial) (λ (s : Row). s.serial) g.rows)
    ∙ shape.parts.rows.serials_below)).1

-- what is below a next serial is short
pub short_below : (next x : ℕ) → next < 4294967295 → x < next → x < 2 ^ 48
short_below next x few below = omega arith

-- the serial of a scene of the registry was given
pub listed_below : (g : GraphState) → GraphShape g → (x : ℕ) → has x g.scenes ≡ true →
    x < g.next_serial
listed_below g shape x here =
    let found = scene_row g shape x here in
    subst (λ y. y < g.next_serial) (eqb-true found.0.serial x
    (found_test (is_at x) g.rows found.0 found.1))
    (found_below g shape (is_at x) found.0 found.1)

-- and so it is short while serials can be given
pub scene_short : (g : GraphState) → GraphShape g → g.next_serial < 4294967295 → (x : ℕ) →
    has x g.scenes ≡ true → x < 2 ^ 48
scene_short g shape few x here =
    short_below g.next_serial x few (listed_below g shape x here)

-- and so was that of a source that a name finds
pub sought_below : (g : GraphState) → GraphShape g → (sort : Kind → Bool) (name : List ℕ) →
    Gives (λ x. x < g.next_serial) (sought sort g name)
unfolding status_name
sought_below g shape sort name = below (find_named g name) refl
  where
    below : (o : Option Row) → find_named g name ≡ o →
        Gives (λ x. x < g.next_serial) (of_sort sort o)
    below None found = record { gives = refl }
    below (Some r) found = chosen (sort r.kind) (Ok r.serial) (Err 602)
        (record {
          gives = found_below g shape
              (λ (s : Row). is_named_row g s && bytes_eq s.name name) r found;
        }) (record { gives = refl })

pub scene_below : (g : GraphState) → GraphShape g → (name : List ℕ) →
    Gives (λ x. x < g.next_serial) (scene_sought g name)
unfolding scene_sought
scene_below g shape name = sought_below g shape is_scene name

-- what the sources refuse
pub refused_by_named : (cause : Option GraphFault) → Named (refused_by cause)
unfolding refused_by status_name
refused_by_named None = record { gives = tt }
refused_by_named (Some NotFound) = record { gives = refl }
refused_by_named (Some WrongKind) = record { gives = refl }
refused_by_named (Some Exists) = record { gives = refl }
refused_by_named (Some Cycle) = record { gives = refl }
refused_by_named (Some Depth) = record { gives = refl }
refused_by_named (Some (TooMany limit)) = record { gives = refl }
refused_by_named (Some NoMemory) = record { gives = refl }

-- ---- values without a fraction

pub text_whole : (text : List ℕ) → has_frac (json.Text text) ≡ false
text_whole text = search (rules, the_lemmas)

pub null_whole : has_frac json.Null ≡ false
null_whole = search (rules, the_lemmas)

pub int_whole : (z : ℤ) → has_frac (json.Int z) ≡ false
int_whole z = search (rules, the_lemmas)

-- no value of these fields has a fraction
abbrev pub AreWhole : List (List ℕ × Json) → Type 0
AreWhole [] = Unit {0}
AreWhole (f ∷ fs) = (has_frac f.1 ≡ false) × AreWhole fs

pub both_whole : (xs ys : List (List ℕ × Json)) → AreWhole xs → AreWhole ys → AreWhole (xs ++ ys)
both_whole [] ys first rest = rest
both_whole (x ∷ xs) ys first rest = (first.0, both_whole xs ys first.1 rest)

-- nor has the object of them
put_all_whole : (fields : List (List ℕ × Json)) (obj : Object) → AreWhole fields →
    obj_has_frac obj ≡ false → obj_has_frac (put_fields fields obj) ≡ false
unfolding with_field
put_all_whole [] obj whole before = before
put_all_whole (f ∷ fs) obj whole before = put_all_whole fs (with_field f.0 f.1 obj) whole.1
    (put_whole f.0 f.1 obj whole.0 before)

pub fields_whole : (fields : List (List ℕ × Json)) → AreWhole fields →
    obj_has_frac (obj_of fields) ≡ false
fields_whole fields whole = put_all_whole fields [] whole refl

pub object_whole : (fields : List (List ℕ × Json)) → AreWhole fields →
    has_frac (json.Obj (obj_of fields)) ≡ false
object_whole fields whole = obj_whole (obj_of fields) (fields_whole fields whole)

-- sources by their names and UUIDs
pub named_whole : (name_key uuid_key : List ℕ) (g : GraphState) (x : ℕ) →
    AreWhole (named name_key uuid_key g x)
named_whole name_key uuid_key g x = (text_whole (name_at g x), (text_whole (uuid_of x), tt))

pub null_or_whole : (name_key uuid_key : List ℕ) (g : GraphState) (x : Option ℕ) →
    AreWhole (named_or_null name_key uuid_key g x)
null_or_whole name_key uuid_key g None = (null_whole, (null_whole, tt))
null_or_whole name_key uuid_key g (Some x) = named_whole name_key uuid_key g x

-- ---- the next numbers

-- the studio that stays as it is
pub stays_grow : (s : StudioState) → Grows s s
stays_grow s = record {
  serial = omega arith;
  items = λ n all k d within. let most : (get_or s.graph.rows k d).next_item ≤ n = all k d within in
      omega arith;
  hold = omega arith;
  watch = omega arith;
  clock = refl;
  audio = refl;
  i420 = refl;
  tracks = refl;
}

-- sources with one more at most: each next number is at most one more, and holds, watches and clock
-- stand
pub record OneMore (g h : GraphState) : Type 0 where
  pub serial : h.next_serial ≤ g.next_serial + 1
  pub items : (n : ℕ) → ItemsWithin n g → ItemsWithin (n + 1) h
  pub hold : h.next_hold ≤ g.next_hold + 1
  pub watch : h.next_watch ≤ g.next_watch + 1
  pub holds : h.holds ≡ g.holds
  pub watches : h.watches ≡ g.watches
  pub clock : h.clock ≡ g.clock

-- an edit grows them as much once it is settled
pub edit_grows : (edit : GraphState → GraphState) (s : StudioState) →
    OneMore s.graph (edit s.graph) → Grows s (edited_alone edit s)
unfolding studio_settled settle with_since
edit_grows edit s more = record {
  serial = more.serial;
  items = λ n all. All-map (λ (r : Row). r.next_item ≤ n + 1) (with_since s.graph (edit s.graph))
      (edit s.graph).rows (more.items n all);
  hold = more.hold;
  watch = more.watch;
  clock = more.clock;
  audio = refl;
  i420 = refl;
  tracks = refl;
}

-- ---- what is noted

-- who notes nothing, and leaves the holds and the watches of the sources
pub nothing_noted : (conn : ℕ) (m : StudioModel) (notes : Notes) → IsReady m notes → (e : Effect) →
    e.notes ≡ notes → e.studio.graph.holds ≡ m.present.graph.holds →
    e.studio.graph.watches ≡ m.present.graph.watches → IsNoted conn notes e
nothing_noted conn m notes ready e same holds watches = record {
  holds = ap (λ (n : Notes). map hold_of n.holds) same ∙ ready.holds ∙ sym holds;
  watches = ap (λ (n : Notes). map watch_of n.watches) same ∙ ready.watches ∙ sym watches;
  holds_open = λ conns here opened.
      ap (λ (n : Notes). list_all (is_noted conns) n.holds) same ∙ opened;
  watches_open = λ conns here opened.
      ap (λ (n : Notes). list_all (is_noted conns) n.watches) same ∙ opened;
}

-- so does such an edit
pub edit_noted : (edit : GraphState → GraphState) (conn : ℕ) (m : StudioModel) (notes : Notes) →
    IsReady m notes → (answer : Option Json) (events : List Event) →
    OneMore m.present.graph (edit m.present.graph) → IsNoted conn notes (record {
      answer = answer;
      events = events;
      studio = edited_alone edit m.present;
      notes = notes;
    })
unfolding studio_settled settle
edit_noted edit conn m notes ready answer events more =
    nothing_noted conn m notes ready _ refl more.holds more.watches
