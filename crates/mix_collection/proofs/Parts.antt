-- What the first lines of a collection say, one after another.
use Rattle.std.proofs.Common.{◌≡◌, List, ℕ, refl, sym, ap, ◌∙◌, subst, Result, Ok, Err}
use Rattle.std.proofs.Common.{Option, Some, None}
use Rattle.mix_base.specs.declared.rate.Rate.{Rate}
use Rattle.mix_outside.specs.Lines.{Lines, End, Cut, Whole}
use Rattle.mix_model.specs.declared.collection.Collection.{Collection}
use Rattle.mix_collection.specs.Collections.{next, part_in, where_it, is_format_line, canvas_in}
use Rattle.mix_collection.specs.Collections.{rate_in, record_in, head_in, login_in, lines_in}
use Rattle.mix_collection.specs.Collections.{collection_in, collection_from, ◌>>=◌}
use Rattle.mix_collection.specs.Collections.{Head as HeadLines}
use Rattle.mix_collection.specs.Read.{IsHead, Heads, behind_canvas, with_rest}
use Rattle.mix_collection.specs.Read.{Reads, Collects, CollectsBehind}
use Rattle.mix_collection.specs.declared.collection_fault.CollectionFault.{CollectionFault}
use Rattle.mix_collection.specs.declared.collection_fault.CollectionFault.TheVariants.{NotBuilt}
use Rattle.mix_collection.specs.declared.head.Head.{Head}
use Rattle.mix_collection.specs.declared.registry.Registry.{Registry}

-- what was read where a part of it failed
pub reads_failed : {A : Type 0} (result : Result A CollectionFault) (fault : CollectionFault)
    (defined : Option A) → result ≡ Err fault → (fault ≡ NotBuilt → defined ≡ None) →
    Reads result defined
reads_failed result fault defined is none = rw is none

pub head_failed : (result : Result Head CollectionFault) (fault : CollectionFault)
    (old new : Lines) → result ≡ Err fault → (fault ≡ NotBuilt → head_in old ≡ None) →
    Heads result old new
head_failed result fault old new is none = rw is none

-- no line stands first that says something
pub none_first : {A : Type 0} (read : List ℕ → Option A) (lines : Lines) → next lines ≡ None →
    part_in read lines ≡ None
none_first read End none = refl
none_first read (Cut line) none = refl
none_first read (Whole line more) none = absurd (cc)

-- the first line names no format
pub no_format : (old : Lines) → part_in (where_it is_format_line) old ≡ None → head_in old ≡ None
unfolding head_in
no_format old none = rw none refl

-- the head, as far as its lines say something
pub without_canvas : (line : List ℕ) (old mid : Lines) →
    part_in (where_it is_format_line) old ≡ Some (line, mid) → part_in canvas_in mid ≡ None →
    head_in old ≡ None
unfolding head_in
without_canvas line old mid is none = rw (is, none) refl

with_canvas : (line : List ℕ) (canvas : ℕ × ℕ) (old mid later : Lines) →
    part_in (where_it is_format_line) old ≡ Some (line, mid) →
    part_in canvas_in mid ≡ Some (canvas, later) → head_in old ≡ behind_canvas canvas later
unfolding head_in
with_canvas line canvas old mid later is size = rw (is, size) refl

pub heads_behind : (line : List ℕ) (canvas : ℕ × ℕ) (result : Result Head CollectionFault)
    (old mid later new : Lines) → part_in (where_it is_format_line) old ≡ Some (line, mid) →
    part_in canvas_in mid ≡ Some (canvas, later) →
    IsHead (behind_canvas canvas later) result new → Heads result old new
heads_behind line canvas result old mid later new is size h =
    let P : Option HeadLines → Type 0 = λ defined. IsHead defined result new in
    subst P (sym (with_canvas line canvas old mid later is size)) h

-- what the two lines behind a canvas say, as far as they say something
pub without_rate : (canvas : ℕ × ℕ) (lines : Lines) → part_in rate_in lines ≡ None →
    behind_canvas canvas lines ≡ None
without_rate canvas lines none = rw none refl

pub without_record : (canvas : ℕ × ℕ) (rate : Rate) (lines more : Lines) →
    part_in rate_in lines ≡ Some (rate, more) → part_in (record_in canvas) more ≡ None →
    behind_canvas canvas lines ≡ None
without_record canvas rate lines more is none = rw (is, none) refl

-- the collection, where its head is read or isn't
pub without_head : (lines : Lines) → head_in lines ≡ None → collection_in lines ≡ None
unfolding collection_in
without_head lines none = rw none refl

pub collects_behind : (head : Head) (result : Result Collection CollectionFault)
    (lines more : Lines) → head_in lines ≡ Some (with_rest head more) →
    CollectsBehind head result more → Collects result lines
unfolding collection_in
collects_behind head (Ok collection) lines more is h = rw is h
collects_behind head (Err fault) lines more is h = λ built. rw is (h built)

-- no line stands first, so there are none
pub none_next : (canvas : ℕ × ℕ) (more : Lines) → next more ≡ None → lines_in canvas more ≡ None
none_next canvas End h = refl
none_next canvas (Cut line) h = refl
none_next canvas (Whole line more) h = absurd (cc)

-- what stands behind a head, without a line behind its login, and without a registry
pub without_lines : (head : Head) (old : Lines) → next (login_in old).1 ≡ None →
    (lines_in head.canvas (login_in old).1 >>= (λ registry.
    Some (collection_from (with_rest head old) (login_in old).0 registry))) ≡ None
without_lines head old none = rw (none_next head.canvas (login_in old).1 none) refl

pub without_registry : (head : Head) (secret : Option (List ℕ × List ℕ)) (line : List ℕ)
    (old more : Lines) → login_in old ≡ (secret, Whole line more) →
    lines_in head.canvas (Whole line more) ≡ None →
    (lines_in head.canvas (login_in old).1 >>= (λ registry.
    Some (collection_from (with_rest head old) (login_in old).0 registry))) ≡ None
without_registry head secret line old more login none =
    ap (λ (l : Option (List ℕ × List ℕ) × Lines). lines_in head.canvas l.1
    >>= (λ r. Some (collection_from (with_rest head old) l.0 r))) login
    ∙ ap (λ (o : Option Registry). o
    >>= (λ r. Some (collection_from (with_rest head old) secret r))) none

-- what stands behind a head, with what its login and its lines were read to
pub collects_body : (head : Head) (secret : Option (List ℕ × List ℕ)) (registry : Registry)
    (line : List ℕ) (old more : Lines) (collection : Collection) →
    login_in old ≡ (secret, Whole line more) →
    lines_in head.canvas (Whole line more) ≡ Some registry →
    ((rest : Lines) → collection ≡ collection_from (with_rest head rest) secret registry) →
    CollectsBehind head (Ok collection) old
collects_body head secret registry line old more collection login is value =
    ap (λ (l : Option (List ℕ × List ℕ) × Lines). lines_in head.canvas l.1
    >>= (λ r. Some (collection_from (with_rest head old) l.0 r))) login
    ∙ ap (λ (o : Option Registry). o
    >>= (λ r. Some (collection_from (with_rest head old) secret r))) is
    ∙ ap Some (sym (value old))
