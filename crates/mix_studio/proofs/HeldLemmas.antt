-- What is held while channel 0 is set, or a frame is taken.
use Rattle.std.proofs.Common.{◌≡◌, ◌∙◌, ℕ, ◌==◌, Bool, true, false, ◌||◌}
use Rattle.std.proofs.Common.{List, [], ◌∷◌, ◌++◌, take, refl}
use Rattle.std.specs.Prelude.{slice_set}
use Rattle.std.specs.List.{list_all, list_any}
use Rattle.std.proofs.lemmas.List.Folds.{list_any-append}
use Rattle.mix_model.specs.Edits.{channel_set, clock_set, frame_held}
use Rattle.mix_model.specs.Holders.{is_held, is_on, lists, names, shows_some}
use Rattle.mix_model.specs.Lookups.{named_by, registry}
use Rattle.mix_model.specs.Sets.{has}
use Rattle.mix_model.specs.Settle.{newly_dying}
use Rattle.mix_model.specs.Shape.{GraphShape, is_program_channel}
use Rattle.mix_model.specs.State.{Channel, Frame, GraphState}
use Rattle.mix_model.specs.Walks.{active_rows, is_active}
use Rattle.mix_model.proofs.DyingLemmas.{member_passes}
use Rattle.mix_model.proofs.SetLemmas.{and_first, or_left}
use Rattle.mix_studio.proofs.TwiceLemmas.{none_die}

-- ---- channel 0

-- what channel 0 names is in the registry
named_scene : (g : GraphState) (x : ℕ) (c : Channel) → is_program_channel g c ≡ true →
    has x (named_by c) ≡ true → has x (registry g) ≡ true
named_scene g x c fits here = list_any-append (λ y. y == x) g.scenes g.inputs
    ∙ or_left _ _ (member_passes (λ y. has y g.scenes) x (named_by c) here
    (and_first _ _ (and_first _ _ fits)))

-- so it may be named there no longer
held_still : (r n k m l : Bool) → (n ≡ true → r ≡ true) →
    (r || ((n || k) || l)) ≡ true → (r || ((m || k) || l)) ≡ true
held_still true n k m l named held = refl
held_still false true k m l named held = let no : false ≡ true = named refl in cc
held_still false false true true l named held = refl
held_still false false true false l named held = refl
held_still false false false true l named held = refl
held_still false false false false l named held = held

set_holds : (g : GraphState) (c : Channel) (x : ℕ) (cs : List Channel) (l : Bool) →
    list_all (is_program_channel g) (take 1 cs) ≡ true →
    (has x (registry g) || (list_any (names x) cs || l)) ≡ true →
    (has x (registry g) || (list_any (names x) (slice_set cs 0 c) || l)) ≡ true
set_holds g c x [] l fits held = held
set_holds g c x (d ∷ cs) l fits held =
    held_still (has x (registry g)) (names x d) (list_any (names x) cs) (names x c) l
    (named_scene g x d (and_first _ _ fits)) held

pub channel_holds : (g : GraphState) → GraphShape g → (c : Channel) (x : ℕ) →
    is_held g x ≡ true → is_held (channel_set 0 c g) x ≡ true
unfolding is_held channel_set
channel_holds g shape c x held = set_holds g c x g.channels
    (list_any (shows_some x) g.rows || (list_any (is_on x) g.holds || list_any (lists x) g.frames))
    shape.parts.beside.channels.program_channel held

channel_rows : (g : GraphState) (c : Channel) → (channel_set 0 c g).rows ≡ g.rows
unfolding channel_set
channel_rows g c = refl

channel_dying : (g : GraphState) (c : Channel) → (channel_set 0 c g).dying ≡ g.dying
unfolding channel_set
channel_dying g c = refl

pub channel_kills_none : (g : GraphState) → GraphShape g → (c : Channel) →
    newly_dying (channel_set 0 c g) ≡ []
channel_kills_none g shape c = none_die g (channel_set 0 c g) shape (channel_rows g c)
    (channel_dying g c) (channel_holds g shape c)

-- ---- a frame more

held_more : (a b c d e f : Bool) → (e ≡ true → f ≡ true) →
    (a || (b || (c || (d || e)))) ≡ true → (a || (b || (c || (d || f)))) ≡ true
held_more true b c d e f more held = refl
held_more false true c d e f more held = refl
held_more false false true d e f more held = refl
held_more false false false true e f more held = refl
held_more false false false false e f more held = more held

frame_holds : (n : ℕ) (g : GraphState) (x : ℕ) → is_held g x ≡ true →
    is_held (frame_held n g) x ≡ true
unfolding frame_held is_held
frame_holds n g x held =
    let new : Frame = record { number = n; serials = active_rows g } in
    held_more (has x (registry g)) (list_any (names x) g.channels)
    (list_any (shows_some x) g.rows) (list_any (is_on x) g.holds) (list_any (lists x) g.frames)
    (list_any (lists x) (g.frames ++ new ∷ []))
    (λ listed. list_any-append (lists x) g.frames (new ∷ [])
    ∙ or_left (list_any (lists x) g.frames) (list_any (lists x) (new ∷ [])) listed) held

clock_holds : (clock : ℕ) (g : GraphState) (x : ℕ) → is_held (clock_set clock g) x ≡ is_held g x
unfolding clock_set is_held
clock_holds clock g x = refl

frame_rows : (n : ℕ) (g : GraphState) → (frame_held n g).rows ≡ g.rows
unfolding frame_held
frame_rows n g = refl

frame_dying : (n : ℕ) (g : GraphState) → (frame_held n g).dying ≡ g.dying
unfolding frame_held
frame_dying n g = refl

clock_rows : (clock : ℕ) (g : GraphState) → (clock_set clock g).rows ≡ g.rows
unfolding clock_set
clock_rows clock g = refl

clock_dying : (clock : ℕ) (g : GraphState) → (clock_set clock g).dying ≡ g.dying
unfolding clock_set
clock_dying clock g = refl

pub frame_kills_none : (n : ℕ) (g : GraphState) → GraphShape g → newly_dying (frame_held n g) ≡ []
frame_kills_none n g shape = none_die g (frame_held n g) shape (frame_rows n g) (frame_dying n g)
    (frame_holds n g)

pub clock_kills_none : (n clock : ℕ) (g : GraphState) → GraphShape g →
    newly_dying (clock_set clock (frame_held n g)) ≡ []
clock_kills_none n clock g shape = none_die g (clock_set clock (frame_held n g)) shape
    (clock_rows clock (frame_held n g) ∙ frame_rows n g)
    (clock_dying clock (frame_held n g) ∙ frame_dying n g)
    (λ x held. clock_holds clock (frame_held n g) x ∙ frame_holds n g x held)

pub frame_active : (n : ℕ) (g : GraphState) (x : ℕ) →
    is_active (frame_held n g) x ≡ is_active g x
unfolding frame_held is_active
frame_active n g x = refl
