-- An item that is changed in an action of its own.
use Rattle.std.proofs.Common.{◌≡◌, ◌∙◌, ◌++◌, ◌∷◌, [], ℕ, Bool, List, Result, true, false, refl}
use Rattle.std.proofs.Common.{IsErr, None, OnOk, Ok, sym, ap}
use Rattle.std.specs.Bool.{beq}
use Rattle.mix_model.specs.Edits.{item_enabled, item_locked, item_moved, item_placed, item_removed}
use Rattle.mix_model.specs.declared.event.Event.{Event}
use Rattle.mix_model.specs.declared.notes.Notes.{Notes}
use Rattle.mix_model.specs.Marks.{GraphModel, edited}
use Rattle.mix_model.specs.Sets.{agree}
use Rattle.mix_model.specs.State.{GraphState}
use Rattle.mix_shape.specs.Refused.{lacks_item}
use Rattle.mix_studio.specs.Studios.{StudioModel, graph_in}
use Rattle.mix_studio.proofs.ShapeLemmas.{IsBeside}
use Rattle.mix_studio.proofs.SceneLemmas.{left_where_ok}
use Rattle.mix_requests.specs.Named.{name_at}
use Rattle.mix_requests.specs.Outcomes.{DoesLast}
use Rattle.mix_requests.specs.Sources.{edited_alone}
use Rattle.mix_req_items.specs.declared.flags.Flag.{Flag}
use Rattle.mix_req_items.specs.Flags.{flag_change, flag_event, flag_of, flagged}
use Rattle.mix_req_items.specs.declared.changing.Change.{Change}
use Rattle.mix_req_items.specs.declared.changing.Change.TheVariants.{Enabled, Locked, Moved}
use Rattle.mix_req_items.specs.declared.changing.Change.TheVariants.{Placed, Removed}
use Rattle.mix_req_items.specs.declared.found.Found.{Found}
use Rattle.mix_req_items.specs.Changes.{changed_by}
use Rattle.mix_req_items.specs.Finding.{IsFound}
use Rattle.mix_req_items.proofs.FoundLemmas.{is_had}

-- it leaves channels, frames in flight and the clock as they are
pub change_beside : (change : Change) (holder id : ℕ) (g : GraphState) →
    IsBeside g (changed_by change holder id g)
unfolding item_enabled item_locked item_moved item_placed item_removed
change_beside (Enabled enabled) holder id g =
    record { channels = refl; frames = refl; clock = refl }
change_beside (Locked locked) holder id g = record { channels = refl; frames = refl; clock = refl }
change_beside (Moved index) holder id g = record { channels = refl; frames = refl; clock = refl }
change_beside (Placed place blend) holder id g =
    record { channels = refl; frames = refl; clock = refl }
change_beside Removed holder id g = record { channels = refl; frames = refl; clock = refl }

-- the sources that are lent have the item that was found
pub lent_has : (m : StudioModel) (g : GraphModel) → g ≡ graph_in m → (f : Found) →
    IsFound m.present.graph f → lacks_item g.present f.holder f.item.id ≡ true → false ≡ true
lent_has m g lent f is lacks = is_had m.present.graph f is
    (sym (ap (λ (k : GraphModel). lacks_item k.present f.holder f.item.id) lent) ∙ lacks)

-- so it is changed
pub change_done : {T E : Type 0} (m : StudioModel) (g h : GraphModel) → g ≡ graph_in m →
    (f : Found) → IsFound m.present.graph f → (change : Change) (r : Result T E) →
    OnOk r (h ≡ edited (changed_by change f.holder f.item.id) g) →
    (IsErr r → lacks_item g.present f.holder f.item.id ≡ true) →
    h ≡ edited (changed_by change f.holder f.item.id) g
change_done m g h lent f is change r ok missing =
    left_where_ok r _ ok (λ err. lent_has m g lent f is (missing err))

-- two truth values agree where they are one
pub one_agrees : (a b : Bool) → beq a b ≡ agree b a
one_agrees true true = refl
one_agrees true false = refl
one_agrees false true = refl
one_agrees false false = refl

-- what stands so already is left and told to nobody
pub stands_already : (which : Flag) (m : StudioModel) (n : Notes) (f : Found) (value : Bool)
    (told : List Event) → told ≡ [] → agree value (flag_of which f.item) ≡ true →
    DoesLast (Ok None) m m n n told (Ok (flagged which m.present n f value))
unfolding flagged
stands_already which m n f value told empty same = (rw (same, empty) refl, refl)

-- and what doesn't is told and changed
pub flag_changed : (which : Flag) (m new : StudioModel) (n : Notes) (f : Found) (value : Bool)
    (g : GraphModel) (before told : List Event) → g ≡ graph_in m → before ≡ [] →
    agree value (flag_of which f.item) ≡ false →
    told ≡ before ++ flag_event which value f.item.id (name_at g.present f.holder) f.holder ∷ [] →
    new.present ≡ edited_alone (changed_by (flag_change which value) f.holder f.item.id) m.present →
    new.begun ≡ m.begun → DoesLast (Ok None) m new n n told (Ok (flagged which m.present n f value))
unfolding flagged
flag_changed which m new n f value g before told lent empty other tells present begun =
    let telling : told
    ≡ flag_event which value f.item.id (name_at m.present.graph f.holder) f.holder ∷ [] =
    tells ∙ ap (λ (b : List Event). b
    ++ flag_event which value f.item.id (name_at g.present f.holder) f.holder ∷ []) empty
    ∙ ap (λ (k : GraphModel).
    flag_event which value f.item.id (name_at k.present f.holder) f.holder ∷ []) lent in
    (rw (other, telling, present) refl, begun)
