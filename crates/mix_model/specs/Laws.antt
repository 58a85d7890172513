-- What the definitions promise of one another.
use Rattle.std.specs.Prelude.{◌≡◌, ◌<◌, ◌↔◌, ℕ, suc, IsTrue, not, List, ◌∷◌, false, flat_map, ◌++◌}
use Rattle.std.specs.Prelude.{nat_lt, length, Option, ◌||◌, ◌&&◌, ◌==◌}
use Rattle.std.specs.List.{list_all, list_any}
use Rattle.mix_model.specs.declared.item.ItemSpec.{ItemSpec}
use Rattle.mix_model.specs.Sets.{has, agree, rises_above}
use Rattle.mix_model.specs.Rows.{is_at, serials_of}
use Rattle.mix_model.specs.State.{GraphState}
use Rattle.mix_model.specs.Holders.{holders, is_held, hold_place, frame_place}
use Rattle.mix_model.specs.Walks.{is_active, is_showing, Active, Showing}
use Rattle.mix_model.specs.Ranks.{rank_by, weight_by, ranks_fall, ranks_within}
use Rattle.mix_model.specs.Settle.{settle}
use Rattle.mix_model.specs.Marks.{settled_by, marks_of}
use Rattle.mix_model.specs.Edits.{source_removed, item_added}
use Rattle.mix_model.specs.Shape.{GraphShape, inputs_are_bare}

-- where ranks fall, what the test calls active is what walks from the channels reach
abbrev pub ActiveIsWalked : Type 0
ActiveIsWalked = (g : GraphState) → IsTrue (ranks_fall g) → (x : ℕ) →
    IsTrue (is_active g x) ↔ Active g x

-- and what the test calls showing is what walks from the channels and the preview reach
abbrev pub ShowingIsWalked : Type 0
ShowingIsWalked = (g : GraphState) → IsTrue (ranks_fall g) → (x : ℕ) →
    IsTrue (is_showing g x) ↔ Showing g x

-- a rank that is below the number of rounds stays with more of them
abbrev pub RanksStand : Type 0
RanksStand = (inner : ℕ → Option (List ℕ)) (n x : ℕ) → rank_by inner n x < n →
    rank_by inner (suc n) x ≡ rank_by inner n x

-- and so does the weight
abbrev pub WeightsStand : Type 0
WeightsStand = (inner : ℕ → Option (List ℕ)) (n x : ℕ) → rank_by inner n x < n →
    weight_by inner (suc n) x ≡ weight_by inner n x

-- where serials rise and inputs have no items, ranks of at most sixteen fall along every item
abbrev pub ShallowFalls : Type 0
ShallowFalls = (g : GraphState) → IsTrue (rises_above 0 (serials_of g.rows)) →
    IsTrue (inputs_are_bare g) → IsTrue (ranks_within 16 g) →
    IsTrue (ranks_fall g)

-- the settling changes nobody's holders, and neither activity nor showing
abbrev pub SettlingKeepsHolders : Type 0
SettlingKeepsHolders = (old new : GraphState) (x : ℕ) → holders (settle old new) x ≡ holders new x

abbrev pub SettlingKeepsActivity : Type 0
SettlingKeepsActivity = (old new : GraphState) (x : ℕ) →
    is_active (settle old new) x ≡ is_active new x

abbrev pub SettlingKeepsShowing : Type 0
SettlingKeepsShowing = (old new : GraphState) (x : ℕ) →
    is_showing (settle old new) x ≡ is_showing new x

-- where nothing that dies is held, the settling leaves exactly the rows without a holder dying
abbrev pub SettlingIsExact : Type 0
SettlingIsExact = (old new : GraphState) →
    IsTrue (list_all (λ x. not (is_held new x)) new.dying) →
    IsTrue (list_all (λ r. agree (has r.serial (settle old new).dying)
    (not (is_held (settle old new) r.serial))) (settle old new).rows)

-- marks tell as much as the state that they are of
abbrev pub MarksSuffice : Type 0
MarksSuffice = (old new : GraphState) → settled_by (marks_of old) new ≡ settle old new

-- what is destroyed next is held by nothing
abbrev pub DestroyedUnheld : Type 0
DestroyedUnheld = (g : GraphState) → GraphShape g → (x : ℕ) (rest : List ℕ) →
    g.dying ≡ x ∷ rest → is_held g x ≡ false

-- a removed source is held by holds and by frames in flight alone
abbrev pub RemovedHeld : Type 0
RemovedHeld = (g : GraphState) (x : ℕ) → holders (source_removed x g) x
    ≡ flat_map (hold_place x) g.holds ++ flat_map (frame_place x) g.frames

-- a row is held exactly where some place is in the list of its holders
abbrev pub HeldIsPlaced : Type 0
HeldIsPlaced = (g : GraphState) (x : ℕ) → is_held g x ≡ nat_lt 0 (length (holders g x))

-- a new item holds its child, and changes nobody else's holders
abbrev pub AddedHeld : Type 0
AddedHeld = (g : GraphState) (parent child : ℕ) (spec : ItemSpec) (x : ℕ) →
    is_held (item_added parent child spec g) x
    ≡ (is_held g x || (list_any (is_at parent) g.rows && (child == x)))
