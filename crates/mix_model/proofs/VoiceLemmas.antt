-- What the program and the further channels reach is what is active.
use Rattle.std.proofs.Common.{◌≡◌, ℕ, Bool, true, false, ◌||◌, ◌&&◌, List, [], ◌∷◌, ◌++◌}
use Rattle.std.proofs.Common.{flat_map, take, drop, refl, sym, ap, ◌∙◌, IsTrue}
use Rattle.std.specs.List.{list_any}
use Rattle.mix_model.specs.declared.row.Row.{Row}
use Rattle.mix_model.specs.State.{StudioState, Channel, Shown, Rest, Fade}
use Rattle.mix_model.specs.Lookups.{is_row, named_by, channel_roots}
use Rattle.mix_model.specs.Walks.{is_active, walks_in}
use Rattle.mix_model.specs.Program.{channel_of}
use Rattle.mix_model.specs.WholeShape.{StudioShape}
use Rattle.mix_model.specs.Pictures.{side_roots}
use Rattle.mix_model.specs.Voices.{ends_of, is_reached_by}

-- channels that begin with one name what that one names, and what the others name
roots_split : (channels : List Channel) (first : Channel) → take 1 channels ≡ first ∷ [] →
    flat_map named_by channels ≡ named_by first ++ flat_map named_by (drop 1 channels)
roots_split [] first is = cc
roots_split (c ∷ channels) first is =
    let same : c ≡ first = cc in ap (λ d. named_by d ++ flat_map named_by channels) same

-- the rows that the program names reach x, or those of the further channels
reached_split : (rows : List Row) (shown : Shown) (side : List ℕ) (x : ℕ) →
    is_reached_by rows (ends_of shown) side x
    ≡ list_any (λ root. walks_in rows root x) (named_by (channel_of shown) ++ side)
reached_split rows (Rest a) side x = refl
reached_split rows (Fade a b t n) side x =
    grouped (walks_in rows a x) (walks_in rows b x) (list_any (λ root. walks_in rows root x) side)
  where
    grouped : (p q r : Bool) → (p || q || r) ≡ (p || (q || r))
    grouped true q r = refl
    grouped false q r = refl

pub heard_is_active : (s : StudioState) → StudioShape s → (x : ℕ) → IsTrue (is_row s.graph x) →
    is_reached_by s.graph.rows (ends_of s.program.shown) (side_roots s.graph) x
    ≡ is_active s.graph x
unfolding is_active
heard_is_active s shape x there =
    reached_split s.graph.rows s.program.shown (side_roots s.graph) x
    ∙ ap (list_any (λ root. walks_in s.graph.rows root x))
    (sym (roots_split s.graph.channels (channel_of s.program.shown) shape.program))
    ∙ ap (λ b. b && list_any (λ root. walks_in s.graph.rows root x) (channel_roots s.graph))
    (sym there)
