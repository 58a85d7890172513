-- The preview can be used exactly where its row is a named one.
use Rattle.std.proofs.Common.{◌≡◌, ◌∙◌, ℕ, ◌<◌, ◌^◌, ◌&&◌, Bool, true, false, cond, refl, sym, ap}
use Rattle.std.proofs.Common.{subst, Option, Some, None, option_and_then}
use Rattle.std.proofs.lemmas.Bool.{ltb-true}
use Rattle.mix_model.specs.Holders.{is_held, is_named}
use Rattle.mix_model.specs.Lookups.{is_row}
use Rattle.mix_model.specs.Sets.{has}
use Rattle.mix_model.specs.Shape.{GraphShape, is_preview}
use Rattle.mix_model.specs.State.{GraphState}
use Rattle.mix_model.specs.Walks.{if_scene, preview_row, upgrade, usable_preview}
use Rattle.mix_model.proofs.SetLemmas.{and_first, and_second}
use Rattle.mix_shape.proofs.HoldShape.{scene_listed}
use Rattle.mix_shape.proofs.MarkedLemmas.{scene_named}
use Rattle.mix_requests.proofs.ProperLemmas.{short_below}

-- a preview that yields a row refers to it
yields_own : (g : GraphState) (o : Option ℕ) (x : ℕ) → option_and_then (upgrade g) o ≡ Some x →
    o ≡ Some x
unfolding upgrade
yields_own g None x yields = cc
yields_own g (Some y) x yields = own (is_row g y && is_held g y) yields
  where
    own : (b : Bool) → cond b (Some y) None ≡ Some x → Some y ≡ Some x
    own true is = is
    own false is = cc

module _ (g : GraphState) (shape : GraphShape g) (x : ℕ) (yields : Some x ≡ preview_row g) where
  is_given : is_preview g (Some x) ≡ true
  is_given = subst (λ o. is_preview g o ≡ true) (yields_own g g.preview x (sym yields))
      shape.parts.beside.preview_scene

  in_use : (b : Bool) → has x g.scenes ≡ b → cond b (Some x) None ≡ usable_preview g
  in_use b is = sym (ap (option_and_then (if_scene g)) (sym yields)
      ∙ ap (λ c. cond c (Some x) None) is)

  -- it can be used where it is named, since it is a scene
  pub usable_named : is_named g x ≡ true → Some x ≡ usable_preview g
  usable_named named = in_use true (scene_listed g shape x named (and_second _ _ is_given))

  -- and only there
  pub unusable_unnamed : is_named g x ≡ false → None ≡ usable_preview g
  unusable_unnamed unnamed = by_scene (has x g.scenes) refl
    where
      by_scene : (b : Bool) → has x g.scenes ≡ b → None ≡ usable_preview g
      by_scene true here =
          let never : true ≡ false = sym (scene_named g shape x here) ∙ unnamed in cc
      by_scene false none = in_use false none

  -- its serial is short
  pub preview_short : g.next_serial < 4294967295 → x < 2 ^ 48
  preview_short few = short_below g.next_serial x few
      (ltb-true x g.next_serial (and_first _ _ is_given))
