use Rattle.std.proofs.Common.{◌∙◌, ℕ, Some, ap, eqb-true, sym}
use Rattle.std.specs.List.{slice_get}
use Rattle.mix_model.specs.Marks.{GraphModel}
use Rattle.mix_studio_calls.proofs.ListedLemmas.{listed}
use Rattle.mix_studio_calls.proofs.room.lists_at.Goals as goal

-- the scene stands at the index
pub returns-in-Some : goal.returns-in-Some
returns-in-Some c = λ same. listed c.args.studio.now.present.graph.scenes c.args.index
    c.args.scene (ap (λ (m : GraphModel). slice_get m.present.scenes c.args.index)
    (sym c.graph.ensures.value) ∙ sym c.scene_at.ensures.reply ∙ c.in-Some.is
    ∙ ap (λ (x : ℕ). Some x) (eqb-true _ _ (sym c.eq.ensures ∙ same)))
