-- The shape of each graph, from call to call.
use Rattle.std.proofs.Common.{◌≡◌, ℕ, ◌≤◌, List, [], refl, sym, ◌∙◌, subst, ap, arith}
use Rattle.mix_model.specs.State.{GraphState}
use Rattle.mix_model.specs.Marks.{Mark, marks_of, settled_by}
use Rattle.mix_model.specs.Edits.{empty_graph}
use Rattle.mix_model.specs.Shape.{GraphShape}
use Rattle.mix_model.specs.EditedShape.{EditedShape}
use Rattle.mix_model.proofs.Rules.{every_rule}
use Rattle.mix_model.proofs.MarkLemmas.{marks_suffice}
use Rattle.mix_model.proofs.SettledShape.{settled_shape}
use Rattle.mix_model.proofs.EditShape.{sinces_before}
use Rattle.mix_shape.specs.Begun.{BegunAs}

-- what an edit leaves has, once it is settled, the shape again
pub settled_keeps : (marks : List Mark) (new : GraphState) → BegunAs marks new.clock →
    EditedShape new → GraphShape (settled_by marks new)
settled_keeps marks new begun edited =
    let same : settled_by marks new ≡ settled_by (marks_of begun.old) new =
    ap (λ ms. settled_by ms new) begun.marks_are in
    subst GraphShape (sym (same ∙ marks_suffice begun.old new))
    (settled_shape begun.old new edited (sinces_before begun.old begun.shape new.clock begun.past))

-- marks of what stands now
pub begun_now : (marks : List Mark) (g : GraphState) → GraphShape g → marks ≡ marks_of g →
    BegunAs marks g.clock
begun_now marks g shape same = record {
  old = g;
  shape = shape;
  marks_are = same;
  past = omega arith;
}

-- a later clock
pub begun_later : (marks : List Mark) (clock later : ℕ) → BegunAs marks clock → clock ≤ later →
    BegunAs marks later
begun_later marks clock later begun rises = record {
  old = begun.old;
  shape = begun.shape;
  marks_are = begun.marks_are;
  past = omega (arith, begun.past, rises);
}

-- no source
pub empty_shape : GraphShape empty_graph
unfolding every_rule empty_graph
empty_shape = record {
  parts = record {
    rows = record {
      serials_rise = refl;
      serials_start = refl;
      serials_below = refl;
      item_ids = refl;
      children_rows = refl;
      inputs_bare = refl;
      settings_fit = refl;
      places_fit = refl;
    };
    registry = record { scenes_scenes = refl; inputs_inputs = refl; registry_once = refl };
    beside = record {
      holds = record { hold_ids = refl; holds_rows = refl; few_holds = refl };
      watches = record { watch_ids = refl; watched_before = refl; few_watches = refl };
      frames = record {
        frame_numbers = refl;
        frames_rows = refl;
        frames_once = refl;
        few_frames = refl;
      };
      channels = record { channel_count = refl; program_channel = refl; side_channels = refl };
      preview_scene = refl;
    };
    dying = record { dying_rows = refl; none_held = refl; dying_once = refl };
  };
  limits = record {
    few_rows = refl;
    few_items = refl;
    light = refl;
    shallow = refl;
    falling = refl;
  };
  names = refl;
  dying_unheld = refl;
  since_past = refl;
}

pub empty_begun : BegunAs [] 0
unfolding empty_graph
empty_begun = begun_now [] empty_graph empty_shape refl
