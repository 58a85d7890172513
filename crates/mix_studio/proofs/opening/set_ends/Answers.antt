use Rattle.mix_model.specs.Edits.{preview_set}
use Rattle.mix_studio.specs.Openings.{IsLeft}
use Rattle.mix_studio.proofs.OpeningLemmas.{ends_left, marks_begun, present_begun, previewed}
use Rattle.mix_studio.proofs.OpeningLemmas.{scene_left, scene_may_be_set, set_on}
use Rattle.mix_studio.proofs.opening.set_ends.Goals as goal

-- the program's scene may stand on channel 0 beside the preview
pub set_channel-requires-clause-given : goal.set_channel-requires-clause-given
set_channel-requires-clause-given c = scene_may_be_set c.set_preview.new.self.present
    c.args.program (scene_left c.args.graph.now.present c.set_preview.new.self c.args.preview
    c.args.program (previewed c.args.graph.now c.set_preview.new.self c.set_preview.result
    c.args.preview c.requires.fresh c.requires.preview c.set_preview.ensures.ok
    c.set_preview.ensures.missing) c.requires.program)

-- and stands there
pub returns-clause-present : goal.returns-clause-present
returns-clause-present c =
    let left : IsLeft (preview_set c.args.preview c.args.graph.now.present)
    c.set_preview.new.self = previewed c.args.graph.now c.set_preview.new.self
    c.set_preview.result c.args.preview c.requires.fresh c.requires.preview
    c.set_preview.ensures.ok c.set_preview.ensures.missing in
    present_begun c.set_channel.new.self c.begin_changes.new.self _
    (ends_left (preview_set c.args.preview c.args.graph.now.present) c.set_preview.new.self
    c.set_channel.new.self c.args.program left
    (set_on c.set_preview.new.self c.set_channel.new.self c.set_channel.result c.args.program
    (scene_left c.args.graph.now.present c.set_preview.new.self c.args.preview c.args.program
    left c.requires.program) c.set_channel.ensures.ok c.set_channel.ensures.missing))
    c.begin_changes.ensures.state

pub returns-clause-begun : goal.returns-clause-begun
returns-clause-begun c = marks_begun c.set_channel.new.self c.begin_changes.new.self
    c.begin_changes.ensures.state
