use Rattle.std.proofs.Common.{sym}
use Rattle.mix_req_scenes.proofs.PreviewLemmas.{preview_short, unusable_unnamed, usable_named}
use Rattle.mix_req_scenes.proofs.listing.usable_preview.Goals as goal

-- a preview that is named can be used
pub returns-then-named-clause-value : goal.returns-then-named-clause-value
returns-then-named-clause-value c = usable_named c.args.graph.now.present
    c.has_shape.ensures.shape c.in_ok-scene.scene c.in_ok-scene.ensures.reply
    (sym c.if-named.ensures.reply)

pub returns-then-named-clause-short : goal.returns-then-named-clause-short
returns-then-named-clause-short c = preview_short c.args.graph.now.present
    c.has_shape.ensures.shape c.in_ok-scene.scene c.in_ok-scene.ensures.reply c.requires.serial

-- and no other
pub returns-else-named-clause-value : goal.returns-else-named-clause-value
returns-else-named-clause-value c = unusable_unnamed c.args.graph.now.present
    c.has_shape.ensures.shape c.in_ok-scene.scene c.in_ok-scene.ensures.reply
    (sym c.if-named.ensures.reply)
