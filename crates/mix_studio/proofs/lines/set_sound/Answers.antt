use Rattle.std.proofs.Common.{◌∙◌, sym}
use Rattle.mix_model.specs.Rows.{is_tone}
use Rattle.mix_studio.proofs.FreshLemmas.{all_named}
use Rattle.mix_studio.proofs.LineLemmas.{not_found, of_kind, sound_cause, sound_fits}
use Rattle.mix_studio.proofs.LineLemmas.{sound_in_range, sound_left, there, wrong_kind}
use Rattle.mix_studio.proofs.lines.set_sound.Goals as goal

-- no source has the name, or it is another one's than a tone's
pub returns-then-not-named-clause-refused : goal.returns-then-not-named-clause-refused
returns-then-not-named-clause-refused c =
    sound_cause c.args.graph.now.present c.args.name.now c.args.sound
    ∙ not_found c.args.graph.now.present (all_named c.args.graph.now c.requires.fresh) is_tone
    c.args.name.now c.in-Ok.serial c.in-Ok.ensures.value (sym c.if-not-named.ensures.reply)

pub returns-then-not-is_tone_row-clause-refused : goal.returns-then-not-is_tone_row-clause-refused
returns-then-not-is_tone_row-clause-refused c =
    sound_cause c.args.graph.now.present c.args.name.now c.args.sound
    ∙ wrong_kind c.args.graph.now.present (all_named c.args.graph.now c.requires.fresh) is_tone
    c.args.name.now c.in-Ok.serial c.in-Ok.ensures.value (sym c.if-not-named.ensures.reply)
    (sym c.if-not-is_tone_row.ensures.value)

-- the tone is a row
pub settings_of-requires : goal.settings_of-requires
settings_of-requires c = record {
  there = there c.args.graph.now.present c.in-Ok.serial (sym c.if-not-named.ensures.reply);
}

-- which is an input, with settings of its kind
pub set_input-requires-clause-input : goal.set_input-requires-clause-input
set_input-requires-clause-input c = sound_fits c.args.graph.now c.requires.fresh
    c.has_shape.ensures.shape c.args.name.now c.args.sound c.in-Ok.serial
    c.in-Ok-settings_of.settings c.in-Ok.ensures.value (sym c.if-not-named.ensures.reply)
    (sym c.if-not-is_tone_row.ensures.value) c.in-Ok-settings_of.ensures.value

pub set_input-requires-clause-sound : goal.set_input-requires-clause-sound
set_input-requires-clause-sound c =
    sound_in_range c.args.name.now c.args.sound c.requires.fits

-- its sound is set
pub returns-clause-refused : goal.returns-clause-refused
returns-clause-refused c =
    sound_cause c.args.graph.now.present c.args.name.now c.args.sound
    ∙ of_kind c.args.graph.now.present (all_named c.args.graph.now c.requires.fresh) is_tone
    c.args.name.now c.in-Ok.serial c.in-Ok.ensures.value (sym c.if-not-named.ensures.reply)
    (sym c.if-not-is_tone_row.ensures.value)

pub returns-clause-left : goal.returns-clause-left
returns-clause-left c = sound_left c.args.graph.now c.requires.fresh c.has_shape.ensures.shape
    c.args.name.now c.args.sound c.in-Ok.serial c.in-Ok-settings_of.settings
    c.in-Ok.ensures.value (sym c.if-not-named.ensures.reply)
    (sym c.if-not-is_tone_row.ensures.value) c.in-Ok-settings_of.ensures.value
    c.set_input.new.self c.set_input.result c.set_input.ensures.ok c.set_input.ensures.missing
