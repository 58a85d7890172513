use Rattle.std.proofs.Common.{◌∙◌, ℕ, Option}
use Rattle.mix_studio.proofs.FreshLemmas.{serials_left}
use Rattle.mix_studio.proofs.LineLemmas.{input_as_call, input_fits, input_left, told_as}
use Rattle.mix_studio.proofs.lines.add_input.Goals as goal

-- its settings are of its kind
pub create_input-requires-clause-input : goal.create_input-requires-clause-input
create_input-requires-clause-input c =
    input_fits c.args.kind c.args.name c.args.settings c.requires.fits

pub create_input-requires-clause-drawn : goal.create_input-requires-clause-drawn
create_input-requires-clause-drawn c =
    serials_left c.args.graph.now c.requires.fresh c.has_shape.ensures.shape

-- the input is made
pub returns-in-Ok-clause-refused : goal.returns-in-Ok-clause-refused
returns-in-Ok-clause-refused c = input_as_call c.args.graph.now c.requires.fresh c.args.kind
    c.args.name c.args.settings ∙ c.in-Ok.ensures.refused

pub returns-in-Ok-clause-left : goal.returns-in-Ok-clause-left
returns-in-Ok-clause-left c = input_left c.args.graph.now c.create_input.new.self c.args.kind
    c.args.name c.args.settings c.requires.fresh c.in-Ok.ensures.ok

-- or its cause refuses it
pub returns-in-Err-clause-refused : goal.returns-in-Err-clause-refused
returns-in-Err-clause-refused c = told_as (ℕ × Option ℕ) c.in-Err.fault
    (input_as_call c.args.graph.now c.requires.fresh c.args.kind c.args.name c.args.settings)
    c.in-Err.ensures.refused
