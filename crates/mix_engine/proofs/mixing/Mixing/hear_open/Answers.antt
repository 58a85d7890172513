use Rattle.std.proofs.Common.{◌∙◌, sym}
use Rattle.mix_audience.specs.Listeners.{listener_at}
use Rattle.mix_engine.proofs.HeardLemmas.{heard_steps, plain_heard}
use Rattle.mix_engine.proofs.mixing.Mixing.hear_open.Goals as goal

-- it can be said again
pub do_heard-requires-clause-plain : goal.do_heard-requires-clause-plain
do_heard-requires-clause-plain c = plain_heard c.self.inside.audience.secret c.args.message.now
    (listener_at c.args.conn c.self.inside.audience.listeners) c.in-Some.heard
    (sym c.in-Some.is ∙ c.in_ok-hear.ensures.value)

-- and is done
pub returns : goal.returns
returns c = record {
  steps = heard_steps c.self.invariant c.self.view_is c.args.conn c.args.message.now
      c.in-Some.heard c.do_heard.result c.do_heard.new.self c.requires.open
      (sym c.in-Some.is ∙ c.in_ok-hear.ensures.value) c.do_heard.ensures.steps;
}
