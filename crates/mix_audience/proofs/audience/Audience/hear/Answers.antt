use Rattle.std.proofs.Common.{ap, sym, option_map}
use Rattle.mix_session.specs.Hear.{hear}
use Rattle.mix_audience.specs.Listeners.{Listener, listener_at}
use Rattle.mix_audience.proofs.Kept.{none_open, heard_open}
use Rattle.mix_audience.proofs.audience.Audience.hear.Goals as goal

-- the connection isn't open
pub returns-in-None : goal.returns-in-None
returns-in-None c = record {
  value = sym (ap (option_map
      (λ (l : Listener). hear c.args.self.now.secret l.challenge l.mask c.args.message.now))
      (none_open c.args.self.now.secret (listener_at c.args.conn c.args.self.now.listeners)
      c.in-None.ensures.value));
}

-- it is open, and its session knows the secret
pub returns-in_ok-hear-in-Some : goal.returns-in_ok-hear-in-Some
returns-in_ok-hear-in-Some c = record {
  value = heard_open c.args.self.now.secret c.in-Some.member.now
      (listener_at c.args.conn c.args.self.now.listeners) c.args.message.now
      c.in_ok-hear-in-Some.field-0 c.in-Some.ensures.value c.in_ok-hear-in-Some.ensures.reply;
}
