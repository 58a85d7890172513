use Rattle.std.proofs.Common.{ap, sym, option_map}
use Rattle.mix_audience.specs.Listeners.{Listener, listener_at}
use Rattle.mix_audience.proofs.Kept.{as_seen, none_open, cut_found}
use Rattle.mix_audience.proofs.audience.Audience.is_cut.Goals as goal

-- the connection isn't open
pub returns-in-None : goal.returns-in-None
returns-in-None c = record {
  value = sym (ap (option_map (λ (l : Listener). l.cut)) (none_open c.args.self.now.secret
      (listener_at c.args.conn c.args.self.now.listeners) c.in-None.ensures.value));
}

-- it is open
pub returns-in-Some : goal.returns-in-Some
returns-in-Some c = record {
  value = cut_found c.args.conn (as_seen _ c.self.invariant c.self.view_is) c.in-Some.field-0.now
      c.is_cut.result c.in-Some.ensures.value c.is_cut.ensures.value;
}
