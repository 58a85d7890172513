use Rattle.std.proofs.Common.{◌∙◌, Some, ap, refl, sym}
use Rattle.mix_engine.proofs.Stepping.{away_cut, away_gone, away_none}
use Rattle.mix_engine.proofs.mixing.Mixing.turn_away.Goals as goal

-- it isn't open
pub returns-in-None : goal.returns-in-None
returns-in-None c = record {
  steps = away_gone c.self.invariant c.self.view_is c.args.conn c.in-None.ensures.value
      c.rest.ensures.steps;
}

-- it is open, and isn't cut
pub returns-in-Some-false : goal.returns-in-Some-false
returns-in-Some-false c = record {
  steps = (
    refl,
    away_none c.self.invariant c.self.view_is c.args.conn
        (ap Some (sym c.in-Some-false.field-0-test) ∙ c.in-Some-false.ensures.value),
  );
}

-- it is cut, and closed
pub returns-in_ok-close-in-Some-true : goal.returns-in_ok-close-in-Some-true
returns-in_ok-close-in-Some-true c = record {
  steps = away_cut c.self.invariant c.self.view_is c.args.conn
      (ap Some (sym c.in-Some-true.field-0-test) ∙ c.in-Some-true.ensures.value)
      c.in_ok-close-in-Some-true.ensures.steps;
}
