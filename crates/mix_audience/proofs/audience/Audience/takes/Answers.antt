use Rattle.std.proofs.Common.{◌∙◌, ap, sym, cond, not, ◌&&◌, [], ◌∷◌}
use Rattle.std.specs.Option.{option_map_or}
use Rattle.mix_fanout.specs.Lanes.{wants}
use Rattle.mix_audience.specs.Listeners.{Listener, listener_at, taken_of}
use Rattle.mix_audience.proofs.Kept.{as_seen, none_open, takes_found}
use Rattle.mix_audience.proofs.audience.Audience.takes.Goals as goal

-- the connection isn't open
pub returns-in-None : goal.returns-in-None
returns-in-None c = record {
  value = ap (λ o. option_map_or (λ (l : Listener). taken_of l (c.args.event.now ∷ [])) o [])
      (none_open c.args.self.now.secret (listener_at c.args.conn c.args.self.now.listeners)
      c.in-None.ensures.value);
}

-- it isn't cut, so its mask decides
pub returns-then-not-is_cut : goal.returns-then-not-is_cut
returns-then-not-is_cut c = record {
  value = takes_found c.args.conn (as_seen _ c.self.invariant c.self.view_is) c.in-Some.member.now
      c.args.event.now c.is_cut.result c.wants-wanted.result c.in-Some.ensures.value
      c.is_cut.ensures.value
      (c.wants-wanted.ensures.value ∙ ap (λ m. wants m c.args.event.now) c.mask.ensures.value)
      ∙ ap (λ b. cond (not b && c.wants-wanted.result) (c.args.event.now ∷ []) [])
      c.if-not-is_cut.true;
}

-- it is cut
pub returns-else-not-is_cut : goal.returns-else-not-is_cut
returns-else-not-is_cut c = record {
  value = takes_found c.args.conn (as_seen _ c.self.invariant c.self.view_is) c.in-Some.member.now
      c.args.event.now c.is_cut.result c.wants-wanted.result c.in-Some.ensures.value
      c.is_cut.ensures.value
      (c.wants-wanted.ensures.value ∙ ap (λ m. wants m c.args.event.now) c.mask.ensures.value)
      ∙ ap (λ b. cond (not b && c.wants-wanted.result) (c.args.event.now ∷ []) [])
      c.if-not-is_cut.false
      ∙ sym (ap (λ b. cond (not b) (c.args.event.now ∷ []) []) c.if-not-is_cut.false);
}
