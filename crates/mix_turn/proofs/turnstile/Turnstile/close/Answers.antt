-- The last pass finds the value, and all that it knows holds of it.
use Rattle.std.proofs.Common.{ap, ◌∙◌}
use Rattle.mix_turn.proofs.StepLemmas.{closes}
use Rattle.mix_turn.proofs.PassLemmas.{is_there, some_is_there, Finds, finds}
use Rattle.mix_turn.proofs.turnstile.Turnstile.close.Goals as goal

pub unwrap-requires : goal.unwrap-requires
unwrap-requires g c = let t = g.V.Turned in let p = c.pass in
    let k = closes t.journal t.misses t.start t.full _ _ p.inside.seat.me.0 _ _ p.inside.live p.invariant.idle p.invariant.spent (ap (λ z. z.parts) p.view_is ∙ c.requires.all) c.close_with-closed.ensures.values.2 in
    some_is_there c.take-value.result k.value (is_there _ c.take-value.result k.value c.take-value.ensures.value k.there)

-- what the value is to the last pass
value_found : (g : _) (c : goal.After-unwrap g) → Finds g.V.Turned.journal g.V.Turned.misses g.V.Turned.start g.V.Turned.full c.args.pass c.unwrap.result
value_found g c = let t = g.V.Turned in let p = c.pass in
    let k = closes t.journal t.misses t.start t.full _ _ p.inside.seat.me.0 _ _ p.inside.live p.invariant.idle p.invariant.spent (ap (λ z. z.parts) p.view_is ∙ c.requires.all) c.close_with-closed.ensures.values.2 in
    finds t.journal t.misses t.start t.full _ _ _ p.inside.live c.args.pass _ c.take-value.result c.unwrap.result p.view_is k c.take-value.ensures.value c.unwrap.ensures

pub returns-clause-start : goal.returns-clause-start
returns-clause-start g c = (value_found g c).start ∙ c.requires.of.start

pub returns-clause-seen : goal.returns-clause-seen
returns-clause-seen g c = (value_found g c).seen

pub returns-clause-entries : goal.returns-clause-entries
returns-clause-entries g c = (value_found g c).entries

pub returns-clause-every : goal.returns-clause-every
returns-clause-every g c = (value_found g c).every

pub returns-clause-full : goal.returns-clause-full
returns-clause-full g c = (value_found g c).full
