-- Each step of a try is allowed, and a try that wins is a whole turn.
use Rattle.std.proofs.Common.{rules, ◌≡◌, is_some, ◌∷◌, sym, ap, subst, refl, ◌∙◌, Some}
use Rattle.atomic_table.specs.Table.{rest}
use Rattle.mix_turn.proofs.StepLemmas.{tries, advances}
use Rattle.mix_turn.proofs.TurnLemmas.{ready}
use Rattle.mix_turn.proofs.attempt.attempt.Goals as goal

pub compare_exchange-ticket-requires : goal.compare_exchange-ticket-requires
compare_exchange-ticket-requires g c = let t = g.V.Turned in let l = c.look_at_serving-serving.ensures.looked in (
  search rules,
  search rules,
  tries t.journal t.misses t.start t.full _ _ _ _ _ (ap (λ m. m.1) l ∙ c.requires.rests.empty) (ap (λ m. is_some m.0.start) l ∙ c.requires.live)
      (ap (λ m. m.0.turn) l ∙ c.requires.rests.idle) (ap (λ m. m.0.tally.serving) l) (search rules),
)

pub exchange-requires : goal.exchange-requires
exchange-requires g c = let w = c.compare_exchange-ticket.ensures.2.1 (search rules) in
    (search rules, (Some w.value, subst (λ l. l ≡ (0, Some w.value) ∷ rest l) (sym (ap (λ m. m.1) w.after)) refl))

pub fetch_add-requires : goal.fetch_add-requires
fetch_add-requires g c =
    let t = g.V.Turned in
    let turn = c.turn-reply.ensures in
    let done = ready t.journal t.misses t.start t.full t.answers c.args.seat.now.me c.look_at_serving-serving.new.seat.me c.compare_exchange-ticket.new.seat.me c.exchange.new.seat.me c.exchange-empty.new.seat.me
    c.look_at_serving-serving.result c.compare_exchange-ticket.result c.args.from c.args.entry c.turn-reply.result c.unwrap-value.result c.turn-reply.new.self c.exchange.result
    c.look_at_serving-serving.ensures.looked (search rules) (c.compare_exchange-ticket.ensures.2.1 (search rules)) c.exchange.ensures.2 c.unwrap-value.ensures c.exchange.ensures.3 c.exchange-empty.ensures.3
    c.requires.live c.requires.rests turn.reply turn.journal turn.misses turn.start turn.full in
    (search rules, search rules, advances t.journal t.misses t.start t.full _ _ _ c.exchange-empty.new.seat.me c.turn-reply.new.self done.held done.live done.turn done.goes_on)
