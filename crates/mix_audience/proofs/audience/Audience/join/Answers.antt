use Rattle.std.proofs.Common.{◌≡◌, ◌∙◌, ◌∷◌, ◌++◌, [], ap, is_some, option_map, rules}
use Rattle.mix_session.specs.SessionState.{secret_of}
use Rattle.mix_audience.specs.declared.member.Member.{Member}
use Rattle.mix_audience.proofs.Kept.{as_seen, joined_where_open, joined, started}
use Rattle.mix_audience.proofs.audience.Audience.join.Goals as goal

-- who isn't open hasn't joined
pub join-requires : goal.join-requires
join-requires c = record {
  is_new = joined_where_open c.args.conn (as_seen _ c.self.invariant c.self.view_is)
      ∙ ap is_some c.requires.is_new;
}

-- the session that starts stands beside the lane that joins
pub invariant_of-self-2 : goal.invariant_of-self-2
invariant_of-self-2 c =
    let m : Member = record { conn = c.args.conn; session = c.in_ok-session.session } in
    let knows : m.session.secret ≡ option_map secret_of c.self.inside.secret = search rules in
    (joined _ c.join.new.self c.self.invariant c.self.view_is c.in-Ok.ensures.limit c.args.conn
    c.args.challenge.now
    (c.push_reserved.ensures.items ∙ ap (λ l. l ++ m ∷ []) c.in_ok-reserve.ensures.items
    ∙ ap (λ x. c.self.inside.members.items ++ x ∷ []) (started _ c.args.conn c.args.challenge.now
    c.in_ok-session.session knows c.in_ok-session.ensures.challenge
    c.in_ok-session.ensures.mask)) c.in-Ok.ensures.lanes).kept

-- and is the connection that comes
pub returns-clause-listeners : goal.returns-clause-listeners
returns-clause-listeners c =
    let m : Member = record { conn = c.args.conn; session = c.in_ok-session.session } in
    let knows : m.session.secret ≡ option_map secret_of c.self.inside.secret = search rules in
    (joined _ c.join.new.self c.self.invariant c.self.view_is c.in-Ok.ensures.limit c.args.conn
    c.args.challenge.now
    (c.push_reserved.ensures.items ∙ ap (λ l. l ++ m ∷ []) c.in_ok-reserve.ensures.items
    ∙ ap (λ x. c.self.inside.members.items ++ x ∷ []) (started _ c.args.conn c.args.challenge.now
    c.in_ok-session.session knows c.in_ok-session.ensures.challenge
    c.in_ok-session.ensures.mask)) c.in-Ok.ensures.lanes).seen
