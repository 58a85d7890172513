use Rattle.std.proofs.Common.{◌≡◌, ◌∙◌, is_some, subst, sym, true}
use Rattle.mix_model.specs.Lookups.{row_of}
use Rattle.mix_model.specs.Marks.{GraphModel}
use Rattle.mix_req_items.proofs.ChangeLemmas.{flag_changed, stands_already}
use Rattle.mix_req_items.proofs.FoundLemmas.{holder_short, holder_there}
use Rattle.mix_req_items.proofs.flags.set_found.Goals as goal

-- it stands so already
pub returns-then-stands-clause-does : goal.returns-then-stands-clause-does
returns-then-stands-clause-does c = stands_already c.args.flag c.args.studio.now c.args.notes.now
    c.args.found.now c.args.value c.args.events.now c.requires.empty
    (sym c.stands.ensures.value ∙ c.if-stands.true)

-- the scene or group is a row, and its serial is short
pub tell_flag-requires-clause-there : goal.tell_flag-requires-clause-there
tell_flag-requires-clause-there c =
    subst (λ (g : GraphModel). is_some (row_of g.present c.args.found.now.holder) ≡ true)
    (sym c.graph.ensures.value) (holder_there c.args.studio.now.present.graph
    c.requires.ready.shape.sources c.args.found.now c.requires.found)

pub tell_flag-requires-clause-short : goal.tell_flag-requires-clause-short
tell_flag-requires-clause-short c = holder_short c.args.studio.now.present.graph
    c.requires.ready.shape.sources c.args.found.now c.requires.found c.requires.ready.serial

-- it is told and changed
pub returns-clause-does : goal.returns-clause-does
returns-clause-does c = flag_changed c.args.flag c.args.studio.now c.change_item.new.studio
    c.args.notes.now c.args.found.now c.args.value c.graph.result.now c.args.events.now
    c.tell_flag.new.events c.graph.ensures.value c.requires.empty
    (sym c.stands.ensures.value ∙ c.if-stands.false) c.in_ok-tell_flag.ensures.told
    (rw c.flag_change.ensures.value at c.change_item.ensures.present) c.change_item.ensures.begun
