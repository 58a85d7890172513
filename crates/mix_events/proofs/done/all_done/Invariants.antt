use Rattle.std.proofs.Common.{◌≡◌, drop, map}
use Rattle.mix_json.specs.Growing.{more_items}
use Rattle.mix_events.specs.Texts.{done_json}
use Rattle.mix_events.proofs.done.all_done.Given as goal

-- with what was done about the rest of the requests, the text has all of them
abbrev pub invariant-loop-item : goal.invariant-loop-item
invariant-loop-item l = more_items (map done_json (drop l.item-index l.results)) l.out ≡ more_items (map done_json l.results) l.fn.out
