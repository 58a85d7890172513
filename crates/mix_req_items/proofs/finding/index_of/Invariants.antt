use Rattle.std.proofs.Common.{◌≡◌, drop}
use Rattle.mix_model.specs.Lookups.{items_of}
use Rattle.mix_req_items.specs.Finding.{place_of}
use Rattle.mix_req_items.proofs.ItemLemmas.{place_from}
use Rattle.mix_req_items.proofs.finding.index_of.Given as goal

-- the item is sought among those above
abbrev pub invariant-loop-index : goal.invariant-loop-index
invariant-loop-index l = place_from l.id l.index (drop l.index (items_of l.graph.present l.holder))
    ≡ place_of l.graph.present l.holder l.id
