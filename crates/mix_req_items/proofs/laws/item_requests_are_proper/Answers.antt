use Rattle.mix_req_items.proofs.LineLemmas.{items_are_proper}
use Rattle.mix_req_items.proofs.laws.item_requests_are_proper.Goals as goal

pub returns : goal.returns
returns c = record { proper = items_are_proper }
