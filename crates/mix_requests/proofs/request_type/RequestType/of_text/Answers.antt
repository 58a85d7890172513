-- the table of the code is the table
use Rattle.mix_requests.specs.Table.{type_of}
use Rattle.mix_requests.proofs.request_type.RequestType.of_text.Goals as goal

pub returns : goal.returns
unfolding type_of
returns c = record { value = c.request_among.ensures }
