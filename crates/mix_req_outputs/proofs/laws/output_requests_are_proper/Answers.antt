use Rattle.mix_req_outputs.proofs.LineLemmas.{outputs_are_proper}
use Rattle.mix_req_outputs.proofs.laws.output_requests_are_proper.Goals as goal

-- each line of the table is proper
pub returns : goal.returns
returns c = record { proper = outputs_are_proper }
