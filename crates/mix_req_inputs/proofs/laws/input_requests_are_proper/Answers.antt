use Rattle.mix_requests.specs.declared.request_type.InputRequest.TheVariants.{CreateInput}
use Rattle.mix_req_inputs.specs.Laws.{InputsAreProper}
use Rattle.mix_req_inputs.proofs.InputLemmas.{create_input_proper}
use Rattle.mix_req_inputs.proofs.laws.input_requests_are_proper.Goals as goal

-- request by request; what isn't built has no line
proper : InputsAreProper
proper m notes caller body CreateInput ready = create_input_proper m notes ready caller body
proper m notes caller body request ready = tt

pub returns : goal.returns
returns c = record { proper = proper }
