use Rattle.mix_req_scenes.proofs.LineLemmas.{scenes_are_proper}
use Rattle.mix_req_scenes.proofs.laws.scene_requests_are_proper.Goals as goal

-- each line of the table is proper
pub returns : goal.returns
returns c = record { proper = scenes_are_proper }
