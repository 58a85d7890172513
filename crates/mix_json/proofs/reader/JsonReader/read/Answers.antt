use Rattle.std.proofs.Common.{rules}
use Rattle.mix_json.proofs.ReadLemmas.{json_of_reads, json_of_none}
use Rattle.mix_json.proofs.reader.JsonReader.read.Goals as goal

-- the bytes are a text: its value is theirs
pub returns-in-Ok-clause-value : goal.returns-in-Ok-clause-value
returns-in-Ok-clause-value c = search (rules, json_of_reads)

-- they are none
pub returns-in-Err-clause-not_json : goal.returns-in-Err-clause-not_json
returns-in-Err-clause-not_json c refused = json_of_none c.args.bytes.now (search rules)
