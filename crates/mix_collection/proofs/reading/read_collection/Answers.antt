use Rattle.mix_collection.proofs.Bounds.{reads_all}
use Rattle.mix_collection.proofs.reading.read_collection.Goals as goal

-- all bytes were read, within the room that there is
pub returns-clause-value : goal.returns-clause-value
returns-clause-value g c = λ tells. reads_all c.in_ok-feed.feed _ c.read_lines-read.result
    c.in_ok-feed.ensures.ahead c.in_ok-feed.ensures.room
    (c.read_lines-read.ensures.collection tells)
