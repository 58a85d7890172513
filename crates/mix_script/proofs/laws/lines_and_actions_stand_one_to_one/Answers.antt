-- by the kinds of lines
use Rattle.mix_script.proofs.FeedLemmas.{lines_hold_no_line_feed}
use Rattle.mix_script.proofs.LineLemmas.{lines_read_back, lines_stand}
use Rattle.mix_script.proofs.laws.lines_and_actions_stand_one_to_one.Goals as goal

pub returns : goal.returns
returns c = record {
  actions = lines_read_back;
  lines = λ line action h. (lines_stand line action h).0;
  range = λ line action h. (lines_stand line action h).1;
  whole = lines_hold_no_line_feed;
}
