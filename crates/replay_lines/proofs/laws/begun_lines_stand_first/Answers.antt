use Rattle.std.proofs.Common.{[]}
use Rattle.std.specs.List.{enumerate_from}
use Rattle.replay_words.specs.Cut.{lines as lines_of}
use Rattle.replay_lines.proofs.Placed.{all_stand}
use Rattle.replay_lines.proofs.laws.begun_lines_stand_first.Goals as goal

pub returns : goal.returns
returns c = λ site text lines says. all_stand site (enumerate_from 1 (lines_of text)) [] lines says
