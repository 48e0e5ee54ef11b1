use Rattle.std.proofs.Common.{[]}
use Rattle.simulator_node_laws.proofs.Said.{all_is_said, all_that_left, all_times, is_said}
use Rattle.simulator_node_laws.proofs.laws.what_is_sent_is_what_nodes_say.Goals as goal

pub returns : goal.returns
returns c = record { steps = is_said; all = all_is_said; times = all_times; bytes = λ site table outset events. all_that_left site table outset [] events }
