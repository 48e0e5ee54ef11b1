use Rattle.node_safety.proofs.IxlDeparts.{station_left}
use Rattle.node_safety.proofs.interlocking_programs.what_an_interlocking_program_sends_has_left.Goals as goal

pub returns : goal.returns
returns c = station_left c.what_leaves_is_fresh.ensures c.calls_are_inputs.ensures.state
