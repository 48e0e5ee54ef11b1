-- The node of an interlocking, as the engine sees it.
use Rattle.std.specs.Prelude.{[], None, string_bytes}
use Rattle.std.specs.Option.{option_map}
use Rattle.simulator_spec.specs.First.{Beginning, new_ixl}
use Rattle.simulator_spec.specs.layout.Entries.{Site}
use Rattle.simulator_spec.specs.ixl_spec.Step as ixl
use Rattle.simulator_spec.specs.ixl_spec.Table.{Table}
use Rattle.simulator_spec.specs.ixl_spec.closings.Auxiliaries.{none_counted}
use Rattle.node_drive.specs.Kinds.{AskedToKeep, NodeState}
use Rattle.run_numbers.specs.Numbers.{no_numbers}
use Rattle.node_kinds.specs.Interlockings.{InterlockingNode, commands, to_controllers}
use Rattle.node_kinds.specs.inside.InterlockingSteps.{texts}
use Rattle.node_kinds.specs.declared.closings_kept.Asked.{Asked}
use Rattle.node_kinds.specs.declared.interlocking_node.InterlockingNode.{InterlockingNode as Code}
use Rattle.node_kinds.specs.declared.keeping.Keeping.{Keeping}

-- what the code has as asked
abbrev pub asked_to_keep : Asked → AskedToKeep
asked_to_keep asked = record { all = asked.all; unless = option_map string_bytes asked.unless }

abbrev pub seen : Code → NodeState InterlockingNode ixl.Input
seen node = record {
  state = record { site = node.stepped.sited.site; table = node.stepped.sited.table; keeping = node.keeping; ixl = node.stepped.ixl; told = node.told.items; numbers = node.numbers; counts = node.counts };
  reached = node.stepped.reached;
  handed = to_controllers node.stepped.sited.site node.stepped.datagrams;
  keeps = option_map asked_to_keep node.asked;
  said = texts node.said;
  left = commands node.left.items;
}

-- one that was made with this clock and these first sequence numbers, and has told nothing yet
abbrev pub made : Site → Table → Keeping → Beginning → NodeState InterlockingNode ixl.Input
made site table keeping begins = record {
  state = record { site = site; table = table; keeping = keeping; ixl = new_ixl site table begins; told = []; numbers = no_numbers; counts = none_counted };
  reached = begins.clock;
  handed = [];
  keeps = None;
  said = [];
  left = [];
}
