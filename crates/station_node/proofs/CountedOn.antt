-- A process that was cut off counts on from what it began with.
use Rattle.std.proofs.Common.{◌≡◌, ℕ, Option, subst, inr}
use Rattle.node_kinds.specs.declared.keeping.Keeping.{Keeping}
use Rattle.node_kinds.specs.node_drive.Calls.{Told}
use Rattle.node_kinds.specs.simulator_spec.Nodes.{Node}
use Rattle.node_kinds.specs.simulator_spec.layout.Entries.{Site}
use Rattle.node_kinds.specs.simulator_spec.ixl_spec.closings.declared.auxiliary.AuxiliaryCounts.{AuxiliaryCounts}
use Rattle.station_node.specs.Closings.{CountsOn}
use Rattle.station_node.specs.Processes.{ProcessCut}

pub cut_off : {copy site : Site} {node : Option Node} {keeping : Keeping} {counts : AuxiliaryCounts} {first for_ms : ℕ} {old new : Told} → copy ≡ site
    → ProcessCut copy node keeping counts first for_ms old new → CountsOn site counts
cut_off {copy} {site} {node} {keeping} {counts} {first} {for_ms} {old} {new} is process =
    (node, keeping, first, for_ms, old, new, inr (subst (λ (s : Site). ProcessCut s node keeping counts first for_ms old new) is process))
