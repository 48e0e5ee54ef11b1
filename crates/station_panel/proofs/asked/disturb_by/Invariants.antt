use Rattle.std.proofs.Common.{◌≡◌, drop}
use Rattle.station_panel.specs.Asked.{faults_after}
use Rattle.station_panel.proofs.asked.disturb_by.Given as goal

-- what is left leads to where all lead
abbrev pub invariant-loop-command : goal.invariant-loop-command
invariant-loop-command l = faults_after (drop l.command-index l.commands) l.faults ≡ faults_after l.commands l.initial.faults
