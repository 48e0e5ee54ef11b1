-- Which commands are auxiliary ones, and how they are counted.
use Rattle.std.specs.Prelude.{Option, Some, None}
use Rattle.closings.specs.Auxiliaries.{counted_by}
use Rattle.closings.specs.declared.auxiliary.Auxiliary.{Auxiliary}
use Rattle.closings.specs.declared.auxiliary.Auxiliary.TheVariants.{Release, Open}
use Rattle.closings.specs.declared.auxiliary.AuxiliaryCounts.{AuxiliaryCounts}
use Rattle.replay_lines.specs.ixl_spec.declared.command.Command.{Command}
use Rattle.replay_lines.specs.ixl_spec.declared.command.Command.TheVariants as command

abbrev pub auxiliary_of : Command → Option Auxiliary
auxiliary_of (command.Release route) = Some Release
auxiliary_of (command.Open named) = Some Open
auxiliary_of other = None

abbrev pub counted_if : Option Auxiliary → AuxiliaryCounts → AuxiliaryCounts
counted_if (Some of) counts = counted_by of counts
counted_if None counts = counts

-- a command was accepted
abbrev pub counted_after : Command → AuxiliaryCounts → AuxiliaryCounts
counted_after command counts = counted_if (auxiliary_of command) counts
