-- Names as they are written in a cell.
use Rattle.std.proofs.Common.{◌≡◌, [], refl}
use Rattle.std.specs.Option.{unwrap_or}
use Rattle.control_table.specs.layout.declared.entries.Exit.{Exit}
use Rattle.control_table.specs.layout.declared.entries.Exit.TheVariants.{Border, Signal}
use Rattle.control_table.specs.layout.declared.ids.SignalId.{SignalId}
use Rattle.control_table.specs.layout.Entries.{Site}
use Rattle.station_layout.specs.LayoutNames as layout
use Rattle.station_layout.specs.Names.{border_name, exit_name, signal_name}

pub signal_written : (l : Site) (s : SignalId) → unwrap_or (layout.signal_name l s.0) [] ≡ signal_name l s
unfolding signal_name layout.signal_name
signal_written l s = refl

pub exit_written : (l : Site) (x : Exit) → unwrap_or (layout.exit_name l x) [] ≡ exit_name l x
unfolding border_name layout.exit_name
exit_written l (Signal s) = signal_written l s
exit_written l (Border b) = refl
