-- Signals and routes by their names.
use Rattle.std.specs.Prelude.{ℕ, List, Result}
use Rattle.std.specs.List.{position}
use Rattle.std.specs.Str.{bytes_eq}
use Rattle.control_table.specs.layout.Entries.{Site}
use Rattle.control_table.specs.layout.declared.ids.RouteId.{RouteId}
use Rattle.control_table.specs.layout.declared.ids.SignalId.{SignalId}
use Rattle.replay_words.specs.declared.fault.Fault.{Fault}
use Rattle.replay_lines.specs.Names.{found_at}

-- the signal of a name; fault 2 where no signal has it
abbrev pub signal_called : Site → List ℕ → Result SignalId Fault
signal_called l name = found_at (λ place. record { 0 = place }) (position (λ s. bytes_eq s.name name) l.signals)

-- the route of a name; fault 2 where no route has it
abbrev pub route_called : Site → List ℕ → Result RouteId Fault
route_called l name = found_at (λ place. record { 0 = place }) (position (λ r. bytes_eq r.name name) l.routes)
