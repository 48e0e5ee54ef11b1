use Rattle.std.proofs.Common.{[], codes, string_bytes}
use Rattle.control_table.specs.Table.{Conflict}
use Rattle.station_layout.specs.Row.{IsConflictText, route_at}
use Rattle.station_layout.proofs.ListingLaws.{IsListed}
use Rattle.station_layout.proofs.conflicts.conflicts_cell.Given as goal

abbrev pub invariant-loop-place : goal.invariant-loop-place
invariant-loop-place l =
    IsListed (λ k. Conflict l.table l.route (route_at k)) (λ k. IsConflictText l.table l.route (route_at k)) [] (codes "; ") l.place (string_bytes l.cell) l.before
