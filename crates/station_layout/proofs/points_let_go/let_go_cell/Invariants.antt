use Rattle.std.proofs.Common.{[], codes, string_bytes}
use Rattle.station_layout.specs.Row.{IsLetGoText, LetsOneGo}
use Rattle.station_layout.proofs.ListingLaws.{IsListed}
use Rattle.station_layout.proofs.points_let_go.let_go_cell.Given as goal

abbrev pub invariant-loop-place : goal.invariant-loop-place
invariant-loop-place l =
    IsListed (LetsOneGo l.table l.path.route l.path.sections.now) (IsLetGoText l.table l.path.route l.path.sections.now) [] (codes "; ") l.place (string_bytes l.cell) l.before
