use Rattle.std.proofs.Common.{◌≡◌, ◌++◌, IsUtf8, codes, drop, string_bytes}
use Rattle.station_layout.specs.Names.{spaced}
use Rattle.station_layout.specs.Row.{names_of_points, points_at, points_on}
use Rattle.station_layout.specs.inside.Joined.{joined}
use Rattle.station_layout.proofs.cells.points_cell.Given as goal

-- the names that were found, and after them those on what is left of the path
abbrev pub invariant-loop-port : goal.invariant-loop-port
invariant-loop-port l =
    IsUtf8 l.before
    × (string_bytes l.cell ++ joined l.before (codes " ") (names_of_points l.layout (points_on (drop l.port-index l.route.path) l.route.points l.side))
    ≡ spaced (names_of_points l.layout (points_at l.route l.side)))
