use Rattle.std.proofs.Common.{◌≡◌, codes, string_bytes}
use Rattle.station_layout.specs.Names.{point_name}
use Rattle.station_layout.specs.Row.{IsLetGoAt, point_at}
use Rattle.station_layout.proofs.ListingLaws.{IsListed}
use Rattle.station_layout.proofs.points_let_go.points_told.Given as goal

abbrev pub invariant-loop-point : goal.invariant-loop-point
invariant-loop-point l =
    IsListed (λ k. IsLetGoAt l.table l.path.route l.path.sections.now l.place (point_at k)) (λ k text. text ≡ point_name l.table (point_at k)) (codes ": ") (codes " ") l.point (string_bytes l.text) l.before
