use Rattle.std.proofs.Common.{◌≡◌, drop}
use Rattle.std.specs.List.{position, position_from}
use Rattle.std.specs.Str.{bytes_eq}
use Rattle.station_plan.proofs.places.place_of.Given as goal

abbrev pub invariant-loop-place : goal.invariant-loop-place
invariant-loop-place g l = position_from (λ entry. bytes_eq (g.T.Named.own_name entry) l.name) l.place (drop l.place l.entries) ≡ position (λ entry. bytes_eq (g.T.Named.own_name entry) l.name) l.entries
