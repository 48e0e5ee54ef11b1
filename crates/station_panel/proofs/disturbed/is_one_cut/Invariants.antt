use Rattle.std.proofs.Common.{◌≡◌, drop}
use Rattle.station_panel.specs.DisturbedNetwork.{is_one_cut}
use Rattle.station_panel.proofs.disturbed.is_one_cut.Given as goal

-- none in front has the identity
abbrev pub invariant-loop-place : goal.invariant-loop-place
invariant-loop-place l = is_one_cut l.cut l.sender (drop l.place l.ids) l.place ≡ is_one_cut l.cut l.sender l.ids 0
