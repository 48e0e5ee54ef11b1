use Rattle.std.proofs.Common.{◌≡◌, ◌++◌, drop, length, take}
use Rattle.station_panel.specs.DisturbedNetwork.{flags_from}
use Rattle.station_panel.proofs.disturbed.set_flags.Given as goal

-- the flags in front are as they are wanted
abbrev pub invariant-loop-place : goal.invariant-loop-place
invariant-loop-place l =
    (take l.place l.flags ++ flags_from l.wanted l.place (drop l.place l.flags) ≡ flags_from l.wanted 0 l.initial.flags) × (length l.flags ≡ length l.initial.flags)
