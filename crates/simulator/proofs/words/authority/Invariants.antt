use Rattle.std.proofs.Common.{◌≡◌, drop}
use Rattle.simulator_spec.specs.Picture.{authority_text}
use Rattle.simulator.proofs.words.authority.Given as goal

-- the first pair of the signal is among those that are left
abbrev pub invariant-loop-place : goal.invariant-loop-place
invariant-loop-place l = authority_text l.layout l.signal (drop l.place l.held) ≡ authority_text l.layout l.signal l.held
