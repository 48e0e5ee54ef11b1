use Rattle.std.proofs.Common.{◌≡◌, ◌↔◌, ℕ, Bool, IsTrue}
use Rattle.simulator_spec.specs.bit_row.Places.{Has}
use Rattle.node_kinds.specs.Kept.{places_where}
use Rattle.node_kinds.proofs.closings_kept.first_sections.Given as goal

abbrev pub invariant-loop-place : goal.invariant-loop-place
invariant-loop-place l = (test : ℕ → Bool) → ((section : ℕ) → Has l.locked section ↔ IsTrue (test section)) → l.row ≡ places_where test l.place
