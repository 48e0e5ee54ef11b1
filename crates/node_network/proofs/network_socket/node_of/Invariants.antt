use Rattle.std.proofs.Common.{◌≡◌, ◌<◌, ℕ, Some, slice_get}
use Rattle.node_network.proofs.network_socket.node_of.Given as goal

-- no node before has the address
abbrev pub invariant-loop-place : goal.invariant-loop-place
invariant-loop-place l = (before : ℕ) → before < l.place → ¬ (slice_get l.addresses before ≡ Some l.address)
