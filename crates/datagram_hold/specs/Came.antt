-- A datagram that came.
use Rattle.std.specs.Prelude.{ℕ, List}
use Rattle.datagram_hold.specs.declared.network.Network.{Network}

-- its bytes, the reading at which they came, in milliseconds, the place of its sender, and the network over which it came
pub record Came : Type 0 where
  pub at : ℕ
  pub sender : ℕ
  pub over : Network
  pub bytes : List ℕ
