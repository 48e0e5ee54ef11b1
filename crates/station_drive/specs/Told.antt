-- What clocks and networks tell of their calls.
use Rattle.std.specs.Prelude.{◌≡◌, ℕ, suc, List, [], ◌∷◌, ◌++◌, Option, Some, None, Result, Ok, Err}
use Rattle.simulator_event.specs.layout.declared.ids.NodeId.{NodeId}
use Rattle.station_drive.specs.declared.datagrams.NetFault.{NetFault}

-- what a network answered to a node that asked for a datagram
pub data Heard : Type 0 where
  Datagram : (bytes : List ℕ) → Heard
  Nothing : Heard
  Failed : Heard

-- a call of a network
pub data Call : Type 0 where
  Sends : (to : NodeId) (bytes : List ℕ) → Call
  Asks : (node : NodeId) (heard : Heard) → Call

-- what was answered, where the bytes of a datagram are known
abbrev pub heard_of : {Bytes : Type 0} → (Bytes → List ℕ) → Result (Option Bytes) NetFault → Heard
heard_of bytes (Ok (Some datagram)) = Datagram (bytes datagram)
heard_of bytes (Ok None) = Nothing
heard_of bytes (Err fault) = Failed

-- The list of what was told grows by these. Who told nothing goes on to tell nothing, and who told may stop telling.
abbrev pub Grows : {A : Type 0} → Option (List A) → Option (List A) → List A → Type 0
Grows old None more = Unit {0}
Grows None (Some after) more = ⊥
Grows (Some before) (Some after) more = after ≡ before ++ more

-- Calls of a network, one after another, by what each call makes of what the network tells of itself.
abbrev pub Carried : {Net : Type 0} → (Net → Call → Net → Type 0) → Net → Net → List Call → Type 0
Carried carries old new [] = new ≡ old
Carried {Net} carries old new (call ∷ calls) = (mid : Net) × carries old call mid × Carried carries mid new calls

-- the count of failed calls rises where a call fails, and there alone
abbrev pub Counts : {A : Type 0} → Result A NetFault → ℕ → ℕ → Type 0
Counts (Ok answer) old new = new ≡ old
Counts (Err fault) old new = new ≡ suc old
