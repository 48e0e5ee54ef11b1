-- What the first bytes of a datagram say, whether it is intact or not. Bytes that are lacking count as 0.
use Rattle.std.specs.Prelude.{◌≡◌, ℕ, ◌==◌, Bool, List}
use Rattle.rasta_pdu.specs.declared.key.Key.{Key}
use Rattle.rasta_pdu.specs.declared.pdu.Pdu.{Pdu}
use Rattle.rasta_pdu.specs.PduRead.{u16_at, u32_at}
use Rattle.rasta_pdu.specs.Spelling.{writing}
use Rattle.rasta_pdu.specs.Values.{IsPdu}

-- the identity of the receiver
abbrev pub receiver_of : List ℕ → ℕ
receiver_of bytes = u32_at 4 bytes

-- the identity of the sender
abbrev pub sender_of : List ℕ → ℕ
sender_of bytes = u32_at 8 bytes

-- the type is that of a connection request
abbrev pub is_request : List ℕ → Bool
is_request bytes = u16_at 2 bytes == 6200

-- bytes are those of a PDU, under some key
pub record AreOf (pdu : Pdu) (bytes : List ℕ) : Type 0 where
  pub key : Key
  pub is : IsPdu pdu
  pub written : bytes ≡ writing key pdu
