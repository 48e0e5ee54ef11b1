-- The PDU that is measured, and the numbers that the passes over it leave.
use Rattle.std.specs.Prelude.{ℕ, zero, suc, ◌+◌, ◌%◌, ◌^◌, ◌&&◌, nat_lt, if◌then◌else◌, List, [], ◌∷◌, replicate, Option, Some, None}
use Rattle.md4.specs.declared.message.TheConstants.{STANDARD}
use Rattle.md4.specs.Md4.{digest}
use Rattle.rasta_pdu.specs.declared.body.Body.TheVariants.{Data}
use Rattle.rasta_pdu.specs.declared.key.Key.{Key}
use Rattle.rasta_pdu.specs.declared.pdu.Pdu.{Pdu}
use Rattle.rasta_pdu.specs.PduRead.{u32_at}
use Rattle.rasta_pdu.specs.SafetyCode.{code}
use Rattle.rasta_pdu.specs.Spelling.{text}

-- the bytes of each item: the most that an item has, and any byte would do
abbrev pub filling : List ℕ
filling = replicate 61 0x5a

-- a data PDU with so many of these items
abbrev pub data_with : ℕ → Pdu
data_with count = record {
  receiver = 2;
  sender = 1;
  sequence_number = 7;
  confirmed_sequence_number = 5;
  time_stamp = 10000;
  confirmed_time_stamp = 9900;
  body = Data (replicate count filling);
}

-- it, where there are 1 to 3 items
abbrev pub data_of : ℕ → Option Pdu
data_of count = if nat_lt 0 count && nat_lt count 4 then Some (data_with count) else None

-- the key of every pass: the registers from which RFC 1320 starts
abbrev pub standard : Key
standard = record { 0 = STANDARD }

-- a PDU under another sequence number
abbrev pub numbered : Pdu → ℕ → Pdu
numbered pdu number = record {
  receiver = pdu.receiver;
  sender = pdu.sender;
  sequence_number = number;
  confirmed_sequence_number = pdu.confirmed_sequence_number;
  time_stamp = pdu.time_stamp;
  confirmed_time_stamp = pdu.confirmed_time_stamp;
  body = pdu.body;
}

-- the sequence number after a PDU was written n times: each time the last four bytes of its safety
-- code, low-order byte first, are the next
unfoldable pub written : Pdu → ℕ → ℕ
written pdu zero = pdu.sequence_number
written pdu (suc n) = u32_at 4 (code standard (text (numbered pdu (written pdu n))))

-- the sequence number after a PDU was written and read n times: each time it is one more, modulo
-- 2 ^ 32
abbrev pub written_and_read : Pdu → ℕ → ℕ
written_and_read pdu n = (pdu.sequence_number + n) % 2 ^ 32

-- the first register after the bytes before a PDU's code were digested n times: it is 0, and then each
-- time the first four bytes of the digest that starts from it, low-order byte first
unfoldable pub digested : Pdu → ℕ → ℕ
digested pdu zero = 0
digested pdu (suc n) = u32_at 0 (digest (digested pdu n ∷ 1 ∷ 2 ∷ 3 ∷ []) (text pdu))
