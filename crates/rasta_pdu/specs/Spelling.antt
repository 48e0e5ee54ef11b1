-- The one spelling of each PDU in bytes (DIN VDE V 0831-200 for the order of the fields). Every number is
-- written low-order byte first.
use Rattle.std.specs.Prelude.{◌≡◌, ℕ, ◌+◌, List, [], ◌++◌, length}
use Rattle.std.specs.List.{flat_map}
use Rattle.std.specs.Int.{w16, w32, to_le_bytes}
use Rattle.rasta_pdu.specs.declared.body.Opening.{Opening}
use Rattle.rasta_pdu.specs.declared.body.Body.{Body}
use Rattle.rasta_pdu.specs.declared.body.Body.TheVariants.{ConnectionRequest, ConnectionResponse, RetransmissionRequest, RetransmissionResponse, DisconnectionRequest, Heartbeat, Data, RetransmittedData}
use Rattle.rasta_pdu.specs.declared.key.Key.{Key}
use Rattle.rasta_pdu.specs.declared.pdu.Pdu.{Pdu}
use Rattle.rasta_pdu.specs.Values.{IsPdu}
use Rattle.rasta_pdu.specs.SafetyCode.{code}

-- the type number
abbrev pub type_of : Body → ℕ
type_of (ConnectionRequest opening) = 6200
type_of (ConnectionResponse opening) = 6201
type_of RetransmissionRequest = 6212
type_of RetransmissionResponse = 6213
type_of (DisconnectionRequest detail reason) = 6216
type_of Heartbeat = 6220
type_of (Data items) = 6240
type_of (RetransmittedData items) = 6241

-- version, window, reserved: 14 bytes
abbrev pub opening_bytes : Opening → List ℕ
opening_bytes opening = opening.version ++ to_le_bytes w16 opening.window ++ opening.reserved

-- an item: how many bytes it has, and these bytes
abbrev pub item_bytes : List ℕ → List ℕ
item_bytes bytes = to_le_bytes w16 (length bytes) ++ bytes

-- what follows the fields that every type has
unfoldable pub payload : Body → List ℕ
payload (ConnectionRequest opening) = opening_bytes opening
payload (ConnectionResponse opening) = opening_bytes opening
payload RetransmissionRequest = []
payload RetransmissionResponse = []
payload (DisconnectionRequest detail reason) = to_le_bytes w16 detail ++ to_le_bytes w16 reason
payload Heartbeat = []
payload (Data items) = flat_map item_bytes items
payload (RetransmittedData items) = flat_map item_bytes items

-- the 28 bytes of fields of a PDU with a payload of so many bytes; its length counts the 8 of the code
unfoldable pub fields : Pdu → ℕ → List ℕ
fields pdu payload_length =
    to_le_bytes w16 (payload_length + 36)
    ++ to_le_bytes w16 (type_of pdu.body)
    ++ to_le_bytes w32 pdu.receiver
    ++ to_le_bytes w32 pdu.sender
    ++ to_le_bytes w32 pdu.sequence_number
    ++ to_le_bytes w32 pdu.confirmed_sequence_number
    ++ to_le_bytes w32 pdu.time_stamp
    ++ to_le_bytes w32 pdu.confirmed_time_stamp

-- a PDU without its safety code
unfoldable pub text : Pdu → List ℕ
text pdu = fields pdu (length (payload pdu.body)) ++ payload pdu.body

-- a PDU with its safety code under a key
unfoldable pub writing : Key → Pdu → List ℕ
writing key pdu = text pdu ++ code key (text pdu)

-- these bytes are this value without its safety code
abbrev pub Spells : Pdu → List ℕ → Type 0
Spells pdu bytes = IsPdu pdu × (bytes ≡ text pdu)
