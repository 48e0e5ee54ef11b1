-- Reading a PDU from bytes, with the first fault in the order of the tests.
use Rattle.std.specs.Prelude.{◌≡◌, ℕ, zero, suc, ◌-◌, not, ◌==◌, nat_lt, if◌then◌else◌, List, [], ◌∷◌, length, take, drop, Result, Ok, Err}
use Rattle.std.specs.Int.{w16, w32, from_le_bytes}
use Rattle.std.specs.Str.{bytes_eq}
use Rattle.rasta_pdu.specs.declared.body.Opening.{Opening}
use Rattle.rasta_pdu.specs.declared.body.Body.{Body}
use Rattle.rasta_pdu.specs.declared.body.Body.TheVariants.{ConnectionRequest, ConnectionResponse, RetransmissionRequest, RetransmissionResponse, DisconnectionRequest, Heartbeat, Data, RetransmittedData}
use Rattle.rasta_pdu.specs.declared.fault.PduFault.{PduFault}
use Rattle.rasta_pdu.specs.declared.fault.PduFault.TheVariants as faults
use Rattle.rasta_pdu.specs.declared.key.Key.{Key}
use Rattle.rasta_pdu.specs.declared.pdu.Pdu.{Pdu}
use Rattle.rasta_pdu.specs.SafetyCode.{code, before_code, last_8, length_field}

-- a step, and then the next with what it gave
infixl 10 ◌>>=◌
abbrev pub ◌>>=◌ : {A B : Type 0} → Result A PduFault → (A → Result B PduFault) → Result B PduFault
(Ok x) >>= f = f x
(Err e) >>= f = Err e

-- what a function returned, seen by view, is what reading gives
abbrev pub Gives : {X Y : Type 0} → (X → Y) → Result X PduFault → Result Y PduFault → Type 0
Gives view (Ok x) read = read ≡ Ok (view x)
Gives view (Err fault) read = read ≡ Err fault

-- intact bytes without their code
unfoldable pub text_of : Key → List ℕ → Result (List ℕ) PduFault
text_of key bytes =
    if nat_lt (length bytes) 36 then Err faults.TooShort else
    if not (length_field bytes == length bytes) then Err faults.Length else
    if not (bytes_eq (last_8 bytes) (code key (before_code bytes))) then Err faults.Code else
    Ok (before_code bytes)

-- the number of 16 or 32 bits at a place, low-order byte first
abbrev pub u16_at : ℕ → List ℕ → ℕ
u16_at place bytes = from_le_bytes w16 (drop place bytes)

abbrev pub u32_at : ℕ → List ℕ → ℕ
u32_at place bytes = from_le_bytes w32 (drop place bytes)

-- version, window, reserved
unfoldable pub opening_of : List ℕ → Result Opening PduFault
opening_of payload =
    if not (length payload == 14) then Err faults.Body else
    Ok (record { version = take 4 payload; window = u16_at 4 payload; reserved = drop 6 payload })

-- detail and reason
unfoldable pub disconnection_of : List ℕ → Result Body PduFault
disconnection_of payload =
    if not (length payload == 4) then Err faults.Body else
    Ok (DisconnectionRequest (u16_at 0 payload) (u16_at 2 payload))

-- a type without payload
unfoldable pub nothing_of : Body → List ℕ → Result Body PduFault
nothing_of body payload = if not (length payload == 0) then Err faults.Body else Ok body

-- one item from the front, and what follows it
unfoldable pub item_of : List ℕ → Result (List ℕ × List ℕ) PduFault
item_of bytes =
    if nat_lt (length bytes) 2 then Err faults.Items else
    if from_le_bytes w16 bytes == 0 then Err faults.Items else
    if nat_lt 61 (from_le_bytes w16 bytes) then Err faults.Items else
    if nat_lt (length bytes - 2) (from_le_bytes w16 bytes) then Err faults.Items else
    Ok (take (from_le_bytes w16 bytes) (drop 2 bytes), drop (from_le_bytes w16 bytes) (drop 2 bytes))

-- items to the end, as many as there is room for
unfoldable pub items_to_end : ℕ → List ℕ → Result (List (List ℕ)) PduFault
items_to_end room [] = Ok []
items_to_end zero (byte ∷ bytes) = Err faults.Items
items_to_end (suc room) (byte ∷ bytes) = do
  first ← item_of (byte ∷ bytes)
  others ← items_to_end room first.1
  Ok (first.0 ∷ others)

-- at least one of them
abbrev pub some_items : List (List ℕ) → Result (List (List ℕ)) PduFault
some_items items = if length items == 0 then Err faults.Items else Ok items

-- 1 to 3 items, to the end
unfoldable pub items_of : List ℕ → Result (List (List ℕ)) PduFault
items_of payload = items_to_end 3 payload >>= some_items

-- the payload of a type
unfoldable pub body_of : ℕ → List ℕ → Result Body PduFault
body_of number payload =
    if number == 6200 then (opening_of payload >>= λ opening. Ok (ConnectionRequest opening)) else
    if number == 6201 then (opening_of payload >>= λ opening. Ok (ConnectionResponse opening)) else
    if number == 6212 then nothing_of RetransmissionRequest payload else
    if number == 6213 then nothing_of RetransmissionResponse payload else
    if number == 6216 then disconnection_of payload else
    if number == 6220 then nothing_of Heartbeat payload else
    if number == 6240 then (items_of payload >>= λ items. Ok (Data items)) else
    if number == 6241 then (items_of payload >>= λ items. Ok (RetransmittedData items)) else
    Err faults.BadType

-- the PDU of a text, of which the length and the code are right
unfoldable pub pdu_of : List ℕ → Result Pdu PduFault
pdu_of text = do
  body ← body_of (u16_at 2 text) (drop 28 text)
  Ok (record {
    receiver = u32_at 4 text;
    sender = u32_at 8 text;
    sequence_number = u32_at 12 text;
    confirmed_sequence_number = u32_at 16 text;
    time_stamp = u32_at 20 text;
    confirmed_time_stamp = u32_at 24 text;
    body = body;
  })

-- the PDU that bytes spell under a key, or the first fault
unfoldable pub reading : Key → List ℕ → Result Pdu PduFault
reading key bytes = text_of key bytes >>= pdu_of
