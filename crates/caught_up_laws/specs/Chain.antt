-- An item is repeated in a retransmission alone: each repetition follows the beginning of one, or another repetition.
use Rattle.std.specs.Prelude.{◌≡◌, Bool, true, false, List, [], ◌∷◌}
use Rattle.rasta_core_spec.specs.body.Body.{Body}
use Rattle.rasta_core_spec.specs.body.Body.TheVariants.{RetransmissionResponse, RetransmittedData}
use Rattle.rasta_core_spec.specs.pdu.Pdu.{Pdu}

-- the beginning of a retransmission, or an item again
abbrev pub repeats : Body → Bool
repeats RetransmissionResponse = true
repeats (RetransmittedData items) = true
repeats body = false

-- an item again, where the PDU before it repeats, too
abbrev pub MayFollow : Bool → Body → Type 0
MayFollow before (RetransmittedData items) = before ≡ true
MayFollow before body = Unit {0}

-- so it is for each of these PDUs, after one that repeats or doesn't
abbrev pub Chained : Bool → List Pdu → Type 0
Chained before [] = Unit {0}
Chained before (first ∷ others) = MayFollow before first.body × Chained (repeats first.body) others
