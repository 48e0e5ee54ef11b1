-- The items that an end gave in a connection, read off the datagrams that were sent.
use Rattle.std.specs.Prelude.{◌≡◌, ℕ, ◌==◌, ◌&&◌, Bool, true, false, List, [], ◌∷◌, ◌++◌, Some, Result, Ok, Err, if◌then◌else◌}
use Rattle.rasta_core_link.specs.declared.identity.Role.{Role}
use Rattle.rasta_core_link.specs.declared.identity.Role.TheVariants as role
use Rattle.rasta_core_spec.specs.Ends.{Sent}
use Rattle.rasta_core_spec.specs.Run.{Ends, end_of}
use Rattle.rasta_core_spec.specs.Names.{Names}
use Rattle.rasta_pdu.specs.declared.fault.PduFault.{PduFault}
use Rattle.rasta_pdu.specs.declared.pdu.Pdu.{Pdu}
use Rattle.rasta_pdu.specs.declared.body.Body.{Body}
use Rattle.rasta_pdu.specs.declared.body.Body.TheVariants.{Data}
use Rattle.rasta_pdu.specs.PduRead.{reading}

abbrev pub is_same : Role → Role → Bool
is_same role.Client role.Client = true
is_same role.Server role.Server = true
is_same _ _ = false

-- what this end sent in this connection
abbrev pub is_of : Role → ℕ → Sent → Bool
is_of who connection sent = is_same sent.sender who && sent.connection == connection

-- the items of a data PDU; those of a repetition aren't new
abbrev pub new_items : Body → List (List ℕ)
new_items (Data items) = items
new_items _ = []

abbrev pub items_in : Result Pdu PduFault → List (List ℕ)
items_in (Ok pdu) = new_items pdu.body
items_in (Err fault) = []

abbrev pub items_given : Names → Role → ℕ → List Sent → List (List ℕ)
items_given names who connection [] = []
items_given names who connection (first ∷ later) =
    (if is_of who connection first then items_in (reading names.key first.bytes) else []) ++ items_given names who connection later

-- what an end gave in its last connection are the items of the data PDUs that it sent there, in order
abbrev pub IsGiven : Names → Role → Ends → Type 0
IsGiven names who ends =
    (connection : ℕ) → (end_of who ends).connection ≡ Some connection → (end_of who ends).given ≡ items_given names who connection ends.sent
