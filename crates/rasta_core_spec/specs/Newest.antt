-- The last connection of an end, read off the datagrams that were sent.
use Rattle.std.specs.Prelude.{◌≡◌, ℕ, List, [], ◌∷◌, Option, Some, None, if◌then◌else◌}
use Rattle.rasta_core_link.specs.declared.identity.Role.{Role}
use Rattle.rasta_core_spec.specs.Ends.{Sent, newer}
use Rattle.rasta_core_spec.specs.Given.{is_same}
use Rattle.rasta_core_spec.specs.Run.{Ends, end_of}

-- the connection of the newest datagram that this end sent, if it sent any; the list has the oldest first
abbrev pub newest_connection : Role → List Sent → Option ℕ
newest_connection who [] = None
newest_connection who (first ∷ later) = newer (newest_connection who later) (if is_same first.sender who then Some first.connection else None)

-- an end's last connection is that of its newest datagram; an end that sent nothing has had none
abbrev pub IsNewest : Role → Ends → Type 0
IsNewest who ends = (end_of who ends).connection ≡ newest_connection who ends.sent

-- an end that has had no connection has given and taken nothing
abbrev pub IsUnused : Role → Ends → Type 0
IsUnused who ends = (end_of who ends).connection ≡ None → ((end_of who ends).given ≡ []) × ((end_of who ends).taken ≡ [])
