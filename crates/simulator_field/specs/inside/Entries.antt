-- How a network keeps its datagrams: entries, and the bytes of all in one row.
use Rattle.std.specs.Prelude.{ℕ, ◌+◌, ◌≤◌, List, [], ◌∷◌, length, map, take, drop}
use Rattle.std.specs.List.{All}
use Rattle.simulator_spec.specs.rasta_core.Ends.{Sent}
use Rattle.simulator_spec.specs.rasta_core.Links.{OnLink}
use Rattle.simulator_field.specs.Network.{datagrams}
use Rattle.simulator_field.specs.declared.entry.Entry.{Entry}

abbrev pub bytes_of : List ℕ → Entry → List ℕ
bytes_of row entry = take entry.length (drop entry.start row)

-- the datagram of an entry
abbrev pub on_link : List ℕ → Entry → OnLink
on_link row entry = record {
  link = entry.link;
  datagram = record { bytes = bytes_of row entry; at = entry.at; sender = entry.sender; connection = entry.connection; is_lost = entry.is_lost };
}

abbrev pub on_links : List ℕ → List Entry → List OnLink
on_links row entries = map (on_link row) entries

-- its bytes stand in the row
abbrev pub IsWithin : List ℕ → Entry → Type 0
IsWithin row entry = entry.start + entry.length ≤ length row

abbrev pub AreWithin : List ℕ → List Entry → Type 0
AreWithin row entries = All (λ entry. IsWithin row entry) entries

-- none was sent after this time, and none before one that stands earlier
abbrev pub AreInOrder : ℕ → List Sent → Type 0
AreInOrder time [] = Unit {0}
AreInOrder time (first ∷ later) = (first.at ≤ time) × All (λ sent. first.at ≤ sent.at) later × AreInOrder time later

-- what is true of all that is kept
pub record AreKept (time : ℕ) (row : List ℕ) (entries : List Entry) : Type 0 where
  pub within : AreWithin row entries
  pub in_order : AreInOrder time (datagrams (on_links row entries))
