-- The datagrams that steps hand out.
use Rattle.std.specs.Prelude.{ℕ, ◌+◌, ◌≤◌, List, ◌++◌, map, length}
use Rattle.rasta_pdu.specs.declared.key.Key.{Key}
use Rattle.rasta_pdu.specs.declared.pdu.Pdu.{Pdu}
use Rattle.rasta_pdu.specs.Spelling.{writing}

-- the datagrams handed out, oldest first, and how many there may be
pub record OutboxState : Type 0 where
  pub datagrams : List (List ℕ)
  pub capacity : ℕ

-- there is room for so many more
abbrev pub HasRoomFor : ℕ → OutboxState → Type 0
HasRoomFor more box = length box.datagrams + more ≤ box.capacity

abbrev pub spellings : Key → List Pdu → List (List ℕ)
spellings key pdus = map (writing key) pdus

-- these PDUs are handed out, as bytes
unfoldable pub posted : Key → List Pdu → OutboxState → OutboxState
posted key pdus box = record box { datagrams = box.datagrams ++ spellings key pdus }
