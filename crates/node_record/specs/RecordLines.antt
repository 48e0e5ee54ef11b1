-- What the lines of a node's record tell of datagrams:
--
--     at 12000                      the clock was read
--     from IXL1 3200..              a datagram came from a node's address, or from another: `-`
--     from IXL1 over 2 3200..       the same with two networks: over the first, or over the second
--     throws away all 12            all that waited in the socket, so many datagrams, were thrown away
--     throws away 4096              the same, where more may wait
--     sends IXL1 3200..             a datagram was sent to a node
--
-- The other lines tell of none: `fails to receive`, `listens`, `closed`, `hears ..`, `writes ..`, `breaks off ..`, `complains N N`,
-- `keeps ..` and `fails to keep ..`.
use Rattle.std.specs.Prelude.{ℕ, if◌then◌else◌, ◌&&◌, List, [], ◌∷◌, codes, Option, Some, None, Result, Ok, Err}
use Rattle.std.specs.Str.{bytes_eq}
use Rattle.control_table.specs.layout.Entries.{Site}
use Rattle.replay_lines.specs.Names.{node_named}
use Rattle.replay_words.specs.Fault.{◌>>=◌}
use Rattle.replay_words.specs.Read.{decimal, hexadecimal_or_none}
use Rattle.replay_words.specs.declared.fault.Fault.{Fault}
use Rattle.replay_words.specs.declared.fault.Fault.TheVariants.{Words}
use Rattle.station_check.specs.node_addresses.declared.network.Network.{Network}
use Rattle.station_check.specs.node_addresses.declared.network.Network.TheVariants.{Alone, First, Second}
use Rattle.node_record.specs.declared.record_line.RecordLine.{RecordLine}
use Rattle.node_record.specs.declared.record_line.RecordLine.TheVariants as line

-- what a line tells of; a node by its place
pub data Line : Type 0 where
  Reads : (reading : ℕ) → Line
  Comes : (from : Option ℕ) (over : Network) (bytes : List ℕ) → Line
  ThrowsAway : Line
  Sends : (to : ℕ) (bytes : List ℕ) → Line
  Other : Line

abbrev pub told : RecordLine → Line
told (line.Reads reading) = Reads reading
told (line.Comes from over bytes) = Comes from over bytes.items
told line.ThrowsAway = ThrowsAway
told (line.Sends to bytes) = Sends to bytes.items
told line.Other = Other

-- ---- words

-- the place of the node of a name
abbrev pub node_of : Site → List ℕ → Result ℕ Fault
node_of site word = do
  node ← node_named site word
  Ok node.0

-- a hyphen that is no node's name stands for an address that is no node's
abbrev pub unless_named : List ℕ → Result ℕ Fault → Result (Option ℕ) Fault
unless_named word (Ok place) = Ok (Some place)
unless_named word (Err fault) = if bytes_eq word (codes "-") then Ok None else Err fault

abbrev pub sender_said : Site → List ℕ → Result (Option ℕ) Fault
sender_said site word = unless_named word (node_of site word)

abbrev pub reads : List (List ℕ) → Result Line Fault
reads (word ∷ []) = do
  reading ← decimal word
  Ok (Reads reading)
reads more = Err Words

-- the network of a number
abbrev pub network_said : List ℕ → Result Network Fault
network_said word =
    if bytes_eq word (codes "1") then Ok First
    else if bytes_eq word (codes "2") then Ok Second
    else Err Words

-- over a network, if this is one
abbrev pub comes_over : Site → Result Network Fault → List ℕ → List ℕ → Result Line Fault
comes_over site network word digits = do
  over ← network
  from ← sender_said site word
  bytes ← hexadecimal_or_none digits
  Ok (Comes from over bytes)

abbrev pub comes : Site → List (List ℕ) → Result Line Fault
comes site (word ∷ digits ∷ []) = comes_over site (Ok Alone) word digits
comes site (word ∷ over ∷ number ∷ digits ∷ []) = if bytes_eq over (codes "over") then comes_over site (network_said number) word digits else Err Words
comes site more = Err Words

abbrev pub sends : Site → List (List ℕ) → Result Line Fault
sends site (word ∷ digits ∷ []) = do
  to ← node_of site word
  bytes ← hexadecimal_or_none digits
  Ok (Sends to bytes)
sends site more = Err Words

abbrev pub thrown : List ℕ → Result Line Fault
thrown number = do
  count ← decimal number
  Ok ThrowsAway

abbrev pub throws_away : List (List ℕ) → Result Line Fault
throws_away (word ∷ number ∷ []) = if bytes_eq word (codes "away") then thrown number else Err Words
throws_away (word ∷ all ∷ number ∷ []) = if bytes_eq word (codes "away") && bytes_eq all (codes "all") then thrown number else Err Words
throws_away more = Err Words

abbrev pub fails : List (List ℕ) → Result Line Fault
fails (word ∷ next ∷ []) = if bytes_eq word (codes "to") && bytes_eq next (codes "receive") then Ok Other else Err Words
fails (word ∷ next ∷ text ∷ more) = if bytes_eq word (codes "to") && bytes_eq next (codes "keep") then Ok Other else Err Words
fails more = Err Words

-- nothing stands after
abbrev pub alone : List (List ℕ) → Result Line Fault
alone [] = Ok Other
alone more = Err Words

-- a text stands after
abbrev pub followed : List (List ℕ) → Result Line Fault
followed [] = Err Words
followed text = Ok Other

abbrev pub breaks_off : List (List ℕ) → Result Line Fault
breaks_off (word ∷ text) = if bytes_eq word (codes "off") then followed text else Err Words
breaks_off [] = Err Words

-- two numbers stand after
abbrev pub complains : List (List ℕ) → Result Line Fault
complains (number ∷ fault ∷ []) = do
  line ← decimal number
  kind ← decimal fault
  Ok Other
complains more = Err Words

-- ---- a line

-- of no datagram, after its first word
abbrev pub other : List ℕ → List (List ℕ) → Result Line Fault
other first rest =
    if bytes_eq first (codes "listens") then alone rest
    else if bytes_eq first (codes "closed") then alone rest
    else if bytes_eq first (codes "fails") then fails rest
    else if bytes_eq first (codes "hears") then followed rest
    else if bytes_eq first (codes "writes") then followed rest
    else if bytes_eq first (codes "breaks") then breaks_off rest
    else if bytes_eq first (codes "complains") then complains rest
    else if bytes_eq first (codes "keeps") then followed rest
    else Err Words

-- what words tell, or their first fault
abbrev pub line_said : Site → List (List ℕ) → Result Line Fault
line_said site (first ∷ rest) =
    if bytes_eq first (codes "at") then reads rest
    else if bytes_eq first (codes "from") then comes site rest
    else if bytes_eq first (codes "sends") then sends site rest
    else if bytes_eq first (codes "throws") then throws_away rest
    else other first rest
line_said site [] = Err Words
