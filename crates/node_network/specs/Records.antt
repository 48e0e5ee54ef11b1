-- The record of a node's process: a line for each call that tells something.
--
--     node S1 first 7 for 60000     the first line: the node, the number of its first PDU, and for how many milliseconds it was to run
--     at 12000                      the clock was read
--     listens                       an operator began to listen
--     hears set R1                  a line came
--     closed                        no line came any more
--     from IXL1 3200..              a datagram came from a node's address, or from another: `-`
--     from IXL1 over 2 3200..       the same with two networks: over the first, or over the second
--     fails to receive              a datagram was asked for, and the call failed
--     throws away all 12            all that waited in the socket, so many datagrams, were thrown away
--     throws away 4096              the same, where more may wait
--     writes 7 at 12000 show stop   a line was written
--     breaks off 7 at 12000 show st a line wasn't written whole
--     sends IXL1 3200..             a datagram was sent to a node
--     complains 3 1                 a line was faulty, by its number and that of its fault
--     keeps releases 2 opens 1: 2, G1, P left
--                                   so many auxiliary commands were counted, and so many things are to be closed in a later process, and
--                                   the file has all of it on disk
--     fails to keep releases 2 opens 1: 2, G1, P left
--                                   the same, but that a call failed by which the file is written
use Rattle.std.specs.Prelude.{Bool, true, false, List, [], ◌∷◌, ◌++◌, ℕ, codes, length, Option, Some, None}
use Rattle.std.specs.Fmt.{decimal as written}
use Rattle.std.specs.List.{flat_map}
use Rattle.node_drive.specs.replay_words.Fault.{number_of}
use Rattle.node_drive.specs.replay_words.Read.{hex_word}
use Rattle.node_drive.specs.layout.Entries.{Site}
use Rattle.node_drive.specs.simulator_event.layout.declared.ids.NodeId.{NodeId}
use Rattle.node_drive.specs.Calls.{Call, Rests, Reads, AsksListener, AsksLine, AsksDatagram, ThrowsAway, Writes, BreaksOff, Sends, Complains, Keeps, Text, Nothing, Closed, Came, Empty, Failed}
use Rattle.node_drive.specs.node_lines.closings.declared.auxiliary.AuxiliaryCounts.{AuxiliaryCounts}
use Rattle.node_drive.specs.node_lines.closings.declared.thing.Thing.{Thing}
use Rattle.node_drive.specs.node_lines.closings.declared.thing.Named.TheVariants.{One}
use Rattle.node_drive.specs.node_lines.closings.Closed.{closed_things}
use Rattle.node_drive.specs.node_lines.closings.Words.{words_of}
use Rattle.node_drive.specs.declared.outside.Network.{Network}
use Rattle.node_drive.specs.declared.outside.Network.TheVariants.{Alone, First, Second}
use Rattle.node_drive.specs.declared.outside.ToKeep.{ToKeep}
use Rattle.node_drive.specs.node_lines.Known.{node_word}
use Rattle.node_network.specs.declared.entry.Entry.{Entry}
use Rattle.node_network.specs.declared.entry.Entry.TheVariants as entry

-- the word for who sent a datagram: a node's name, or `-` where no node has that address
abbrev pub sender_word : Site → Option NodeId → List ℕ
sender_word site None = codes "-"
sender_word site (Some node) = node_word site node

-- the words for the network over which it came: none where there is one
abbrev pub over_words : Network → List ℕ
over_words Alone = []
over_words First = codes " over 1"
over_words Second = codes " over 2"

abbrev pub bytes_words : List ℕ → List ℕ → List ℕ → List ℕ
bytes_words node over bytes = node ++ (over ++ (32 ∷ hex_word bytes))

abbrev pub thrown_words : ℕ → Bool → List ℕ
thrown_words count true = codes "throws away all " ++ written count
thrown_words count false = codes "throws away " ++ written count

-- a thing behind others
abbrev pub thing_words : Site → Thing → List ℕ
thing_words site thing = codes ", " ++ words_of site (One thing)

-- how many things, and which
abbrev pub listed_words : Site → List Thing → List ℕ
listed_words site things = written (length things) ++ flat_map (thing_words site) things

-- how many auxiliary commands were counted
abbrev pub counts_words : AuxiliaryCounts → List ℕ
counts_words counts = codes "releases " ++ (written counts.releases ++ (codes " opens " ++ written counts.opens))

abbrev pub kept_word : Bool → List ℕ
kept_word true = codes "keeps"
kept_word false = codes "fails to keep"

-- the counts, and what is closed, in the order of the layout's things
abbrev pub kept_words : Site → ToKeep → Bool → List ℕ
kept_words site all kept = kept_word kept ++ 32 ∷ (counts_words all.counts ++ (codes ": " ++ listed_words site (closed_things site all.closings)))

-- the line of a call; one that was answered by nothing has none
abbrev pub call_line : Site → Call → Option (List ℕ)
call_line site Rests = None
call_line site (Reads reading) = Some (codes "at " ++ written reading)
call_line site (AsksListener true) = Some (codes "listens")
call_line site (AsksListener false) = None
call_line site (AsksLine (Text text)) = Some (codes "hears " ++ text)
call_line site (AsksLine Nothing) = None
call_line site (AsksLine Closed) = Some (codes "closed")
call_line site (AsksDatagram Empty) = None
call_line site (AsksDatagram Failed) = Some (codes "fails to receive")
call_line site (AsksDatagram (Came arrival)) = Some (codes "from " ++ bytes_words (sender_word site arrival.0.from) (over_words arrival.0.over) arrival.1)
call_line site (ThrowsAway count empty) = Some (thrown_words count empty)
call_line site (Writes text) = Some (codes "writes " ++ text)
call_line site (BreaksOff text) = Some (codes "breaks off " ++ text)
call_line site (Sends to bytes) = Some (codes "sends " ++ bytes_words (node_word site to) [] bytes)
call_line site (Complains line fault) = Some (codes "complains " ++ (written line ++ 32 ∷ written (number_of fault)))
call_line site (Keeps all kept) = Some (kept_words site all kept)

-- what the code has as such a call
abbrev pub call_with : Entry → Call
call_with (entry.Reads reading) = Reads reading
call_with entry.Listens = AsksListener true
call_with (entry.Hears text) = AsksLine (Text text.now)
call_with entry.Closed = AsksLine Closed
call_with (entry.Comes origin bytes) = AsksDatagram (Came (origin, bytes.now))
call_with entry.FailsToReceive = AsksDatagram Failed
call_with (entry.ThrowsAway thrown) = ThrowsAway thrown.count thrown.found_empty
call_with (entry.Writes text) = Writes text.now
call_with (entry.BreaksOff text) = BreaksOff text.now
call_with (entry.Sends to bytes) = Sends to bytes.now
call_with (entry.Complains line fault) = Complains line fault
call_with (entry.Keeps all kept) = Keeps all.now kept
