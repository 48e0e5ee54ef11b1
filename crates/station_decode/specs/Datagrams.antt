-- The line for a datagram: who sends to whom, the type, the numbers and stamps, and what it carries.
use Rattle.std.specs.Prelude.{ℕ, ◌==◌, if◌then◌else◌, List, [], ◌∷◌, ◌++◌, map, codes, Option, Some, None, Result, Ok, Err}
use Rattle.std.specs.Fmt.{decimal}
use Rattle.std.specs.List.{flat_map}
use Rattle.hex.specs.Hex.{encode_lower}
use Rattle.md4.specs.declared.message.TheConstants.{STANDARD}
use Rattle.ixl_spec.specs.First.{key_of}
use Rattle.ixl_spec.specs.layout.Entries.{Site}
use Rattle.ixl_spec.specs.rasta_pdu.declared.body.Body.{Body}
use Rattle.ixl_spec.specs.rasta_pdu.declared.body.Body.TheVariants.{ConnectionRequest, ConnectionResponse, RetransmissionRequest, RetransmissionResponse, DisconnectionRequest, Heartbeat, Data, RetransmittedData}
use Rattle.ixl_spec.specs.rasta_pdu.declared.body.Opening.{Opening}
use Rattle.ixl_spec.specs.rasta_pdu.declared.fault.PduFault.{PduFault}
use Rattle.ixl_spec.specs.rasta_pdu.declared.key.Key.{Key}
use Rattle.ixl_spec.specs.rasta_pdu.declared.pdu.Pdu.{Pdu}
use Rattle.ixl_spec.specs.rasta_pdu.PduRead.{reading}
use Rattle.ixl_spec.specs.sci_telegram.Names.{is_name}
use Rattle.station_decode.specs.Words.{type_words, reason_words, pdu_fault_words}
use Rattle.station_decode.specs.Telegrams.{item_text}

-- ---- the nodes of a network

-- The nodes of a station with their identities: the station, the signals, the points and the detectors.
abbrev pub identified : Site → List (ℕ × List ℕ)
identified site =
    (site.station.id, site.station.name)
    ∷ (map (λ s. (s.id, s.name)) site.signals ++ (map (λ p. (p.id, p.name)) site.points ++ map (λ d. (d.id, d.name)) site.detectors))

-- the name of the one of these nodes that has an identity
abbrev pub name_among : List (ℕ × List ℕ) → ℕ → Option (List ℕ)
name_among [] id = None
name_among (node ∷ nodes) id = if node.0 == id then Some node.1 else name_among nodes id

-- the nodes that are known: those of the layout, if there is one
abbrev pub nodes_known : Option Site → List (ℕ × List ℕ)
nodes_known None = []
nodes_known (Some site) = identified site

-- An identity by the name of its node, and otherwise by its number, after a sign that is in no name.
abbrev pub word_of : Option (List ℕ) → ℕ → List ℕ
word_of (Some name) id = name
word_of None id = codes "#" ++ decimal id

abbrev pub node_word : Option Site → ℕ → List ℕ
node_word site id = word_of (name_among (nodes_known site) id) id

-- the key under which datagrams are read: the layout's, and otherwise the standard start of MD4
abbrev pub key_in : Option Site → Key
key_in None = record { 0 = STANDARD }
key_in (Some site) = key_of site

-- ---- a PDU

-- a version of the protocol: its four characters where they may be a name, and otherwise their digits
abbrev pub version_word : List ℕ → List ℕ
version_word version = if is_name version then version else encode_lower version

abbrev pub opening_text : Opening → List ℕ
opening_text opening =
    codes ": version " ++ (version_word opening.version ++ (codes " window " ++ (decimal opening.window ++ (codes " reserved " ++ encode_lower opening.reserved))))

abbrev pub closing_text : ℕ → ℕ → List ℕ
closing_text detail reason =
    codes ": reason " ++ (decimal reason ++ (codes " " ++ (reason_words reason ++ (codes ", detail " ++ decimal detail))))

-- the items of a data PDU, one after the other
abbrev pub other_text : List ℕ → List ℕ → List ℕ → List ℕ
other_text sender receiver item = codes "; " ++ item_text sender receiver item

abbrev pub others_text : List ℕ → List ℕ → List (List ℕ) → List ℕ
others_text sender receiver others = flat_map (other_text sender receiver) others

abbrev pub items_text : List ℕ → List ℕ → List (List ℕ) → List ℕ
items_text sender receiver [] = []
items_text sender receiver (first ∷ others) = codes ": " ++ (item_text sender receiver first ++ others_text sender receiver others)

-- what a PDU carries, from an end to another that are called so
abbrev pub body_text : List ℕ → List ℕ → Body → List ℕ
body_text sender receiver (ConnectionRequest opening) = opening_text opening
body_text sender receiver (ConnectionResponse opening) = opening_text opening
body_text sender receiver RetransmissionRequest = []
body_text sender receiver RetransmissionResponse = []
body_text sender receiver (DisconnectionRequest detail reason) = closing_text detail reason
body_text sender receiver Heartbeat = []
body_text sender receiver (Data items) = items_text sender receiver items
body_text sender receiver (RetransmittedData items) = items_text sender receiver items

-- what every PDU has: its ends and its type, its numbers and its stamps
abbrev pub ends_text : List ℕ → List ℕ → Body → List ℕ
ends_text sender receiver body = sender ++ (codes " > " ++ (receiver ++ (codes " " ++ type_words body)))

abbrev pub numbers_text : Pdu → List ℕ
numbers_text pdu = codes " SN " ++ (decimal pdu.sequence_number ++ (codes " CS " ++ decimal pdu.confirmed_sequence_number))

abbrev pub stamps_text : Pdu → List ℕ
stamps_text pdu = codes " TS " ++ (decimal pdu.time_stamp ++ (codes " CTS " ++ decimal pdu.confirmed_time_stamp))

-- a PDU between ends that are called so
abbrev pub text_between : List ℕ → List ℕ → Pdu → List ℕ
text_between sender receiver pdu = ends_text sender receiver pdu.body ++ (numbers_text pdu ++ (stamps_text pdu ++ body_text sender receiver pdu.body))

abbrev pub pdu_text : Option Site → Pdu → List ℕ
pdu_text site pdu = text_between (node_word site pdu.sender) (node_word site pdu.receiver) pdu

-- ---- a datagram

-- bytes that are no PDU: their fault
abbrev pub fault_text : PduFault → List ℕ
fault_text fault = codes "no PDU: fault " ++ pdu_fault_words fault

-- what was read of bytes
abbrev pub read_text : Option Site → Result Pdu PduFault → List ℕ
read_text site (Ok pdu) = pdu_text site pdu
read_text site (Err fault) = fault_text fault

-- the words for bytes
abbrev pub datagram_text : Option Site → List ℕ → List ℕ
datagram_text site bytes = read_text site (reading (key_in site) bytes)
