-- The blocks of a capture file in the format pcapng. Numbers have their low-order byte first, as the magic number tells.
use Rattle.std.specs.Prelude.{◌≡◌, ℕ, ◌+◌, ◌-◌, ◌/◌, ◌%◌, ◌^◌, ◌<◌, List, [], ◌∷◌, ◌++◌, length, replicate}
use Rattle.std.specs.Int.{w16, w32, to_le_bytes}
use Rattle.capture_file.specs.Journeys.{Sent}
use Rattle.capture_file.specs.Internet.{IsPacket, packet_bytes}

-- ---- what must hold of the bytes

-- bytes with zeros behind them, as many as are lacking to a multiple of 4
abbrev pub padded : List ℕ → List ℕ
padded bytes = bytes ++ replicate ((4 - length bytes % 4) % 4) 0

-- A block: its type, its length, what is in it, and its length again, so that a file can be read from both ends.
pub record IsBlock (kind : ℕ) (body bytes : List ℕ) : Type 0 where
  pub spelled : bytes ≡ to_le_bytes w32 kind ++ (to_le_bytes w32 (length bytes) ++ (body ++ to_le_bytes w32 (length bytes)))
  pub whole : length bytes % 4 ≡ 0
  pub fits : length bytes < 2 ^ 32

-- The section header: the magic number that tells the order of bytes, version 1.0, and a length of the section that isn't
-- told (-1).
abbrev pub SECTION_HEADER : ℕ
SECTION_HEADER = 0x0A0D0D0A

abbrev pub section_body : List ℕ
section_body = to_le_bytes w32 0x1A2B3C4D ++ (to_le_bytes w16 1 ++ (to_le_bytes w16 0 ++ replicate 8 255))

-- The description of the one interface: packets begin with their IPv4 header (link type 228), and are kept whole. It names
-- no resolution, so stamps count microseconds.
abbrev pub INTERFACE_DESCRIPTION : ℕ
INTERFACE_DESCRIPTION = 1

abbrev pub interface_body : List ℕ
interface_body = to_le_bytes w16 228 ++ (to_le_bytes w16 0 ++ to_le_bytes w32 0)

abbrev pub ENHANCED_PACKET : ℕ
ENHANCED_PACKET = 6

-- the options of a packet: a comment (option 1), and the end of the options; none where there is no comment
abbrev pub options : List ℕ → List ℕ
options [] = []
options (first ∷ more) =
    let comment = first ∷ more
    in to_le_bytes w16 1 ++ (to_le_bytes w16 (length comment) ++ (padded comment ++ replicate 4 0))

-- An enhanced packet: the first interface, the stamp in two halves, the higher one first; how many bytes were captured and
-- how many the packet has, which are the same; the packet; its options.
abbrev pub enhanced_body : ℕ → List ℕ → List ℕ → List ℕ
enhanced_body time packet comment =
    to_le_bytes w32 0 ++ (to_le_bytes w32 (time / 2 ^ 32) ++ (to_le_bytes w32 (time % 2 ^ 32)
    ++ (to_le_bytes w32 (length packet) ++ (to_le_bytes w32 (length packet) ++ (padded packet ++ options comment)))))

-- a block that has this datagram, in a packet
pub record IsPacketBlock (one : Sent) (bytes : List ℕ) : Type 0 where
  pub packet : List ℕ
  pub carries : IsPacket one.journey one.payload packet
  pub is : IsBlock ENHANCED_PACKET (enhanced_body one.journey.time packet one.comment) bytes

-- ---- exactly which bytes they are

unfoldable pub block : ℕ → List ℕ → List ℕ
block kind body =
    let count = length body + 12
    in to_le_bytes w32 kind ++ (to_le_bytes w32 count ++ (body ++ to_le_bytes w32 count))

abbrev pub packet_block : Sent → List ℕ
packet_block one = block ENHANCED_PACKET (enhanced_body one.journey.time (packet_bytes one.journey one.payload) one.comment)

-- how a file begins
abbrev pub head : List ℕ
head = block SECTION_HEADER section_body ++ block INTERFACE_DESCRIPTION interface_body
