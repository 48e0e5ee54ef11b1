-- A datagram on the internet: UDP (RFC 768) in a packet of IPv4 (RFC 791). Numbers have their high-order byte first.
use Rattle.std.specs.Prelude.{◌≡◌, ◌≢◌, ℕ, ◌+◌, ◌<◌, ◌==◌, if◌then◌else◌, List, ◌∷◌, ◌++◌, length}
use Rattle.std.specs.Int.{w16, to_be_bytes}
use Rattle.capture_file.specs.declared.journey.Journey.{Journey}
use Rattle.capture_file.specs.Checksum.{checksum, ones_sum}

-- ---- what must hold of the bytes

-- what is put before a datagram for its checksum alone: the addresses, a zero byte, the protocol UDP, and its length
abbrev pub pseudo_header : Journey → ℕ → List ℕ
pseudo_header journey count = journey.sender.address ++ (journey.receiver.address ++ (0 ∷ 17 ∷ to_be_bytes w16 count))

-- the header of a UDP datagram: the ports, the length of the whole datagram, its checksum
abbrev pub udp_header : Journey → ℕ → ℕ → List ℕ
udp_header journey count sum =
    to_be_bytes w16 journey.sender.port ++ (to_be_bytes w16 journey.receiver.port ++ (to_be_bytes w16 count ++ to_be_bytes w16 sum))

-- A UDP datagram with a payload: its length field is its length, and the one's complement sum of its words with those of
-- the pseudo header is all ones. A checksum of zero would say that there is none.
pub record IsUdp (journey : Journey) (payload bytes : List ℕ) : Type 0 where
  pub sum : ℕ
  pub spelled : bytes ≡ udp_header journey (length bytes) sum ++ payload
  pub fits : length bytes < 65536
  pub some : sum ≢ 0
  pub sums : ones_sum (pseudo_header journey (length bytes) ++ bytes) ≡ 65535

-- The header of a packet, in 5 words of 32 bits: version 4, no special service; the length of the whole packet; no
-- identification, since it isn't to be taken apart; 64 hops at most, the protocol UDP; its checksum; the addresses.
abbrev pub ipv4_header : Journey → ℕ → ℕ → List ℕ
ipv4_header journey count sum =
    0x45 ∷ 0 ∷ to_be_bytes w16 count
    ++ (0 ∷ 0 ∷ 0x40 ∷ 0
    ∷ 64 ∷ 17 ∷ to_be_bytes w16 sum
    ++ (journey.sender.address ++ journey.receiver.address))

-- Addresses have four bytes.
pub record HasAddresses (journey : Journey) : Type 0 where
  pub sender : length journey.sender.address ≡ 4
  pub receiver : length journey.receiver.address ≡ 4

-- A packet of IPv4 with its data: its length field is its length, and the one's complement sum of the words of its header
-- is all ones.
pub record IsIpv4 (journey : Journey) (contents bytes : List ℕ) : Type 0 where
  pub sum : ℕ
  pub spelled : bytes ≡ ipv4_header journey (length bytes) sum ++ contents
  pub fits : length bytes < 65536
  pub sums : ones_sum (ipv4_header journey (length bytes) sum) ≡ 65535
  pub addresses : HasAddresses journey

-- a packet of IPv4 that carries a payload as a UDP datagram
pub record IsPacket (journey : Journey) (payload bytes : List ℕ) : Type 0 where
  pub datagram : List ℕ
  pub carries : IsUdp journey payload datagram
  pub is : IsIpv4 journey datagram bytes

-- ---- exactly which bytes they are

-- a checksum that comes out as zero is sent as all ones
abbrev pub shown_checksum : ℕ → ℕ
shown_checksum sum = if sum == 0 then 65535 else sum

abbrev pub udp_checksum : Journey → List ℕ → ℕ
udp_checksum journey payload =
    let count = 8 + length payload
    in shown_checksum (checksum (pseudo_header journey count ++ (udp_header journey count 0 ++ payload)))

unfoldable pub udp_bytes : Journey → List ℕ → List ℕ
udp_bytes journey payload = udp_header journey (8 + length payload) (udp_checksum journey payload) ++ payload

abbrev pub ipv4_checksum : Journey → ℕ → ℕ
ipv4_checksum journey count = checksum (ipv4_header journey count 0)

unfoldable pub packet_bytes : Journey → List ℕ → List ℕ
packet_bytes journey payload =
    let count = 20 + (8 + length payload)
    in ipv4_header journey count (ipv4_checksum journey count) ++ udp_bytes journey payload
