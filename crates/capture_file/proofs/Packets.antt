-- The bytes of a packet are what they must be.
use Rattle.std.proofs.Common.{◌≡◌, ◌≢◌, ℕ, ◌+◌, ◌-◌, ◌/◌, ◌%◌, ◌<◌, ◌≤◌, List, [], ◌∷◌, ◌++◌, ◌∙◌, length, refl, ap, arith, length-append}
use Rattle.capture_file.specs.declared.journey.Journey.{Journey}
use Rattle.capture_file.specs.Checksum.{word_sum, folded, ones_sum}
use Rattle.capture_file.specs.Internet.{HasAddresses, IsUdp, IsIpv4, IsPacket, pseudo_header, udp_header, ipv4_header, udp_bytes, udp_checksum, ipv4_checksum, packet_bytes, shown_checksum}
use Rattle.capture_file.proofs.Sums.{word_sum-append, all_ones, all_ones_shown}

pseudo_length : (journey : Journey) (count : ℕ) → HasAddresses journey → length (pseudo_header journey count) ≡ 12
pseudo_length journey count known =
    omega (
      arith,
      length-append journey.sender.address (journey.receiver.address ++ 0 ∷ 17 ∷ count / 256 % 256 ∷ count % 256 ∷ []),
      length-append journey.receiver.address (0 ∷ 17 ∷ count / 256 % 256 ∷ count % 256 ∷ []),
      known.sender,
      known.receiver,
    )

-- A checksum in its place adds itself to the sum of a datagram's words.
udp_sum : (journey : Journey) (payload : List ℕ) (count told : ℕ) → told < 65536
    → word_sum (udp_header journey count told ++ payload) ≡ word_sum (udp_header journey count 0 ++ payload) + told
unfolding word_sum
udp_sum journey payload count told small = omega (arith, small)

pub udp_length : (journey : Journey) (payload : List ℕ) → length (udp_bytes journey payload) ≡ 8 + length payload
unfolding udp_bytes
udp_length journey payload = omega arith

shown_some : (sum : ℕ) → shown_checksum (65535 - sum) ≢ 0
shown_some sum = grind arith

shown_small : (sum : ℕ) → shown_checksum (65535 - sum) < 65536
shown_small sum = grind arith

-- what makes bytes a datagram, where their length is known
udp_of : (journey : Journey) (payload bytes : List ℕ) (count told : ℕ) → length bytes ≡ count → count < 65536 → bytes ≡ udp_header journey count told ++ payload
    → told ≢ 0 → ones_sum (pseudo_header journey count ++ bytes) ≡ 65535 → IsUdp journey payload bytes
udp_of journey payload bytes count told long small spelled some sums = record {
  sum = told;
  spelled = rw long spelled;
  fits = rw long small;
  some = some;
  sums = rw long sums;
}

udp_sums : (journey : Journey) (payload : List ℕ) (count told : ℕ) → HasAddresses journey → told < 65536
    → told ≡ shown_checksum (65535 - folded (word_sum (pseudo_header journey count ++ (udp_header journey count 0 ++ payload))))
    → folded (word_sum (pseudo_header journey count ++ (udp_header journey count told ++ payload))) ≡ 65535
udp_sums journey payload count told known small is =
    let pseudo : List ℕ = pseudo_header journey count in
    let even : length pseudo % 2 ≡ 0 = omega (arith, pseudo_length journey count known) in
    let before = word_sum-append pseudo (udp_header journey count 0 ++ payload) even in
    let now = word_sum-append pseudo (udp_header journey count told ++ payload) even in
    let added : word_sum (pseudo ++ (udp_header journey count told ++ payload)) ≡ word_sum (pseudo ++ (udp_header journey count 0 ++ payload)) + told =
    omega (arith, before, now, udp_sum journey payload count told small) in
    ap (λ n. folded n) added ∙ all_ones_shown (word_sum (pseudo ++ (udp_header journey count 0 ++ payload))) told is

pub is_udp : (journey : Journey) (payload : List ℕ) → length payload ≤ 512 → HasAddresses journey → IsUdp journey payload (udp_bytes journey payload)
unfolding udp_bytes
is_udp journey payload short known =
    let count : ℕ = 8 + length payload in
    let sum : ℕ = ones_sum (pseudo_header journey count ++ (udp_header journey count 0 ++ payload)) in
    let small : udp_checksum journey payload < 65536 = shown_small sum in
    udp_of journey payload (udp_bytes journey payload) count (udp_checksum journey payload) (udp_length journey payload) (omega (arith, short)) refl (shown_some sum)
    (udp_sums journey payload count (udp_checksum journey payload) known small refl)

-- ---- packets

header_sum : (journey : Journey) (count told : ℕ) → told < 65536 → word_sum (ipv4_header journey count told) ≡ word_sum (ipv4_header journey count 0) + told
unfolding word_sum
header_sum journey count told small = omega (arith, small)

header_sums : (journey : Journey) (count told : ℕ) → told ≡ 65535 - folded (word_sum (ipv4_header journey count 0)) → folded (word_sum (ipv4_header journey count told)) ≡ 65535
header_sums journey count told is =
    ap (λ n. folded n) (header_sum journey count told (omega (arith, is))) ∙ all_ones (word_sum (ipv4_header journey count 0)) told is

header_length : (journey : Journey) (count told : ℕ) → HasAddresses journey → length (ipv4_header journey count told) ≡ 20
header_length journey count told known = omega (arith, length-append journey.sender.address journey.receiver.address, known.sender, known.receiver)

ipv4_of : (journey : Journey) (contents bytes : List ℕ) (count told : ℕ) → length bytes ≡ count → count < 65536 → bytes ≡ ipv4_header journey count told ++ contents
    → ones_sum (ipv4_header journey count told) ≡ 65535 → HasAddresses journey → IsIpv4 journey contents bytes
ipv4_of journey contents bytes count told long small spelled sums known = record {
  sum = told;
  spelled = rw long spelled;
  fits = rw long small;
  sums = rw long sums;
  addresses = known;
}

pub packet_length : (journey : Journey) (payload : List ℕ) → HasAddresses journey → length (packet_bytes journey payload) ≡ 20 + (8 + length payload)
unfolding packet_bytes
packet_length journey payload known =
    let count : ℕ = 20 + (8 + length payload) in
    let header : List ℕ = ipv4_header journey count (ipv4_checksum journey count) in
    omega (arith, length-append header (udp_bytes journey payload), header_length journey count (ipv4_checksum journey count) known, udp_length journey payload)

pub is_packet : (journey : Journey) (payload : List ℕ) → length payload ≤ 512 → HasAddresses journey → IsPacket journey payload (packet_bytes journey payload)
unfolding packet_bytes
is_packet journey payload short known =
    let count : ℕ = 20 + (8 + length payload) in
    record {
      datagram = udp_bytes journey payload;
      carries = is_udp journey payload short known;
      is = ipv4_of journey (udp_bytes journey payload) (packet_bytes journey payload) count (ipv4_checksum journey count) (packet_length journey payload known)
          (omega (arith, short)) refl (header_sums journey count (ipv4_checksum journey count) refl) known;
    }

-- ---- what the code adds up

pub udp_checksum_told : (journey : Journey) (payload : List ℕ) (pseudo header rest told : ℕ) → HasAddresses journey
    → pseudo ≡ word_sum (pseudo_header journey (8 + length payload)) → header ≡ word_sum (udp_header journey (8 + length payload) 0) → rest ≡ word_sum payload
    → told + folded (pseudo + header + rest) ≡ 65535 → udp_checksum journey payload ≡ shown_checksum told
udp_checksum_told journey payload pseudo header rest told known p h r e =
    let count : ℕ = 8 + length payload in
    let even : length (pseudo_header journey count) % 2 ≡ 0 = omega (arith, pseudo_length journey count known) in
    let first = word_sum-append (pseudo_header journey count) (udp_header journey count 0 ++ payload) even in
    let second = word_sum-append (udp_header journey count 0) payload refl in
    let all : word_sum (pseudo_header journey count ++ (udp_header journey count 0 ++ payload)) ≡ pseudo + header + rest = omega (arith, first, second, p, h, r) in
    let is : 65535 - folded (pseudo + header + rest) ≡ told = omega (arith, e) in
    ap (λ n. shown_checksum (65535 - folded n)) all ∙ ap (λ n. shown_checksum n) is

pub pseudo_sum : (journey : Journey) (count : ℕ) → HasAddresses journey → count < 65536
    → word_sum (pseudo_header journey count) ≡ word_sum journey.sender.address + word_sum journey.receiver.address + 17 + count
unfolding word_sum
pseudo_sum journey count known small =
    let rest : List ℕ = 0 ∷ 17 ∷ count / 256 % 256 ∷ count % 256 ∷ [] in
    let first = word_sum-append journey.sender.address (journey.receiver.address ++ rest) (omega (arith, known.sender)) in
    let second = word_sum-append journey.receiver.address rest (omega (arith, known.receiver)) in
    omega (arith, first, second, small)
