-- The blocks of a capture are what they must be.
use Rattle.std.proofs.Common.{◌≡◌, ℕ, ◌+◌, ◌-◌, ◌%◌, ◌^◌, ◌<◌, ◌≤◌, List, [], ◌∷◌, ◌++◌, length, replicate, take, refl, arith, length-append}
use Rattle.std.specs.Int.{w32, to_le_bytes}
use Rattle.std.proofs.lemmas.List.{length-replicate, take-replicate}
use Rattle.capture_file.specs.Journeys.{Sent}
use Rattle.capture_file.specs.Blocks.{IsBlock, IsPacketBlock, SECTION_HEADER, section_body, INTERFACE_DESCRIPTION, interface_body, ENHANCED_PACKET, padded, options, enhanced_body, block, packet_block, head}
use Rattle.capture_file.specs.Captures.{IsCapture, begins, goes_on}
use Rattle.capture_file.specs.Internet.{HasAddresses, packet_bytes}
use Rattle.capture_file.proofs.Packets.{is_packet, packet_length}

-- ---- blocks

block_length : (kind : ℕ) (body : List ℕ) → length (block kind body) ≡ length body + 12
unfolding block
block_length kind body = omega (arith, length-append body (to_le_bytes w32 (length body + 12)))

block_of : (kind count : ℕ) (body bytes : List ℕ) → length bytes ≡ count → bytes ≡ to_le_bytes w32 kind ++ (to_le_bytes w32 count ++ (body ++ to_le_bytes w32 count))
    → count % 4 ≡ 0 → count < 2 ^ 32 → IsBlock kind body bytes
block_of kind count body bytes long spelled whole small = record {
  spelled = rw long spelled;
  whole = rw long whole;
  fits = rw long small;
}

is_block : (kind : ℕ) (body : List ℕ) → length body % 4 ≡ 0 → length body + 12 < 2 ^ 32 → IsBlock kind body (block kind body)
unfolding block
is_block kind body whole small =
    block_of kind (length body + 12) body (block kind body) (block_length kind body) refl (omega (arith, whole)) small

-- ---- what is in them

pub zeros_taken : (n : ℕ) → n ≤ 3 → take n (replicate {A = ℕ} 3 0) ≡ replicate n 0
zeros_taken n few = take-replicate {X = ℕ} n 3 0 few

padded_length : (bytes : List ℕ) → length (padded bytes) ≡ length bytes + (4 - length bytes % 4) % 4
padded_length bytes =
    let lacking : ℕ = (4 - length bytes % 4) % 4 in
    omega (arith, length-append bytes (replicate {A = ℕ} lacking 0), length-replicate {A = ℕ} lacking 0)

pub record IsOptions (comment : List ℕ) : Type 0 where
  pub whole : length (options comment) % 4 ≡ 0
  pub most : length (options comment) ≤ length comment + 11

options_are : (comment : List ℕ) → IsOptions comment
options_are [] = record { whole = refl; most = omega arith }
options_are (first ∷ more) =
    let comment : List ℕ = first ∷ more in
    let long = length-append (padded comment) (replicate {A = ℕ} 4 0) in
    let each = padded_length comment in
    record { whole = omega (arith, long, each); most = omega (arith, long, each) }

body_length : (time : ℕ) (packet comment : List ℕ) → length (enhanced_body time packet comment) ≡ 20 + (length packet + (4 - length packet % 4) % 4) + length (options comment)
body_length time packet comment = omega (arith, length-append (padded packet) (options comment), padded_length packet)

body_whole : (time : ℕ) (packet comment : List ℕ) → length (enhanced_body time packet comment) % 4 ≡ 0
body_whole time packet comment =
    let long = body_length time packet comment in
    let rest = (options_are comment).whole in
    omega (arith, long, rest)

pub body_most : (time : ℕ) (packet comment : List ℕ) → length packet ≤ 540 → length comment ≤ 512 → length (enhanced_body time packet comment) ≤ 2048
body_most time packet comment few short =
    let long = body_length time packet comment in
    let rest = (options_are comment).most in
    omega (arith, long, rest, few, short)

-- ---- captures

pub head_is : IsCapture [] head
head_is = begins (is_block SECTION_HEADER section_body refl (omega arith)) (is_block INTERFACE_DESCRIPTION interface_body refl (omega arith))

pub is_packet_block : (one : Sent) → length one.payload ≤ 512 → length one.comment ≤ 512 → HasAddresses one.journey → IsPacketBlock one (packet_block one)
is_packet_block one few short known =
    let packet : List ℕ = packet_bytes one.journey one.payload in
    let long = packet_length one.journey one.payload known in
    let most = body_most one.journey.time packet one.comment (omega (arith, long, few)) short in
    record {
      packet = packet;
      carries = is_packet one.journey one.payload few known;
      is = is_block ENHANCED_PACKET (enhanced_body one.journey.time packet one.comment) (body_whole one.journey.time packet one.comment) (omega (arith, most));
    }

pub one_more : (sent : List Sent) (one : Sent) (before : List ℕ) → length one.payload ≤ 512 → length one.comment ≤ 512 → HasAddresses one.journey
    → IsCapture sent before → IsCapture (sent ++ one ∷ []) (before ++ packet_block one)
one_more sent one before few short known is = goes_on is (is_packet_block one few short known)
