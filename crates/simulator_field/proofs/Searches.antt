-- The searches for copies, over what a network keeps.
use Rattle.std.proofs.Common.{◌≡◌, sym, ap, ◌∙◌, ℕ, ◌+◌, ◌-◌, ◌≤◌, ◌<◌, true, false, List, map, [], ◌∷◌, ◌++◌, length, get_or, Some, None, IfSome, IfNone, Option, arith}
use Rattle.std.specs.Option.{option_map}
use Rattle.std.proofs.Math.ListN.{set}
use Rattle.std.proofs.lemmas.List.{get_or_default, length-map, map-set, map_push}
use Rattle.place_index.specs.Places.{HasNoneBefore, HasNoneFrom, IsFirstFrom, IsLastBefore, key_at, key_of, no_key}
use Rattle.simulator_spec.specs.rasta_core.Bag.{is_copy, newest_copy}
use Rattle.simulator_spec.specs.rasta_core.Ends.{Sent}
use Rattle.simulator_spec.specs.rasta_core.Links.{OnLink}
use Rattle.simulator_spec.specs.rasta_core.identity.Role.TheVariants as role
use Rattle.simulator_field.specs.Network.{IsOldestCopy, datagrams}
use Rattle.simulator_field.specs.declared.entry.Entry.{Entry}
use Rattle.simulator_field.specs.inside.Entries.{AreKept, AreWithin, on_link, on_links}
use Rattle.simulator_field.specs.inside.Indexed.{key_of_sent, keys_of}
use Rattle.simulator_field.proofs.Copies.{HasKey, SearchedBack, SearchedOn, back_more, newest_found, newest_too_old, newest_until, oldest_is, on_more, place_within}
use Rattle.simulator_field.proofs.Kept.{as_many, at_place, datagram_at, entries_sent, with_bytes}

-- what a place beyond the last would be read as
abbrev pub no_entry : Entry
no_entry = record { start = 0; length = 0; at = 0; connection = 0; link = 0; sender = role.Client; is_lost = false }

abbrev pub copies : List ℕ → List Entry → List Sent
copies row entries = datagrams (on_links row entries)

-- what is read at a place
read : (entries : List Entry) (place : ℕ) (none : Entry) → place < length entries → get_or entries place none ≡ get_or entries place (get_or entries place none)
read entries place none below = get_or_default entries place none (get_or entries place none) below

-- as many entries as keys
place_below : (keys bytes row : List ℕ) (entries : List Entry) (place : ℕ) → keys ≡ keys_of row entries → HasKey bytes keys (Some place) → place < length entries
place_below keys bytes row entries place indexed has =
    let there : place < length (copies row entries) = place_within bytes keys (copies row entries) place indexed has
    in omega (arith, as_many row entries)

-- what the searches know of the entries
abbrev pub KnowsBack : List ℕ → List ℕ → List ℕ → List Entry → Option ℕ → Type 0
KnowsBack bytes keys row entries found = SearchedBack bytes keys (copies row entries) found

abbrev pub KnowsOn : List ℕ → List ℕ → List ℕ → List Entry → Option ℕ → Type 0
KnowsOn bytes keys row entries found = SearchedOn bytes keys (copies row entries) found

pub back_within : (bytes keys row : List ℕ) (entries : List Entry) (place : ℕ) → keys ≡ keys_of row entries → KnowsBack bytes keys row entries (Some place) → place < length entries
back_within bytes keys row entries place indexed knows = place_below keys bytes row entries place indexed knows.1

pub on_within : (bytes keys row : List ℕ) (entries : List Entry) (place : ℕ) → keys ≡ keys_of row entries → KnowsOn bytes keys row entries (Some place) → place < length entries
on_within bytes keys row entries place indexed knows = place_below keys bytes row entries place indexed knows.1

pub none_alive : (time : ℕ) (bytes keys row : List ℕ) (entries : List Entry) (place : ℕ) (none : Entry) → AreKept time row entries → keys ≡ keys_of row entries → KnowsBack bytes keys row entries (Some place)
    → 2000000 < time - (get_or entries place none).at
    → None ≡ option_map (λ (s : Sent). s.connection) (newest_copy time bytes (copies row entries))
none_alive time bytes keys row entries place none kept indexed knows too_old =
    let below : place < length entries = back_within bytes keys row entries place indexed knows
    in let one = get_or entries place none
    in let is_one = datagram_at row entries place one below (read entries place none below)
    in let found = newest_too_old time time bytes (copies row entries) place (on_link row one).datagram kept.in_order (omega (arith, as_many row entries)) is_one (omega arith)
    in ap (option_map (λ (s : Sent). s.connection)) (sym found ∙ newest_until time bytes (copies row entries) (place + 1) knows.0)

pub newest_there : (time : ℕ) (bytes keys row : List ℕ) (entries : List Entry) (place : ℕ) (none : Entry) → keys ≡ keys_of row entries → KnowsBack bytes keys row entries (Some place)
    → time - (get_or entries place none).at ≤ 2000000
    → is_copy bytes (on_link row (get_or entries place none)).datagram ≡ true
    → Some (get_or entries place none).connection ≡ option_map (λ (s : Sent). s.connection) (newest_copy time bytes (copies row entries))
newest_there time bytes keys row entries place none indexed knows in_time copy =
    let below : place < length entries = back_within bytes keys row entries place indexed knows
    in let one = get_or entries place none
    in let is_one = datagram_at row entries place one below (read entries place none below)
    in let found = newest_found time bytes (copies row entries) place (on_link row one).datagram (omega (arith, as_many row entries)) is_one (omega arith) copy
    in ap (option_map (λ (s : Sent). s.connection)) (sym found ∙ newest_until time bytes (copies row entries) (place + 1) knows.0)

pub newest_before : (bytes keys row : List ℕ) (entries : List Entry) (place : ℕ) (none : Entry) (found : Option ℕ) → keys ≡ keys_of row entries → KnowsBack bytes keys row entries (Some place)
    → is_copy bytes (on_link row (get_or entries place none)).datagram ≡ false
    → IfSome found (IsLastBefore place (key_at keys place) keys) → IfNone found (HasNoneBefore place (key_at keys place) keys) → KnowsBack bytes keys row entries found
newest_before bytes keys row entries place none found indexed knows no_copy last nothing =
    let below : place < length entries = back_within bytes keys row entries place indexed knows
    in let one = get_or entries place none
    in let is_one = datagram_at row entries place one below (read entries place none below)
    in back_more bytes keys (copies row entries) place (on_link row one).datagram found indexed knows is_one no_copy last nothing

pub oldest_there : (bytes keys row : List ℕ) (entries : List Entry) (place : ℕ) (none : Entry) → keys ≡ keys_of row entries → KnowsOn bytes keys row entries (Some place)
    → is_copy bytes (on_link row (get_or entries place none)).datagram ≡ true → IsOldestCopy place bytes (on_links row entries)
oldest_there bytes keys row entries place none indexed knows copy =
    let below : place < length entries = on_within bytes keys row entries place indexed knows
    in let one = get_or entries place none
    in let is_one = at_place row entries place one below (read entries place none below)
    in let within : place < length (on_links row entries) = omega (arith, length-map entries (on_link row))
    in let oldest = oldest_is bytes (on_links row entries) place (on_link row one) within is_one copy knows.0
    in record { one = on_link row one; below = within; there = is_one; found = oldest.0; without = oldest.1 }

pub oldest_later : (bytes keys row : List ℕ) (entries : List Entry) (place : ℕ) (none : Entry) (found : Option ℕ) → keys ≡ keys_of row entries → KnowsOn bytes keys row entries (Some place)
    → is_copy bytes (on_link row (get_or entries place none)).datagram ≡ false
    → IfSome found (IsFirstFrom (place + 1) (key_at keys place) keys) → IfNone found (HasNoneFrom (place + 1) (key_at keys place) keys) → KnowsOn bytes keys row entries found
oldest_later bytes keys row entries place none found indexed knows no_copy first nothing =
    let below : place < length entries = on_within bytes keys row entries place indexed knows
    in let one = get_or entries place none
    in let is_one = datagram_at row entries place one below (read entries place none below)
    in on_more bytes keys (copies row entries) place (on_link row one).datagram found indexed knows is_one no_copy first nothing

-- the keys as datagrams come and are lost
pub keys-sent : (keys row bytes : List ℕ) (entries : List Entry) (entry : Entry) → AreWithin row entries → keys ≡ keys_of row entries → entry.start ≡ length row → entry.length ≡ length bytes → key_of_sent (with_bytes entry bytes).datagram ≡ key_of bytes
    → keys ++ key_of bytes ∷ [] ≡ keys_of (row ++ bytes) (entries ++ entry ∷ [])
keys-sent keys row bytes entries entry within indexed starts ends key =
    let sent = ap datagrams (entries_sent row bytes entries entry within starts ends) ∙ map_push (λ (one : OnLink). one.datagram) (on_links row entries) (with_bytes entry bytes)
    in ap (λ k. k ++ key_of bytes ∷ []) indexed
    ∙ ap (λ k. keys_of row entries ++ k ∷ []) (sym key)
    ∙ sym (ap (map key_of_sent) sent ∙ map_push key_of_sent (copies row entries) (with_bytes entry bytes).datagram)

pub keys-lost : (keys row : List ℕ) (entries : List Entry) (place : ℕ) (new : Entry) → keys ≡ keys_of row entries → key_of_sent (on_link row new).datagram ≡ no_key
    → set keys place no_key ≡ keys_of row (set entries place new)
keys-lost keys row entries place new indexed none =
    let sent = ap datagrams (map-set (on_link row) entries place new) ∙ map-set (λ (one : OnLink). one.datagram) (on_links row entries) place (on_link row new)
    in ap (λ k. set k place no_key) indexed
    ∙ ap (set (keys_of row entries) place) (sym none)
    ∙ sym (ap (map key_of_sent) sent ∙ map-set key_of_sent (copies row entries) place (on_link row new).datagram)

pub as_many_keys : (keys row : List ℕ) (entries : List Entry) → keys ≡ keys_of row entries → length keys ≡ length entries
as_many_keys keys row entries indexed = ap length indexed ∙ length-map (copies row entries) key_of_sent ∙ as_many row entries
