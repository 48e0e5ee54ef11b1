-- What contracts see of a network after a change of what it keeps.
use Rattle.std.proofs.Common.{◌≡◌, refl, sym, ap, ◌∙◌, ℕ, zero, suc, ◌+◌, ◌-◌, ◌<◌, true, false, not, List, [], ◌∷◌, ◌++◌, length, drop, get_or, Option, Some, None, add-one, arith}
use Rattle.std.specs.Prelude.{slice_get, unwrap_or}
use Rattle.std.proofs.Math.ListN.{set}
use Rattle.std.proofs.lemmas.List.{get_or_default, length-drop, length-map, map-set}
use Rattle.std.proofs.lemmas.Option.{same_Some}
use Rattle.simulator_spec.specs.rasta_core.Ends.{handed_out}
use Rattle.simulator_spec.specs.rasta_core.Links.{OnLink, sent_on}
use Rattle.simulator_spec.specs.rasta_core.identity.Role.{Role}
use Rattle.simulator_field.specs.Bag.{not_lost}
use Rattle.simulator_field.specs.Network.{NetworkState, lost}
use Rattle.simulator_field.specs.declared.entry.Entry.{Entry}
use Rattle.simulator_field.specs.inside.Entries.{AreKept, on_link, on_links}
use Rattle.simulator_field.proofs.Kept.{at_place, entries_sent}

abbrev seen : ℕ → List ℕ → List Entry → ℕ → NetworkState
seen time row entries room = record { time = time; sent = on_links row entries; room = room }

-- an entry as it is made
abbrev pub new_entry : ℕ → ℕ → ℕ → ℕ → ℕ → Role → Entry
new_entry start length at connection link sender = record {
  start = start;
  length = length;
  at = at;
  connection = connection;
  link = link;
  sender = sender;
  is_lost = false;
}

numbered : (connection : Option ℕ) (link time : ℕ) (sender : Role) (bytes : List ℕ)
    → (record { link = link; datagram = record { bytes = bytes; at = time; sender = sender; connection = unwrap_or connection 0; is_lost = false } }) ∷ [] ≡ sent_on link (handed_out time sender connection (bytes ∷ []))
numbered None link time who bytes = refl
numbered (Some entered) link time who bytes = refl

pub seen_sent : (time room start number link : ℕ) (row own bytes new_row : List ℕ) (entries new_entries : List Entry) (sender : Role) (connection : Option ℕ) (state : NetworkState)
    → seen time row entries room ≡ state → AreKept time row entries → start ≡ length row → own ≡ bytes → new_row ≡ row ++ own
    → new_entries ≡ entries ++ new_entry start (length own) time number link sender ∷ [] → number ≡ unwrap_or connection 0
    → seen time new_row new_entries (room - 1) ≡ record state { sent = state.sent ++ sent_on link (handed_out state.time sender connection (bytes ∷ [])); room = state.room - 1 }
seen_sent time room start number link row own bytes new_row entries new_entries sender connection state is_seen kept starts own_is row_is entries_are number_is =
    let entry = new_entry start (length own) time number link sender
    in let as_bytes = λ (b : List ℕ) (n : ℕ). on_links row entries ++ (record { link = link; datagram = record { bytes = b; at = time; sender = sender; connection = n; is_lost = false } }) ∷ []
    in let sent : on_links new_row new_entries ≡ on_links row entries ++ sent_on link (handed_out time sender connection (bytes ∷ [])) =
    ap (λ r. on_links r new_entries) row_is
    ∙ ap (on_links (row ++ own)) entries_are
    ∙ entries_sent row own entries entry kept.within starts refl
    ∙ ap (λ b. as_bytes b number) own_is
    ∙ ap (as_bytes bytes) number_is
    ∙ ap (λ more. on_links row entries ++ more) (numbered connection link time sender bytes)
    in ap (λ all. record { time = time; sent = all; room = room - 1 }) sent
    ∙ ap (λ (s : NetworkState). record s { sent = s.sent ++ sent_on link (handed_out s.time sender connection (bytes ∷ [])); room = s.room - 1 }) is_seen

pub seen_lost : (time room place : ℕ) (row : List ℕ) (entries : List Entry) (entry new : Entry) (state : NetworkState) (one : OnLink)
    → seen time row entries room ≡ state → place < length entries → entry ≡ get_or entries place entry → on_link row new ≡ lost (on_link row entry)
    → one ≡ get_or state.sent place one → seen time row (set entries place new) room ≡ record state { sent = set state.sent place (lost one) }
seen_lost time room place row entries entry new state one is_seen below is_entry is_lost is_one =
    let sent = on_links row entries
    in let in_sent : one ≡ get_or sent place one = is_one ∙ ap (λ (s : NetworkState). get_or s.sent place one) (sym is_seen)
    in let same : on_link row entry ≡ one = at_place row entries place entry below is_entry ∙ get_or_default sent place (on_link row entry) one (omega (arith, length-map entries (on_link row))) ∙ sym in_sent
    in ap (λ all. record { time = time; sent = all; room = room }) (map-set (on_link row) entries place new ∙ ap (set sent place) (is_lost ∙ ap lost same))
    ∙ ap (λ (s : NetworkState). record s { sent = set s.sent place (lost one) }) is_seen

-- ---- what is left after a place

none_is_not_some : (one : OnLink) → None ≡ Some one → ⊥
none_is_not_some one same = cc

first_left : (sent : List OnLink) (place : ℕ) (one : OnLink) → slice_get sent place ≡ Some one → drop place sent ≡ one ∷ drop (suc place) sent
first_left [] place one there = absurd (none_is_not_some one there)
first_left (first ∷ later) zero one there = ap (λ o. o ∷ later) (same_Some first one there)
first_left (first ∷ later) (suc place) one there = first_left later place one there

-- one is left, and what is after it
pub record IsLeft (sent : List OnLink) (place : ℕ) (one : OnLink) : Type 0 where
  pub first : drop place sent ≡ one ∷ drop (place + 1) sent
  pub below : place < length sent

pub is_left : (sent : List OnLink) (place : ℕ) (one : OnLink) → slice_get sent place ≡ Some one → IsLeft sent place one
is_left sent place one there =
    let left : drop place sent ≡ one ∷ drop (place + 1) sent = rw add-one (first_left sent place one there)
    in record { first = left; below = omega (arith, ap length left, length-drop place sent) }

pub nothing_left : (sent : List OnLink) (place : ℕ) → slice_get sent place ≡ None → drop place sent ≡ []
nothing_left [] zero there = refl
nothing_left [] (suc place) there = refl
nothing_left (first ∷ later) zero there = absurd (none_is_not_some first (sym there))
nothing_left (first ∷ later) (suc place) there = nothing_left later place there

lost_first : (one : OnLink) (others : List OnLink) → not one.datagram.is_lost ≡ false → not_lost (one ∷ others) ≡ not_lost others
lost_first one others is_lost = rw is_lost refl

kept_first : (one : OnLink) (others : List OnLink) → not one.datagram.is_lost ≡ true → not_lost (one ∷ others) ≡ one ∷ not_lost others
kept_first one others is_kept = rw is_kept refl

pub passes : (sent : List OnLink) (place : ℕ) (one : OnLink) → slice_get sent place ≡ Some one → not one.datagram.is_lost ≡ false → not_lost (drop (place + 1) sent) ≡ not_lost (drop place sent)
passes sent place one there is_lost = sym (ap not_lost (is_left sent place one there).first ∙ lost_first one (drop (place + 1) sent) is_lost)

pub lends : (sent : List OnLink) (place : ℕ) (one : OnLink) → slice_get sent place ≡ Some one → not one.datagram.is_lost ≡ true → not_lost (drop place sent) ≡ one ∷ not_lost (drop (place + 1) sent)
lends sent place one there is_kept = ap not_lost (is_left sent place one there).first ∙ kept_first one (drop (place + 1) sent) is_kept
