-- What is delivered in a world may come at its links.
use Rattle.std.proofs.Common.{◌≡◌, inl, inr, ℕ, ◌+◌, ◌≤◌, Bool, true, false, List, [], ◌∷◌, Option, Some, None, IsTrue, refl, sym, ap, subst, ◌∙◌}
use Rattle.std.specs.Prelude.{◌&&◌, ◌↔◌, is_none}
use Rattle.std.proofs.lemmas.Bool.{true≢false}
use Rattle.simulator_spec.specs.layout.Entries.{Site}
use Rattle.simulator_spec.specs.rasta_core.Bag.{newest_copy}
use Rattle.simulator_spec.specs.rasta_core.Ends.{Receives, Sent}
use Rattle.simulator_spec.specs.rasta_core.Events.{IsAmong, IsDelivered}
use Rattle.simulator_spec.specs.rasta_core.Links.{IsAmongAll, Links, MayCallOn, OnLink, WasSent, seen}
use Rattle.simulator_spec.specs.rasta_core.Run.{Ends}
use Rattle.simulator_spec.specs.rasta_pdu.SafetyCode.{IsIntact, intact}
use Rattle.simulator_spec.specs.rasta_pdu.declared.key.Key.{Key}
use Rattle.simulator_spec.specs.simulator_event.refused.Refused.TheVariants as refused
use Rattle.simulator_spec.specs.Links.{AreLinksOf, names_at}
use Rattle.simulator_spec.specs.Network.{connection_of, copy_of, datagrams_of}
use Rattle.simulator_spec.specs.Nodes.{key_of}
use Rattle.simulator_spec.specs.Refusals.{is_missing, refused_where}
use Rattle.simulator_spec.specs.State.{WorldState}
use Rattle.simulator_link_laws.proofs.Later.{not_refused}

abbrev pub CopiesAreDelivered : Type 0
CopiesAreDelivered = (ends : Ends) (bytes : List ℕ) (datagram : Sent) → newest_copy ends.time bytes ends.sent ≡ Some datagram → IsDelivered ends bytes datagram.connection datagram

abbrev pub IntactIsTested : Type 0
IntactIsTested = (key : Key) (bytes : List ℕ) → IsTrue (intact key bytes) ↔ IsIntact key bytes

-- a datagram of a list without links is one with its link
on_a_link : (datagram : Sent) (sent : List OnLink) → IsAmong datagram (datagrams_of sent) → (one : OnLink) × IsAmongAll one sent × (one.datagram ≡ datagram)
on_a_link datagram [] among = absurd among
on_a_link datagram (first ∷ others) (inl same) = (first, inl refl, same)
on_a_link datagram (first ∷ others) (inr later) = let found = on_a_link datagram others later in (found.0, inr found.1, found.2)

-- a copy that can be delivered was sent on some link
copy_was_sent : CopiesAreDelivered → (site : Site) (world : WorldState) (before : Links) (bytes : List ℕ) (datagram : Sent) → AreLinksOf site world before → copy_of bytes world ≡ Some datagram
    → (one : OnLink) × WasSent before bytes datagram.connection one
copy_was_sent delivered site world before bytes datagram are found =
    let all : Ends = record (seen 0 before) { time = world.time; sent = datagrams_of world.sent }
    in let is : IsDelivered all bytes datagram.connection datagram = delivered all bytes datagram found
    in let one = on_a_link datagram world.sent is.was_sent
    in (
      one.0,
      record {
        among = subst (λ (s : List OnLink). IsAmongAll one.0 s) (sym are.sent_is) one.1;
        bytes_same = ap (λ (s : Sent). s.bytes) one.2 ∙ is.bytes_same;
        connection_same = ap (λ (s : Sent). s.connection) one.2;
        in_time = subst (λ (t : ℕ). t ≤ one.0.datagram.at + 2000000) (sym are.time_is) (subst (λ (s : Sent). world.time ≤ s.at + 2000000) (sym one.2) is.in_time);
      },
    )

-- the tests of a delivery that isn't refused: there is a copy, or the bytes aren't intact
pub record IsDeliverable (site : Site) (bytes : List ℕ) (world : WorldState) : Type 0 where
  pub copy_or_damaged : (is_none (copy_of bytes world) && intact (key_of site) bytes) ≡ false

pub deliverable : (site : Site) (node : ℕ) (bytes : List ℕ) (world : WorldState)
    → refused_where (is_missing node site) refused.NoSuchNode (refused_where (is_none (copy_of bytes world) && intact (key_of site) bytes) refused.NeverSent None) ≡ None → IsDeliverable site bytes world
deliverable site node bytes world none =
    let first = not_refused (is_missing node site) refused.NoSuchNode _ none
    in record { copy_or_damaged = (not_refused (is_none (copy_of bytes world) && intact (key_of site) bytes) refused.NeverSent None first.1).0 }

true_is : (b : Bool) → IsTrue b → b ≡ true
true_is true is = refl
true_is false is = absurd (cc (is))

pub delivery_may : CopiesAreDelivered → IntactIsTested → (site : Site) (world : WorldState) (before : Links) (bytes : List ℕ) (link : ℕ) → AreLinksOf site world before → IsDeliverable site bytes world
    → MayCallOn (names_at site link) (Receives bytes (connection_of (copy_of bytes world))) before
delivery_may delivered tested site world before bytes link are is = cases (copy_of bytes world) refl is.copy_or_damaged where
  cases : (found : Option Sent) → copy_of bytes world ≡ found → (is_none found && intact (key_of site) bytes) ≡ false → MayCallOn (names_at site link) (Receives bytes (connection_of found)) before
  cases (Some datagram) found fits = inl (copy_was_sent delivered site world before bytes datagram are found)
  cases None found fits = inr (λ whole. true≢false (sym (true_is (intact (key_of site) bytes) ((tested (key_of site) bytes).1 whole)) ∙ fits))
