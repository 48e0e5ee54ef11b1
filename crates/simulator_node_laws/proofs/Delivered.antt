-- Bytes that can be delivered left a node not long ago.
use Rattle.std.proofs.Common.{◌≡◌, ℕ, ◌+◌, ◌≤◌, zero, suc, Bool, true, false, List, [], ◌∷◌, map, Option, Some, None, is_none, slice_get, refl, sym, ap, subst, ◌∙◌}
use Rattle.std.specs.Prelude.{◌&&◌, nat_le, not}
use Rattle.std.specs.Str.{bytes_eq}
use Rattle.std.proofs.lemmas.Bool.{false≢true, true≢false}
use Rattle.std.proofs.lemmas.Option.{none-some, same_Some}
use Rattle.std.proofs.lemmas.Slice.Eq.{bytes_eq-Decides}
use Rattle.simulator_spec.specs.layout.Entries.{Site}
use Rattle.simulator_spec.specs.layout.Station.{IsStation}
use Rattle.simulator_spec.specs.rasta_core.Bag.{is_alive_copy, is_copy, lifetime, newest_copy}
use Rattle.simulator_spec.specs.rasta_core.Ends.{Sent}
use Rattle.simulator_spec.specs.rasta_core.Links.{OnLink}
use Rattle.simulator_spec.specs.rasta_pdu.SafetyCode.{intact}
use Rattle.simulator_spec.specs.ixl_spec.Table.{Table}
use Rattle.simulator_spec.specs.simulator_event.declared.event.Event.{Event}
use Rattle.simulator_spec.specs.simulator_event.declared.event.Event.TheVariants as event
use Rattle.simulator_spec.specs.simulator_event.layout.declared.ids.NodeId.{NodeId}
use Rattle.simulator_spec.specs.simulator_event.refused.Refused.{Refused}
use Rattle.simulator_spec.specs.First.{IsOutsetOf, Outset, world_at}
use Rattle.simulator_spec.specs.Network.{copy_of, datagrams_of}
use Rattle.simulator_spec.specs.Nodes.{key_of}
use Rattle.simulator_spec.specs.Refusals.{is_missing, refusal, refused_where}
use Rattle.simulator_spec.specs.Run.{after_all}
use Rattle.simulator_spec.specs.State.{WorldState}
use Rattle.ixl_table.specs.Table.{IsTableOf}
use Rattle.simulator_node_laws.specs.Said.{Departure, LeftInTime, departures_in, time_in}
use Rattle.simulator_node_laws.specs.Split.{sent_at}
use Rattle.simulator_node_laws.proofs.Clocks.{both_hold, no_more}
use Rattle.simulator_node_laws.proofs.Said.{all_times, time_behind, timed}

-- ---- the copy that a delivery delivers

record Found (time : ℕ) (bytes : List ℕ) (sent : List Sent) : Type 0 where
  pub place : ℕ
  pub one : Sent
  pub there : slice_get sent place ≡ Some one
  pub alive : is_alive_copy time bytes one ≡ true

found_in : (time : ℕ) (bytes : List ℕ) (sent : List Sent) → is_none (newest_copy time bytes sent) ≡ false → Found time bytes sent
found_in time bytes [] is = absurd (true≢false is)
found_in time bytes (first ∷ later) is = by_later (newest_copy time bytes later) refl (found_in time bytes later) where
  behind : Found time bytes later → Found time bytes (first ∷ later)
  behind found = record { place = suc found.place; one = found.one; there = found.there; alive = found.alive }

  none_here : newest_copy time bytes later ≡ None → is_alive_copy time bytes first ≡ false → is_none (newest_copy time bytes (first ∷ later)) ≡ true
  none_here none dead = rw (none, dead) refl

  by_test : newest_copy time bytes later ≡ None → (test : Bool) → is_alive_copy time bytes first ≡ test → Found time bytes (first ∷ later)
  by_test none true alive = record { place = zero; one = first; there = refl; alive = alive }
  by_test none false dead = absurd (true≢false (sym (none_here none dead) ∙ is))

  by_later : (copy : Option Sent) → newest_copy time bytes later ≡ copy → (is_none (newest_copy time bytes later) ≡ false → Found time bytes later) → Found time bytes (first ∷ later)
  by_later (Some other) is_other rest = behind (rest (ap is_none is_other))
  by_later None none rest = by_test none (is_alive_copy time bytes first) refl

-- ---- among those that left

as_sent : (sent : List OnLink) (place : ℕ) (one : Sent) → slice_get (datagrams_of sent) place ≡ Some one → slice_get (sent_at sent) place ≡ Some (one.bytes, one.at)
as_sent [] place one is = absurd (none-some one is)
as_sent (first ∷ others) zero one is = ap (λ (s : Sent). Some (s.bytes, s.at)) (same_Some first.datagram one is)
as_sent (first ∷ others) (suc place) one is = as_sent others place one is

pub mapped_from : {A B : Type 0} (f : A → B) (list : List A) (place : ℕ) (other : B) → slice_get (map f list) place ≡ Some other → (one : A) × (slice_get list place ≡ Some one) × (f one ≡ other)
mapped_from f [] place other is = absurd (none-some other is)
mapped_from f (first ∷ others) zero other is = (first, refl, same_Some (f first) other is)
mapped_from f (first ∷ others) (suc place) other is = mapped_from f others place other is

has_copy_where : (missing none is_intact : Bool) (one other : Refused) → refused_where missing one (refused_where (none && is_intact) other None) ≡ None → is_intact ≡ true → none ≡ false
has_copy_where true none is_intact one other allowed whole = absurd (none-some one (sym allowed))
has_copy_where false false is_intact one other allowed whole = refl
has_copy_where false true true one other allowed whole = absurd (none-some other (sym allowed))
has_copy_where false true false one other allowed whole = absurd (false≢true whole)

module _ (site : Site) (table : Table) (outset : Outset) (lies : IsOutsetOf site outset) (station : IsStation site) (is_table : IsTableOf site table) (events : List Event) where
  abbrev world : WorldState
  world = after_all site table events (world_at site table outset)

  left_so : (bytes : List ℕ) → Found world.time bytes (datagrams_of world.sent) → LeftInTime site table outset events bytes
  left_so bytes found =
      let left = mapped_from timed (departures_in site table outset [] events) found.place (found.one.bytes, found.one.at)
      (ap (λ l. slice_get l found.place) (sym (all_times site table outset lies station is_table events)) ∙ as_sent world.sent found.place found.one found.there)
      in let alive = both_hold (nat_le world.time (found.one.at + lifetime)) (is_copy bytes found.one) found.alive
      in let copy = both_hold (not found.one.is_lost) (bytes_eq found.one.bytes bytes) alive.1
      in let at : left.0.time ≡ found.one.at = ap (λ (p : List ℕ × ℕ). p.1) left.2
      in record {
        place = found.place;
        departure = left.0;
        left = left.1;
        same = ap (λ (p : List ℕ × ℕ). p.0) left.2 ∙ (bytes_eq-Decides found.one.bytes bytes).0 copy.1;
        in_time = subst (λ n. n ≤ left.0.time + lifetime) (time_behind site table outset lies station is_table events)
            (subst (λ n. world.time ≤ n + lifetime) (sym at) (no_more world.time (found.one.at + lifetime) alive.0));
      }

  pub left_in_time : (node : NodeId) (bytes : List ℕ) → refusal site (event.Deliver node bytes) world ≡ None → intact (key_of site) bytes ≡ true → LeftInTime site table outset events bytes
  unfolding refusal
  left_in_time node bytes allowed whole =
      left_so bytes (found_in world.time bytes (datagrams_of world.sent) (has_copy_where (is_missing node.0 site) (is_none (copy_of bytes world)) (intact (key_of site) bytes) _ _ allowed whole))
