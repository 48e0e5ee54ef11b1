-- Where nothing is lost each datagram that left not long ago can be delivered.
use Rattle.std.proofs.Common.{◌≡◌, ℕ, ◌+◌, ◌<◌, ◌≤◌, zero, suc, Bool, true, false, List, [], ◌∷◌, ◌++◌, map, length, Option, Some, None, is_none, slice_get, refl, sym, ap, subst, ◌∙◌, arith}
use Rattle.std.specs.Prelude.{◌&&◌, nat_le, not}
use Rattle.std.specs.Str.{bytes_eq}
use Rattle.std.proofs.lemmas.Bool.{false≢true, true≢false}
use Rattle.std.proofs.lemmas.Bool.Decides.{nat_tests}
use Rattle.std.proofs.lemmas.Option.{none-some, same_Some}
use Rattle.std.proofs.lemmas.Slice.Eq.{bytes_eq-Decides}
use Rattle.simulator_spec.specs.layout.Entries.{Site}
use Rattle.simulator_spec.specs.layout.Station.{IsStation}
use Rattle.simulator_spec.specs.rasta_core.Bag.{is_alive_copy, lifetime, newest_copy}
use Rattle.simulator_spec.specs.rasta_core.Ends.{Sent, handed_out}
use Rattle.simulator_spec.specs.rasta_core.Links.{OnLink, sent_on}
use Rattle.simulator_spec.specs.rasta_core.Outbox.{spellings}
use Rattle.simulator_spec.specs.rasta_core.identity.Role.{Role}
use Rattle.simulator_spec.specs.rasta_pdu.SafetyCode.{intact}
use Rattle.simulator_spec.specs.object_host.Behaviour.{Behaviour}
use Rattle.simulator_spec.specs.object_host.declared.input.Input.{Input}
use Rattle.simulator_spec.specs.signal_ctl.Signal.{signal_behaviour}
use Rattle.simulator_spec.specs.point_ctl.Controlled.{point_behaviour}
use Rattle.simulator_spec.specs.tds_ctl.Controlled.{detection_behaviour}
use Rattle.simulator_spec.specs.ixl_spec.Table.{Table}
use Rattle.simulator_spec.specs.simulator_event.declared.event.Event.{Event}
use Rattle.simulator_spec.specs.simulator_event.declared.event.Event.TheVariants as event
use Rattle.simulator_spec.specs.simulator_event.layout.declared.ids.NodeId.{NodeId}
use Rattle.simulator_spec.specs.simulator_event.refused.Refused.TheVariants as refused
use Rattle.simulator_spec.specs.First.{IsOutsetOf, Outset, world_at}
use Rattle.simulator_spec.specs.Happens.{detector_stepped, happens, interlocking_stepped, passed, point_stepped, signal_stepped, stepped_at}
use Rattle.simulator_spec.specs.Network.{copy_of, datagrams_of}
use Rattle.simulator_spec.specs.Nodes.{detector_link, key_of, node_at, nodes, point_link}
use Rattle.simulator_spec.specs.Controllers.{controller_after, sent_by_controller, step_of}
use Rattle.simulator_spec.specs.Interlocking.{Sending, interlocking_step, sending_all, sending_one}
use Rattle.simulator_spec.specs.Refusals.{is_missing, refusal, refused_where}
use Rattle.simulator_spec.specs.Run.{after_all}
use Rattle.simulator_spec.specs.State.{ClockedControllerState, WorldState}
use Rattle.ixl_table.specs.Table.{IsTableOf}
use Rattle.simulator_node_laws.specs.Said.{Departure, LeftInTime, NoneLost, departures_in, is_loss, time_in}
use Rattle.simulator_node_laws.specs.Split.{around, connection_in, sent_at, stepped}
use Rattle.simulator_node_laws.specs.Told.{Told, Nobody, ToInterlocking, ToSignal, ToPoint, ToDetector, told}
use Rattle.simulator_node_laws.proofs.Delivered.{mapped_from}
use Rattle.simulator_node_laws.proofs.Said.{all_times, time_behind, timed}
use Rattle.simulator_node_laws.proofs.Sent.{anew_sends}
use Rattle.simulator_node_laws.proofs.Split.{is_split}

-- ---- nothing is lost

abbrev AllThere : List OnLink → Type 0
AllThere [] = Unit {0}
AllThere (first ∷ others) = (first.datagram.is_lost ≡ false) × AllThere others

there_joined : (a b : List OnLink) → AllThere a → AllThere b → AllThere (a ++ b)
there_joined [] b x y = y
there_joined (first ∷ others) b x y = (x.0, there_joined others b x.1 y)

sent_there : (link time : ℕ) (who : Role) (connection : Option ℕ) (datagrams : List (List ℕ)) → AllThere (sent_on link (handed_out time who connection datagrams))
sent_there link time who connection [] = tt
sent_there link time who connection (first ∷ others) = (refl, sent_there link time who connection others)

step_there : {Object : Type 0} (does : Behaviour Object) (input : Input) (connection time link place : ℕ) (found : Option (ClockedControllerState Object)) (servers : List (ClockedControllerState Object)) (sent : List OnLink)
    → AllThere sent → AllThere (stepped_at does input connection time link place found (record { servers = servers; sent = sent })).sent
unfolding stepped_at sent_by_controller
step_there does input connection time link place None servers sent there = there
step_there does input connection time link place (Some server) servers sent there =
    let done = step_of does input server
    in there_joined sent _ there (sent_there link time _ (controller_after done connection (length sent) server).connection (spellings server.host.link.identity.key done.pdus))

one_there : (site : Site) (time : ℕ) (bytes : List ℕ) (sending : Sending) → AllThere sending.sent → AllThere (sending_one site time bytes sending).sent
unfolding sending_one
one_there site time bytes sending there = there_joined sending.sent _ there (refl, tt)

all_there : (site : Site) (time : ℕ) (datagrams : List (List ℕ)) (sending : Sending) → AllThere sending.sent → AllThere (sending_all site time datagrams sending).sent
unfolding sending_all
all_there site time [] sending there = there
all_there site time (first ∷ others) sending there = all_there site time others (sending_one site time first sending) (one_there site time first sending there)

module _ (site : Site) (table : Table) where
  told_there : (connection : ℕ) (what : Told) (world : WorldState) → AllThere world.sent → AllThere (stepped site table connection what world).sent
  unfolding interlocking_stepped signal_stepped point_stepped detector_stepped
  told_there connection Nobody world there = there
  told_there connection (ToInterlocking input) world there = all_there site world.time (interlocking_step site table input world.interlocking).outbox.datagrams _ there
  told_there connection (ToSignal place input) world there = step_there signal_behaviour input connection world.time place place (slice_get world.signals place) world.signals world.sent there
  told_there connection (ToPoint place input) world there = step_there point_behaviour input connection world.time (point_link site place) place (slice_get world.points place) world.points world.sent there
  told_there connection (ToDetector place input) world there = step_there detection_behaviour input connection world.time (detector_link site place) place (slice_get world.detectors place) world.detectors world.sent there

  around_there : (happening : Event) (world : WorldState) → is_loss happening ≡ false → AllThere world.sent → AllThere (around site table happening world).sent
  unfolding passed
  around_there (event.Request command) world kept there = there
  around_there (event.Occupy section occupancy) world kept there = there
  around_there (event.Tick node) world kept there = there
  around_there (event.Time elapsed clocks) world kept there = there
  around_there (event.Deliver node bytes) world kept there = there
  around_there (event.Lose bytes) world kept there = absurd (true≢false kept)
  around_there (event.Reach point position) world kept there = there
  around_there (event.Restart node clock first) world kept there = subst AllThere (sym (anew_sends site table (record { clock = clock; first = first }) (node_at site node.0) world).0) there

  happens_there : (happening : Event) (world : WorldState) → is_loss happening ≡ false → AllThere world.sent → AllThere (happens site table happening world).sent
  happens_there happening world kept there = subst (λ (w : WorldState). AllThere w.sent) (sym (is_split site table happening world))
      (told_there (connection_in happening world) (told site table happening) (around site table happening world) (around_there happening world kept there))

  all_still_there : (events : List Event) (world : WorldState) → NoneLost events → AllThere world.sent → AllThere (after_all site table events world).sent
  all_still_there [] world none there = there
  all_still_there (first ∷ others) world none there = all_still_there others (happens site table first world) none.1 (happens_there first world none.0 there)

there_at : (sent : List OnLink) (place : ℕ) (one : OnLink) → slice_get sent place ≡ Some one → AllThere sent → one.datagram.is_lost ≡ false
there_at [] place one is there = absurd (none-some one is)
there_at (first ∷ others) zero one is there = subst (λ (o : OnLink). o.datagram.is_lost ≡ false) (same_Some first one is) there.0
there_at (first ∷ others) (suc place) one is there = there_at others place one is there.1

-- ---- the copy is found

found_again : (time : ℕ) (bytes : List ℕ) (sent : List Sent) (place : ℕ) (one : Sent) → slice_get sent place ≡ Some one → is_alive_copy time bytes one ≡ true → is_none (newest_copy time bytes sent) ≡ false
found_again time bytes [] place one is alive = absurd (none-some one is)
found_again time bytes (first ∷ later) zero one is alive = by_later (newest_copy time bytes later) refl where
  is_alive : is_alive_copy time bytes first ≡ true
  is_alive = subst (λ (s : Sent). is_alive_copy time bytes s ≡ true) (sym (same_Some first one is)) alive

  by_later : (copy : Option Sent) → newest_copy time bytes later ≡ copy → is_none (newest_copy time bytes (first ∷ later)) ≡ false
  by_later (Some other) other_is = rw other_is refl
  by_later None none = rw (none, is_alive) refl
found_again time bytes (first ∷ later) (suc place) one is alive = by_later (newest_copy time bytes later) refl (found_again time bytes later place one is alive) where
  by_later : (copy : Option Sent) → newest_copy time bytes later ≡ copy → is_none (newest_copy time bytes later) ≡ false → is_none (newest_copy time bytes (first ∷ later)) ≡ false
  by_later (Some other) other_is found = rw other_is refl
  by_later None none found = absurd (true≢false (sym (ap is_none none) ∙ found))

in_time : (one other : ℕ) → one ≤ other → nat_le one other ≡ true
in_time one other less = grind (arith, nat_tests)

all_so : (one lost other : Bool) → one ≡ true → lost ≡ false → other ≡ true → (one && (not lost && other)) ≡ true
all_so true false true is kept also = refl
all_so true false false is kept also = absurd (false≢true also)
all_so true true other is kept also = absurd (true≢false kept)
all_so false lost other is kept also = absurd (false≢true is)

datagram_there : (sent : List OnLink) (place : ℕ) (one : OnLink) → slice_get sent place ≡ Some one → slice_get (datagrams_of sent) place ≡ Some one.datagram
datagram_there [] place one is = absurd (none-some one is)
datagram_there (first ∷ others) zero one is = ap (λ (o : OnLink). Some o.datagram) (same_Some first one is)
datagram_there (first ∷ others) (suc place) one is = datagram_there others place one is

timed_there : (left : List Departure) (place : ℕ) (one : Departure) → slice_get left place ≡ Some one → slice_get (map timed left) place ≡ Some (timed one)
timed_there [] place one is = absurd (none-some one is)
timed_there (first ∷ others) zero one is = ap (λ (d : Departure). Some (timed d)) (same_Some first one is)
timed_there (first ∷ others) (suc place) one is = timed_there others place one is

module _ (site : Site) (table : Table) (outset : Outset) (lies : IsOutsetOf site outset) (station : IsStation site) (is_table : IsTableOf site table) (events : List Event) where
  abbrev world : WorldState
  world = after_all site table events (world_at site table outset)

  none_first : AllThere (world_at site table outset).sent
  unfolding world_at
  none_first = tt

  has_copy : (bytes : List ℕ) → NoneLost events → LeftInTime site table outset events bytes → is_none (copy_of bytes world) ≡ false
  has_copy bytes none left =
      let at = mapped_from (λ (one : OnLink). (one.datagram.bytes, one.datagram.at)) world.sent left.place (timed left.departure)
      (ap (λ l. slice_get l left.place) (all_times site table outset lies station is_table events) ∙ timed_there (departures_in site table outset [] events) left.place left.departure left.left)
      in let young : world.time ≤ at.0.datagram.at + lifetime = subst (λ n. n ≤ at.0.datagram.at + lifetime) (sym (time_behind site table outset lies station is_table events))
      (subst (λ n. time_in events 0 ≤ n + lifetime) (sym (ap (λ (p : List ℕ × ℕ). p.1) at.2)) left.in_time)
      in let same : at.0.datagram.bytes ≡ bytes = ap (λ (p : List ℕ × ℕ). p.0) at.2 ∙ left.same
      in found_again world.time bytes (datagrams_of world.sent) left.place at.0.datagram (datagram_there world.sent left.place at.0 at.1)
      (all_so (nat_le world.time (at.0.datagram.at + lifetime)) at.0.datagram.is_lost (bytes_eq at.0.datagram.bytes bytes) (in_time world.time (at.0.datagram.at + lifetime) young)
      (there_at world.sent left.place at.0 at.1 (all_still_there site table events (world_at site table outset) none none_first)) ((bytes_eq-Decides at.0.datagram.bytes bytes).1 same))

  pub comes_again : (node : NodeId) (bytes : List ℕ) → node.0 < nodes site → NoneLost events → LeftInTime site table outset events bytes → refusal site (event.Deliver node bytes) world ≡ None
  unfolding refusal
  comes_again node bytes there none left =
      ap (λ b. refused_where b refused.NoSuchNode (refused_where (is_none (copy_of bytes world) && intact (key_of site) bytes) refused.NeverSent None)) found
      ∙ ap (λ b. refused_where (b && intact (key_of site) bytes) refused.NeverSent None) (has_copy bytes none left)
    where
      found : is_missing node.0 site ≡ false
      found = grind (arith, nat_tests)
