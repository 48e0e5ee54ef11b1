-- What is sent is what the step of the one node hands out.
use Rattle.std.proofs.Common.{◌≡◌, ℕ, Bool, true, false, List, [], ◌∷◌, ◌++◌, map, length, Option, Some, None, slice_get, refl, sym, ap, ◌∙◌, if◌then◌else◌}
use Rattle.simulator_spec.specs.layout.Entries.{Site}
use Rattle.simulator_spec.specs.rasta_core.Bag.{is_copy}
use Rattle.simulator_spec.specs.rasta_core.Ends.{handed_out}
use Rattle.simulator_spec.specs.rasta_core.Links.{OnLink, sent_on, without_oldest_of_all}
use Rattle.simulator_spec.specs.rasta_core.Outbox.{spellings}
use Rattle.simulator_spec.specs.rasta_core.identity.Role.{Role}
use Rattle.simulator_spec.specs.object_host.Behaviour.{Behaviour}
use Rattle.simulator_spec.specs.object_host.declared.input.Input.{Input}
use Rattle.simulator_spec.specs.signal_ctl.Signal.{signal_behaviour}
use Rattle.simulator_spec.specs.point_ctl.Controlled.{point_behaviour}
use Rattle.simulator_spec.specs.tds_ctl.Controlled.{detection_behaviour}
use Rattle.simulator_spec.specs.layout.declared.entries.Point.{Point as PointEntry}
use Rattle.simulator_spec.specs.layout.declared.entries.Signal.{Signal as SignalEntry}
use Rattle.simulator_spec.specs.layout.Entries.{DetectorEntry}
use Rattle.simulator_spec.specs.ixl_spec.Table.{Table}
use Rattle.simulator_spec.specs.simulator_event.declared.event.Event.{Event}
use Rattle.simulator_spec.specs.simulator_event.declared.event.Event.TheVariants as event
use Rattle.simulator_spec.specs.First.{Beginning}
use Rattle.simulator_spec.specs.Happens.{detector_anew, detector_stepped, happens, interlocking_stepped, made_anew, passed, point_anew, point_stepped, signal_anew, signal_stepped, stepped_at}
use Rattle.simulator_spec.specs.Nodes.{Node, Interlocking, Signal, Point, Detector, detector_link, node_at, point_link}
use Rattle.simulator_spec.specs.Controllers.{controller_after, sent_by_controller, step_of}
use Rattle.simulator_spec.specs.State.{ClockedControllerState, WorldState}
use Rattle.simulator_spec.specs.Run.{after_all}
use Rattle.simulator_spec.specs.Interlocking.{Sending, interlocking_step, sending_all, sending_one}
use Rattle.simulator_node_laws.specs.Said.{time_after, time_in}
use Rattle.simulator_node_laws.specs.Split.{around, bytes_of, connection_in, handed_by, handed_out_by, stepped}
use Rattle.simulator_node_laws.specs.Told.{Told, Nobody, ToInterlocking, ToSignal, ToPoint, ToDetector, told}
use Rattle.simulator_node_laws.proofs.Lists.{joined_thrice, none_behind}
use Rattle.simulator_node_laws.proofs.Split.{is_split}

-- a node that is made anew sends nothing, and takes no time
pub anew_sends : (site : Site) (table : Table) (begins : Beginning) (at : Option Node) (world : WorldState) → ((made_anew site table begins at world).sent ≡ world.sent) × ((made_anew site table begins at world).time ≡ world.time)
anew_sends site table begins None world = (refl, refl)
anew_sends site table begins (Some Interlocking) world = (refl, refl)
anew_sends site table begins (Some (Signal place)) world = of_entry (slice_get site.signals place) where
  of_entry : (entry : Option SignalEntry) → ((signal_anew site begins place entry world).sent ≡ world.sent) × ((signal_anew site begins place entry world).time ≡ world.time)
  of_entry None = (refl, refl)
  of_entry (Some entry) = (refl, refl)
anew_sends site table begins (Some (Point place)) world = of_entry (slice_get site.points place) where
  of_entry : (entry : Option PointEntry) → ((point_anew site begins place entry world).sent ≡ world.sent) × ((point_anew site begins place entry world).time ≡ world.time)
  of_entry None = (refl, refl)
  of_entry (Some entry) = (refl, refl)
anew_sends site table begins (Some (Detector place)) world = of_entry (slice_get site.detectors place) where
  of_entry : (entry : Option DetectorEntry) → ((detector_anew site begins place entry world).sent ≡ world.sent) × ((detector_anew site begins place entry world).time ≡ world.time)
  of_entry None = (refl, refl)
  of_entry (Some entry) = (refl, refl)

-- what is told of each datagram by its bytes and by the true time at which it was sent
abbrev pub each_sent : {A : Type 0} → (List ℕ → ℕ → A) → List OnLink → List A
each_sent tells sent = map (λ one. tells one.datagram.bytes one.datagram.at) sent

module _ {A : Type 0} (tells : List ℕ → ℕ → A) where
  -- and of those that a step hands out
  abbrev pub handed : ℕ → List (List ℕ) → List A
  handed time datagrams = map (λ bytes. tells bytes time) datagrams

  joined : (a b : List OnLink) → each_sent tells (a ++ b) ≡ each_sent tells a ++ each_sent tells b
  joined [] b = refl
  joined (first ∷ others) b = ap (λ l. tells first.datagram.bytes first.datagram.at ∷ l) (joined others b)

  sent_so : (link time : ℕ) (who : Role) (connection : Option ℕ) (datagrams : List (List ℕ)) → each_sent tells (sent_on link (handed_out time who connection datagrams)) ≡ handed time datagrams
  sent_so link time who connection [] = refl
  sent_so link time who connection (first ∷ others) = ap (λ l. tells first time ∷ l) (sent_so link time who connection others)

  -- ---- controllers

  step_sends : {Object : Type 0} (does : Behaviour Object) (input : Input) (connection time link place : ℕ) (found : Option (ClockedControllerState Object)) (servers : List (ClockedControllerState Object)) (sent : List OnLink)
      → each_sent tells (stepped_at does input connection time link place found (record { servers = servers; sent = sent })).sent ≡ each_sent tells sent ++ handed time (handed_by does input found)
  unfolding stepped_at sent_by_controller
  step_sends does input connection time link place None servers sent = sym (none_behind (each_sent tells sent))
  step_sends does input connection time link place (Some server) servers sent =
      let done = step_of does input server
      in let new = controller_after done connection (length sent) server
      in joined sent (sent_by_controller done time link server new)
      ∙ ap (λ l. each_sent tells sent ++ l) (sent_so link time _ new.connection (spellings server.host.link.identity.key done.pdus))

  -- ---- the interlocking

  one_sends : (site : Site) (time : ℕ) (bytes : List ℕ) (sending : Sending) → each_sent tells (sending_one site time bytes sending).sent ≡ each_sent tells sending.sent ++ tells bytes time ∷ []
  unfolding sending_one
  one_sends site time bytes sending = joined sending.sent _

  all_send : (site : Site) (time : ℕ) (datagrams : List (List ℕ)) (sending : Sending) → each_sent tells (sending_all site time datagrams sending).sent ≡ each_sent tells sending.sent ++ handed time datagrams
  unfolding sending_all
  all_send site time [] sending = sym (none_behind (each_sent tells sending.sent))
  all_send site time (first ∷ others) sending = all_send site time others (sending_one site time first sending)
      ∙ ap (λ l. l ++ handed time others) (one_sends site time first sending) ∙ joined_thrice (each_sent tells sending.sent) (tells first time ∷ []) (handed time others)

  -- ---- each step

  told_sends : (site : Site) (table : Table) (connection : ℕ) (what : Told) (world : WorldState)
      → each_sent tells (stepped site table connection what world).sent ≡ each_sent tells world.sent ++ handed world.time (handed_out_by site table what world)
  unfolding interlocking_stepped signal_stepped point_stepped detector_stepped
  told_sends site table connection Nobody world = sym (none_behind (each_sent tells world.sent))
  told_sends site table connection (ToInterlocking input) world = all_send site world.time (interlocking_step site table input world.interlocking).outbox.datagrams _
  told_sends site table connection (ToSignal place input) world = step_sends signal_behaviour input connection world.time place place (slice_get world.signals place) world.signals world.sent
  told_sends site table connection (ToPoint place input) world = step_sends point_behaviour input connection world.time (point_link site place) place (slice_get world.points place) world.points world.sent
  told_sends site table connection (ToDetector place input) world = step_sends detection_behaviour input connection world.time (detector_link site place) place (slice_get world.detectors place) world.detectors world.sent

  -- ---- around the nodes

  lost_so : (bytes : List ℕ) (sent : List OnLink) → each_sent tells (without_oldest_of_all bytes sent) ≡ each_sent tells sent
  lost_so bytes [] = refl
  lost_so bytes (first ∷ others) = by_test (is_copy bytes first.datagram) (lost_so bytes others) where
    by_test : (test : Bool) → each_sent tells (without_oldest_of_all bytes others) ≡ each_sent tells others
        → each_sent tells (if test then (record { link = first.link; datagram = record first.datagram { is_lost = true } }) ∷ others else first ∷ without_oldest_of_all bytes others) ≡ each_sent tells (first ∷ others)
    by_test true same = refl
    by_test false same = ap (λ l. tells first.datagram.bytes first.datagram.at ∷ l) same

  around_sends : (site : Site) (table : Table) (happening : Event) (world : WorldState) → each_sent tells (around site table happening world).sent ≡ each_sent tells world.sent
  unfolding passed
  around_sends site table (event.Request command) world = refl
  around_sends site table (event.Occupy section occupancy) world = refl
  around_sends site table (event.Tick node) world = refl
  around_sends site table (event.Time elapsed clocks) world = refl
  around_sends site table (event.Deliver node bytes) world = refl
  around_sends site table (event.Lose bytes) world = lost_so bytes world.sent
  around_sends site table (event.Reach point position) world = refl
  around_sends site table (event.Restart node clock first) world = ap (each_sent tells) (anew_sends site table (record { clock = clock; first = first }) (node_at site node.0) world).0

  -- what is told makes the same step with what is around changed, at the same true time
  same_handed : (site : Site) (table : Table) (happening : Event) (world : WorldState)
      → handed (around site table happening world).time (handed_out_by site table (told site table happening) (around site table happening world)) ≡ handed world.time (handed_out_by site table (told site table happening) world)
  same_handed site table (event.Request command) world = refl
  same_handed site table (event.Occupy section occupancy) world = at (told site table (event.Occupy section occupancy)) where
    at : (what : Told) → handed world.time (handed_out_by site table what (around site table (event.Occupy section occupancy) world)) ≡ handed world.time (handed_out_by site table what world)
    at Nobody = refl
    at (ToInterlocking input) = refl
    at (ToSignal place input) = refl
    at (ToPoint place input) = refl
    at (ToDetector place input) = refl
  same_handed site table (event.Tick node) world = refl
  same_handed site table (event.Time elapsed clocks) world = refl
  same_handed site table (event.Deliver node bytes) world = refl
  same_handed site table (event.Lose bytes) world = refl
  same_handed site table (event.Reach point position) world = refl
  same_handed site table (event.Restart node clock first) world = refl

  pub each_grows : (site : Site) (table : Table) (happening : Event) (world : WorldState)
      → each_sent tells (happens site table happening world).sent ≡ each_sent tells world.sent ++ handed world.time (handed_out_by site table (told site table happening) world)
  each_grows site table happening world =
      let other = around site table happening world
      in ap (λ (w : WorldState). each_sent tells w.sent) (is_split site table happening world)
      ∙ told_sends site table (connection_in happening world) (told site table happening) other
      ∙ ap (λ l. l ++ handed other.time (handed_out_by site table (told site table happening) other)) (around_sends site table happening world)
      ∙ ap (λ l. each_sent tells world.sent ++ l) (same_handed site table happening world)

-- ---- the bytes alone

pub mapped_same : {A : Type 0} (list : List A) → map (λ one. one) list ≡ list
mapped_same [] = refl
mapped_same (first ∷ others) = ap (λ l. first ∷ l) (mapped_same others)

pub network_grows : (site : Site) (table : Table) (happening : Event) (world : WorldState)
    → bytes_of (happens site table happening world).sent ≡ bytes_of world.sent ++ handed_out_by site table (told site table happening) world
network_grows site table happening world =
    each_grows (λ bytes time. bytes) site table happening world ∙ ap (λ l. bytes_of world.sent ++ l) (mapped_same (handed_out_by site table (told site table happening) world))

-- ---- true time

steps_take_no_time : (site : Site) (table : Table) (connection : ℕ) (what : Told) (world : WorldState) → (stepped site table connection what world).time ≡ world.time
unfolding interlocking_stepped signal_stepped point_stepped detector_stepped
steps_take_no_time site table connection Nobody world = refl
steps_take_no_time site table connection (ToInterlocking input) world = refl
steps_take_no_time site table connection (ToSignal place input) world = refl
steps_take_no_time site table connection (ToPoint place input) world = refl
steps_take_no_time site table connection (ToDetector place input) world = refl

time_around : (site : Site) (table : Table) (happening : Event) (world : WorldState) → (around site table happening world).time ≡ time_after happening world.time
unfolding passed
time_around site table (event.Request command) world = refl
time_around site table (event.Occupy section occupancy) world = refl
time_around site table (event.Tick node) world = refl
time_around site table (event.Time elapsed clocks) world = refl
time_around site table (event.Deliver node bytes) world = refl
time_around site table (event.Lose bytes) world = refl
time_around site table (event.Reach point position) world = refl
time_around site table (event.Restart node clock first) world = (anew_sends site table (record { clock = clock; first = first }) (node_at site node.0) world).1

pub time_goes_on : (site : Site) (table : Table) (events : List Event) (world : WorldState) → (after_all site table events world).time ≡ time_in events world.time
time_goes_on site table [] world = refl
time_goes_on site table (first ∷ others) world = time_goes_on site table others (happens site table first world) ∙ ap (time_in others)
    (ap (λ (w : WorldState). w.time) (is_split site table first world) ∙ steps_take_no_time site table (connection_in first world) (told site table first) (around site table first world) ∙ time_around site table first world)
