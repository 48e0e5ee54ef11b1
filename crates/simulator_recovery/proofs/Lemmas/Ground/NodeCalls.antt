-- What the nodes of a station call the ends of its links to: what comes is received first; then something is said at most, and in a
-- tick each end of the node ticks, and a client opens.
use Rattle.simulator_recovery.proofs.Words.Basics.{◌≡◌, ℕ, zero, suc, ◌+◌, ◌-◌, ◌<◌, ◌≤◌, ◌==◌, nat_lt, Bool, true, false, if◌then◌else◌, List, [], ◌∷◌, ◌++◌, length, map, Option, Some, None, slice_get, refl, sym, ap, subst, ◌∙◌, arith, nat_tests}
use Rattle.simulator_recovery.proofs.Words.Links.{IsBehindTick, clock_calls, Each, Call, reading_of, is_same, CallsOn, LinksEvent, calls_of, Role, reading}
use Rattle.simulator_recovery.proofs.Words.Controllers.{as_call, Behaviour, HostState, host_step, Input as HostInput, Sense, signal_behaviour, point_behaviour, detection_behaviour, Section}
use Rattle.simulator_recovery.proofs.Words.Interlockings.{IxlState, addressed, all_clocked, Command, Detector as DetectorOf, Node as Client, Point as PointOf, Signal as SignalOf, begun_with, empty_outbox, Table}
use Rattle.simulator_recovery.proofs.Words.Stations.{Site, step_of, coming, Detector, Node, controller_at, detector_link, key_of, links, point_link, ClockedControllerState, WorldState, link_at, node_call, contact_events, detector_events, host_events, interlocking_events, point_events, signal_events, IsWhole}
use Rattle.simulator_spec.specs.rasta_core.Ends as calls
use Rattle.simulator_spec.specs.object_host.Host as hosts
use Rattle.simulator_spec.specs.ixl_client.ClientSoFar as clients
use Rattle.simulator_spec.specs.ixl_spec.Step as ixl
use Rattle.simulator_spec.specs.Nodes.{Point, Signal}
use Rattle.simulator_recovery.proofs.Lemmas.Ground.EndCalls.{SaysOn, all_called_at, all_say, called_both, at_place}
use Rattle.simulator_recovery.proofs.Lemmas.Ground.HostCalls as of_hosts
use Rattle.simulator_recovery.proofs.Lemmas.Ground.HostCalls.{datagram_calls, sense_calls, tick_calls}
use Rattle.simulator_recovery.proofs.Lemmas.Ground.Steps.{IsSaidAt, IsThere, all_ticks, command_says, datagram_hears, tick_of, tick_ticks, ticks_of}
use Rattle.simulator_recovery.proofs.Lemmas.Ground.DueTests.{is_less, is_not, same_true}

abbrev no_calls : List Call
no_calls = []

-- ---- a controller

-- the calls of a host, at its end of its link
abbrev pub at_server : (connection link : ℕ) → List hosts.LinkCall → List LinksEvent
at_server connection link made = map (λ call. CallsOn link Role.Server call) (map (as_call connection) made)

server_says : (connection link : ℕ) (made : List hosts.LinkCall) → Each of_hosts.IsSaid made → Each SaysOn (at_server connection link made)
server_says connection link [] each = tt
server_says connection link (hosts.Ticks ∷ others) each = absurd each.0
server_says connection link (hosts.Closes why ∷ others) each = (tt, server_says connection link others each.1)
server_says connection link (hosts.Sends item ∷ others) each = (tt, server_says connection link others each.1)
server_says connection link (hosts.Receives bytes ∷ others) each = absurd each.0

-- what a step of a host makes of its input
abbrev pub IsStepFor : HostInput → List hosts.LinkCall → Type 0
IsStepFor HostInput.Tick made = (front : List hosts.LinkCall) × (Each of_hosts.IsSaid front × (made ≡ front ++ hosts.Ticks ∷ []))
IsStepFor (HostInput.Datagram bytes) made = (others : List hosts.LinkCall) × (Each of_hosts.IsSaid others × (made ≡ hosts.Receives bytes.now ∷ others))
IsStepFor (HostInput.Sense contact) made = Each of_hosts.IsSaid made

step_for : {Object : Type 0} (does : Behaviour Object) (now : ℕ) (input : HostInput) (host : HostState Object) → IsStepFor input (host_step does now input host).calls
step_for does now HostInput.Tick host = tick_calls does now host
step_for does now (HostInput.Datagram bytes) host = datagram_calls does now bytes host
step_for does now (HostInput.Sense contact) host = sense_calls does now contact host

-- A controller makes a step at its end of its link.
abbrev pub StepsAt : HostInput → (connection link : ℕ) → List LinksEvent → Type 0
StepsAt input connection link events = (made : List hosts.LinkCall) × (IsStepFor input made × (events ≡ at_server connection link made))

found_steps : {Object : Type 0} (does : Behaviour Object) (input : HostInput) (connection link : ℕ) (servers : List (ClockedControllerState Object)) (place : ℕ) → place < length servers
    → StepsAt input connection link (host_events does input connection link (slice_get servers place))
found_steps does input connection link servers place few =
    let found = at_place servers place few
    in let made = (step_of does input found.0).calls
    in (made, (step_for does _ input found.0.host, ap (host_events does input connection link) found.1))

-- of events told by the node that makes a step, those of the controller of a link
module _ (site : Site) (input : HostInput) (connection : ℕ) (world : WorldState) (whole : IsWhole site world) (at : ℕ) (below : at < links site) (events : Option Node → List LinksEvent)
    (signals : (place : ℕ) → events (Some (Signal place)) ≡ signal_events input connection place world) (points : (place : ℕ) → events (Some (Point place)) ≡ point_events site input connection place world)
    (detectors : (place : ℕ) → events (Some (Detector place)) ≡ detector_events site input connection place world) where
  abbrev Steps : Option Node → Type 0
  Steps node = StepsAt input connection at (events node)

  pub controller_steps : Steps (controller_at site at)
  controller_steps = of_signals (nat_lt at (length site.signals)) refl
    where
      at_signal : at < length site.signals → Steps (Some (Signal at))
      at_signal few = let many = whole.signals in subst (StepsAt input connection at) (sym (signals at)) (found_steps signal_behaviour input connection at world.signals at (omega (arith, few, many)))

      at_point : length site.signals ≤ at → at < length site.signals + length site.points → Steps (Some (Point (at - length site.signals)))
      at_point many few =
          let all = whole.points
          in let is : point_link site (at - length site.signals) ≡ at = omega (arith, many)
          in subst (StepsAt input connection at) (sym (points (at - length site.signals)))
          (subst (λ (n : ℕ). StepsAt input connection n (point_events site input connection (at - length site.signals) world)) is
          (found_steps point_behaviour input connection (point_link site (at - length site.signals)) world.points (at - length site.signals) (omega (arith, many, few, all))))

      at_detector : length site.signals + length site.points ≤ at → Steps (Some (Detector (at - detector_link site 0)))
      at_detector many =
          let all = whole.detectors
          in let last = below
          in let is : detector_link site (at - detector_link site 0) ≡ at = omega (arith, many)
          in subst (StepsAt input connection at) (sym (detectors (at - detector_link site 0)))
          (subst (λ (n : ℕ). StepsAt input connection n (detector_events site input connection (at - detector_link site 0) world)) is
          (found_steps detection_behaviour input connection (detector_link site (at - detector_link site 0)) world.detectors (at - detector_link site 0) (omega (arith, many, last, all))))

      is_link : nat_lt at (links site) ≡ true
      is_link = let h = below in grind (arith, nat_tests)

      of_points : length site.signals ≤ at → (b : Bool) → nat_lt at (point_link site (length site.points)) ≡ b
          → Steps (if b then Some (Point (at - length site.signals)) else if nat_lt at (links site) then Some (Detector (at - detector_link site 0)) else None)
      of_points many true e = at_point many (is_less at (point_link site (length site.points)) e)
      of_points many false e = subst (λ (b : Bool). Steps (if b then Some (Detector (at - detector_link site 0)) else None)) (sym is_link) (at_detector (is_not at (point_link site (length site.points)) e))

      of_signals : (b : Bool) → nat_lt at (length site.signals) ≡ b → Steps (if b then Some (Signal at) else
          if nat_lt at (point_link site (length site.points)) then Some (Point (at - length site.signals)) else
          if nat_lt at (links site) then Some (Detector (at - detector_link site 0)) else
          None)
      of_signals true e = at_signal (is_less at (length site.signals) e)
      of_signals false e = of_points (is_not at (length site.signals) e) (nat_lt at (point_link site (length site.points))) refl

-- a contact: something is said at most
contact_says : {Object : Type 0} (does : Behaviour Object) (contact : Sense) (link : ℕ) (found : Option (ClockedControllerState Object)) → Each SaysOn (host_events does (HostInput.Sense contact) 0 link found)
contact_says does contact link None = tt
contact_says does contact link (Some server) = server_says 0 link _ (sense_calls does _ contact server.host)

pub sensed_says : (site : Site) (found : Option (ℕ × ℕ)) (contact : ℕ → Sense) (detectors : List (ClockedControllerState (List Section))) → Each SaysOn (contact_events site found (λ place. HostInput.Sense (contact place)) detectors)
sensed_says site None contact detectors = tt
sensed_says site (Some reporter) contact detectors = contact_says detection_behaviour (contact reporter.1) (detector_link site reporter.0) (slice_get detectors reporter.0)

pub reached_says : (site : Site) (place : ℕ) (contact : Sense) (world : WorldState) → Each SaysOn (point_events site (HostInput.Sense contact) 0 place world)
reached_says site place contact world = contact_says point_behaviour contact (point_link site place) (slice_get world.points place)

-- ---- the interlocking

abbrev pub at_client : Site → ℕ → List (Client × clients.LinkCall) → List LinksEvent
at_client site connection made = calls_of Role.Client (map (node_call site connection) made)

module _ (site : Site) (connection : ℕ) where
  client_says : (made : List (Client × clients.LinkCall)) → Each IsSaidAt made → Each SaysOn (at_client site connection made)
  client_says [] each = tt
  client_says ((node, clients.Opens) ∷ others) each = absurd each.0
  client_says ((node, clients.Ticks) ∷ others) each = absurd each.0
  client_says ((node, clients.Closes why) ∷ others) each = (tt, client_says others each.1)
  client_says ((node, clients.Sends item) ∷ others) each = (tt, client_says others each.1)
  client_says ((node, clients.Receives bytes) ∷ others) each = absurd each.0

  -- no call of it is at a server
  pub client_alone : (link : ℕ) (made : List (Client × clients.LinkCall)) → all_called_at Role.Server link (at_client site connection made) ≡ []
  client_alone link [] = refl
  client_alone link (first ∷ others) = two (choose (link == link_at site first.0)) (client_alone link others)
    where
      choose : (b : Bool) → (if b then [] else []) ≡ no_calls
      choose true = refl
      choose false = refl

      two : {a b c d : List Call} → a ≡ b → c ≡ d → a ++ c ≡ b ++ d
      two e f = cc (e, f)

  client_both : (one other : List (Client × clients.LinkCall)) → at_client site connection (one ++ other) ≡ at_client site connection one ++ at_client site connection other
  client_both [] other = refl
  client_both (first ∷ one) other = ap (λ (rest : List LinksEvent). at_client site connection (first ∷ []) ++ rest) (client_both one other)

-- What comes to an end: it receives these bytes first, and then something is said at most.
pub record ComesTo (at : ℕ) (who : Role) (bytes : List ℕ) (events : List LinksEvent) : Type 0 where
  pub connection : ℕ
  pub more : List LinksEvent
  pub are : events ≡ CallsOn at who (calls.Receives bytes connection) ∷ more
  pub says : Each SaysOn more

pub client_comes : (site : Site) (connection at : ℕ) (bytes : List ℕ) (node : Client) (made more : List (Client × clients.LinkCall)) → link_at site node ≡ at → Each IsSaidAt more → made ≡ (node, clients.Receives bytes) ∷ more
    → ComesTo at Role.Client bytes (at_client site connection made)
client_comes site connection at bytes node made more is each are = record {
  connection = connection;
  more = at_client site connection more;
  are = ap (at_client site connection) are ∙ ap (λ (n : ℕ). CallsOn n Role.Client (calls.Receives bytes connection) ∷ at_client site connection more) is;
  says = client_says site connection more each;
}

pub server_comes : (bytes : List ℕ) (connection at : ℕ) (events : List LinksEvent) → StepsAt (coming bytes) connection at events → ComesTo at Role.Server bytes events
server_comes bytes connection at events (made, ((others, (each, are)), same)) = record {
  connection = connection;
  more = at_server connection at others;
  are = same ∙ ap (at_server connection at) are;
  says = server_says connection at others each;
}

-- ---- ticks

is_other : (a b : ℕ) → (a ≡ b → ⊥) → (a == b) ≡ false
is_other a b differ = choose (a == b) refl
  where
    same : (a == b) ≡ true → a ≡ b
    same e = grind (arith, nat_tests)

    choose : (c : Bool) → (a == b) ≡ c → c ≡ false
    choose true e = absurd (differ (same e))
    choose false e = refl

two_lists : {a b c d : List Call} → a ≡ b → c ≡ d → a ++ c ≡ b ++ d
two_lists e f = cc (e, f)

-- An end ticks, after what is said, and a client opens.
abbrev pub TicksAt : Role → ℕ → List LinksEvent → Type 0
TicksAt who link events = (front : List Call) × (Each IsBehindTick front × (all_called_at who link events ≡ front ++ clock_calls who))

-- a controller, at its own end alone
module _ (connection at : ℕ) where
  server_alone : (link : ℕ) (made : List hosts.LinkCall) → all_called_at Role.Client link (at_server connection at made) ≡ []
  server_alone link [] = refl
  server_alone link (first ∷ others) = two_lists (choose (link == at)) (server_alone link others)
    where
      choose : (b : Bool) → (if b then [] else []) ≡ no_calls
      choose true = refl
      choose false = refl

  server_elsewhere : (who : Role) (link : ℕ) → (link ≡ at → ⊥) → (made : List hosts.LinkCall) → all_called_at who link (at_server connection at made) ≡ []
  server_elsewhere who link differ [] = refl
  server_elsewhere who link differ (first ∷ others) =
      two_lists (ap (λ (b : Bool). if b then (if is_same Role.Server who then as_call connection first ∷ [] else []) else []) (is_other link at differ)) (server_elsewhere who link differ others)

  server_both : (one other : List hosts.LinkCall) → at_server connection at (one ++ other) ≡ at_server connection at one ++ at_server connection at other
  server_both [] other = refl
  server_both (first ∷ one) other = ap (λ (rest : List LinksEvent). at_server connection at (first ∷ []) ++ rest) (server_both one other)

  pub server_ticks : (events : List LinksEvent) → StepsAt HostInput.Tick connection at events → TicksAt Role.Server at events
  server_ticks events (made, ((front, (each, are)), same)) = (
    all_called_at Role.Server at (at_server connection at front),
    (
      all_say Role.Server at (at_server connection at front) (server_says connection at front each),
      ap (all_called_at Role.Server at) (same ∙ ap (at_server connection at) are ∙ server_both front (hosts.Ticks ∷ []))
          ∙ called_both Role.Server at (at_server connection at front) (at_server connection at (hosts.Ticks ∷ []))
          ∙ ap (λ (b : Bool). all_called_at Role.Server at (at_server connection at front) ++ ((if b then calls.Ticks ∷ [] else []) ++ [])) (same_true at),
    ),
  )

  pub server_else : (who : Role) (link : ℕ) (input : HostInput) (events : List LinksEvent) → (link ≡ at → ⊥) → StepsAt input connection at events → all_called_at who link events ≡ []
  server_else who link input events differ steps = ap (all_called_at who link) steps.1.1 ∙ server_elsewhere who link differ steps.0

  pub server_not_client : (link : ℕ) (input : HostInput) (events : List LinksEvent) → StepsAt input connection at events → all_called_at Role.Client link events ≡ []
  server_not_client link input events steps = ap (all_called_at Role.Client link) steps.1.1 ∙ server_alone link steps.0

-- all clients of the interlocking
module _ (now : ℕ) (table : Table) (site : Site) (link : ℕ) where
  abbrev called : List (Client × clients.LinkCall) → List Call
  called made = all_called_at Role.Client link (at_client site 0 made)

  called_more : (one other : List (Client × clients.LinkCall)) → called (one ++ other) ≡ called one ++ called other
  called_more one other = ap (all_called_at Role.Client link) (client_both site 0 one other) ∙ called_both Role.Client link (at_client site 0 one) (at_client site 0 other)

  one_tick : (node : Client) (b : Bool) → (link == link_at site node) ≡ b → called (tick_of now table node) ≡ (if b then clock_calls Role.Client else [])
  one_tick node true e = rw e refl
  one_tick node false e = rw e refl

  no_ticks : (node : ℕ → Client) (n : ℕ) → ((place : ℕ) → place < n → link ≡ link_at site (node place) → ⊥) → called (ticks_of now table node n) ≡ []
  no_ticks node zero differ = refl
  no_ticks node (suc n) differ =
      called_more (ticks_of now table node n) (tick_of now table (node n))
      ∙ two_lists (no_ticks node n (λ place few. differ place (omega (arith, few)))) (one_tick (node n) false (is_other link (link_at site (node n)) (differ n (omega arith))))

  ticks_once : (node : ℕ → Client) (n at : ℕ) → at < n → link ≡ link_at site (node at) → ((place : ℕ) → link ≡ link_at site (node place) → place ≡ at) → called (ticks_of now table node n) ≡ clock_calls Role.Client
  ticks_once node zero at few is alone = absurd (omega (arith, few))
  ticks_once node (suc n) at few is alone = called_more (ticks_of now table node n) (tick_of now table (node n)) ∙ choose (at == n) refl (λ fewer. ticks_once node n at fewer is alone)
    where
      same : (at == n) ≡ true → at ≡ n
      same e = grind (arith, nat_tests)

      less : (at == n) ≡ false → at < n
      less e = let h = few in grind (arith, nat_tests)

      is_here : link ≡ link_at site (node n) → (link == link_at site (node n)) ≡ true
      is_here e = ap (λ (k : ℕ). link == k) (sym e) ∙ same_true link

      choose : (b : Bool) → (at == n) ≡ b → (at < n → called (ticks_of now table node n) ≡ clock_calls Role.Client) → called (ticks_of now table node n) ++ called (tick_of now table (node n)) ≡ clock_calls Role.Client
      choose true e rest = two_lists (no_ticks node n (λ place fewer there. let one = alone place there in let other = same e in omega (arith, fewer, one, other)))
          (one_tick (node n) true (is_here (subst (λ (k : ℕ). link ≡ link_at site (node k)) (same e) is)))
      choose false e rest = two_lists (rest (less e))
          (one_tick (node n) false (is_other link (link_at site (node n)) (λ there. let one = alone n there in let other = less e in omega (arith, one, other))))

  -- each link is that of one client
  all_once : (known : IxlState) → length known.known_signals ≡ length site.signals → length known.known_points ≡ length site.points → length known.detectors ≡ length site.detectors → link < links site
      → called (all_ticks now table known) ≡ clock_calls Role.Client
  all_once known signals points detectors below =
      called_more (ticks_of now table SignalOf (length known.known_signals)) (ticks_of now table PointOf (length known.known_points) ++ ticks_of now table DetectorOf (length known.detectors))
      ∙ ap (λ (rest : List Call). called (ticks_of now table SignalOf (length known.known_signals)) ++ rest) (called_more (ticks_of now table PointOf (length known.known_points)) (ticks_of now table DetectorOf (length known.detectors)))
      ∙ choose (nat_lt link (length site.signals)) refl (nat_lt link (length site.signals + length site.points)) refl
    where
      choose : (b : Bool) → nat_lt link (length site.signals) ≡ b → (c : Bool) → nat_lt link (length site.signals + length site.points) ≡ c
          → called (ticks_of now table SignalOf (length known.known_signals)) ++ (called (ticks_of now table PointOf (length known.known_points)) ++ called (ticks_of now table DetectorOf (length known.detectors))) ≡ clock_calls Role.Client
      choose true e c f =
          let few = is_less link (length site.signals) e
          in two_lists (ticks_once SignalOf (length known.known_signals) link (omega (arith, few, signals)) refl (λ place there. sym there))
          (two_lists (no_ticks PointOf (length known.known_points) (λ place less there. omega (arith, few, there)))
          (no_ticks DetectorOf (length known.detectors) (λ place less there. omega (arith, few, there))))
      choose false e true f =
          let many = is_not link (length site.signals) e
          in let few = is_less link (length site.signals + length site.points) f
          in two_lists (no_ticks SignalOf (length known.known_signals) (λ place less there. omega (arith, many, less, there, signals)))
          (two_lists (ticks_once PointOf (length known.known_points) (link - length site.signals) (omega (arith, many, few, points)) (omega (arith, many)) (λ place there. omega (arith, many, there)))
          (no_ticks DetectorOf (length known.detectors) (λ place less there. omega (arith, few, there))))
      choose false e false f =
          let many = is_not link (length site.signals) e
          in let more = is_not link (length site.signals + length site.points) f
          in let last = below
          in two_lists (no_ticks SignalOf (length known.known_signals) (λ place less there. omega (arith, many, less, there, signals)))
          (two_lists (no_ticks PointOf (length known.known_points) (λ place less there. omega (arith, more, less, there, points)))
          (ticks_once DetectorOf (length known.detectors) (link - (length site.signals + length site.points)) (omega (arith, more, last, detectors)) (omega (arith, more)) (λ place there. omega (arith, more, there))))

-- a tick of the interlocking
pub interlocking_ticks : (site : Site) (table : Table) (world : WorldState) → IsWhole site world → (link : ℕ) → link < links site → TicksAt Role.Client link (interlocking_events site table ixl.Tick 0 world.interlocking)
interlocking_ticks site table world whole link below =
    let now = reading_of world.interlocking.clock
    in let made = tick_ticks now table (key_of site) (begun_with world.interlocking.ixl empty_outbox)
    in (
      all_called_at Role.Client link (at_client site 0 made.0),
      (
        all_say Role.Client link (at_client site 0 made.0) (client_says site 0 made.0 made.1.0),
        ap (called now table site link) made.1.1 ∙ called_more now table site link made.0 (all_ticks now table world.interlocking.ixl)
            ∙ ap (λ (rest : List Call). called now table site link made.0 ++ rest) (all_once now table site link world.interlocking.ixl whole.clients.known_signals whole.clients.known_points whole.clients.detectors below),
      ),
    )

-- a request
pub command_says_on : (site : Site) (table : Table) (command : Command) (world : WorldState) → Each SaysOn (interlocking_events site table (ixl.Commands command) 0 world.interlocking)
command_says_on site table command world =
    let says = command_says (reading_of world.interlocking.clock) table (key_of site) (begun_with world.interlocking.ixl empty_outbox) command
    in client_says site 0 _ (subst (Each IsSaidAt) (sym says.are) says.each)

-- a datagram of a controller
pub interlocking_comes : (site : Site) (table : Table) (bytes : List ℕ) (connection : ℕ) (world : WorldState) (link : ℕ) (node : Client) → addressed (reading (key_of site) bytes) (all_clocked (reading_of world.interlocking.clock) world.interlocking.ixl) ≡ Some node
    → link_at site node ≡ link → IsThere (reading_of world.interlocking.clock) table node (all_clocked (reading_of world.interlocking.clock) world.interlocking.ixl) → ComesTo link Role.Client bytes (interlocking_events site table (ixl.Datagram bytes) connection world.interlocking)
interlocking_comes site table bytes connection world link node found is there =
    let made = datagram_hears (reading_of world.interlocking.clock) table (key_of site) (begun_with world.interlocking.ixl empty_outbox) bytes node found there
    in client_comes site connection link bytes node _ made.0 is made.1.0 made.1.1
