-- What a step of the interlocking calls its end of one link to: it receives what comes first, and then says something at most; or else
-- nothing is taken.
use Rattle.simulator_recovery.proofs.Words.Basics.{◌≡◌, ◌⊎◌, inl, inr, ℕ, zero, suc, ◌∙◌, ◌==◌, Bool, true, false, List, [], ◌∷◌, ◌++◌, length, Option, Some, None, slice_get, if◌then◌else◌, refl, sym, ap, subst, none-some}
use Rattle.simulator_recovery.proofs.Words.Links.{Each, Call, reading_of, Calls, Elsewhere, Event, CallsOn, Links, LinksEvent, events_on, happened_to, run_on, seen, sent_by, Role, reading}
use Rattle.simulator_recovery.proofs.Words.Interlockings.{Closes, LinkCall, Opens, Receives, Sends, Ticks, as_call, IxlState, KnownDetectorState, KnownPointState, KnownSignalState, Commands, Datagram, Input, Tick, addressed, all_clocked, detector_hearing, given, known_point_hearing, known_signal_hearing, node_hearing, Detector, Node, Point, Signal, StepSoFar, begun_with, empty_outbox, with_one, Table, Command}
use Rattle.simulator_recovery.proofs.Words.Stations.{Site, key_of, ClockedInterlockingState, link_at, interlocking_events}
use Rattle.simulator_recovery.proofs.Lemmas.Ground.ClientCalls.{IsSaid}
use Rattle.simulator_recovery.proofs.Lemmas.Ground.EndCalls.{each_both}
use Rattle.simulator_recovery.proofs.Lemmas.Ground.NodeCalls.{at_client}
use Rattle.simulator_recovery.proofs.Lemmas.Windows.PointConfirms.{IsReply}
use Rattle.simulator_recovery.proofs.Lemmas.Windows.PointTally.{IsOwn}
use Rattle.simulator_recovery.proofs.Lemmas.Windows.RoomConfirms.{AtClient, TakesNone}
use Rattle.simulator_recovery.proofs.Lemmas.Ground.Steps.{IsSaidAt, IsThere, all_ticks, command_says, datagram_hears, others_say, tick_of, tick_ticks, ticks_of}

-- ---- one call after another

reply_of : (connection : ℕ) (call : LinkCall) → IsSaid call → IsReply (as_call connection call)
reply_of connection Opens said = absurd said
reply_of connection Ticks said = absurd said
reply_of connection (Closes why) said = tt
reply_of connection (Sends item) said = tt
reply_of connection (Receives bytes) said = absurd said

takes_none_of : (connection : ℕ) (call : LinkCall) → IsOwn call → TakesNone (as_call connection call)
takes_none_of connection Opens own = tt
takes_none_of connection Ticks own = tt
takes_none_of connection (Closes why) own = tt
takes_none_of connection (Sends item) own = tt
takes_none_of connection (Receives bytes) own = absurd own

abbrev IsOwnAt : Node × LinkCall → Type 0
IsOwnAt made = IsOwn made.1

said_own_at : (made : List (Node × LinkCall)) → Each IsSaidAt made → Each IsOwnAt made
said_own_at [] said = tt
said_own_at ((node, Opens) ∷ others) said = absurd said.0
said_own_at ((node, Ticks) ∷ others) said = absurd said.0
said_own_at ((node, Closes why) ∷ others) said = (tt, said_own_at others said.1)
said_own_at ((node, Sends item) ∷ others) said = (tt, said_own_at others said.1)
said_own_at ((node, Receives bytes) ∷ others) said = absurd said.0

module _ (site : Site) (connection link : ℕ) where
  -- what the calls at the clients are to a link
  abbrev on_link : List (Node × LinkCall) → Links → List Event
  on_link made network = run_on link (at_client site connection made) network

  calls_there : (Is : Call → Type 0) (Was : LinkCall → Type 0) → ((call : LinkCall) → Was call → Is (as_call connection call)) → (made : List (Node × LinkCall))
      → Each (λ (one : Node × LinkCall). Was one.1) made → (network : Links)
      → Each (AtClient Is) (on_link made network)
  calls_there Is Was turn [] each network = tt
  calls_there Is Was turn (first ∷ others) each network =
      each_both (AtClient Is) (events_on link (CallsOn (link_at site first.0) Role.Client (as_call connection first.1)) network) _ (by_link (link == link_at site first.0))
      (calls_there Is Was turn others each.1 (happened_to (CallsOn (link_at site first.0) Role.Client (as_call connection first.1)) network))
    where
      by_link : (b : Bool)
          → Each (AtClient Is)
          (if b then Calls Role.Client (as_call connection first.1) ∷ [] else Elsewhere (length (sent_by Role.Client (as_call connection first.1) (seen (link_at site first.0) network))) ∷ [])
      by_link true = (turn first.1 each.0, tt)
      by_link false = (tt, tt)

  said_there : (made : List (Node × LinkCall)) → Each IsSaidAt made → (network : Links) → Each (AtClient IsReply) (on_link made network)
  said_there = calls_there IsReply IsSaid (reply_of connection)

  own_there : (made : List (Node × LinkCall)) → Each IsOwnAt made → (network : Links) → Each (AtClient TakesNone) (on_link made network)
  own_there = calls_there TakesNone IsOwn (takes_none_of connection)

-- A step at one link: nothing is taken, or something is said at most after the first event.
pub data StepsOn (events : List Event) : Type 0 where
  takes_none : Each (AtClient TakesNone) events → StepsOn events
  comes_first : (first : Event) (others : List Event) → events ≡ first ∷ others → Each (AtClient IsReply) others → StepsOn events

-- what is done with one, or with none
one_none : {A : Type 0} (found : Option A) (does : A → StepSoFar → StepSoFar) (part : StepSoFar) → found ≡ None → with_one found does part ≡ part
one_none None does part e = refl
one_none (Some one) does part e = absurd (none-some one (sym e))

one_some : {A : Type 0} (found : Option A) (one : A) (does : A → StepSoFar → StepSoFar) (part : StepSoFar) → found ≡ Some one → with_one found does part ≡ does one part
one_some found one does part e = ap (λ (o : Option _). with_one o does part) e

-- ---- ticks

module _ (now : ℕ) (table : Table) where
  ticks_own : (node : ℕ → Node) (n : ℕ) → Each IsOwnAt (ticks_of now table node n)
  ticks_own node zero = tt
  ticks_own node (suc n) = each_both IsOwnAt (ticks_of now table node n) (tick_of now table (node n)) (ticks_own node n) (tt, (tt, tt))

  all_ticks_own : (ixl : IxlState) → Each IsOwnAt (all_ticks now table ixl)
  all_ticks_own ixl =
      each_both IsOwnAt (ticks_of now table Signal (length ixl.known_signals)) (ticks_of now table Point (length ixl.known_points) ++ ticks_of now table Detector (length ixl.detectors))
      (ticks_own Signal (length ixl.known_signals))
      (each_both IsOwnAt (ticks_of now table Point (length ixl.known_points)) (ticks_of now table Detector (length ixl.detectors))
      (ticks_own Point (length ixl.known_points)) (ticks_own Detector (length ixl.detectors)))

  -- ---- a datagram

  -- it comes to a client, or to none
  there_or_none : (bytes : List ℕ) (node : Node) (part : StepSoFar) → IsThere now table node part.ixl ⊎ (node_hearing now table bytes node part ≡ part)
  unfolding node_hearing known_signal_hearing known_point_hearing detector_hearing
  there_or_none bytes (Signal place) part = by_found (slice_get part.ixl.known_signals place) refl
    where
      by_found : (found : Option KnownSignalState) → slice_get part.ixl.known_signals place ≡ found
          → IsThere now table (Signal place) part.ixl ⊎ (node_hearing now table bytes (Signal place) part ≡ part)
      by_found None e = inr (one_none (slice_get part.ixl.known_signals place) _ part e)
      by_found (Some known) e = inl (known, e)
  there_or_none bytes (Point place) part = by_found (slice_get part.ixl.known_points place) refl
    where
      by_found : (found : Option KnownPointState) → slice_get part.ixl.known_points place ≡ found
          → IsThere now table (Point place) part.ixl ⊎ (node_hearing now table bytes (Point place) part ≡ part)
      by_found None e = inr (one_none (slice_get part.ixl.known_points place) _ part e)
      by_found (Some known) e = inl (known, e)
  there_or_none bytes (Detector place) part = by_sections (slice_get table.detectors place) refl (slice_get part.ixl.detectors place) refl
    where
      by_sections : (sections : Option (List ℕ)) → slice_get table.detectors place ≡ sections → (found : Option KnownDetectorState) → slice_get part.ixl.detectors place ≡ found
          → IsThere now table (Detector place) part.ixl ⊎ (node_hearing now table bytes (Detector place) part ≡ part)
      by_sections None e found f = inr (one_none (slice_get table.detectors place) _ part e)
      by_sections (Some sections) e None f = inr (one_some (slice_get table.detectors place) sections _ part e ∙ one_none (slice_get part.ixl.detectors place) _ part f)
      by_sections (Some sections) e (Some known) f = inl (sections, known, e, f)

-- ---- a step

module _ (site : Site) (table : Table) (connection link : ℕ) (station : ClockedInterlockingState) (network : Links) where
  abbrev now : ℕ
  now = reading_of station.clock

  abbrev before : StepSoFar
  before = begun_with station.ixl empty_outbox

  abbrev clocked_before : StepSoFar
  clocked_before = record before { ixl = all_clocked now station.ixl }

  abbrev On : Input → Type 0
  On input = StepsOn (run_on link (interlocking_events site table input connection station) network)

  -- of these calls of the step
  of_calls : (input : Input) (made : List (Node × LinkCall)) → interlocking_events site table input connection station ≡ at_client site connection made
      → StepsOn (run_on link (at_client site connection made) network) → On input
  of_calls input made same steps = subst (λ (events : List LinksEvent). StepsOn (run_on link events network)) (sym same) steps

  tick_steps : On Tick
  tick_steps =
      let made = tick_ticks now table (key_of site) before
      in of_calls Tick (made.0 ++ all_ticks now table station.ixl) (ap (at_client site connection) made.1.1) (takes_none (own_there site connection link (made.0 ++ all_ticks now table station.ixl)
      (each_both IsOwnAt made.0 (all_ticks now table station.ixl) (said_own_at made.0 made.1.0) (all_ticks_own now table station.ixl)) network))

  says_alone : (input : Input) (made : List (Node × LinkCall)) → Each IsSaidAt made → interlocking_events site table input connection station ≡ at_client site connection made → On input
  says_alone input made each same = of_calls input made same (takes_none (own_there site connection link made (said_own_at made each) network))

  command_steps : (command : Command) → On (Commands command)
  command_steps command = let says = command_says now table (key_of site) before command in says_alone (Commands command) says.more says.each (ap (at_client site connection) says.are)

  none_heard : (bytes : List ℕ) → given now table (key_of site) (Datagram bytes) clocked_before ≡ clocked_before → On (Datagram bytes)
  none_heard bytes none = let says = others_say now table (key_of site) before bytes none in says_alone (Datagram bytes) says.more says.each (ap (at_client site connection) says.are)

  -- what comes to a client is taken first
  first_of : (bytes : List ℕ) (node : Node) (more : List (Node × LinkCall)) → Each IsSaidAt more → StepsOn (run_on link (at_client site connection ((node, Receives bytes) ∷ more)) network)
  first_of bytes node more each = choose (link == link_at site node)
    where
      then_network : Links
      then_network = happened_to (CallsOn (link_at site node) Role.Client (as_call connection (Receives bytes))) network

      rest : List Event
      rest = run_on link (at_client site connection more) then_network

      elsewhere : Event
      elsewhere = Elsewhere (length (sent_by Role.Client (as_call connection (Receives bytes)) (seen (link_at site node) network)))

      choose : (b : Bool) → StepsOn ((if b then Calls Role.Client (as_call connection (Receives bytes)) ∷ [] else elsewhere ∷ []) ++ rest)
      choose true = comes_first (Calls Role.Client (as_call connection (Receives bytes))) rest refl (said_there site connection link more each then_network)
      choose false = comes_first elsewhere rest refl (said_there site connection link more each then_network)

  datagram_steps : (bytes : List ℕ) → On (Datagram bytes)
  unfolding given
  datagram_steps bytes = by_found (addressed (reading (key_of site) bytes) (all_clocked now station.ixl)) refl
    where
      heard : Option Node
      heard = addressed (reading (key_of site) bytes) (all_clocked now station.ixl)

      by_there : (node : Node) → heard ≡ Some node → IsThere now table node (all_clocked now station.ixl) ⊎ (node_hearing now table bytes node clocked_before ≡ clocked_before)
          → On (Datagram bytes)
      by_there node e (inr none) = none_heard bytes (one_some heard node (node_hearing now table bytes) clocked_before e ∙ none)
      by_there node e (inl there) =
          let made = datagram_hears now table (key_of site) before bytes node e there
          in of_calls (Datagram bytes) ((node, Receives bytes) ∷ made.0) (ap (at_client site connection) made.1.1) (first_of bytes node made.0 made.1.0)

      by_found : (found : Option Node) → heard ≡ found → On (Datagram bytes)
      by_found None e = none_heard bytes (one_none heard (node_hearing now table bytes) clocked_before e)
      by_found (Some node) e = by_there node e (there_or_none now table bytes node clocked_before)

  pub step_on : (input : Input) → On input
  step_on Tick = tick_steps
  step_on (Datagram bytes) = datagram_steps bytes
  step_on (Commands command) = command_steps command
