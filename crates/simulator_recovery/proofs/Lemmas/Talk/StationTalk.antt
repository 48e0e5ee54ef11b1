-- What the clients of a station have given is what their stages tell, step by step.
use Rattle.simulator_recovery.proofs.Words.Basics.{◌≡◌, ◌≢◌, ℕ, zero, suc, ◌∙◌, ◌<◌, ◌+◌, ◌==◌, Bool, true, false, not, ◌&&◌, List, [], ◌∷◌, ◌++◌, length, map, Option, Some, None, slice_get, Result, Ok, Err, ◌⊎◌, if◌then◌else◌, refl, sym, ap, subst, arith, ◌||◌, nat_lt, list_any, false≢true, nat_tests, none-some, same_Some, slice_get_within}
use Rattle.simulator_recovery.proofs.Words.Links.{hearing_bytes, receiving, deadline, open_state, settled, state_at, AreTimely, Call, EndState, end_restarted, reading_of, run, AreLinks, CallsOn, Links, MayRunLinks, RestartsOn, happened_to, run_links, seen, at_link, restarts_of, Step, Receipt, by_state, hearing as link_hearing, refusing, resting, Ends, called, restarted, LinkState, is_client, is_open, is_up, calls_at, Role, State, Verdict, reading, Body, ConnectionRequest, ConnectionResponse, Data, DisconnectionRequest, Heartbeat, RetransmissionRequest, RetransmissionResponse, RetransmittedData, PduFault, Pdu}
use Rattle.simulator_recovery.proofs.Words.Controllers.{as_call as host_call, Aspect, Behaviour, Input as HostInput}
use Rattle.simulator_recovery.proofs.Words.Interlockings.{IsTableOf, ClientState, PeerState, is_outside, LinkCall, as_call, begun, clocked, commanding, fallen, hearing, ticking, Stage, IxlState, KnownDetectorState, KnownPointState, KnownSignalState, Detector, Node, Point, Signal, StepSoFar, begun_with, empty_outbox, Row, Table}
use Rattle.simulator_recovery.proofs.Words.Stations.{is_slow, RouteEntry, Site, step_of, interlocking_step, AreLinksOf, client_links, names_at, detector_link, key_of, links, partners, point_link, ClockedControllerState, WorldState, AreOfNodes, IsNodeOf, link_at, node_call, host_events, interlocking_events, MayComeWith, IsWhole}
use Rattle.simulator_recovery.proofs.Words.Machine.{ClientIsAfter, given_after, taken_after}
use Rattle.simulator_recovery.proofs.Words.Recovery.{ClientHasSaid, ClientTalks, ClientHasActedOn, ClientStandsAt, ClientStandsByCounts, EachClient, IsSpoken, SpeaksAt, LawsBelow}
use Rattle.simulator_spec.specs.ixl_client.declared.command.Command.{Command}
use Rattle.simulator_spec.specs.ixl_spec.Step as ixl
use Rattle.simulator_recovery.proofs.Lemmas.Ground.ClientItem.{at_front, partners_length}
use Rattle.simulator_recovery.proofs.Lemmas.Ground.AtLink.{mapped, of_second, of_third}
use Rattle.simulator_recovery.proofs.Lemmas.Ground.ClientBehind.{aspect_leads, available_ready, begins_here, move_leads, so_far_behind}
use Rattle.simulator_recovery.proofs.Lemmas.Talk.ClientLinks.{ClockedStands, clocked_peer, clocked_stands, not_false, outside_is, up_open}
use Rattle.simulator_recovery.proofs.Lemmas.Talk.ClientTalk.{OfNode, SoFar, commanding_so_far, hearing_so_far, ticking_so_far}
use Rattle.simulator_recovery.proofs.Lemmas.Ground.IxlSoFar.{All, SoFarKeeps, at_node, is_node, step_held}
use Rattle.simulator_recovery.proofs.Lemmas.Ground.LinkCounts.{AfterReceipt, comes_in, entered_closed, receipt_counts, settled_again, settled_open, stays_in}
use Rattle.simulator_recovery.proofs.Lemmas.Ground.EndCalls.{at_place, map_length}
use Rattle.simulator_recovery.proofs.Lemmas.Ground.DueTests.{same_number}

-- ---- a client that is outside enters nothing by what comes

module _ (p : Pdu) (l : LinkState) (outside : is_open l.phase ≡ false) (asks : is_client l.identity.role ≡ true) where
  abbrev Shut : Receipt → Type 0
  Shut r = is_open r.link.phase ≡ false

  rests : (body : Body) → Shut (resting body p l)
  unfolding resting
  rests (ConnectionRequest o) = rw asks outside
  rests (ConnectionResponse o) = outside
  rests RetransmissionRequest = outside
  rests RetransmissionResponse = outside
  rests (DisconnectionRequest d r) = outside
  rests Heartbeat = outside
  rests (Data x) = outside
  rests (RetransmittedData x) = outside

  hears_shut : Shut (link_hearing p l)
  unfolding link_hearing state_at by_state
  hears_shut = choose (p.receiver == l.identity.own) (p.sender == l.identity.partner)
    where
      quiet : (b : Bool) → Shut (by_state (if b then State.Quiet else State.Down) p l)
      quiet true = outside
      quiet false = rests p.body

      by_clock : (a : Bool) → a ≡ false → (b c : Bool) → Shut (by_state (if a && b then open_state l.phase else (if c then State.Quiet else State.Down)) p l)
      by_clock true e b c = absurd (false≢true (sym e))
      by_clock false e b c = quiet c

      choose : (a b : Bool) → Shut (if not a then refusing Verdict.NotForMe l else if not b then refusing Verdict.WrongSender l else by_state (state_at l.clock l) p l)
      choose false b = outside
      choose true false = outside
      choose true true = by_clock (is_open l.phase) outside (nat_lt l.clock (deadline l)) (nat_lt l.clock (deadline l + 6000))

module _ (now : ℕ) (bytes : List ℕ) where
  pub stays_shut : (l : LinkState) → is_open l.phase ≡ false → is_client l.identity.role ≡ true → is_open (receiving now bytes l).link.phase ≡ false
  unfolding receiving hearing_bytes
  stays_shut l outside asks = ap (λ (s : Step). is_open (hearing_bytes (reading l.identity.key bytes) s.link).link.phase) (entered_closed now l outside) ∙ by_reading (reading l.identity.key bytes)
    where
      at : LinkState
      at = record l { clock = now }

      by_reading : (what : Result Pdu PduFault) → is_open (hearing_bytes what at).link.phase ≡ false
      by_reading (Err fault) = outside
      by_reading (Ok pdu) = hears_shut pdu at outside asks

-- ---- the clients' ends

abbrev pub gave : Links → ℕ → List (List ℕ)
gave network link = (network.ends link).client.given

abbrev pub took : Links → ℕ → List (List ℕ)
took network link = (network.ends link).client.taken

-- they have given and taken the same
pub record SameLists (old new : Links) : Type 0 where
  pub given : (link : ℕ) → gave new link ≡ gave old link
  pub taken : (link : ℕ) → took new link ≡ took old link

not_same : (a b : ℕ) → (a == b) ≡ false → a ≢ b
not_same a b e same = absurd (false≢true (sym e ∙ grind (arith, nat_tests, same)))

server_calls : (calls : List Call) (two : Ends) → (run (calls_at Role.Server calls) two).client ≡ two.client
unfolding called
server_calls [] two = refl
server_calls (first ∷ others) two = server_calls others (called Role.Server first two)

-- an end that is made anew keeps what it gave and took
pub anew_same : (link : ℕ) (who : Role) (clock first : ℕ) (network : Links) → SameLists network (happened_to (RestartsOn link who clock first) network)
unfolding restarted end_restarted
anew_same link who clock first network = record { given = λ other. of_given who (other == link) other refl; taken = λ other. of_taken who (other == link) other refl }
  where
    of_given : (w : Role) (b : Bool) (other : ℕ) → (other == link) ≡ b → gave (happened_to (RestartsOn link w clock first) network) other ≡ gave network other
    of_given Role.Client true other e = rw (e, gave) (ap (gave network) (sym (same_number other link e)))
    of_given Role.Client false other e = rw (e, gave) refl
    of_given Role.Server true other e = rw (e, gave) (ap (gave network) (sym (same_number other link e)))
    of_given Role.Server false other e = rw (e, gave) refl

    of_taken : (w : Role) (b : Bool) (other : ℕ) → (other == link) ≡ b → took (happened_to (RestartsOn link w clock first) network) other ≡ took network other
    of_taken Role.Client true other e = rw (e, took) (ap (took network) (sym (same_number other link e)))
    of_taken Role.Client false other e = rw (e, took) refl
    of_taken Role.Server true other e = rw (e, took) (ap (took network) (sym (same_number other link e)))
    of_taken Role.Server false other e = rw (e, took) refl

same_then : (one two three : Links) → SameLists one two → SameLists two three → SameLists one three
same_then one two three first second = record { given = λ link. second.given link ∙ first.given link; taken = λ link. second.taken link ∙ first.taken link }

pub all_anew_same : (who : Role) (clock : ℕ) (firsts : ℕ → ℕ) (numbers : List ℕ) (network : Links) → SameLists network (run_links (restarts_of who clock firsts numbers) network)
all_anew_same who clock firsts [] network = record { given = λ link. refl; taken = λ link. refl }
all_anew_same who clock firsts (first ∷ others) network = same_then network (happened_to (RestartsOn first who clock (firsts first)) network) _ (anew_same first who clock (firsts first) network)
    (all_anew_same who clock firsts others (happened_to (RestartsOn first who clock (firsts first)) network))

-- a controller's calls leave the clients
pub host_same : LawsBelow → {Object : Type 0} (does : Behaviour Object) (input : HostInput) (connection link : ℕ) (found : Option (ClockedControllerState Object)) (network : Links)
    → SameLists network (run_links (host_events does input connection link found) network)
host_same laws does input connection link None network = record { given = λ other. refl; taken = λ other. refl }
host_same laws does input connection link (Some c) network = record { given = λ other. ap (λ (e : EndState). e.given) (same other (other == link) refl); taken = λ other. ap (λ (e : EndState). e.taken) (same other (other == link) refl) }
  where
    calls : List Call
    calls = map (host_call connection) (step_of does input c).calls

    after : Links
    after = run_links (map (λ call. CallsOn link Role.Server call) calls) network

    same : (other : ℕ) (b : Bool) → (other == link) ≡ b → (after.ends other).client ≡ (network.ends other).client
    same other true e = subst (λ (n : ℕ). (after.ends n).client ≡ (network.ends n).client) (sym (same_number other link e)) (ap (λ (two : Ends). two.client) (laws.a_node_of_one_link_makes_a_step_own Role.Server link calls network) ∙ server_calls calls (seen link network))
    same other false e = laws.a_node_of_one_link_makes_a_step_ends Role.Server link other calls network (not_same other link e) Role.Client

-- ---- the calls at one link

pub at_link_is : (site : Site) (connection : ℕ) (node : Node) → IsNodeOf site node → (calls : List (Node × LinkCall)) → AreOfNodes site calls
    → at_link (link_at site node) (map (node_call site connection) calls) ≡ map (as_call connection) (at_node node calls)
unfolding at_node
at_link_is site connection node of [] are = refl
at_link_is site connection node of (first ∷ others) are = choose (link_at site node == link_at site first.0) (is_node node first.0) refl refl (at_link_is site connection node of others are.1)
  where
    rest : List Call
    rest = at_link (link_at site node) (map (node_call site connection) others)

    yes : (a b : ℕ) → a ≡ b → (a == b) ≡ true
    yes a b e = grind (arith, nat_tests)

    no : (a b : ℕ) → a ≢ b → (a == b) ≡ false
    no a b e = by_test (a == b) refl
      where
        by_test : (t : Bool) → (a == b) ≡ t → (a == b) ≡ false
        by_test false f = f
        by_test true f = absurd (e (same_number a b f))

    same_test : (n m : Node) → IsNodeOf site n → IsNodeOf site m → (link_at site n == link_at site m) ≡ is_node n m
    same_test (Signal a) (Signal b) f g = by_test (b == a) refl
      where
        by_test : (t : Bool) → (b == a) ≡ t → (a == b) ≡ (b == a)
        by_test true h = yes a b (sym (same_number b a h)) ∙ sym h
        by_test false h = no a b (λ s. not_same b a h (sym s)) ∙ sym h
    same_test (Point a) (Point b) f g = by_test (b == a) refl
      where
        by_test : (t : Bool) → (b == a) ≡ t → (point_link site a == point_link site b) ≡ (b == a)
        by_test true h = let s = same_number b a h in yes (point_link site a) (point_link site b) (omega (arith, s)) ∙ sym h
        by_test false h = no (point_link site a) (point_link site b) (λ s. not_same b a h (omega (arith, s))) ∙ sym h
    same_test (Detector a) (Detector b) f g = by_test (b == a) refl
      where
        by_test : (t : Bool) → (b == a) ≡ t → (detector_link site a == detector_link site b) ≡ (b == a)
        by_test true h = let s = same_number b a h in yes (detector_link site a) (detector_link site b) (omega (arith, s)) ∙ sym h
        by_test false h = no (detector_link site a) (detector_link site b) (λ s. not_same b a h (omega (arith, s))) ∙ sym h
    same_test (Signal a) (Point b) f g = no a (point_link site b) (λ s. omega (arith, s, f))
    same_test (Signal a) (Detector b) f g = no a (detector_link site b) (λ s. omega (arith, s, f))
    same_test (Point a) (Signal b) f g = no (point_link site a) b (λ s. omega (arith, s, g))
    same_test (Point a) (Detector b) f g = no (point_link site a) (detector_link site b) (λ s. omega (arith, s, f))
    same_test (Detector a) (Signal b) f g = no (detector_link site a) b (λ s. omega (arith, s, g))
    same_test (Detector a) (Point b) f g = no (detector_link site a) (point_link site b) (λ s. omega (arith, s, g))

    choose : (a b : Bool) → (link_at site node == link_at site first.0) ≡ a → is_node node first.0 ≡ b → rest ≡ map (as_call connection) (at_node node others)
        → (if a then as_call connection first.1 ∷ rest else rest) ≡ map (as_call connection) (if b then first.1 ∷ at_node node others else at_node node others)
    choose true true e f more = ap (λ (l : List Call). as_call connection first.1 ∷ l) more
    choose false false e f more = more
    choose true false e f more = absurd (false≢true (sym f ∙ sym (same_test node first.0 of are.0) ∙ e))
    choose false true e f more = absurd (false≢true (sym e ∙ same_test node first.0 of are.0 ∙ f))

-- ---- the rows of the table

any_there : {X : Type 0} (test : X → Bool) (list : List X) (place : ℕ) (one : X) → slice_get list place ≡ Some one → test one ≡ true → list_any test list ≡ true
any_there test [] place one e holds = absurd (none-some one e)
any_there test (x ∷ xs) zero one e holds = choose (test x) (ap test (same_Some x one e) ∙ holds)
  where
    choose : (b : Bool) → b ≡ true → (b || list_any test xs) ≡ true
    choose true h = refl
    choose false h = absurd (false≢true h)
any_there test (x ∷ xs) (suc place) one e holds = choose (test x) (any_there test xs place one e holds)
  where
    choose : (b : Bool) → list_any test xs ≡ true → (b || list_any test xs) ≡ true
    choose true h = refl
    choose false h = h

module _ (site : Site) (table : Table) (is_table : IsTableOf site table) where
  -- each row's aspect is one that the version has: where a route is slow, this is the second
  row_spoken : (number : ℕ) (row : Row) → slice_get table.rows number ≡ Some row → IsSpoken site row.aspect
  row_spoken number row e = by_aspect row.aspect refl
    where
      by_aspect : (aspect : Aspect) → row.aspect ≡ aspect → IsSpoken site aspect
      by_aspect Aspect.Stop f = refl
      by_aspect Aspect.Proceed f = refl
      by_aspect Aspect.Slow f =
          let has = (is_table.rows.their number row e).aspect
          in let slow : is_slow has.0.aspect ≡ true = ap is_slow (has.2 ∙ f)
          in rw (any_there (λ (r : RouteEntry). is_slow r.aspect) site.routes number has.0 has.1 slow) refl

-- ---- a client before a step

pub fallen_link : (c : ClientState) → (fallen c).link ≡ c.link
unfolding fallen
fallen_link c = choose (is_up c.link.phase)
  where
    choose : (b : Bool) → (if b then c else record c { stage = Stage.Outside }).link ≡ c.link
    choose true = refl
    choose false = refl

pub clocked_link : (now : ℕ) (client : ClientState) → (clocked now client).link ≡ settled now client.link
unfolding clocked
clocked_link now client = fallen_link (record client { link = settled now client.link })

pub clocked_talks : (site : Site) (node : Node) (now : ℕ) (client : ClientState) (given taken : List (List ℕ)) → ClientTalks site node client given taken → ClientTalks site node (clocked now client) given taken
unfolding clocked fallen
clocked_talks site node now client given taken talks = choose (is_up (settled now client.link).phase) refl
  where
    at : ClientState
    at = record client { link = settled now client.link }

    -- while it is open it is as it was
    was : is_open (settled now client.link).phase ≡ true → (is_open client.link.phase ≡ true) × (is_up (settled now client.link).phase ≡ is_up client.link.phase)
    was e = let so = settled_open now client.link e in (so.1, ap (λ (l : LinkState). is_up l.phase) so.0)

    choose : (b : Bool) → is_up (settled now client.link).phase ≡ b → ClientTalks site node (if b then at else record at { stage = Stage.Outside }) given taken
    choose true e = record {
      outside = talks.outside ∙ ap not (sym (was (up_open _ e)).1);
      acted = λ opened. talks.acted (was opened).0;
      said = λ opened. talks.said (was opened).0;
      ever = talks.ever;
    }
    choose false e = record {
      outside = sym (ap not e);
      acted = λ opened. subst (λ (s : Stage). ClientHasActedOn client.peer s (length taken)) (out opened) (talks.acted (was opened).0);
      said = λ opened. subst (λ (s : Stage). ClientHasSaid site node client.peer s (length taken) given) (out opened) (talks.said (was opened).0);
      ever = talks.ever;
    }
      where
        out : is_open (settled now client.link).phase ≡ true → client.stage ≡ Stage.Outside
        out opened = outside_is client.stage (not_false (is_outside client.stage) (is_up client.link.phase) talks.outside (sym (was opened).1 ∙ e))

-- what is known of a datagram that comes to a client
pub client_comes : (now : ℕ) (bytes : List ℕ) (client : ClientState) → ClockedStands now client → is_client client.link.identity.role ≡ true → is_open (receiving now bytes client.link).link.phase ≡ true
    → (is_open client.link.phase ≡ true) × (((receiving now bytes client.link).items ≡ []) ⊎ (is_up (receiving now bytes client.link).link.phase ≡ true)) × (is_up client.link.phase ≡ true → is_up (receiving now bytes client.link).link.phase ≡ true)
client_comes now bytes client is asks opened = by_open (is_open client.link.phase) refl
  where
    by_open : (b : Bool) → is_open client.link.phase ≡ b
        → (is_open client.link.phase ≡ true) × (((receiving now bytes client.link).items ≡ []) ⊎ (is_up (receiving now bytes client.link).link.phase ≡ true)) × (is_up client.link.phase ≡ true → is_up (receiving now bytes client.link).link.phase ≡ true)
    by_open false e = absurd (false≢true (sym (stays_shut now bytes client.link e asks) ∙ opened))
    by_open true e = let c = is.stands.stands e in choose c.taken c.given (receipt_counts now bytes c.taken c.given client.link opened (λ g. c.counts))
      where
        choose : (taken given : ℕ) → AfterReceipt now bytes taken given client.link
            → (is_open client.link.phase ≡ true) × (((receiving now bytes client.link).items ≡ []) ⊎ (is_up (receiving now bytes client.link).link.phase ≡ true)) × (is_up client.link.phase ≡ true → is_up (receiving now bytes client.link).link.phase ≡ true)
        choose taken given (stays_in is_in counts up stays_up) = (is_in, up, stays_up)
        choose taken given (comes_in was none counts) = absurd (false≢true (sym (ap (λ (l : LinkState). is_open l.phase) is.link_is ∙ settled_again now is.link (ap (λ (l : LinkState). is_open (settled now l).phase) (sym is.link_is) ∙ was)) ∙ e))

-- ---- all clients

-- what the clients of an interlocking have given and taken
pub record TalkOf (site : Site) (known : IxlState) (network : Links) : Type 0 where
  pub signals : (place : ℕ) (one : KnownSignalState) → slice_get known.known_signals place ≡ Some one → ClientTalks site (Signal place) one.client (gave network place) (took network place)
  pub points : (place : ℕ) (one : KnownPointState) → slice_get known.known_points place ≡ Some one → ClientTalks site (Point place) one.client (gave network (point_link site place)) (took network (point_link site place))
  pub detectors : (place : ℕ) (one : KnownDetectorState) → slice_get known.detectors place ≡ Some one → ClientTalks site (Detector place) one.client (gave network (detector_link site place)) (took network (detector_link site place))

pub with_lists : (site : Site) (node : Node) (client : ClientState) {g t h u : List (List ℕ)} → h ≡ g → u ≡ t → ClientTalks site node client g t → ClientTalks site node client h u
with_lists site node client {g} {t} {h} {u} e f talks = subst (λ (a : List (List ℕ)). ClientTalks site node client a u) (sym e) (subst (ClientTalks site node client g) (sym f) talks)

pub same_talk : (site : Site) (known : IxlState) (old new : Links) → SameLists old new → TalkOf site known old → TalkOf site known new
same_talk site known old new same talk = record {
  signals = λ place one e. with_lists site (Signal place) one.client (same.given place) (same.taken place) (talk.signals place one e);
  points = λ place one e. with_lists site (Point place) one.client (same.given (point_link site place)) (same.taken (point_link site place)) (talk.points place one e);
  detectors = λ place one e. with_lists site (Detector place) one.client (same.given (detector_link site place)) (same.taken (detector_link site place)) (talk.detectors place one e);
}

-- a step of an interlocking, from links that are the world's
module _ (laws : LawsBelow) (site : Site) (table : Table) (is_table : IsTableOf site table) (input : ixl.Input) (connection : ℕ) (world : WorldState) (network : Links) (named : AreLinks (links site) (names_at site)) (whole : IsWhole site world)
    (timely : AreTimely (links site) (names_at site) network) (are : AreLinksOf site world network) (comes : MayComeWith site input connection network)
    (may : MayRunLinks (links site) (names_at site) (interlocking_events site table input connection world.interlocking) network) (stands : EachClient (ClientStandsAt site) world.interlocking.ixl) (speaks : EachClient (SpeaksAt site) world.interlocking.ixl)
    (talk : TalkOf site world.interlocking.ixl network) where
  abbrev now : ℕ
  now = reading_of world.interlocking.clock

  abbrev known : IxlState
  known = world.interlocking.ixl

  abbrev link_of : Node → LinkState
  link_of node = (network.ends (link_at site node)).client.link

  pub record Before (node : Node) (client : ClientState) : Type 0 where
    pub there : IsNodeOf site node
    pub counts : ClientStandsByCounts client
    pub of : OfNode node client.peer
    pub link_is : settled now client.link ≡ link_of node
    pub asks : is_client (link_of node).identity.role ≡ true
    pub talks : ClientTalks site node client (gave network (link_at site node)) (took network (link_at site node))

  record Holds (node : Node) (client : ClientState) (calls : List LinkCall) : Type 0 where
    there : IsNodeOf site node
    peer : PeerState
    of : OfNode node peer
    so : SoFar site node peer of now connection (link_of node) (gave network (link_at site node)) (took network (link_at site node)) client calls

  record Settled (node : Node) (client : ClientState) (calls : List LinkCall) : Type 0 where
    none : calls ≡ []
    counts : ClockedStands now client
    asks : is_client client.link.identity.role ≡ true
    holds : Holds node client calls

  abbrev Spoken : ℕ → Aspect → Type 0
  Spoken place aspect = IsSpoken site aspect

  clock : (node : Node) (client : ClientState) → Before node client → Settled node (clocked now client) []
  clock node client b = record {
    none = refl;
    counts = clocked_stands now client b.counts;
    asks = ap (λ (l : LinkState). is_client l.identity.role) (clocked_link now client ∙ b.link_is) ∙ b.asks;
    holds = record {
      there = b.there;
      peer = client.peer;
      of = b.of;
      so = begins_here now connection site node client.peer b.of (link_of node) (gave network (link_at site node)) (took network (link_at site node)) (clocked now client) (clocked_peer now client) (clocked_link now client ∙ b.link_is)
          (clocked_talks site node now client (gave network (link_at site node)) (took network (link_at site node)) b.talks);
    };
  }

  -- a part that goes on from what holds
  goes_on : (node : Node) (client after : ClientState) (calls more : List LinkCall) (h : Holds node client calls)
      → (SoFar site node h.peer h.of now connection client.link (given_after now (map (as_call connection) calls) (link_of node) (gave network (link_at site node))) (taken_after now (map (as_call connection) calls) (link_of node) (took network (link_at site node))) client []
      → SoFar site node h.peer h.of now connection client.link (given_after now (map (as_call connection) calls) (link_of node) (gave network (link_at site node))) (taken_after now (map (as_call connection) calls) (link_of node) (took network (link_at site node))) after more)
      → Holds node after (calls ++ more)
  goes_on node client after calls more h part = record {
    there = h.there;
    peer = h.peer;
    of = h.of;
    so = so_far_behind now connection site node h.peer h.of (link_of node) (gave network (link_at site node)) (took network (link_at site node)) calls more client after h.so
        (part (begins_here now connection site node h.peer h.of client.link _ _ client h.so.peer_is refl h.so.talks));
  }

  abbrev Any : List ℕ → Type 0
  Any bytes = Unit {0}

  keep : SoFarKeeps now Spoken Any Before Settled Holds
  keep = record {
    clock = clock;
    weaker = λ node client calls s. s.holds;
    hears = λ node bytes client outbox calls comes s. goes_on node client (hearing now bytes (begun client outbox)).client calls (hearing now bytes (begun client outbox)).calls s.holds
        (hearing_so_far site node s.holds.peer s.holds.of now connection client.link _ _ bytes (begun client outbox) (client_comes now bytes client s.counts s.asks));
    aspects = λ place aspect client outbox calls spoken ready h. goes_on (Signal place) client (commanding now (Command.Indicate aspect) (begun client outbox)).client calls (commanding now (Command.Indicate aspect) (begun client outbox)).calls h
        (commanding_so_far site (Signal place) h.peer h.of now connection client.link _ _ (Command.Indicate aspect) (begun client outbox) ready (aspect_leads site place h.peer aspect spoken client.stage ready));
    moves = λ place side client outbox calls available h. goes_on (Point place) client (commanding now (Command.Move side) (begun client outbox)).client calls (commanding now (Command.Move side) (begun client outbox)).calls h
        (commanding_so_far site (Point place) h.peer h.of now connection client.link _ _ (Command.Move side) (begun client outbox) (available_ready client.stage available) (move_leads site place h.peer side client.stage available));
    ticks = λ node client outbox calls h. goes_on node client (ticking now (begun client outbox)).client calls (ticking now (begun client outbox)).calls h
        (ticking_so_far site node h.peer h.of now connection client.link _ _ (begun client outbox));
  }

  -- ---- how the step begins

  below : (node : Node) → IsNodeOf site node → link_at site node < links site
  below (Signal place) there = omega (arith, there)
  below (Point place) there = omega (arith, there)
  below (Detector place) there = omega (arith, there)

  settled_at : (node : Node) (client : ClientState) → IsNodeOf site node → slice_get (client_links known) (link_at site node) ≡ Some client.link → settled now client.link ≡ link_of node
  settled_at node client there e =
      let id = at_place (partners site) (link_at site node) (subst (λ (n : ℕ). link_at site node < n) (sym (partners_length site)) (below node there))
      in let c = are.clients (link_at site node) id.0 id.1
      in ap (settled now) (same_Some client.link c.kept (sym e ∙ c.there)) ∙ sym c.link_is

  asks_at : (node : Node) → IsNodeOf site node → is_client (link_of node).identity.role ≡ true
  asks_at node there = ap (λ i. is_client i.role) (timely.each (link_at site node) (below node there)).client.identity

  signals_many : length known.known_signals ≡ length site.signals
  signals_many = whole.clients.known_signals

  points_many : length known.known_points ≡ length site.points
  points_many = whole.clients.known_points

  detectors_many : length known.detectors ≡ length site.detectors
  detectors_many = whole.clients.detectors

  pub before : EachClient Before known
  before = record {
    signals = λ place one e.
        let there : place < length site.signals = let w = slice_get_within known.known_signals place one e in omega (arith, w, signals_many)
        in record {
          there = there;
          counts = (stands.signals place one e).stands;
          of = tt;
          link_is = settled_at (Signal place) one.client there (at_front _ _ place one.client.link (mapped (λ (k : KnownSignalState). k.client.link) known.known_signals place one e));
          asks = asks_at (Signal place) there;
          talks = talk.signals place one e;
        };
    points = λ place one e.
        let there : place < length site.points = let w = slice_get_within known.known_points place one e in omega (arith, w, points_many)
        in let entry = at_place site.points place there
        in record {
          there = there;
          counts = (stands.points place one e).stands;
          of = ap (λ (p : PeerState). p.protocol) (speaks.points place one e entry.0 entry.1);
          link_is = settled_at (Point place) one.client there (of_second (map (λ (k : KnownSignalState). k.client.link) known.known_signals) _ _ (length site.signals) place one.client.link (map_length _ known.known_signals ∙ signals_many)
              (mapped (λ (k : KnownPointState). k.client.link) known.known_points place one e));
          asks = asks_at (Point place) there;
          talks = talk.points place one e;
        };
    detectors = λ place one e.
        let there : place < length site.detectors = let w = slice_get_within known.detectors place one e in omega (arith, w, detectors_many)
        in record {
          there = there;
          counts = (stands.detectors place one e).stands;
          of = tt;
          link_is = settled_at (Detector place) one.client there (of_third (map (λ (k : KnownSignalState). k.client.link) known.known_signals) (map (λ (k : KnownPointState). k.client.link) known.known_points) _ (length site.signals) (length site.points) place one.client.link
              (map_length _ known.known_signals ∙ signals_many) (map_length _ known.known_points ∙ points_many) (mapped (λ (k : KnownDetectorState). k.client.link) known.detectors place one e));
          asks = asks_at (Detector place) there;
          talks = talk.detectors place one e;
        };
  }

  abbrev done : StepSoFar
  done = interlocking_step site table input world.interlocking

  abbrev after : Links
  after = run_links (interlocking_events site table input connection world.interlocking) network

  held : All now Spoken Any Before Settled Holds keep Holds done
  held = step_held now Spoken Any Before Settled Holds keep table (λ signal. refl) (row_spoken site table is_table) (key_of site) input (begun_with known empty_outbox) (λ bytes e. tt) refl before

  called_nodes : AreOfNodes site done.calls
  called_nodes = laws.interlockings_call_their_nodes site table input connection world network named whole timely are comes

  -- what a client has given and taken after the step is what its calls have made
  module _ (node : Node) (there : IsNodeOf site node) where
    is_after : ClientIsAfter (at_link (link_at site node) (map (node_call site connection) done.calls)) (seen (link_at site node) network) (seen (link_at site node) after)
    is_after = laws.a_client_of_many_makes_a_step (links site) (names_at site) (map (node_call site connection) done.calls) network named timely may (link_at site node) (below node there)

    clock_is : reading_of (network.ends (link_at site node)).client.clock ≡ now
    clock_is =
        let id = at_place (partners site) (link_at site node) (subst (λ (n : ℕ). link_at site node < n) (sym (partners_length site)) (below node there))
        in ap reading_of (are.clients (link_at site node) id.0 id.1).clock_is

    calls_are : at_link (link_at site node) (map (node_call site connection) done.calls) ≡ map (as_call connection) (at_node node done.calls)
    calls_are = at_link_is site connection node there done.calls called_nodes

    pub gave_behind_step : gave after (link_at site node) ≡ given_after now (map (as_call connection) (at_node node done.calls)) (link_of node) (gave network (link_at site node))
    gave_behind_step = is_after.given ∙ ap (λ (n : ℕ). given_after n (at_link (link_at site node) (map (node_call site connection) done.calls)) (link_of node) (gave network (link_at site node))) clock_is
        ∙ ap (λ (cs : List Call). given_after now cs (link_of node) (gave network (link_at site node))) calls_are

    pub took_behind_step : took after (link_at site node) ≡ taken_after now (map (as_call connection) (at_node node done.calls)) (link_of node) (took network (link_at site node))
    took_behind_step = is_after.taken ∙ ap (λ (n : ℕ). taken_after n (at_link (link_at site node) (map (node_call site connection) done.calls)) (link_of node) (took network (link_at site node))) clock_is
        ∙ ap (λ (cs : List Call). taken_after now cs (link_of node) (took network (link_at site node))) calls_are

  -- a client after the step
  talks_behind : (node : Node) (client : ClientState) → Holds node client (at_node node done.calls) → ClientTalks site node client (gave after (link_at site node)) (took after (link_at site node))
  talks_behind node client h = with_lists site node client (gave_behind_step node h.there) (took_behind_step node h.there) h.so.talks

  pub step_talks : TalkOf site (interlocking_step site table input world.interlocking).ixl (run_links (interlocking_events site table input connection world.interlocking) network)
  step_talks = record {
    signals = λ place one e. talks_behind (Signal place) one.client (held.signals place one e);
    points = λ place one e. talks_behind (Point place) one.client (held.points place one e);
    detectors = λ place one e. talks_behind (Detector place) one.client (held.detectors place one e);
  }

-- ---- an event

-- what is known of a station before an event
pub record Talking (site : Site) (world : WorldState) (network : Links) : Type 0 where
  pub stands : EachClient (ClientStandsAt site) world.interlocking.ixl
  pub speaks : EachClient (SpeaksAt site) world.interlocking.ixl
  pub talk : TalkOf site world.interlocking.ixl network
