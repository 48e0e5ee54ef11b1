-- What comes next to a controller is what its host expects, after every list of events.
use Rattle.simulator_recovery.proofs.Words.Basics.{◌≡◌, ◌⊎◌, inl, inr, ℕ, zero, suc, ◌+◌, ◌<◌, ◌≤◌, ◌∙◌, Bool, true, false, List, ◌∷◌, length, map, Some, slice_get, refl, sym, ap, subst, arith, false≢true, none-some, same_Some, slice_get_within, ◌^◌, IsTrue, length-append}
use Rattle.simulator_recovery.proofs.Words.Controllers.{reading, InitialisationRequest, VersionCheck, Behaviour, HostState, Stage, is_answered, unanswered, Progress, Aspect, is_outside, is_in_version, SignalState, signal_behaviour, point_behaviour, PointState, detection_behaviour, Section}
use Rattle.simulator_recovery.proofs.Words.Interlockings.{PeerState, item_of as item_said, Node, Point, IsTableOf, ClientState, message_of, Detector, Signal, Table}
use Rattle.simulator_recovery.proofs.Words.Stations.{Site, IsPeer, telegram_version, Once, IsStation, AreLinksOf, names_at, detector_link, point_link, ClockedControllerState, WorldState, IsReached}
use Rattle.simulator_recovery.proofs.Words.Recovery.{ClientSaid, IsGivenTo, asked, checked, commanded, nothing, AreMatched, HostExpectsItem, HostHasActedOn, WrittenIsRead, HaveFitting, NextFits, IsSpoken, SaidBy, SomeAsks, item_for, LawsBelow}
use Rattle.simulator_recovery.proofs.Words.Links.{reading_of, Links, seen, Names, stops_at_greatest, Ends, IsCounted, IsSafe, counts, made_anew, LinkState, is_open}
use Rattle.simulator_spec.specs.ixl_client.declared.command.Command.{Command}
use Rattle.simulator_recovery.proofs.Lemmas.Talk.ConversationFits.{check_expected, request_expected, aspect_expected, move_expected}
use Rattle.simulator_recovery.proofs.Lemmas.Talk.ExpectedItems.{each_at, only_at}
use Rattle.simulator_recovery.proofs.Lemmas.Ground.IxlClients.{mapped_at}
use Rattle.simulator_recovery.proofs.Lemmas.Ground.EndCalls.{map_length}
use Rattle.simulator_recovery.proofs.Lemmas.Talk.AlwaysExpected.{Stands, stands_first, stands_on}
use Rattle.simulator_recovery.proofs.Lemmas.Ground.SectionsEvents.{always_held}
use Rattle.simulator_recovery.proofs.Lemmas.Talk.BothEnds.{DetectorJoined, Joined, PointJoined, SignalJoined, detector_joined, point_joined, signal_joined}
use Rattle.simulator_recovery.proofs.Lemmas.Ground.HostKeeps.{ObjectKeeps}
use Rattle.simulator_recovery.proofs.Lemmas.Ground.LinkCounts.{settled_open}
use Rattle.simulator_recovery.proofs.Lemmas.Ground.MatchedEnds.{spoken}
use Rattle.simulator_recovery.proofs.Lemmas.Links.Moments.{exact}
use Rattle.simulator_recovery.proofs.Lemmas.Ground.OwnReports.{asks_none_other}
use Rattle.simulator_recovery.proofs.Lemmas.Talk.PointCounts.{waits, within_ever}

-- ---- what a client has given at a place is what the host of its controller expects by its stage

-- ---- what a client has given at a place

pub data SaidAt (site : Site) (node : Node) (peer : PeerState) (count : ℕ) (x : List ℕ) : Type 0 where
  checks : count ≡ 0 → item_said peer (VersionCheck peer.version) ≡ x → SaidAt site node peer count x
  requests : count ≡ 1 → item_said peer InitialisationRequest ≡ x → SaidAt site node peer count x
  says_command : 2 ≤ count → (command : Command) → IsGivenTo site node command → commanded peer command ≡ x → SaidAt site node peer count x

pub said_at : (site : Site) (node : Node) (peer : PeerState) (taken : ℕ) (items : List (List ℕ)) → ClientSaid site node peer taken items → (count : ℕ) (x : List ℕ) → slice_get items count ≡ Some x → SaidAt site node peer count x
said_at site node peer taken items (nothing is) count x e = absurd (none-some x (sym (ap (λ (list : List (List ℕ)). slice_get list count) is) ∙ e))
said_at site node peer taken items (checked is) count x e = let only = only_at _ count x (sym (ap (λ (list : List (List ℕ)). slice_get list count) is) ∙ e) in checks only.0 only.1
said_at site node peer taken items (asked c) count x e = at_count count (sym (ap (λ (list : List (List ℕ)). slice_get list count) c.are) ∙ e)
  where
    at_count : (n : ℕ) → slice_get (item_said peer (VersionCheck peer.version) ∷ item_said peer InitialisationRequest ∷ map (commanded peer) c.commands) n ≡ Some x → SaidAt site node peer n x
    at_count zero f = checks refl (same_Some _ x f)
    at_count (suc zero) f = requests refl (same_Some _ x f)
    at_count (suc (suc n)) f = let found = mapped_at (commanded peer) c.commands n x f in says_command (omega arith) found.0 (each_at (IsGivenTo site node) c.commands n found.0 c.each found.1) (sym found.2)

-- A move that was given after so many items finds its point answered: where the point, with the move that waits, has given no more
-- than it was made to, and its client has taken some of that.
pub none_waits : (site : Site) (place : ℕ) (peer : PeerState) (taken : ℕ) (items : List (List ℕ)) → ClientSaid site (Point place) peer taken items → length peer.objects ≡ 1
    → (count given waiting : ℕ) → 2 ≤ count → taken ≤ given → given + waiting ≤ 2 + count → (x : List ℕ) → slice_get items count ≡ Some x → waiting ≡ 0
none_waits site place peer taken items said one count given waiting far some few x e = by_said said
  where
    inside : count < length items
    inside = slice_get_within items count x e

    by_waits : (moves : ℕ) → length items ≡ 2 + moves → (moves ≡ 0) ⊎ (3 + length peer.objects + moves ≤ taken + 1) → waiting ≡ 0
    by_waits moves long (inl none) = let a = inside in absurd (omega (arith, a, long, none, far))
    by_waits moves long (inr waits_one) = let a = inside in omega (arith, a, long, waits_one, one, far, some, few)

    by_said : ClientSaid site (Point place) peer taken items → waiting ≡ 0
    by_said (nothing is) = let a = inside in let b = ap length is in absurd (omega (arith, a, b))
    by_said (checked is) = let a = inside in let b = ap length is in absurd (omega (arith, a, b, far))
    by_said (asked c) = by_waits (length c.commands) (let long = ap length c.are in let same = map_length (commanded peer) c.commands in omega (arith, long, same)) c.waits

pub idle_answered : (how : Progress) → unanswered how ≡ 0 → is_answered how ≡ true
idle_answered Progress.Answered e = refl
idle_answered (Progress.Driving side since) e = absurd (omega (arith, e))
idle_answered Progress.Arrived e = absurd (omega (arith, e))
idle_answered Progress.TimedOut e = absurd (omega (arith, e))

-- ---- what a host expects

-- a host that takes items: it is inside, and its version was the right one
abbrev pub is_talking : Stage → Bool
is_talking Stage.Outside = false
is_talking Stage.AwaitsCheck = true
is_talking Stage.AwaitsRequest = true
is_talking Stage.Completed = true
is_talking Stage.Refused = false

-- It expects what its client has given after as many items as it has acted on, where it expects each command once the initialisation is completed.
module _ (written : WrittenIsRead) (site : Site) (node : Node) {Object : Type 0} (does : Behaviour Object) (now : ℕ) (peer : PeerState) (is_peer : IsPeer peer) (host : HostState Object) (matched : AreMatched does peer host)
    (fits : host.stage ≡ Stage.Completed → (command : Command) → IsGivenTo site node command → HostExpectsItem does now host (reading (commanded peer command))) (count : ℕ) (item : List ℕ) where
  by_stage : (s : Stage) → host.stage ≡ s → is_talking s ≡ true → HostHasActedOn s count → SaidAt site node peer count item → HostExpectsItem does now host (reading item)
  by_stage Stage.Outside e talks acted told = absurd (false≢true talks)
  by_stage Stage.AwaitsCheck e talks acted (checks is same) = subst (λ (i : List ℕ). HostExpectsItem does now host (reading i)) same (check_expected written does now peer is_peer host matched e)
  by_stage Stage.AwaitsCheck e talks acted (requests is same) = absurd (omega (arith, acted, is))
  by_stage Stage.AwaitsCheck e talks acted (says_command far command given_so same) = absurd (omega (arith, acted, far))
  by_stage Stage.AwaitsRequest e talks acted (checks is same) = absurd (omega (arith, acted, is))
  by_stage Stage.AwaitsRequest e talks acted (requests is same) = subst (λ (i : List ℕ). HostExpectsItem does now host (reading i)) same (request_expected written does now peer is_peer host matched e)
  by_stage Stage.AwaitsRequest e talks acted (says_command far command given_so same) = absurd (omega (arith, acted, far))
  by_stage Stage.Completed e talks acted (checks is same) = absurd (omega (arith, acted, is))
  by_stage Stage.Completed e talks acted (requests is same) = absurd (omega (arith, acted, is))
  by_stage Stage.Completed e talks acted (says_command far command given_so same) = subst (λ (i : List ℕ). HostExpectsItem does now host (reading i)) same (fits e command given_so)
  by_stage Stage.Refused e talks acted told = absurd (false≢true talks)

  pub item_expected : is_talking host.stage ≡ true → HostHasActedOn host.stage count → SaidAt site node peer count item → HostExpectsItem does now host (reading item)
  item_expected = by_stage host.stage refl

-- ---- what comes next to a controller is what its host expects, after every list of events

-- ---- one link

module _ (laws : LawsBelow) (site : Site) (node : Node) {Object : Type 0} (does : Behaviour Object) (Fits : Object → Type 0) (own_name : List ℕ) (keep : ObjectKeeps does Fits (spoken site)) (c : ClockedControllerState Object) (client : ClientState) (names : Names) (ends : Ends)
    (j : Joined site node does Fits own_name keep c client names ends) where
  pub was_open : is_open ends.server.link.phase ≡ true → (ends.server.link.taken ≡ c.host.link.taken) × (is_open c.host.link.phase ≡ true)
  was_open opened = let then = settled_open (reading_of c.clock) c.host.link (ap (λ (l : LinkState). is_open l.phase) (sym j.link_is) ∙ opened) in (ap (λ (l : LinkState). l.taken) (j.link_is ∙ then.0), then.1)

  module _ (connection : ℕ) (of_client : ends.client.connection ≡ Some connection) (of_server : ends.server.connection ≡ Some connection) (opened : is_open ends.server.link.phase ≡ true) where
    pub acted_there : HostHasActedOn c.host.stage (length ends.server.taken)
    acted_there = by_counted (laws.items_are_counted names ends j.ordered connection of_client of_server).1
      where
        by_counted : IsCounted ends.server → HostHasActedOn c.host.stage (length ends.server.taken)
        by_counted (counts given_is taken_is) =
            let was = was_open opened
            in let stands = j.tells.counts.stands was.1
            in let stops : stops_at_greatest stands.taken ≡ length ends.server.taken = sym stands.counts.taken_is ∙ sym was.0 ∙ taken_is
            in let small : stops_at_greatest stands.taken < 2 ^ 31 = subst (λ (n : ℕ). n < 2 ^ 31) (sym stops) (laws.items_are_counted_few names ends j.ordered connection of_client of_server).1.taken
            in subst (HostHasActedOn c.host.stage) (sym (exact stands.taken small) ∙ stops) stands.acted
        by_counted (made_anew closed given_is taken_is) = absurd (false≢true (sym closed ∙ opened))

    -- it has refused no version: its client asks its own
    pub refuses_none : c.host.stage ≡ Stage.Refused → ⊥
    refuses_none e = by_said (subst (λ (s : Stage). SaidBy does Fits (SomeAsks (spoken site) ends.server.taken) (item_for own_name site.station.name) (spoken site) s ends.server.given) e (j.tells.said (was_open opened).1))
      where
        safe : IsSafe ends.client ends.server
        safe = (laws.order_is_safe names ends j.ordered connection of_client of_server).0

        version_is : spoken site ≡ client.peer.version
        version_is = sym j.tells.kept_so.version_is ∙ j.matched.version

        by_said : SaidBy does Fits (SomeAsks (spoken site) ends.server.taken) (item_for own_name site.station.name) (spoken site) Stage.Refused ends.server.given → ⊥
        by_said (some, is) = asks_none_other laws.written_telegram_is_read site node client.peer j.is_peer (length ends.client.taken) ends.client.given safe.rest ends.server.taken j.talks.ever safe.beginning
            (subst (λ (n : ℕ). SomeAsks n ends.server.taken) version_is some)

  inside_talks : (s : Stage) → is_outside s ≡ false → (s ≡ Stage.Refused → ⊥) → is_talking s ≡ true
  inside_talks Stage.Outside inside not_refused = absurd (false≢true (sym inside))
  inside_talks Stage.AwaitsCheck inside not_refused = refl
  inside_talks Stage.AwaitsRequest inside not_refused = refl
  inside_talks Stage.Completed inside not_refused = refl
  inside_talks Stage.Refused inside not_refused = absurd (not_refused refl)

  one_fits : ((connection : ℕ) → ends.client.connection ≡ Some connection → ends.server.connection ≡ Some connection → is_open ends.server.link.phase ≡ true → (item : List ℕ) → slice_get ends.client.given (length ends.server.taken) ≡ Some item
      → c.host.stage ≡ Stage.Completed → (now : ℕ) (command : Command) → IsGivenTo site node command → HostExpectsItem does now c.host (reading (commanded client.peer command))) → NextFits does c.host ends
  one_fits fits connection of_client of_server opened inside now item at =
      item_expected laws.written_telegram_is_read site node does now client.peer j.is_peer c.host j.matched (λ completed. fits connection of_client of_server opened item at completed now) (length ends.server.taken) item
      (inside_talks c.host.stage inside (refuses_none connection of_client of_server opened)) (acted_there connection of_client of_server opened)
      (said_at site node client.peer (length ends.client.taken) ends.client.given j.talks.ever (length ends.server.taken) item at)

-- ---- what each kind expects

spoken_fits : (version : ℕ) (site : Site) (aspect : Aspect) → version ≡ telegram_version site → IsSpoken site aspect → IsTrue (is_in_version version (message_of (Command.Indicate aspect)))
spoken_fits version site Aspect.Slow is fits = subst (λ (v : ℕ). IsTrue (is_in_version v (message_of (Command.Indicate Aspect.Slow)))) (sym is) fits
spoken_fits version site Aspect.Stop is fits = refl
spoken_fits version site Aspect.Proceed is fits = refl

-- a signal each aspect of its version
pub signal_fits : (written : WrittenIsRead) (site : Site) (place : ℕ) (peer : PeerState) (host : HostState SignalState) → IsPeer peer → AreMatched signal_behaviour peer host → host.version ≡ telegram_version site → host.stage ≡ Stage.Completed
    → (now : ℕ) (command : Command) → IsGivenTo site (Signal place) command → HostExpectsItem signal_behaviour now host (reading (commanded peer command))
signal_fits written site place peer host is_peer matched version completed now (Command.Indicate aspect) given_so = aspect_expected written now aspect peer host is_peer matched completed (spoken_fits host.version site aspect version given_so)
signal_fits written site place peer host is_peer matched version completed now (Command.Move side) given_so = absurd given_so

-- a point each move, where no other waits
pub point_fits : (written : WrittenIsRead) (site : Site) (place : ℕ) (peer : PeerState) (host : HostState PointState) → IsPeer peer → AreMatched point_behaviour peer host → waits host.object ≡ 0 → host.stage ≡ Stage.Completed
    → (now : ℕ) (command : Command) → IsGivenTo site (Point place) command → HostExpectsItem point_behaviour now host (reading (commanded peer command))
point_fits written site place peer host is_peer matched idle completed now (Command.Indicate aspect) given_so = absurd given_so
point_fits written site place peer host is_peer matched idle completed now (Command.Move side) given_so = move_expected written now side peer host is_peer matched completed (idle_answered host.object.progress idle)

-- a detector is given none
pub detector_fits : (site : Site) (place : ℕ) (peer : PeerState) (host : HostState (List Section)) (now : ℕ) (command : Command) → IsGivenTo site (Detector place) command → HostExpectsItem detection_behaviour now host (reading (commanded peer command))
detector_fits site place peer host now (Command.Indicate aspect) given_so = absurd given_so
detector_fits site place peer host now (Command.Move side) given_so = absurd given_so

-- ---- a station

module _ (laws : LawsBelow) (site : Site) (table : Table) (station : IsStation site) (once : Once site) (is_table : IsTableOf site table) where
  module _ (world : WorldState) (network : Links) (are : AreLinksOf site world network) (s : Stands laws site table station once is_table world network) where
    next_signal : (place : ℕ) (c : ClockedControllerState SignalState) → slice_get world.signals place ≡ Some c → NextFits signal_behaviour c.host (seen place network)
    next_signal place c g = one_fits laws site (Signal place) signal_behaviour _ k.entry.name _ c k.known.client (names_at site place) (seen place network) k.joined
        (λ connection of_client of_server opened item at completed. signal_fits laws.written_telegram_is_read site place k.known.client.peer c.host k.joined.is_peer k.joined.matched k.joined.tells.kept_so.version_is completed)
      where
        k : SignalJoined laws site table station once is_table world network are s place c
        k = signal_joined laws site table station once is_table world network are s place c g

    next_point : (place : ℕ) (c : ClockedControllerState PointState) → slice_get world.points place ≡ Some c → NextFits point_behaviour c.host (seen (point_link site place) network)
    next_point place c g = one_fits laws site (Point place) point_behaviour _ k.entry.name _ c k.known.client (names_at site (point_link site place)) ends k.joined
        (λ connection of_client of_server opened item at completed. point_fits laws.written_telegram_is_read site place k.known.client.peer c.host k.joined.is_peer k.joined.matched (idle connection of_client of_server opened item at completed) completed)
      where
        ends : Ends
        ends = seen (point_link site place) network

        k : PointJoined laws site table station once is_table world network are s place c
        k = point_joined laws site table station once is_table world network are s place c g

        idle : (connection : ℕ) → ends.client.connection ≡ Some connection → ends.server.connection ≡ Some connection → is_open ends.server.link.phase ≡ true → (item : List ℕ) → slice_get ends.client.given (length ends.server.taken) ≡ Some item
            → c.host.stage ≡ Stage.Completed → waits c.host.object ≡ 0
        idle connection of_client of_server opened item at completed = none_waits site place k.known.client.peer (length ends.client.taken) ends.client.given k.joined.talks.ever k.one (length ends.server.taken) (length ends.server.given) (waits c.host.object)
            (subst (λ (x : Stage). HostHasActedOn x (length ends.server.taken)) completed acted) (let all = ap length safe.beginning ∙ length-append ends.client.taken safe.rest in omega (arith, all)) few item at
          where
            safe : IsSafe ends.server ends.client
            safe = (laws.order_is_safe (names_at site (point_link site place)) ends k.joined.ordered connection of_client of_server).1

            acted : HostHasActedOn c.host.stage (length ends.server.taken)
            acted = acted_there laws site (Point place) point_behaviour _ k.entry.name _ c k.known.client (names_at site (point_link site place)) ends k.joined connection of_client of_server opened

            few : length ends.server.given + waits c.host.object ≤ 2 + length ends.server.taken
            few = within_ever c.host.stage (length ends.server.given) (length ends.server.taken) (waits c.host.object) ((s.answering.of_points place c g).inside
                (was_open laws site (Point place) point_behaviour _ k.entry.name _ c k.known.client (names_at site (point_link site place)) ends k.joined opened).1)

    next_detector : (place : ℕ) (c : ClockedControllerState (List Section)) → slice_get world.detectors place ≡ Some c → NextFits detection_behaviour c.host (seen (detector_link site place) network)
    next_detector place c g = one_fits laws site (Detector place) detection_behaviour _ k.entry.name _ c k.known.client (names_at site (detector_link site place)) (seen (detector_link site place) network) k.joined
        (λ connection of_client of_server opened item at completed. detector_fits site place k.known.client.peer c.host)
      where
        k : DetectorJoined laws site table station once is_table world network are s place c
        k = detector_joined laws site table station once is_table world network are s place c g

  pub have_fitting : (world : WorldState) → IsReached site table world → HaveFitting site world
  have_fitting world reached =
      let held = always_held laws site table station once (Stands laws site table station once is_table) (stands_first laws site table station once is_table) (stands_on laws site table station once is_table) world reached
      in record { has = held.has; next = record { signals = next_signal world _ held.has.are held.holds; points = next_point world _ held.has.are held.holds; detectors = next_detector world _ held.has.are held.holds } }
