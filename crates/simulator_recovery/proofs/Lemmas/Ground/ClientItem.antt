-- How a client is led by an item that it acts on.
use Rattle.simulator_recovery.proofs.Words.Basics.{◌≡◌, ◌≢◌, ℕ, zero, suc, ◌+◌, ◌-◌, ◌<◌, ◌==◌, nat_lt, not, Bool, true, false, if◌then◌else◌, List, [], ◌∷◌, ◌++◌, length, map, Option, Some, None, slice_get, refl, sym, ap, subst, ◌∙◌, arith, cond, ◌&&◌, nat_le, position, position_or_len, nat_tests, none-some, same_Some, slice_get_within, ◌≤◌, Result, Ok, Err, bytes_eq, false≢true}
use Rattle.simulator_recovery.proofs.Words.Links.{deadline, settled, AreTimely, reading_of, AreLinks, Links, LinkState, is_open, is_up, Phase, Reason}
use Rattle.simulator_recovery.proofs.Words.Interlockings.{ClientState, is_outside, clocked, fallen, Stage, IxlState, KnownDetectorState, KnownPointState, KnownSignalState, all_clocked, as_node, clocked_detector, clocked_known_point, clocked_known_signal, node_of, or_else, partner_at, Detector, Node, Point, Signal, detector_after, known_point_after, known_signal_after, Table, PeerState, ClientSoFar, Closes, calling, initial_meaning, is_for_client, is_in_turn, is_in_version, is_match, is_status, meaning, meaning_of, place_of, report_meaning, reports_changes, state_in, acted_on, acting, at_stage, following, meaning_of_item, saying, stage_after_report, ObjectState}
use Rattle.simulator_recovery.proofs.Words.Stations.{Site, AreLinksOf, client_links, names_at, detector_link, links, partners, point_link, WorldState, link_at, IsWhole}
use Rattle.simulator_recovery.proofs.Words.Controllers.{reading, SciFault, Initialisation, InitialisationCompleted, InitialisationRequest, StartInitialisation, VersionAnswer, VersionCheck, Message, Telegram}
use Rattle.simulator_recovery.proofs.Lemmas.Ground.EndCalls.{at_place, map_length, count_push}
use Rattle.simulator_recovery.proofs.Lemmas.Ground.Steps.{IsThere}
use Rattle.simulator_recovery.proofs.Lemmas.Ground.DueTests.{is_less, is_not, same_number, either, first_true}

-- ---- to which of its clients the interlocking hands a datagram of a controller: to the one on the link on which it was sent

-- ---- the first place at which a test passes

is_same_number : (a b : ℕ) → a ≡ b → (a == b) ≡ true
is_same_number a b e = grind (arith, nat_tests)

module _ {X : Type 0} (test : X → Bool) where
  abbrev PassesAt : List X → ℕ → Type 0
  PassesAt list place = (one : X) × (slice_get list place ≡ Some one) × (test one ≡ true)

  first_passes : (list : List X) → position_or_len test list < length list → PassesAt list (position_or_len test list)
  first_passes [] below = absurd (omega (arith, below))
  first_passes (first ∷ others) below = choose (test first) refl below (first_passes others)
    where
      choose : (b : Bool) → test first ≡ b → cond (not b) (1 + position_or_len test others) 0 < suc (length others)
          → (position_or_len test others < length others → PassesAt others (position_or_len test others)) → PassesAt (first ∷ others) (cond (not b) (1 + position_or_len test others) 0)
      choose true e below rest = (first, refl, e)
      choose false e below rest = let next : suc (position_or_len test others) ≡ 1 + position_or_len test others = omega arith in subst (PassesAt (first ∷ others)) next (rest (omega (arith, below)))

  pub found_at : (list : List X) (place : ℕ) → position test list ≡ Some place → PassesAt list place
  found_at list place is = choose (nat_lt (position_or_len test list) (length list)) refl is
    where
      choose : (b : Bool) → nat_lt (position_or_len test list) (length list) ≡ b → cond b (Some (position_or_len test list)) None ≡ Some place → PassesAt list place
      choose true e same = subst (PassesAt list) (same_Some (position_or_len test list) place same) (first_passes list (is_less (position_or_len test list) (length list) e))
      choose false e same = absurd (none-some place same)

  some_passes : (list : List X) (place : ℕ) (one : X) → slice_get list place ≡ Some one → test one ≡ true → position_or_len test list < length list
  some_passes [] place one there passes = absurd (none-some one there)
  some_passes (first ∷ others) zero one there passes = let e : test first ≡ true = ap test (same_Some first one there) ∙ passes in rw e (omega arith)
  some_passes (first ∷ others) (suc place) one there passes = choose (test first) (some_passes others place one there passes)
    where
      choose : (b : Bool) → position_or_len test others < length others → cond (not b) (1 + position_or_len test others) 0 < suc (length others)
      choose true rest = omega arith
      choose false rest = omega (arith, rest)

  pub not_found : (list : List X) (place : ℕ) (one : X) → slice_get list place ≡ Some one → test one ≡ true → position test list ≡ None → ⊥
  not_found list place one there passes none = choose (nat_lt (position_or_len test list) (length list)) refl none
    where
      choose : (b : Bool) → nat_lt (position_or_len test list) (length list) ≡ b → cond b (Some (position_or_len test list)) None ≡ None → ⊥
      choose true e same = none-some (position_or_len test list) (sym same)
      choose false e same = let more = is_not (position_or_len test list) (length list) e in let less = some_passes list place one there passes in omega (arith, more, less)

mapped_at : {X Y : Type 0} (f : X → Y) (list : List X) (place : ℕ) (new : Y) → slice_get (map f list) place ≡ Some new → (old : X) × (slice_get list place ≡ Some old) × (f old ≡ new)
mapped_at f [] place new there = absurd (none-some new there)
mapped_at f (first ∷ others) zero new there = (first, refl, same_Some (f first) new there)
mapped_at f (first ∷ others) (suc place) new there = mapped_at f others place new there

at_mapped : {X Y : Type 0} (f : X → Y) (list : List X) (place : ℕ) (old : X) → slice_get list place ≡ Some old → slice_get (map f list) place ≡ Some (f old)
at_mapped f [] place old there = absurd (none-some old there)
at_mapped f (first ∷ others) zero old there = ap (λ x. Some (f x)) (same_Some first old there)
at_mapped f (first ∷ others) (suc place) old there = at_mapped f others place old there

pub at_front : {X : Type 0} (list others : List X) (place : ℕ) (one : X) → slice_get list place ≡ Some one → slice_get (list ++ others) place ≡ Some one
at_front [] others place one there = absurd (none-some one there)
at_front (first ∷ list) others zero one there = there
at_front (first ∷ list) others (suc place) one there = at_front list others place one there

pub at_behind : {X : Type 0} (list others : List X) (count place : ℕ) → length list ≡ count → slice_get (list ++ others) (count + place) ≡ slice_get others place
at_behind [] others count place long = let none : count + place ≡ place = omega (arith, long) in ap (slice_get others) none
at_behind (first ∷ list) others zero place long = absurd (omega (arith, long))
at_behind (first ∷ list) others (suc count) place long = let next : suc count + place ≡ suc (count + place) = omega arith in ap (slice_get (first ∷ (list ++ others))) next ∙ at_behind list others count place (omega (arith, long))

-- ---- the clock changes no identity

settled_identity : (now : ℕ) (link : LinkState) → (settled now link).identity ≡ link.identity
unfolding settled
settled_identity now link = choose (is_open link.phase && nat_le (deadline link) now)
  where
    choose : (b : Bool) → (if b then record link { phase = Phase.Closed; closed_at = deadline link; clock = now } else record link { clock = now }).identity ≡ link.identity
    choose true = refl
    choose false = refl

clocked_identity : (now : ℕ) (client : ClientState) → (clocked now client).link.identity ≡ client.link.identity
unfolding clocked fallen
clocked_identity now client = choose (is_up (settled now client.link).phase) ∙ settled_identity now client.link
  where
    choose : (b : Bool) → (if b then record client { link = settled now client.link } else record client { link = settled now client.link; stage = Stage.Outside }).link.identity ≡ (settled now client.link).identity
    choose true = refl
    choose false = refl

either_client : {K : Type 0} (client : K → ClientState) (b : Bool) (one other : K) (is : ClientState) → client one ≡ is → client other ≡ is → client (if b then one else other) ≡ is
either_client client true one other is first second = first
either_client client false one other is first second = second

abbrev of_signal : KnownSignalState → ClientState
of_signal known_signal = known_signal.client

abbrev of_point : KnownPointState → ClientState
of_point known_point = known_point.client

abbrev of_detector : KnownDetectorState → ClientState
of_detector detector = detector.client

signal_client : (now : ℕ) (known_signal : KnownSignalState) → (clocked_known_signal now known_signal).client ≡ clocked now known_signal.client
unfolding known_signal_after
signal_client now known_signal = either_client of_signal (is_outside (clocked now known_signal.client).stage) _ _ (clocked now known_signal.client) refl refl

point_client : (now : ℕ) (known_point : KnownPointState) → (clocked_known_point now known_point).client ≡ clocked now known_point.client
unfolding known_point_after
point_client now known_point = either_client of_point (is_outside (clocked now known_point.client).stage) _ _ (clocked now known_point.client) refl refl

detector_client : (now : ℕ) (detector : KnownDetectorState) → (clocked_detector now detector).client ≡ clocked now detector.client
unfolding detector_after
detector_client now detector = either_client of_detector (is_outside (clocked now detector.client).stage) _ _ (clocked now detector.client) refl refl

abbrev partner_of_client : ClientState → ℕ
partner_of_client client = client.link.identity.partner

clocked_partner : (now : ℕ) (old new : ClientState) → new ≡ clocked now old → partner_of_client new ≡ partner_of_client old
clocked_partner now old new is = ap partner_of_client is ∙ ap (λ identity. identity.partner) (clocked_identity now old)

-- ---- the client of a link

pub partners_length : (site : Site) → length (partners site) ≡ links site
partners_length site =
    let signals = map_length (λ s. s.id) site.signals
    in let points = map_length (λ p. p.id) site.points
    in let detectors = map_length (λ d. d.id) site.detectors
    in both (map (λ s. s.id) site.signals) (map (λ p. p.id) site.points) (map (λ d. d.id) site.detectors) signals points detectors
  where
    two : (one other : List ℕ) → length (one ++ other) ≡ length one + length other
    two [] other = omega arith
    two (first ∷ one) other = let e = two one other in omega (arith, e)

    both : (one other third : List ℕ) → length one ≡ length site.signals → length other ≡ length site.points → length third ≡ length site.detectors → length (one ++ (other ++ third)) ≡ links site
    both one other third a b c = let e = two one (other ++ third) in let f = two other third in omega (arith, e, f, a, b, c)

module _ (site : Site) (world : WorldState) (these : Links) (are_links : AreLinks (links site) (names_at site)) (whole : IsWhole site world)
    (timely : AreTimely (links site) (names_at site) these) (are : AreLinksOf site world these) where
  abbrev ixl : IxlState
  ixl = world.interlocking.ixl

  -- the interlocking's end of a link speaks with the link's controller
  abbrev SpeaksOn : ℕ → LinkState → Type 0
  SpeaksOn link kept = kept.identity.partner ≡ (names_at site link).server

  kept_at : (link : ℕ) → link < links site → (kept : LinkState) × (slice_get (client_links ixl) link ≡ Some kept) × SpeaksOn link kept
  kept_at link below =
      let id = at_place (partners site) link (subst (λ (n : ℕ). link < n) (sym (partners_length site)) below)
      in let client = are.clients link id.0 id.1
      in (client.kept, client.there, ap (λ identity. identity.partner) (sym (ap (λ (l : LinkState). l.identity) client.link_is ∙ settled_identity (reading_of world.interlocking.clock) client.kept) ∙ (timely.each link below).client.identity))

  speaks : (link : ℕ) (client : ClientState) → link < links site → slice_get (client_links ixl) link ≡ Some client.link → partner_of_client client ≡ (names_at site link).server
  speaks link client below there = let kept = kept_at link below in subst (SpeaksOn link) (same_Some kept.0 client.link (sym kept.1 ∙ there)) kept.2

  signal_speaks : (place : ℕ) (known_signal : KnownSignalState) → slice_get ixl.known_signals place ≡ Some known_signal → (place < links site) × (partner_of_client known_signal.client ≡ (names_at site place).server)
  signal_speaks place known_signal there =
      let few = slice_get_within ixl.known_signals place known_signal there
      in let many = whole.clients.known_signals
      in let below : place < links site = omega (arith, few, many)
      in (below, speaks place known_signal.client below (at_front (map (λ lamp. lamp.client.link) ixl.known_signals) _ place known_signal.client.link (at_mapped (λ lamp. lamp.client.link) ixl.known_signals place known_signal there)))

  point_speaks : (place : ℕ) (known_point : KnownPointState) → slice_get ixl.known_points place ≡ Some known_point
      → (point_link site place < links site) × (partner_of_client known_point.client ≡ (names_at site (point_link site place)).server)
  point_speaks place known_point there =
      let few = slice_get_within ixl.known_points place known_point there
      in let many = whole.clients.known_points
      in let below : point_link site place < links site = omega (arith, few, many)
      in (
        below,
        speaks (point_link site place) known_point.client below
            (at_behind (map (λ lamp. lamp.client.link) ixl.known_signals) _ (length site.signals) place (map_length (λ lamp. lamp.client.link) ixl.known_signals ∙ whole.clients.known_signals)
            ∙ at_front (map (λ p. p.client.link) ixl.known_points) _ place known_point.client.link (at_mapped (λ p. p.client.link) ixl.known_points place known_point there)),
      )

  detector_speaks : (place : ℕ) (detector : KnownDetectorState) → slice_get ixl.detectors place ≡ Some detector
      → (detector_link site place < links site) × (partner_of_client detector.client ≡ (names_at site (detector_link site place)).server)
  detector_speaks place detector there =
      let few = slice_get_within ixl.detectors place detector there
      in let many = whole.clients.detectors
      in let below : detector_link site place < links site = omega (arith, few, many)
      in let place_is : detector_link site place ≡ length site.signals + (length site.points + place) = omega arith
      in (
        below,
        speaks (detector_link site place) detector.client below
            (ap (slice_get (client_links ixl)) place_is
            ∙ at_behind (map (λ lamp. lamp.client.link) ixl.known_signals) _ (length site.signals) (length site.points + place) (map_length (λ lamp. lamp.client.link) ixl.known_signals ∙ whole.clients.known_signals)
            ∙ at_behind (map (λ p. p.client.link) ixl.known_points) _ (length site.points) place (map_length (λ p. p.client.link) ixl.known_points ∙ whole.clients.known_points)
            ∙ at_mapped (λ d. d.client.link) ixl.detectors place detector there),
      )

  -- no two controllers have one identity
  same_link : (one other : ℕ) → one < links site → other < links site → (names_at site one).server ≡ (names_at site other).server → one ≡ other
  same_link one other below further same = choose (one == other) refl
    where
      differ : (one == other) ≡ false → one ≢ other
      differ e f = let g = is_same_number one other f in grind (arith, e, g)

      choose : (b : Bool) → (one == other) ≡ b → one ≡ other
      choose true e = same_number one other e
      choose false e = absurd ((are_links.apart one other below further (differ e)).0 same)

  module _ (now : ℕ) (table : Table) (sections : length table.detectors ≡ length site.detectors) (link : ℕ) (below : link < links site) where
    -- a client of this link
    abbrev IsOfLink : Node → Type 0
    IsOfLink node = (link_at site node ≡ link) × IsThere now table node (all_clocked now ixl)

    abbrev IsFound : Option Node → Type 0
    IsFound found = (node : Node) × (found ≡ Some node) × IsOfLink node

    abbrev id : ℕ
    id = (names_at site link).server

    signal_found : (place : ℕ) → position (λ (known_signal : KnownSignalState). partner_at id known_signal.client) (map (clocked_known_signal now) ixl.known_signals) ≡ Some place → IsOfLink (Signal place)
    unfolding all_clocked
    signal_found place is =
        let found = found_at (λ (known_signal : KnownSignalState). partner_at id known_signal.client) (map (clocked_known_signal now) ixl.known_signals) place is
        in let old = mapped_at (clocked_known_signal now) ixl.known_signals place found.0 found.1
        in let of_link = signal_speaks place old.0 old.1
        in let partner = clocked_partner now old.0.client found.0.client (ap of_signal (sym old.2) ∙ signal_client now old.0)
        in (same_link place link of_link.0 below (sym of_link.1 ∙ (sym partner ∙ same_number (partner_of_client found.0.client) id found.2)), (found.0, found.1))

    point_found : (place : ℕ) → position (λ (known_point : KnownPointState). partner_at id known_point.client) (map (clocked_known_point now) ixl.known_points) ≡ Some place → IsOfLink (Point place)
    unfolding all_clocked
    point_found place is =
        let found = found_at (λ (known_point : KnownPointState). partner_at id known_point.client) (map (clocked_known_point now) ixl.known_points) place is
        in let old = mapped_at (clocked_known_point now) ixl.known_points place found.0 found.1
        in let of_link = point_speaks place old.0 old.1
        in let partner = clocked_partner now old.0.client found.0.client (ap of_point (sym old.2) ∙ point_client now old.0)
        in (same_link (point_link site place) link of_link.0 below (sym of_link.1 ∙ (sym partner ∙ same_number (partner_of_client found.0.client) id found.2)), (found.0, found.1))

    detector_found : (place : ℕ) → position (λ (detector : KnownDetectorState). partner_at id detector.client) (map (clocked_detector now) ixl.detectors) ≡ Some place → IsOfLink (Detector place)
    unfolding all_clocked
    detector_found place is =
        let found = found_at (λ (detector : KnownDetectorState). partner_at id detector.client) (map (clocked_detector now) ixl.detectors) place is
        in let old = mapped_at (clocked_detector now) ixl.detectors place found.0 found.1
        in let of_link = detector_speaks place old.0 old.1
        in let few = slice_get_within ixl.detectors place old.0 old.1
        in let many = whole.clients.detectors
        in let known = at_place table.detectors place (omega (arith, few, many, sections))
        in let partner = clocked_partner now old.0.client found.0.client (ap of_detector (sym old.2) ∙ detector_client now old.0)
        in (same_link (detector_link site place) link of_link.0 below (sym of_link.1 ∙ (sym partner ∙ same_number (partner_of_client found.0.client) id found.2)), (known.0, found.0, known.1, found.1))

    abbrev signals : Option ℕ
    signals = position (λ (known_signal : KnownSignalState). partner_at id known_signal.client) (map (clocked_known_signal now) ixl.known_signals)

    abbrev points : Option ℕ
    points = position (λ (known_point : KnownPointState). partner_at id known_point.client) (map (clocked_known_point now) ixl.known_points)

    abbrev detectors : Option ℕ
    detectors = position (λ (detector : KnownDetectorState). partner_at id detector.client) (map (clocked_detector now) ixl.detectors)

    -- the client that has this partner
    pub addressed_is : (node : Node) × (node_of id (all_clocked now ixl) ≡ Some node) × IsOfLink node
    unfolding node_of all_clocked
    addressed_is = by_signals (position (λ (known_signal : KnownSignalState). partner_at id known_signal.client) (map (clocked_known_signal now) ixl.known_signals)) refl
      where
        of_signals : signals ≡ None → link < length site.signals → ⊥
        of_signals none few =
            let many = whole.clients.known_signals
            in let there = at_place ixl.known_signals link (omega (arith, few, many))
            in let partner = clocked_partner now there.0.client (clocked_known_signal now there.0).client (signal_client now there.0)
            in not_found (λ (known_signal : KnownSignalState). partner_at id known_signal.client) (map (clocked_known_signal now) ixl.known_signals) link (clocked_known_signal now there.0)
            (at_mapped (clocked_known_signal now) ixl.known_signals link there.0 there.1) (is_same_number (partner_of_client (clocked_known_signal now there.0).client) id (partner ∙ (signal_speaks link there.0 there.1).1)) none

        of_points : points ≡ None → (place : ℕ) → link ≡ point_link site place → place < length site.points → ⊥
        of_points none place is few =
            let many = whole.clients.known_points
            in let there = at_place ixl.known_points place (omega (arith, few, many))
            in let partner = clocked_partner now there.0.client (clocked_known_point now there.0).client (point_client now there.0)
            in not_found (λ (known_point : KnownPointState). partner_at id known_point.client) (map (clocked_known_point now) ixl.known_points) place (clocked_known_point now there.0)
            (at_mapped (clocked_known_point now) ixl.known_points place there.0 there.1)
            (is_same_number (partner_of_client (clocked_known_point now there.0).client) id (partner ∙ (point_speaks place there.0 there.1).1 ∙ ap (λ (n : ℕ). (names_at site n).server) (sym is))) none

        of_detectors : detectors ≡ None → (place : ℕ) → link ≡ detector_link site place → place < length site.detectors → ⊥
        of_detectors none place is few =
            let many = whole.clients.detectors
            in let there = at_place ixl.detectors place (omega (arith, few, many))
            in let partner = clocked_partner now there.0.client (clocked_detector now there.0).client (detector_client now there.0)
            in not_found (λ (detector : KnownDetectorState). partner_at id detector.client) (map (clocked_detector now) ixl.detectors) place (clocked_detector now there.0)
            (at_mapped (clocked_detector now) ixl.detectors place there.0 there.1)
            (is_same_number (partner_of_client (clocked_detector now there.0).client) id (partner ∙ (detector_speaks place there.0 there.1).1 ∙ ap (λ (n : ℕ). (names_at site n).server) (sym is))) none

        nowhere : signals ≡ None → points ≡ None → detectors ≡ None → ⊥
        nowhere no_signal no_point no_detector = choose (nat_lt link (length site.signals)) refl (nat_lt link (length site.signals + length site.points)) refl
          where
            choose : (b : Bool) → nat_lt link (length site.signals) ≡ b → (c : Bool) → nat_lt link (length site.signals + length site.points) ≡ c → ⊥
            choose true e c f = of_signals no_signal (is_less link (length site.signals) e)
            choose false e true f =
                let many = is_not link (length site.signals) e
                in let few = is_less link (length site.signals + length site.points) f
                in of_points no_point (link - length site.signals) (omega (arith, many)) (omega (arith, many, few))
            choose false e false f =
                let many = is_not link (length site.signals + length site.points) f
                in let last = below
                in of_detectors no_detector (link - (length site.signals + length site.points)) (omega (arith, many)) (omega (arith, many, last))

        by_detectors : signals ≡ None → points ≡ None → (found : Option ℕ) → detectors ≡ found → IsFound (as_node Detector found)
        by_detectors no_signal no_point None e = absurd (nowhere no_signal no_point e)
        by_detectors no_signal no_point (Some place) e = (Detector place, refl, detector_found place e)

        by_points : signals ≡ None → (found : Option ℕ) → points ≡ found → IsFound (or_else (as_node Point found) (as_node Detector detectors))
        by_points no_signal None e = by_detectors no_signal e detectors refl
        by_points no_signal (Some place) e = (Point place, refl, point_found place e)

        by_signals : (found : Option ℕ) → signals ≡ found → IsFound (or_else (as_node Signal found) (or_else (as_node Point points) (as_node Detector detectors)))
        by_signals None e = by_points e points refl
        by_signals (Some place) e = (Signal place, refl, signal_found place e)

-- ---- how a client is led by an item that it acts on

-- how an item leads from one stage to the next
pub data Goes (peer : PeerState) (old new : Stage) : Type 0 where
  starts : old ≡ Stage.AwaitsStart → new ≡ Stage.AwaitsStatus (length peer.objects) → Goes peer old new
  tells : (left : ℕ) → 1 ≤ left → old ≡ Stage.AwaitsStatus left → new ≡ Stage.AwaitsStatus (left - 1) → Goes peer old new
  completes : old ≡ Stage.AwaitsStatus 0 → new ≡ Stage.Completed → Goes peer old new
  changes : reports_changes peer.protocol ≡ true → old ≡ Stage.Completed → new ≡ Stage.Completed → Goes peer old new
  answers : old ≡ Stage.AwaitsReport → new ≡ Stage.Completed → Goes peer old new

pub not_outside : {peer : PeerState} (old new : Stage) → Goes peer old new → is_outside new ≡ false
not_outside old new (starts e f) = ap is_outside f
not_outside old new (tells left some e f) = ap is_outside f
not_outside old new (completes e f) = ap is_outside f
not_outside old new (changes turn e f) = ap is_outside f
not_outside old new (answers e f) = ap is_outside f

pub is_none : (n : ℕ) → (n == 0) ≡ true → n ≡ 0
is_none n e = grind (arith, nat_tests)

-- What holds where the item closes the link, where the client asks for the initialisation, and where the item leads on, holds after it.
module _ (now : ℕ) (item : List ℕ) (part : ClientSoFar) (On : ClientSoFar → Type 0) (violates : On (calling now (Closes Reason.State) part)) (differs : On (calling now (Closes Reason.Version) part))
    (requests : part.client.stage ≡ Stage.AwaitsAnswer → On (at_stage Stage.AwaitsStart (saying now InitialisationRequest (acted_on item part))))
    (leads : (after : ClientSoFar) → after.client.link ≡ part.client.link → after.calls ≡ part.calls → after.client.peer ≡ part.client.peer → length after.acted ≡ length part.acted + 1
    → Goes part.client.peer part.client.stage after.client.stage → On after) where
  abbrev At : Stage → ClientSoFar → Type 0
  At how_far after = part.client.stage ≡ how_far → On after

  initial : (told : Initialisation) (how_far : Stage) → At how_far (following now item (initial_meaning part.client.peer told how_far) part)
  unfolding following
  initial (VersionAnswer agreement version) Stage.AwaitsAnswer is = either (λ what. On (following now item what part)) (is_match agreement && version == part.client.peer.version) _ _
      (λ e. requests is) differs
  initial (VersionAnswer agreement version) Stage.Outside is = violates
  initial (VersionAnswer agreement version) Stage.AwaitsStart is = violates
  initial (VersionAnswer agreement version) (Stage.AwaitsStatus left) is = violates
  initial (VersionAnswer agreement version) Stage.Completed is = violates
  initial (VersionAnswer agreement version) Stage.AwaitsReport is = violates
  initial StartInitialisation Stage.AwaitsStart is = leads _ refl refl refl (count_push part.acted item) (starts is refl)
  initial StartInitialisation Stage.Outside is = violates
  initial StartInitialisation Stage.AwaitsAnswer is = violates
  initial StartInitialisation (Stage.AwaitsStatus left) is = violates
  initial StartInitialisation Stage.Completed is = violates
  initial StartInitialisation Stage.AwaitsReport is = violates
  initial InitialisationCompleted (Stage.AwaitsStatus left) is = either (λ what. On (following now item what part)) (left == 0) _ _
      (λ e. leads _ refl refl refl (count_push part.acted item) (completes (is ∙ ap Stage.AwaitsStatus (is_none left e)) refl)) violates
  initial InitialisationCompleted Stage.Outside is = violates
  initial InitialisationCompleted Stage.AwaitsAnswer is = violates
  initial InitialisationCompleted Stage.AwaitsStart is = violates
  initial InitialisationCompleted Stage.Completed is = violates
  initial InitialisationCompleted Stage.AwaitsReport is = violates
  initial InitialisationRequest how_far is = violates
  initial (VersionCheck version) how_far is = violates

  -- a state in its turn
  in_turn : (place : ℕ) (state : ObjectState) (how_far : Stage) → place < length part.client.peer.objects → part.client.stage ≡ how_far
      → is_in_turn part.client.peer place state how_far ≡ true → Goes part.client.peer part.client.stage (stage_after_report part.client.stage)
  in_turn place state Stage.Outside known is turn = absurd (false≢true turn)
  in_turn place state Stage.AwaitsAnswer known is turn = absurd (false≢true turn)
  in_turn place state Stage.AwaitsStart known is turn = absurd (false≢true turn)
  in_turn place state (Stage.AwaitsStatus left) known is turn =
      let here = same_number place (length part.client.peer.objects - left) (first_true (place == length part.client.peer.objects - left) (is_status state) turn)
      in tells left (omega (arith, here, known)) is (ap stage_after_report is)
  in_turn place state Stage.Completed known is turn = changes turn is (ap stage_after_report is)
  in_turn place state Stage.AwaitsReport known is turn = answers is (ap stage_after_report is)

  report : (sender : List ℕ) (found : Option ℕ) → place_of part.client.peer sender ≡ found → (state : Option ObjectState) (how_far : Stage) → At how_far (following now item (report_meaning part.client.peer found state how_far) part)
  unfolding following
  report sender (Some place) at (Some state) how_far is = either (λ what. On (following now item what part)) (is_in_turn part.client.peer place state how_far && is_in_version part.client.peer.version state) _ _
      (λ e. leads _ refl refl refl (count_push part.acted item) (in_turn place state how_far known is
      (first_true (is_in_turn part.client.peer place state how_far) (is_in_version part.client.peer.version state) e))) violates
    where
      known : place < length part.client.peer.objects
      known = let there = found_at (λ name. bytes_eq name sender) part.client.peer.objects place at in slice_get_within part.client.peer.objects place there.0 there.1
  report sender (Some place) at None how_far is = violates
  report sender None at (Some state) how_far is = violates
  report sender None at None how_far is = violates

  told_by : (sender : List ℕ) (told : Message) (how_far : Stage) → At how_far (following now item (meaning_of part.client.peer sender told how_far) part)
  unfolding following
  told_by sender (Message.Initialisation protocol told) how_far is = either (λ what. On (following now item what part)) (bytes_eq sender part.client.peer.name) _ _ (λ e. initial told how_far is) violates
  told_by sender (Message.Point told) how_far is = report sender (place_of part.client.peer sender) refl (state_in (Message.Point told)) how_far is
  told_by sender (Message.Signal told) how_far is = report sender (place_of part.client.peer sender) refl (state_in (Message.Signal told)) how_far is
  told_by sender (Message.Detection told) how_far is = report sender (place_of part.client.peer sender) refl (state_in (Message.Detection told)) how_far is

  read : (how_far : Stage) (what : Result Telegram SciFault) → At how_far (following now item (meaning_of_item part.client.peer how_far what) part)
  unfolding following meaning
  read how_far (Ok telegram) is = either (λ what. On (following now item what part)) (is_for_client part.client.peer telegram) _ _ (λ e. told_by telegram.sender telegram.message how_far is) violates
  read how_far (Err fault) is = violates

  pub one_item : On (acting now item part)
  unfolding acting
  one_item = read part.client.stage (reading item) refl
