-- In 31 good rounds of a detector's link that is ready the interlocking says something in one, and is given nothing.
use Rattle.simulator_recovery.proofs.Words.Basics.{◌≡◌, ℕ, ◌<◌, ◌≤◌, true, false, length, map, Some, slice_get, sym, ap, subst, ◌∙◌, arith, false≢true, same_Some, suc, ◌+◌, nat_lt, Bool, List, [], ◌∷◌, ◌++◌, append_assoc, append-nil, Option, None, refl, ltb-false, ltb-true}
use Rattle.simulator_recovery.proofs.Words.Links.{settled, reading_of, stops_at_greatest, LinkState, is_up, speaking_rounds, Each, happened_to, Links, LinksEvent}
use Rattle.simulator_recovery.proofs.Words.Interlockings.{ClientState, is_ready, Stage, KnownDetectorState, KnownPointState, KnownSignalState, Table, IsTableOf}
use Rattle.simulator_recovery.proofs.Words.Stations.{Site, Once, IsStation, detector_link, WorldState, IsStanding, IsWhole, IsReached, Event, Flowing, round, client_links, links}
use Rattle.simulator_recovery.proofs.Words.Recovery.{AllStandByCounts, ClientCountsByStage, ClientHasGiven, IsReadyOn, HasSpokenAlone, HaveRoomOn, IsUpOn, links_behind, StayBelowOn, StaysBelowLimit, ready_rounds, HasTime, IsWork, all_tried, clocks_of, good_rounds, SpeaksAloneIn, LawsBelow}
use Rattle.simulator_recovery.proofs.Lemmas.Ground.AtLink.{mapped, of_third}
use Rattle.simulator_recovery.proofs.Lemmas.Talk.ClientLinks.{up_open}
use Rattle.simulator_recovery.proofs.Lemmas.Windows.DetectorWindows.{reached_few}
use Rattle.simulator_recovery.proofs.Lemmas.Windows.FewItems.{GivenBy, GivesFew}
use Rattle.simulator_recovery.proofs.Lemmas.Ground.LinkCounts.{settled_open}
use Rattle.simulator_recovery.proofs.Lemmas.Ground.EndCalls.{at_place, map_length}
use Rattle.simulator_recovery.proofs.Lemmas.Sections.SectionsWindow.{Stands}
use Rattle.simulator_recovery.proofs.Lemmas.Links.Ready.{fewer_time, links_ready}
use Rattle.simulator_recovery.proofs.Lemmas.Rounds.Rounds.{rounds_reached}
use Rattle.simulator_recovery.proofs.Lemmas.Windows.WindowsSpoken.{count_two, each_two, links_speak}
use Rattle.simulator_recovery.proofs.Lemmas.Talk.Standing.{stand_by_counts}

-- ---- a detector that is ready was given two items in its connection, and no more: the check of the version, and the request

-- at least two by its stage, and at most two
least_by : (s : Stage) (n : ℕ) → is_ready s ≡ true → ClientHasGiven s n → 2 ≤ n
least_by Stage.Outside n ready gave = absurd (false≢true ready)
least_by Stage.AwaitsAnswer n ready gave = absurd (false≢true ready)
least_by Stage.AwaitsStart n ready gave = absurd (false≢true ready)
least_by (Stage.AwaitsStatus left) n ready gave = absurd (false≢true ready)
least_by Stage.Completed n ready gave = gave
least_by Stage.AwaitsReport n ready gave = gave

most_by : (s : Stage) (n : ℕ) → is_ready s ≡ true → GivenBy false s n → n ≤ 2
most_by Stage.Outside n ready few = absurd (false≢true ready)
most_by Stage.AwaitsAnswer n ready few = absurd (false≢true ready)
most_by Stage.AwaitsStart n ready few = absurd (false≢true ready)
most_by (Stage.AwaitsStatus left) n ready few = absurd (false≢true ready)
most_by Stage.Completed n ready few = few
most_by Stage.AwaitsReport n ready few = few

both_counts : (given least most : ℕ) → given ≡ stops_at_greatest least → given ≡ stops_at_greatest most → 2 ≤ least → most ≤ 2 → given ≡ 2
both_counts given least most a b low high = omega (arith, a, b, at_least least low, at_most most, high)
  where
    at_least : (n : ℕ) → 2 ≤ n → 2 ≤ stops_at_greatest n
    at_least n some = grind (arith, some)

    at_most : (n : ℕ) → stops_at_greatest n ≤ n
    at_most n = grind arith

two_given : (client : ClientState) → ClientCountsByStage client → GivesFew false client → is_up client.link.phase ≡ true → is_ready client.stage ≡ true → client.link.given ≡ 2
two_given client counts few up ready =
    let inside = few.inside up
    in both_counts client.link.given counts.given inside.given counts.counts.given_is inside.counts.given_is (least_by client.stage counts.given ready counts.gave) (most_by client.stage inside.given ready inside.few)

abbrev pub Stand : Type 0
Stand = (site : Site) (table : Table) (world : WorldState) → IsStation site → IsReached site table world → AllStandByCounts site world

module _ (stands : Stands) (stand : Stand) (site : Site) (table : Table) (station : IsStation site) (once : Once site) (world : WorldState) (reached : IsReached site table world) (place : ℕ) (inside : place < length site.detectors) (ready : IsReadyOn site (detector_link site place) world) where
  whole : IsWhole site world
  whole = (subst (IsStanding site) (sym reached.after) (stands site table reached.outset reached.events station once reached.lies reached.can)).whole

  known : (k : KnownDetectorState) × (slice_get world.interlocking.ixl.detectors place ≡ Some k)
  known = at_place world.interlocking.ixl.detectors place (let many = whole.clients.detectors in omega (arith, inside, many))

  client_same : ready.client ≡ known.0.client
  client_same = same_Some ready.client known.0.client (sym ready.there ∙ of_third _ _ _ (length site.signals) (length site.points) place known.0.client
      (map_length (λ (k : KnownSignalState). k.client) world.interlocking.ixl.known_signals ∙ whole.clients.known_signals)
      (map_length (λ (k : KnownPointState). k.client) world.interlocking.ixl.known_points ∙ whole.clients.known_points) (mapped (λ (k : KnownDetectorState). k.client) world.interlocking.ixl.detectors place known.0 known.1))

  link_same : ready.up.client ≡ known.0.client.link
  link_same = same_Some ready.up.client known.0.client.link (sym ready.up.client_there ∙ of_third (map (λ (k : KnownSignalState). k.client.link) world.interlocking.ixl.known_signals) (map (λ (k : KnownPointState). k.client.link) world.interlocking.ixl.known_points) _
      (length site.signals) (length site.points) place known.0.client.link (map_length _ world.interlocking.ixl.known_signals ∙ whole.clients.known_signals) (map_length _ world.interlocking.ixl.known_points ∙ whole.clients.known_points)
      (mapped (λ (k : KnownDetectorState). k.client.link) world.interlocking.ixl.detectors place known.0 known.1))

  settles_up : is_up (settled (reading_of world.interlocking.clock) known.0.client.link).phase ≡ true
  settles_up = ap (λ (l : LinkState). is_up (settled (reading_of world.interlocking.clock) l).phase) (sym link_same) ∙ ready.up.client_up

  was_up : is_up known.0.client.link.phase ≡ true
  was_up = ap (λ (l : LinkState). is_up l.phase) (sym (settled_open (reading_of world.interlocking.clock) known.0.client.link (up_open _ settles_up)).0) ∙ settles_up

  pub ready_given : ready.up.client.given ≡ 2
  ready_given = ap (λ (l : LinkState). l.given) link_same
      ∙ two_given known.0.client (((stand site table world station reached).clients.detectors place known.0 known.1).stands.stands (up_open _ was_up)) ((reached_few site table world reached).detectors place known.0 known.1) was_up
      (ap (λ (c : ClientState). is_ready c.stage) (sym client_same) ∙ ready.client_ready)

-- ---- in 31 good rounds of a detector's link that is ready the interlocking says something in one, and is given nothing

-- fewer rounds stay below the limit as well
pub below_two : (link : ℕ) (one other : List (List Event)) (flowing : Flowing) (before : Links) → StayBelowOn link (one ++ other) flowing before → StayBelowOn link one flowing before
below_two link [] other flowing before below = tt
below_two link (first ∷ one) other flowing before below = (below.0, below_two link one other (all_tried first (round flowing)) (links_behind first flowing before) below.1)

-- how many PDUs the interlocking's end of a link has sent
abbrev sent_of : Option LinkState → ℕ
sent_of None = 0
sent_of (Some link) = link.sent

abbrev pub sent_on : ℕ → WorldState → ℕ
sent_on link world = sent_of (slice_get (client_links world.interlocking.ixl) link)

pub sent_is : (link : ℕ) (world : WorldState) (up : IsUpOn link world) → sent_on link world ≡ up.client.sent
sent_is link world up = ap sent_of up.client_there

module _ (laws : LawsBelow) (between : List Event) (flowing : Flowing) (place : ℕ) (once : Once flowing.state.sited.site) (station : IsStation flowing.state.sited.site) (is_table : IsTableOf flowing.state.sited.site flowing.state.sited.table)
    (reached : IsReached flowing.state.sited.site flowing.state.sited.table flowing.state.run) (work : Each IsWork between) (inside : place < length flowing.state.sited.site.detectors) where
  abbrev link : ℕ
  link = detector_link flowing.state.sited.site place

  abbrev world_at : List (List Event) → WorldState
  world_at rounds = (good_rounds (between ∷ rounds) flowing).state.run

  below_links : link < links flowing.state.sited.site
  below_links = let i = inside in omega (arith, i)

  -- what is asked of rounds
  pub record Good (rounds : List (List Event)) : Type 0 where
    pub works : Each (Each IsWork) rounds
    pub can : HasTime (suc (length rounds)) flowing.state.run
    pub below : StaysBelowLimit flowing.state.sited.site link rounds (all_tried between (round flowing))
    pub long : ready_rounds ≤ suc (length rounds)

  pub good_two : (one other : List (List Event)) → ready_rounds ≤ suc (length one) → Good (one ++ other) → Good one
  good_two one other long good = record {
    works = (each_two (Each IsWork) one other good.works).0;
    can = fewer_time (suc (length one)) (suc (length (one ++ other))) (clocks_of flowing.state.run) (let n = count_two one other in omega (arith, n)) good.can;
    below = λ before are. below_two link one other (all_tried between (round flowing)) before (good.below before are);
    long = long;
  }

  pub ready_at : (rounds : List (List Event)) → Good rounds → IsReadyOn flowing.state.sited.site link (world_at rounds)
  ready_at rounds good = links_ready laws between rounds flowing link once station is_table reached work good.works good.can below_links good.long good.below

  reached_at : (rounds : List (List Event)) → IsReached flowing.state.sited.site flowing.state.sited.table (world_at rounds)
  reached_at rounds = (rounds_reached laws flowing.state.sited (between ∷ rounds) flowing (record { same = refl; reached = reached })).reached

  pub given_at : (rounds : List (List Event)) (good : Good rounds) → (ready_at rounds good).up.client.given ≡ 2
  given_at rounds good = ready_given laws.stations_have_links_run stand_by_counts flowing.state.sited.site flowing.state.sited.table station once (world_at rounds) (reached_at rounds) place inside (ready_at rounds good)

  abbrev Found : ℕ → List (List Event) → Type 0
  Found least rounds = SpeaksAloneIn link between least rounds flowing

  pub find : (least : ℕ) (front : List (List Event)) (one : List Event) (rest : List (List Event)) → least ≤ length front → ready_rounds ≤ suc least → Good ((front ++ one ∷ []) ++ rest)
      → sent_on link (world_at (front ++ one ∷ [])) < sent_on link (world_at ((front ++ one ∷ []) ++ rest)) → Found least ((front ++ one ∷ []) ++ rest)
  find least front one [] far long good more = absurd (omega (arith, more, ap (λ (r : List (List Event)). sent_on link (world_at r)) (append-nil (front ++ one ∷ []))))
  find least front one (two ∷ others) far long good more = choose (nat_lt (sent_on link (world_at (front ++ one ∷ []))) (sent_on link (world_at ((front ++ one ∷ []) ++ two ∷ [])))) refl (find least (front ++ one ∷ []) two others)
    where
      r1 : List (List Event)
      r1 = front ++ one ∷ []

      r2 : List (List Event)
      r2 = (front ++ one ∷ []) ++ two ∷ []

      c1 : length (front ++ one ∷ []) ≡ length front + 1
      c1 = count_two front (one ∷ [])

      c2 : length ((front ++ one ∷ []) ++ two ∷ []) ≡ length (front ++ one ∷ []) + 1
      c2 = count_two (front ++ one ∷ []) (two ∷ [])

      same : ((front ++ one ∷ []) ++ two ∷ []) ++ others ≡ (front ++ one ∷ []) ++ two ∷ others
      same = append_assoc (front ++ one ∷ []) (two ∷ []) others

      good_then : Good (((front ++ one ∷ []) ++ two ∷ []) ++ others)
      good_then = subst Good (sym same) good

      good2 : Good ((front ++ one ∷ []) ++ two ∷ [])
      good2 = good_two ((front ++ one ∷ []) ++ two ∷ []) others (omega (arith, long, far, c1, c2)) good_then

      good1 : Good (front ++ one ∷ [])
      good1 = good_two (front ++ one ∷ []) (two ∷ []) (omega (arith, long, far, c1)) good2

      good0 : Good front
      good0 = good_two front (one ∷ []) (omega (arith, long, far)) good1

      spoken : sent_on link (world_at (front ++ one ∷ [])) < sent_on link (world_at ((front ++ one ∷ []) ++ two ∷ [])) → HasSpokenAlone link (world_at front) (world_at (front ++ one ∷ [])) (world_at ((front ++ one ∷ []) ++ two ∷ []))
      spoken lt = record {
        old = (ready_at front good0).up;
        mid = (ready_at (front ++ one ∷ []) good1).up;
        new = (ready_at ((front ++ one ∷ []) ++ two ∷ []) good2).up;
        quiet = let a = given_at front good0 in let b = given_at ((front ++ one ∷ []) ++ two ∷ []) good2 in omega (arith, a, b);
        sent = let a = sent_is link (world_at (front ++ one ∷ [])) (ready_at (front ++ one ∷ []) good1).up in let b = sent_is link (world_at ((front ++ one ∷ []) ++ two ∷ [])) (ready_at ((front ++ one ∷ []) ++ two ∷ []) good2).up in omega (arith, lt, a, b);
      }

      choose : (b : Bool) → nat_lt (sent_on link (world_at (front ++ one ∷ []))) (sent_on link (world_at ((front ++ one ∷ []) ++ two ∷ []))) ≡ b
          → (least ≤ length (front ++ one ∷ []) → ready_rounds ≤ suc least → Good (((front ++ one ∷ []) ++ two ∷ []) ++ others) → sent_on link (world_at ((front ++ one ∷ []) ++ two ∷ [])) < sent_on link (world_at (((front ++ one ∷ []) ++ two ∷ []) ++ others)) → Found least (((front ++ one ∷ []) ++ two ∷ []) ++ others))
          → Found least ((front ++ one ∷ []) ++ two ∷ others)
      choose true e later = record { front = front; one = one; two = two; rest = others; are = sym same; far = far; spoken = spoken (ltb-true _ _ e) }
      choose false e later = subst (Found least) same (later (omega (arith, far, c1)) long good_then
          (omega (arith, more, ltb-false _ _ e, ap (λ (r : List (List Event)). sent_on link (world_at r)) same)))

pub speaks_alone : LawsBelow → (between : List Event) (later_rounds : List (List Event)) (one : List Event) (more : List (List Event)) (flowing : Flowing) (place : ℕ) → Once flowing.state.sited.site → IsStation flowing.state.sited.site
    → IsTableOf flowing.state.sited.site flowing.state.sited.table → IsReached flowing.state.sited.site flowing.state.sited.table flowing.state.run → Each IsWork between → Each (Each IsWork) ((later_rounds ++ one ∷ []) ++ more)
    → HasTime (suc (length ((later_rounds ++ one ∷ []) ++ more))) flowing.state.run → place < length flowing.state.sited.site.detectors → ready_rounds ≤ suc (length later_rounds) → speaking_rounds ≤ length more
    → StaysBelowLimit flowing.state.sited.site (detector_link flowing.state.sited.site place) ((later_rounds ++ one ∷ []) ++ more) (all_tried between (round flowing))
    → SpeaksAloneIn (detector_link flowing.state.sited.site place) between (length later_rounds) ((later_rounds ++ one ∷ []) ++ more) flowing
speaks_alone laws between later_rounds one more flowing place once station is_table reached work works can inside long enough below =
    let link = detector_link flowing.state.sited.site place
    in let c = count_two later_rounds (one ∷ [])
    in let d = count_two (later_rounds ++ one ∷ []) more
    in let s = links_speak laws between (later_rounds ++ one ∷ []) more flowing link once station is_table reached work works can (omega (arith, inside)) (omega (arith, long, c)) enough below
    in let a = sent_is link (good_rounds (between ∷ (later_rounds ++ one ∷ [])) flowing).state.run s.before
    in let b = sent_is link (good_rounds (between ∷ ((later_rounds ++ one ∷ []) ++ more)) flowing).state.run s.behind
    in let sent = s.sent
    in find laws between flowing place once station is_table reached work inside (length later_rounds) later_rounds one more (omega arith) long
    (record { works = works; can = can; below = below; long = omega (arith, long, c, d) }) (omega (arith, a, b, sent))

pub room_front : (link : ℕ) (one other : List LinksEvent) (before : Links) → HaveRoomOn link (one ++ other) before → HaveRoomOn link one before
room_front of [] [] before room = room
room_front of [] (first ∷ other) before room = room.0
room_front of (first ∷ one) other before room = (room.0, room_front of one other (happened_to first before) room.1)
