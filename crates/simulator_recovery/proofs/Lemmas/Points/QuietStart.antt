-- Where what is told of a section begins to stay as it is: a round after the moment at which its detector owes no report of it.
use Rattle.simulator_recovery.proofs.Words.Basics.{◌≡◌, inl, inr, ℕ, suc, ◌-◌, ◌≤◌, ◌∙◌, Bool, true, false, List, [], ◌∷◌, ◌++◌, append_assoc, append-nil, length, Some, slice_get, sym, ap, subst, arith, length-append, same_Some}
use Rattle.simulator_recovery.proofs.Words.Links.{speaking_rounds, Each, AreTimely, Links}
use Rattle.simulator_recovery.proofs.Words.Controllers.{Occupancy, Clear, Occupied}
use Rattle.simulator_recovery.proofs.Words.Interlockings.{IsTableOf, ClientState, PeerState, is_ready, At, IsClear, KnownDetectorState, Table}
use Rattle.simulator_recovery.proofs.Words.Stations.{Site, Once, IsStation, Event, Flowing, round, names_at, detector_link, links, CanHappen, after_all, WorldState, links_in, IsReached}
use Rattle.simulator_recovery.proofs.Words.Recovery.{HasHandedOver, StaysBelowLimit, IsTimeToReport, IsReadyOn, ready_rounds, IsClientUp, HasTime, IsWork, all_tried, clocks_of, good_rounds, HasRoomToReport, LeavesSection, OwesNone, is_occupied, section_rounds, told_in, LawsBelow}
use Rattle.simulator_recovery.proofs.Lemmas.Ground.SectionsEvents.{HasHeld}
use Rattle.simulator_recovery.proofs.Lemmas.Links.HandedOver.{hands_over}
use Rattle.simulator_recovery.proofs.Lemmas.Points.QuietSections.{IsTold, WasTold, held_so}
use Rattle.simulator_recovery.proofs.Lemmas.Links.Ready.{Last, count_front, fewer_time, last_of}
use Rattle.simulator_recovery.proofs.Lemmas.Sections.SectionsAlways.{Reporting, knows_by, reporting_first, reporting_held, reporting_on, timely_of}
use Rattle.simulator_recovery.proofs.Lemmas.Sections.SectionsInTime.{IsGood, below_links, front, is_at, leaves_it, next_leads, none_in_time, none_later, ready}
use Rattle.simulator_recovery.proofs.Lemmas.Sections.SectionsOver.{Over, all_over, client_count, client_same, first_over, known, known_up, peer_here, place_inside, server_count}
use Rattle.simulator_recovery.proofs.Lemmas.Sections.SectionsInRound.{LeadsBy, stays_none}
use Rattle.simulator_recovery.proofs.Lemmas.Sections.SectionsRounds.{owes_none}
use Rattle.simulator_recovery.proofs.Lemmas.Talk.StationTalk.{took}
use Rattle.simulator_recovery.proofs.Lemmas.Links.UnderHosts.{HasCompleted, hosts_completed}
use Rattle.simulator_recovery.proofs.Lemmas.Windows.WindowsAlone.{below_two}
use Rattle.simulator_recovery.proofs.Lemmas.Windows.WindowsSpoken.{count_two, each_two}

module _ (laws : LawsBelow) (site : Site) (table : Table) (station : IsStation site) (once : Once site) (is_table : IsTableOf site table) (section : ℕ) (reporter : ℕ × ℕ)
    (reported : slice_get table.reporters section ≡ Some reporter) where
  -- how the section is, and what was told of it and taken by this moment
  pub record Start (world : WorldState) : Type 0 where
    pub occupancy : Occupancy
    pub bound : ℕ
    pub first : List (List ℕ)
    pub far : bound ≤ length first
    pub was_told : WasTold laws site table station once is_table section reporter reported occupancy bound first far
    pub network : Links
    pub told : IsTold laws site table station once is_table section reporter reported occupancy bound first far world network
    pub ready : At world.interlocking.ixl.detectors reporter.0 (λ one. is_ready one.client.stage ≡ true)

  -- it is known to be clear, or it is occupied
  pub clear_or : (world : WorldState) (s : Start world) → IsClientUp (detector_link site reporter.0) world → (occupancy : Occupancy) → s.occupancy ≡ occupancy
      → (clear : IsClear table world.interlocking.ixl section → ⊥) → s.occupancy ≡ Occupied
  clear_or world s up Occupied e clear = e
  clear_or world s up Clear e clear = absurd (clear (
    reporter,
    reported,
    (
      s.ready.0,
      s.ready.1,
      (
        s.ready.2,
        held_so laws site table station once is_table section reporter reported s.occupancy s.bound s.first s.far world s.network up s.told s.was_told s.ready.0 s.ready.1 ∙ ap is_occupied e,
      ),
    ),
  ))

  pub starts : (old : WorldState) (events : List Event) → IsReached site table old → CanHappen site table events old → Each (LeavesSection site table section) events → OwesNone table old section
      → HasHandedOver (detector_link site reporter.0) old (after_all site table events old) → IsReadyOn site (detector_link site reporter.0) (after_all site table events old)
      → Start (after_all site table events old)
  starts old events reached can leaves (r, r_there, owes) handed ready = by_first (subst (λ (p : ℕ × ℕ). At old.detectors p.0 (λ controller. At controller.host.object p.1 (λ one. one.owes ≡ false)))
      (same_Some r reporter (sym r_there ∙ reported)) owes)
    where
      link : ℕ
      link = detector_link site reporter.0

      new : WorldState
      new = after_all site table events old

      held : HasHeld laws site table station once (Reporting laws site table station once is_table) (reporting_first laws site table station once is_table)
          (reporting_on laws site table station once is_table) old
      held = reporting_held laws site table station once is_table old reached

      timely : AreTimely (links site) (names_at site) (links_in held.has)
      timely = timely_of laws site table station once is_table old held.has

      by_first : At old.detectors reporter.0 (λ controller. At controller.host.object reporter.1 (λ one. one.owes ≡ false)) → Start new
      by_first (c, e, (x, f, free)) = start
        where
          bound : ℕ
          bound = length ((links_in held.has).ends link).server.given

          over : (after : Links) × Over laws site table station once is_table section reporter reported x.occupancy bound new after
          over = all_over laws site table station once is_table section reporter reported x.occupancy bound events old (links_in held.has) can leaves
              (first_over laws site table station once is_table section reporter reported old (links_in held.has) timely held.has.are held.holds handed.before c e x f free)

          one : (k : KnownDetectorState) × (slice_get new.interlocking.ixl.detectors reporter.0 ≡ Some k)
          one = known laws site table station once is_table section reporter reported new over.0 over.1.timely over.1.are over.1.reporting handed.behind

          same : ready.client ≡ one.0.client
          same = client_same laws site table station once is_table section reporter reported new over.0 over.1.timely over.1.are over.1.reporting handed.behind ready.client ready.there

          is_now_ready : is_ready one.0.client.stage ≡ true
          is_now_ready = ap (λ (k : ClientState). is_ready k.stage) (sym same) ∙ ready.client_ready

          told : (before : Bool) × (told_in one.0.client.peer reporter.1 (took over.0 link) ≡ Some before)
          told = (knows_by laws site table station once is_table new over.0 over.1.timely over.1.are over.1.reporting reporter.0 one.0 one.1).each is_now_ready
              (known_up laws site table station once is_table section reporter reported new over.0 over.1.timely over.1.are over.1.reporting handed.behind) reporter.1
              (place_inside laws site table station once is_table section reporter reported new over.0 over.1.timely over.1.are over.1.reporting handed.behind)

          start : Start new
          start = record {
            occupancy = x.occupancy;
            bound = bound;
            first = took over.0 link;
            far =
                let n = server_count laws site table station once is_table section reporter reported old (links_in held.has) timely held.has.are held.holds handed.before
                in let m = handed.to_interlocking
                in let k = client_count laws site table station once is_table section reporter reported new over.0 over.1.timely over.1.are over.1.reporting handed.behind
                in omega (arith, n, m, k);
            was_told = (
              told.0,
              ap (λ (p : PeerState). told_in p reporter.1 (took over.0 link))
                  (sym (peer_here laws site table station once is_table section reporter reported new over.0 over.1.timely over.1.are over.1.reporting handed.behind)) ∙ told.1,
            );
            network = over.0;
            told = record { over = over.1; taken = λ k f up. ([], sym (append-nil (took over.0 link))) };
            ready = (one.0, one.1, is_now_ready);
          }

-- ---- in good rounds

-- from the last of these rounds on links are ready
pub time_long : (table : Table) (section : ℕ) (between : List Event) (rounds more : List (List Event)) (flowing : Flowing) → IsTimeToReport table section between rounds more flowing
    → ready_rounds ≤ suc (length (rounds ++ more))
time_long table section between rounds more flowing (inl enough) = let long = enough.0 in let n = length-append rounds more in omega (arith, long, n)
time_long table section between rounds more flowing (inr room) = let long = room.0 in let some = room.1.0 in let n = length-append rounds more in omega (arith, long, some, n)

-- and there is time with more of them
pub time_longer : (table : Table) (section : ℕ) (between : List Event) (rounds more others : List (List Event)) (flowing : Flowing) → IsTimeToReport table section between rounds more flowing
    → IsTimeToReport table section between rounds (more ++ others) flowing
time_longer table section between rounds more others flowing (inl enough) = inl (enough.0, (let most = enough.1 in let n = length-append more others in omega (arith, most, n)))
time_longer table section between rounds more others flowing (inr room) = inr (room.0, ((let some = room.1.0 in let n = length-append more others in omega (arith, some, n)), room.1.1))

module _ (laws : LawsBelow) (between : List Event) (flowing : Flowing) (section : ℕ) (reporter : ℕ × ℕ) (once : Once flowing.state.sited.site) (station : IsStation flowing.state.sited.site)
    (is_table : IsTableOf flowing.state.sited.site flowing.state.sited.table)
    (reached : IsReached flowing.state.sited.site flowing.state.sited.table flowing.state.run) (work : Each IsWork between)
    (reported : slice_get flowing.state.sited.table.reporters section ≡ Some reporter) where
  abbrev site : Site
  site = flowing.state.sited.site

  abbrev table : Table
  table = flowing.state.sited.table

  abbrev Leaves : Event → Type 0
  Leaves = LeavesSection site table section

  abbrev world_at : List (List Event) → WorldState
  world_at rounds = (good_rounds (between ∷ rounds) flowing).state.run

  abbrev StartIn : WorldState → Type 0
  StartIn = Start laws site table station once is_table section reporter reported

  abbrev AreGood : List (List Event) → Type 0
  AreGood = IsGood laws between flowing section reporter once station is_table reached work reported

  -- a round after the one after which no report is owed
  start_next : (rounds : List (List Event)) (last : List Event) → ready_rounds ≤ suc (suc (length rounds)) → AreGood (rounds ++ last ∷ []) → OwesNone table (world_at rounds) section → Each Leaves last
      → StartIn (world_at (rounds ++ last ∷ []))
  start_next rounds last long good owes leaves = subst StartIn (sym lead.are) (starts laws site table station once is_table section reporter reported (world_at rounds) lead.events
      (is_at laws between flowing section reporter once station is_table reached work reported rounds).reached lead.can lead.each owes
      (subst (λ (w : WorldState). HasHandedOver link (world_at rounds) w) lead.are over) (subst (IsReadyOn site link) lead.are now_ready))
    where
      link : ℕ
      link = detector_link site reporter.0

      lead : LeadsBy site table Leaves (world_at rounds) (world_at (rounds ++ last ∷ []))
      lead = next_leads laws between flowing section reporter once station is_table reached work reported Leaves (leaves_it laws between flowing section reporter once station is_table reached work reported)
          rounds last leaves

      now_ready : IsReadyOn site (detector_link site reporter.0) (world_at (rounds ++ last ∷ []))
      now_ready = ready laws between flowing section reporter once station is_table reached work reported (rounds ++ last ∷ []) good

      over : HasHandedOver (detector_link site reporter.0) (world_at rounds) (world_at (rounds ++ last ∷ []))
      over = hands_over laws between rounds last flowing (detector_link site reporter.0) once station is_table reached work good.works good.can
          (below_links laws between flowing section reporter once station is_table reached work reported) (omega (arith, long)) good.below

  -- 32 rounds after the last thing that was told of it
  start_behind : (rounds : List (List Event)) (one : List Event) (more : List (List Event)) → ready_rounds ≤ suc (suc (length rounds)) → section_rounds ≤ length more → AreGood ((rounds ++ one ∷ []) ++ more)
      → Each (Each Leaves) more → StartIn (world_at ((rounds ++ one ∷ []) ++ more))
  start_behind rounds one more long enough = by_last (last_of (length more - 1) more (omega (arith, enough)))
    where
      Starts : List (List Event) → Type 0
      Starts list = AreGood ((rounds ++ one ∷ []) ++ list) → Each (Each Leaves) list → StartIn (world_at ((rounds ++ one ∷ []) ++ list))

      of_two : (most : List (List Event)) (x last : List Event) → speaking_rounds ≤ length most → Starts ((most ++ x ∷ []) ++ last ∷ [])
      of_two most x last many good each = subst (λ (r : List (List Event)). StartIn (world_at r)) same (start_next ((rounds ++ one ∷ []) ++ (most ++ x ∷ [])) last (omega (arith, far)) good_then
          (none_in_time laws between flowing section reporter once station is_table reached work reported rounds one most x long many
          (front laws between flowing section reporter once station is_table reached work reported ((rounds ++ one ∷ []) ++ (most ++ x ∷ [])) (last ∷ []) far good_then) parts.0) parts.1.0)
        where
          same : ((rounds ++ one ∷ []) ++ (most ++ x ∷ [])) ++ last ∷ [] ≡ (rounds ++ one ∷ []) ++ ((most ++ x ∷ []) ++ last ∷ [])
          same = append_assoc (rounds ++ one ∷ []) (most ++ x ∷ []) (last ∷ [])

          good_then : AreGood (((rounds ++ one ∷ []) ++ (most ++ x ∷ [])) ++ last ∷ [])
          good_then = subst AreGood (sym same) good

          far : ready_rounds ≤ suc (length ((rounds ++ one ∷ []) ++ (most ++ x ∷ [])))
          far = let a = count_front rounds one in let b = count_two (rounds ++ one ∷ []) (most ++ x ∷ []) in omega (arith, long, a, b)

          parts : Each (Each Leaves) (most ++ x ∷ []) × Each (Each Leaves) (last ∷ [])
          parts = each_two (Each Leaves) (most ++ x ∷ []) (last ∷ []) each

      by_last : Last (length more - 1) more → Starts more
      by_last l = subst Starts (sym l.are) (by_front (last_of (length l.front - 1) l.front (let n = l.long in omega (arith, enough, n))))
        where
          by_front : Last (length l.front - 1) l.front → Starts (l.front ++ l.last ∷ [])
          by_front m = subst (λ (f : List (List Event)). Starts (f ++ l.last ∷ [])) (sym m.are) (of_two m.front m.last l.last (let n = l.long in let k = m.long in omega (arith, enough, n, k)))

  start_in_time : (rounds more : List (List Event)) → AreGood (rounds ++ more) → ready_rounds ≤ suc (length rounds) → section_rounds ≤ length more → Each (Each Leaves) more
      → StartIn (world_at (rounds ++ more))
  start_in_time rounds more good long enough leaves = by_last (last_of (length rounds - 1) rounds (omega (arith, long))) good
    where
      by_last : Last (length rounds - 1) rounds → AreGood (rounds ++ more) → StartIn (world_at (rounds ++ more))
      by_last l = subst (λ (r : List (List Event)). AreGood (r ++ more) → StartIn (world_at (r ++ more))) (sym l.are)
          (λ is_good. start_behind l.front l.last more (let n = l.long in omega (arith, long, n)) enough is_good leaves)

  -- a round after one after which the detector's window has room, and later
  module _ (rounds : List (List Event)) (long : ready_rounds ≤ suc (suc (length rounds))) (room : HasRoomToReport table (world_at rounds) section) where
    completed : (more : List (List Event)) → AreGood (rounds ++ more) → HasCompleted site (detector_link site reporter.0) (world_at rounds)
    completed more good = hosts_completed laws between rounds flowing (detector_link site reporter.0) once station is_table reached work (each_two (Each IsWork) rounds more good.works).0
        (fewer_time (suc (length rounds)) (suc (length (rounds ++ more))) (clocks_of flowing.state.run) (let n = count_two rounds more in omega (arith, n)) good.can)
        (below_links laws between flowing section reporter once station is_table reached work reported) (omega (arith, long))
        (λ before are. below_two (detector_link site reporter.0) rounds more (all_tried between (round flowing)) before (good.below before are))

    none_with_room : (more : List (List Event)) → AreGood (rounds ++ more) → OwesNone table (world_at rounds) section
    none_with_room more good = owes_none laws site table (world_at rounds) section reporter station once is_table
        (is_at laws between flowing section reporter once station is_table reached work reported rounds).reached reported (completed more good) room

    -- no report is owed from then on
    none_there : (more : List (List Event)) (last : List Event) → AreGood (rounds ++ (more ++ last ∷ [])) → Each (Each Leaves) more → OwesNone table (world_at (rounds ++ more)) section
    none_there [] last good leaves = subst (λ (r : List (List Event)). OwesNone table (world_at r) section) (sym (append-nil rounds)) (none_with_room (last ∷ []) good)
    none_there (first ∷ more) last good leaves = subst (λ (r : List (List Event)). OwesNone table (world_at r) section) same
        (none_later laws between flowing section reporter once station is_table reached work reported (rounds ++ first ∷ []) more far good_then leaves.1
        (stays_none laws site table station once is_table section reporter reported (world_at rounds) (world_at (rounds ++ first ∷ []))
        (next_leads laws between flowing section reporter once station is_table reached work reported Leaves (leaves_it laws between flowing section reporter once station is_table reached work reported)
        rounds first leaves.0)
        (is_at laws between flowing section reporter once station is_table reached work reported rounds).reached (completed ((first ∷ more) ++ last ∷ []) good).up
        (none_with_room ((first ∷ more) ++ last ∷ []) good)))
      where
        same : (rounds ++ first ∷ []) ++ more ≡ rounds ++ first ∷ more
        same = append_assoc rounds (first ∷ []) more

        far : ready_rounds ≤ suc (length (rounds ++ first ∷ []))
        far = let a = count_front rounds first in omega (arith, long, a)

        good_then : AreGood ((rounds ++ first ∷ []) ++ more)
        good_then = front laws between flowing section reporter once station is_table reached work reported ((rounds ++ first ∷ []) ++ more) (last ∷ [])
            (let a = count_front rounds first in let b = count_two (rounds ++ first ∷ []) more in omega (arith, long, a, b))
            (subst AreGood (sym (append_assoc rounds (first ∷ more) (last ∷ [])) ∙ ap (λ (r : List (List Event)). r ++ last ∷ []) (sym same)) good)

    start_with_room : (more : List (List Event)) → 1 ≤ length more → AreGood (rounds ++ more) → Each (Each Leaves) more → StartIn (world_at (rounds ++ more))
    start_with_room more some = by_last (last_of (length more - 1) more (omega (arith, some)))
      where
        Starts : List (List Event) → Type 0
        Starts list = AreGood (rounds ++ list) → Each (Each Leaves) list → StartIn (world_at (rounds ++ list))

        of_last : (most : List (List Event)) (last : List Event) → Starts (most ++ last ∷ [])
        of_last most last good each = subst (λ (r : List (List Event)). StartIn (world_at r)) same (start_next (rounds ++ most) last (let n = count_two rounds most in omega (arith, long, n))
            (subst AreGood (sym same) good) (none_there most last good parts.0) parts.1.0)
          where
            same : (rounds ++ most) ++ last ∷ [] ≡ rounds ++ (most ++ last ∷ [])
            same = append_assoc rounds most (last ∷ [])

            parts : Each (Each Leaves) most × Each (Each Leaves) (last ∷ [])
            parts = each_two (Each Leaves) most (last ∷ []) each

        by_last : Last (length more - 1) more → Starts more
        by_last l = subst Starts (sym l.are) (of_last l.front l.last)

  pub starts_in_time : (rounds more : List (List Event)) → Each (Each IsWork) (rounds ++ more) → HasTime (suc (length (rounds ++ more))) flowing.state.run
      → IsTimeToReport table section between rounds more flowing
      → StaysBelowLimit site (detector_link site reporter.0) (rounds ++ more) (all_tried between (round flowing)) → Each (Each Leaves) more → StartIn (world_at (rounds ++ more))
  starts_in_time rounds more works can time below leaves = by_time time
    where
      good : AreGood (rounds ++ more)
      good = record { works = works; can = can; below = below; long = time_long table section between rounds more flowing time }

      by_time : IsTimeToReport table section between rounds more flowing → StartIn (world_at (rounds ++ more))
      by_time (inl enough) = start_in_time rounds more good enough.0 enough.1 leaves
      by_time (inr room) = start_with_room rounds room.0 room.1.1 more room.1.0 good leaves
