-- Already after the round in which a detector's link is ready a heartbeat of the interlocking goes alone within 30 rounds.
use Rattle.simulator_recovery.proofs.Words.Basics.{◌≡◌, ℕ, suc, ◌+◌, ◌<◌, ◌≤◌, ◌∙◌, nat_lt, Bool, true, false, List, [], ◌∷◌, ◌++◌, append_assoc, length, refl, sym, ap, subst, arith, ltb-false, ltb-true, length-append}
use Rattle.simulator_recovery.proofs.Words.Links.{speaking_rounds, settled, Each, AreTimely, reading_of, Links, seen, IsCounted, IsSafe, LinkState, is_open}
use Rattle.simulator_recovery.proofs.Words.Interlockings.{IsTableOf, Table}
use Rattle.simulator_recovery.proofs.Words.Stations.{Site, Once, IsStation, Event, Flowing, round, AreLinksOf, names_at, detector_link, links, WorldState, links_in, IsReached}
use Rattle.simulator_recovery.proofs.Words.Recovery.{AreInOne, IsUpOn, StaysBelowLimit, ready_rounds, HasTime, IsWork, all_tried, clocks_of, good_rounds, SpeaksAloneIn, LawsBelow}
use Rattle.simulator_recovery.proofs.Lemmas.Ground.SectionsEvents.{HasHeld}
use Rattle.simulator_recovery.proofs.Lemmas.Talk.ClientLinks.{up_open}
use Rattle.simulator_recovery.proofs.Lemmas.Links.ComeUp.{begun_so, behind_rounds, rounds_open, rounds_stay}
use Rattle.simulator_recovery.proofs.Lemmas.Links.HandedOver.{client_is, server_is}
use Rattle.simulator_recovery.proofs.Lemmas.Links.InOne.{in_one}
use Rattle.simulator_recovery.proofs.Lemmas.Links.Ready.{IsUpBehind, count_front, fewer_time, two_taken_behind}
use Rattle.simulator_recovery.proofs.Lemmas.Rounds.Rounds.{rounds_reached}
use Rattle.simulator_recovery.proofs.Lemmas.Sections.SectionsAlways.{Reporting, reporting_first, reporting_held, reporting_on, timely_of}
use Rattle.simulator_recovery.proofs.Lemmas.Silence.Shown.{counted_given, counted_taken}
use Rattle.simulator_recovery.proofs.Lemmas.Silence.Spent.{settled_given, settled_taken}
use Rattle.simulator_recovery.proofs.Lemmas.Windows.WindowsAlone.{Good, below_two, find, given_at, good_two, ready_at, sent_is, sent_on}
use Rattle.simulator_recovery.proofs.Lemmas.Windows.WindowsConfirmed.{up_behind}
use Rattle.simulator_recovery.proofs.Lemmas.Windows.WindowsSpoken.{each_two, links_speak}

-- ---- what a server has taken its client has given

server_taken : (site : Site) (link : ℕ) → link < links site → (world : WorldState) (these : Links) → AreLinksOf site world these → (up : IsUpOn link world)
    → (these.ends link).server.link.taken ≡ up.server.link.taken
server_taken site link below world these are up = ap (λ (l : LinkState). l.taken) (server_is site link below world these are up) ∙ settled_taken (reading_of up.server.clock) up.server.link

module _ (laws : LawsBelow) (site : Site) (table : Table) (station : IsStation site) (once : Once site) (is_table : IsTableOf site table) where
  pub taken_given : (world : WorldState) (link : ℕ) → IsReached site table world → link < links site → (up : IsUpOn link world) → up.server.link.taken ≤ up.client.given
  taken_given world link reached below up = omega (arith, took, gave, fewer)
    where
      held : HasHeld laws site table station once (Reporting laws site table station once is_table) (reporting_first laws site table station once is_table)
          (reporting_on laws site table station once is_table) world
      held = reporting_held laws site table station once is_table world reached

      timely : AreTimely (links site) (names_at site) (links_in held.has)
      timely = timely_of laws site table station once is_table world held.has

      one : AreInOne link (links_in held.has)
      one = in_one laws site link world (links_in held.has) below timely held.has.are up

      safe : IsSafe ((links_in held.has).ends link).client ((links_in held.has).ends link).server
      safe = (laws.order_is_safe (names_at site link) (seen link (links_in held.has)) (held.holds.stands.ordered link below) one.connection one.client one.server).0

      counted : IsCounted ((links_in held.has).ends link).client × IsCounted ((links_in held.has).ends link).server
      counted = laws.items_are_counted (names_at site link) (seen link (links_in held.has)) (held.holds.stands.ordered link below) one.connection one.client one.server

      server_so : ((links_in held.has).ends link).server.link ≡ settled (reading_of up.server.clock) up.server.link
      server_so = server_is site link below world (links_in held.has) held.has.are up

      client_so : ((links_in held.has).ends link).client.link ≡ settled (reading_of world.interlocking.clock) up.client
      client_so = client_is site link below world (links_in held.has) held.has.are up

      took : up.server.link.taken ≡ length ((links_in held.has).ends link).server.taken
      took = sym (server_taken site link below world (links_in held.has) held.has.are up)
          ∙ (counted_taken ((links_in held.has).ends link).server counted.1 (ap (λ (l : LinkState). is_open l.phase) server_so ∙ up_open _ up.server_up))

      gave : up.client.given ≡ length ((links_in held.has).ends link).client.given
      gave = sym (settled_given (reading_of world.interlocking.clock) up.client)
          ∙ (ap (λ (l : LinkState). l.given) (sym client_so)
          ∙ counted_given ((links_in held.has).ends link).client counted.0 (ap (λ (l : LinkState). is_open l.phase) client_so ∙ up_open _ up.client_up))

      fewer : length ((links_in held.has).ends link).server.taken ≤ length ((links_in held.has).ends link).client.given
      fewer = let whole = ap length safe.beginning ∙ length-append ((links_in held.has).ends link).server.taken safe.rest in omega (arith, whole)

-- ---- in good rounds

module _ (laws : LawsBelow) (sections : LawsBelow) (between : List Event) (flowing : Flowing) (place : ℕ) (once : Once flowing.state.sited.site) (station : IsStation flowing.state.sited.site)
    (is_table : IsTableOf flowing.state.sited.site flowing.state.sited.table) (reached : IsReached flowing.state.sited.site flowing.state.sited.table flowing.state.run) (work : Each IsWork between)
    (inside : place < length flowing.state.sited.site.detectors) where
  abbrev link : ℕ
  link = detector_link flowing.state.sited.site place

  abbrev next : Flowing
  next = all_tried between (round flowing)

  abbrev world_at : List (List Event) → WorldState
  world_at rounds = (good_rounds (between ∷ rounds) flowing).state.run

  below_links : link < links flowing.state.sited.site
  below_links = let i = inside in omega (arith, i)

  abbrev IsGood : List (List Event) → Type 0
  IsGood = Good laws between flowing place once station is_table reached work inside

  -- one round before its link is ready the detector's client has given both its items
  record HasGivenBoth (rounds : List (List Event)) : Type 0 where
    up : IsUpOn link (world_at rounds)
    both : 2 ≤ up.client.given

  given_both : (rounds : List (List Event)) → Each (Each IsWork) rounds → HasTime (suc (length rounds)) flowing.state.run → StaysBelowLimit flowing.state.sited.site link rounds next
      → ready_rounds ≤ suc (suc (length rounds)) → HasGivenBoth rounds
  given_both rounds works can below long =
      let sited = flowing.state.sited
      in let start = begun_so laws sited station once is_table link below_links between flowing refl reached work
      in let later_can = start.later_can (length rounds) can
      in let b = behind_rounds laws sited station once is_table link below_links between flowing work start rounds works later_can
      in let t : IsUpBehind laws sited station once is_table link below_links between flowing work start rounds
      = record {
        behind = b;
        opens = rounds_open link rounds next start.before works
            (rounds_stay laws sited station once is_table link below_links rounds next start.is);
        below = b.below below;
        long = omega (arith, long);
      }
      in let up = up_behind laws sited station once is_table link below_links between flowing work start rounds t
      in let two = two_taken_behind laws sited station once is_table link below_links between flowing work start rounds works later_can long t
      in let same = server_taken sited.site link below_links (world_at rounds) t.behind.after t.behind.are up
      in let fewer = taken_given sections sited.site sited.table station once is_table (world_at rounds) link
      (rounds_reached laws sited (between ∷ rounds) flowing (record { same = refl; reached = reached })).reached below_links up
      in record { up = up; both = omega (arith, two, same, fewer) }

  abbrev Alone : ℕ → List (List Event) → Type 0
  Alone least rounds = SpeaksAloneIn link between least rounds flowing

  farther : (least more : ℕ) (rounds : List (List Event)) → least ≤ more → Alone more rounds → Alone least rounds
  farther least more rounds less s = record { front = s.front; one = s.one; two = s.two; rest = s.rest; are = s.are; far = let far = s.far in omega (arith, far, less); spoken = s.spoken }

  -- so it is in 31 rounds, of which the first is that in which the link is ready
  pub speaks_soon : (rounds : List (List Event)) (one : List Event) (more : List (List Event)) → ready_rounds ≤ suc (suc (length rounds)) → speaking_rounds ≤ length more
      → IsGood ((rounds ++ one ∷ []) ++ more) → Alone (length rounds) ((rounds ++ one ∷ []) ++ more)
  speaks_soon rounds one [] long enough good = absurd (omega (arith, enough))
  speaks_soon rounds one (two ∷ others) long enough good = choose (nat_lt (sent_on link (world_at (rounds ++ one ∷ []))) (sent_on link (world_at ((rounds ++ one ∷ []) ++ two ∷ [])))) refl
    where
      c1 : length (rounds ++ one ∷ []) ≡ length rounds + 1
      c1 = count_front rounds one

      c2 : length ((rounds ++ one ∷ []) ++ two ∷ []) ≡ length (rounds ++ one ∷ []) + 1
      c2 = count_front (rounds ++ one ∷ []) two

      same : ((rounds ++ one ∷ []) ++ two ∷ []) ++ others ≡ (rounds ++ one ∷ []) ++ two ∷ others
      same = append_assoc (rounds ++ one ∷ []) (two ∷ []) others

      good_then : IsGood (((rounds ++ one ∷ []) ++ two ∷ []) ++ others)
      good_then = subst IsGood (sym same) good

      good2 : IsGood ((rounds ++ one ∷ []) ++ two ∷ [])
      good2 = good_two laws between flowing place once station is_table reached work inside ((rounds ++ one ∷ []) ++ two ∷ []) others (omega (arith, long, c1, c2)) good_then

      good1 : IsGood (rounds ++ one ∷ [])
      good1 = good_two laws between flowing place once station is_table reached work inside (rounds ++ one ∷ []) (two ∷ []) (omega (arith, long, c1)) good2

      spoken_all : sent_on link (world_at (rounds ++ one ∷ [])) < sent_on link (world_at ((rounds ++ one ∷ []) ++ two ∷ others))
      spoken_all =
          let s = links_speak laws between (rounds ++ one ∷ []) (two ∷ others) flowing link once station is_table reached work good.works good.can below_links
          (omega (arith, long, c1)) enough good.below
          in let a = sent_is link (world_at (rounds ++ one ∷ [])) s.before
          in let b = sent_is link (world_at ((rounds ++ one ∷ []) ++ two ∷ others)) s.behind
          in let sent = s.sent
          in omega (arith, a, b, sent)

      both : HasGivenBoth rounds
      both = given_both rounds (each_two (Each IsWork) rounds (one ∷ []) good1.works).0
          (fewer_time (suc (length rounds)) (suc (length (rounds ++ one ∷ []))) (clocks_of flowing.state.run) (omega (arith, c1)) good1.can)
          (λ before are. below_two link rounds (one ∷ []) next before (good1.below before are)) long

      at_once : sent_on link (world_at (rounds ++ one ∷ [])) < sent_on link (world_at ((rounds ++ one ∷ []) ++ two ∷ [])) → Alone (length rounds) ((rounds ++ one ∷ []) ++ two ∷ others)
      at_once sent = record {
        front = rounds;
        one = one;
        two = two;
        rest = others;
        are = sym same;
        far = omega arith;
        spoken = record {
          old = both.up;
          mid = (ready_at laws between flowing place once station is_table reached work inside (rounds ++ one ∷ []) good1).up;
          new = (ready_at laws between flowing place once station is_table reached work inside ((rounds ++ one ∷ []) ++ two ∷ []) good2).up;
          quiet = let a = both.both in let b = given_at laws between flowing place once station is_table reached work inside ((rounds ++ one ∷ []) ++ two ∷ []) good2 in omega (arith, a, b);
          sent =
              let a = sent_is link (world_at (rounds ++ one ∷ [])) (ready_at laws between flowing place once station is_table reached work inside (rounds ++ one ∷ []) good1).up
              in let b = sent_is link (world_at ((rounds ++ one ∷ []) ++ two ∷ []))
              (ready_at laws between flowing place once station is_table reached work inside ((rounds ++ one ∷ []) ++ two ∷ []) good2).up
              in omega (arith, sent, a, b);
        };
      }

      later_on : sent_on link (world_at ((rounds ++ one ∷ []) ++ two ∷ [])) < sent_on link (world_at (((rounds ++ one ∷ []) ++ two ∷ []) ++ others))
          → Alone (length rounds) ((rounds ++ one ∷ []) ++ two ∷ others)
      later_on sent = subst (Alone (length rounds)) same (farther (length rounds) (length (rounds ++ one ∷ [])) (((rounds ++ one ∷ []) ++ two ∷ []) ++ others) (omega (arith, c1))
          (find laws between flowing place once station is_table reached work inside (length (rounds ++ one ∷ [])) (rounds ++ one ∷ []) two others (omega arith)
          (omega (arith, long, c1)) good_then sent))

      choose : (b : Bool) → nat_lt (sent_on link (world_at (rounds ++ one ∷ []))) (sent_on link (world_at ((rounds ++ one ∷ []) ++ two ∷ []))) ≡ b
          → Alone (length rounds) ((rounds ++ one ∷ []) ++ two ∷ others)
      choose true e = at_once (ltb-true _ _ e)
      choose false e = later_on (omega (arith, spoken_all, ltb-false _ _ e, ap (λ (r : List (List Event)). sent_on link (world_at r)) same))
