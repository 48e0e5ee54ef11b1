-- A signal through a list of events of its station: how many reports it gives by them.
use Rattle.simulator_recovery.proofs.Words.Basics.{◌≡◌, ◌⊎◌, ℕ, ◌+◌, ◌^◌, ◌<◌, ◌≤◌, nat_le, Bool, true, false, List, [], ◌∷◌, ◌++◌, append_assoc, append-nil, length, Option, Some, None, slice_get, refl, sym, ap, subst, ◌∙◌, arith, leb-true, leb-false, false≢true, same_Some}
use Rattle.simulator_recovery.proofs.Words.Links.{receiving, settled, Each, reading_of, Event as LinkEvent, run, Timely, Links, LinksEvent, events_on, happened_to, run_links, run_on, seen, AreNames, Names, Ordered, stops_at_greatest, Ends, IsCounted, IsFew, LinkState, is_open, is_up, Role}
use Rattle.simulator_recovery.proofs.Words.Controllers.{HostState, given as given_in, Input, Stage, SignalState, signal_behaviour}
use Rattle.simulator_recovery.proofs.Words.Interlockings.{SitedTable}
use Rattle.simulator_recovery.proofs.Words.Stations.{Once, IsStation, Event, Refused, controller_after, step_of, happens, names_at, links, ClockedControllerState, Played, after, refusal_of, world_where, events_of, IsEndOfServer}
use Rattle.simulator_recovery.proofs.Words.Recovery.{HostHasActedOn, HasCounted, HostCountsByStage, all_events_tried, events_tried, events_where, LawsBelow}
use Rattle.simulator_recovery.proofs.Lemmas.Rounds.Clocks.{IsCalm}
use Rattle.simulator_recovery.proofs.Lemmas.Ground.LinkCounts.{AfterReceipt, comes_in, receipt_counts, settled_open, settled_twice, stays_in}
use Rattle.simulator_recovery.proofs.Lemmas.Rounds.LinkRounds.{Followed, HasThese, after_each, are_links, links_both, tried_followed}
use Rattle.simulator_recovery.proofs.Lemmas.Ground.EndCalls.{at_place}
use Rattle.simulator_recovery.proofs.Lemmas.Links.Moments.{exact}
use Rattle.simulator_recovery.proofs.Lemmas.Talk.PointCounts.{coming}
use Rattle.simulator_recovery.proofs.Lemmas.RoutesGoing.RepliedCounts as counted
use Rattle.simulator_recovery.proofs.Lemmas.RoutesGoing.RepliedCounts.{hears, owed}
use Rattle.simulator_recovery.proofs.Lemmas.RoutesGoing.RepliedSteps.{IsStepped, calm_steps, rests, steps}
use Rattle.simulator_recovery.proofs.Lemmas.RoutesGoing.RepliedThrough.{IsInOf, IsInThrough, run_timely, through_front}
use Rattle.simulator_recovery.proofs.Lemmas.Rounds.Rounds.{IsAt, tried_reached}
use Rattle.simulator_recovery.proofs.Lemmas.Silence.Shown.{counted_given, counted_taken}
use Rattle.simulator_recovery.proofs.Lemmas.Silence.Spent.{settled_given, settled_taken}
use Rattle.simulator_recovery.proofs.Lemmas.Talk.Standing.{stand_by_counts}

-- ---- events of the links

pub on_both : (link : ℕ) (one other : List LinksEvent) (before : Links) → run_on link (one ++ other) before ≡ run_on link one before ++ run_on link other (run_links one before)
on_both link [] other before = refl
on_both link (first ∷ one) other before = ap (λ (rest : List LinkEvent). events_on link first before ++ rest) (on_both link one other (happened_to first before))
    ∙ sym (append_assoc (events_on link first before) (run_on link one (happened_to first before)) (run_on link other (run_links one (happened_to first before))))

module _ (laws : LawsBelow) (sited : SitedTable) (station : IsStation sited.site) (once : Once sited.site) (place : ℕ) (below : place < length sited.site.signals) (connection : ℕ) where
  abbrev pub names : Names
  names = names_at sited.site place

  pub there : place < links sited.site
  there = omega (arith, below)

  pub are : AreNames (names_at sited.site place)
  are = (are_links laws sited station once).each place there

  -- A station at a moment, with its links, of which that of the signal is in this connection at both ends.
  pub record Stands (world : Played) (these : Links) : Type 0 where
    pub has : HasThese sited world these
    pub is : IsAt sited world
    pub ordered : Ordered (names_at sited.site place) (seen place these)
    pub client : IsInOf Role.Client connection (seen place these)
    pub server : IsInOf Role.Server connection (seen place these)

  abbrev pub IsThrough : List LinksEvent → Links → Type 0
  IsThrough events these = IsInThrough Role.Client connection (run_on place events these) (seen place these) × IsInThrough Role.Server connection (run_on place events these) (seen place these)

  -- its controller there
  pub record Controls (world : Played) (these : Links) : Type 0 where
    pub c : ClockedControllerState SignalState
    pub stands_there : slice_get world.run.signals place ≡ Some c
    pub link_is : (these.ends place).server.link ≡ settled (reading_of c.clock) c.host.link
    pub clock_is : (these.ends place).server.clock ≡ c.clock
    pub opened : is_open c.host.link.phase ≡ true
    pub given_is : c.host.link.given ≡ length (these.ends place).server.given
    pub taken_is : c.host.link.taken ≡ length (these.ends place).server.taken
    pub taken_few : length (these.ends place).server.taken < 2 ^ 31
    pub given_counts : ℕ
    pub counts_so : HasCounted (length (these.ends place).server.taken) given_counts c.host.link
    pub completed : 2 ≤ length (these.ends place).server.taken → c.host.stage ≡ Stage.Completed

  pub controls : (world : Played) (these : Links) → Stands world these → Controls world these
  controls world these s = record {
    c = found.0;
    stands_there = found.1;
    link_is = end.1.link_is;
    clock_is = end.1.clock_is;
    opened = opened;
    given_is = sym (ap (λ (l : LinkState). l.given) end.1.link_is ∙ settled_given (reading_of found.0.clock) found.0.host.link) ∙ counted_given (seen place these).server count.1 s.server.opened;
    taken_is = taken_is;
    taken_few = few.taken;
    given_counts = by_stage.given;
    counts_so = subst (λ (n : ℕ). HasCounted n by_stage.given found.0.host.link) same_taken by_stage.counts;
    completed = λ many. at_stage found.0.host.stage (subst (HostHasActedOn found.0.host.stage) same_taken by_stage.acted) many;
  }
    where
      found : (c : ClockedControllerState SignalState) × (slice_get world.run.signals place ≡ Some c)
      found = let many = s.has.whole.signals in at_place world.run.signals place (omega (arith, below, many))

      end : (place < links sited.site) × IsEndOfServer found.0 (these.ends place).server
      end = laws.ends_are_those_of_the_nodes_signal sited.site world.run these s.has.whole s.has.are place found.0 found.1

      opened : is_open found.0.host.link.phase ≡ true
      opened = (settled_open (reading_of found.0.clock) found.0.host.link (ap (λ (l : LinkState). is_open l.phase) (sym end.1.link_is) ∙ s.server.opened)).1

      count : IsCounted (seen place these).client × IsCounted (seen place these).server
      count = laws.items_are_counted (names_at sited.site place) (seen place these) s.ordered connection s.client.at s.server.at

      few : IsFew (seen place these).server
      few = (laws.items_are_counted_few (names_at sited.site place) (seen place these) s.ordered connection s.client.at s.server.at).1

      taken_is : found.0.host.link.taken ≡ length (these.ends place).server.taken
      taken_is = sym (ap (λ (l : LinkState). l.taken) end.1.link_is ∙ settled_taken (reading_of found.0.clock) found.0.host.link) ∙ counted_taken (seen place these).server count.1 s.server.opened

      by_stage : HostCountsByStage 1 found.0.host
      by_stage = ((stand_by_counts sited.site sited.table world.run station s.is.reached).signals place found.0 found.1).stands opened

      same_taken : by_stage.taken ≡ length (these.ends place).server.taken
      same_taken = let e = by_stage.counts.taken_is in let t = taken_is in let f = few.taken in sym (exact by_stage.taken (omega (arith, e, t, f))) ∙ (sym e ∙ t)

      at_stage : (how_far : Stage) → HostHasActedOn how_far (length (these.ends place).server.taken) → 2 ≤ length (these.ends place).server.taken → how_far ≡ Stage.Completed
      at_stage Stage.Outside acted many = absurd (omega (arith, acted, many))
      at_stage Stage.AwaitsCheck acted many = absurd (omega (arith, acted, many))
      at_stage Stage.AwaitsRequest acted many = absurd (omega (arith, acted, many))
      at_stage Stage.Completed acted many = refl
      at_stage Stage.Refused acted many = absurd (omega (arith, acted, many))

  -- ---- one event

  module _ (one : Event) (world : Played) (these : Links) (s : Stands world these) where
    abbrev pub then_world : Played
    then_world = after world one

    abbrev pub then_links : Links
    then_links = run_links (events_tried one world) these

    followed : Followed sited (events_tried one world) these then_world
    followed = tried_followed laws sited station once one world these s.has

    pub stands_then : IsThrough (events_tried one world) these → Stands then_world then_links
    stands_then through = record {
      has = followed.has;
      is = tried_reached laws sited world one s.is;
      ordered = subst (Ordered (names_at sited.site place)) (sym seen_is) ran.1;
      client = subst (IsInOf Role.Client connection) (sym seen_is) (last_in Role.Client (run_on place (events_tried one world) these) (seen place these) through.0);
      server = subst (IsInOf Role.Server connection) (sym seen_is) (last_in Role.Server (run_on place (events_tried one world) these) (seen place these) through.1);
    }
      where
        seen_is : seen place then_links ≡ run (run_on place (events_tried one world) these) (seen place these)
        seen_is = laws.each_link_sees_its_events_run place (events_tried one world) these

        ran : Timely (names_at sited.site place) (run (run_on place (events_tried one world) these) (seen place these)) × Ordered (names_at sited.site place) (run (run_on place (events_tried one world) these) (seen place these))
        ran = run_timely laws (names_at sited.site place) are (run_on place (events_tried one world) these) (seen place these)
            (laws.each_link_sees_its_events_may_run (links sited.site) (names_at sited.site) (events_tried one world) these (are_links laws sited station once) s.has.timely followed.may place there) (s.has.timely.each place there) s.ordered

        last_in : (who : _) (events : List LinkEvent) (ends : Ends) → IsInThrough who connection events ends → IsInOf who connection (run events ends)
        last_in who [] ends is = is
        last_in who (first ∷ others) ends is = last_in who others _ is.1

    -- what it is to the signal's controller
    pub stepped_so : (c : ClockedControllerState SignalState) → IsCalm one → slice_get world.run.signals place ≡ Some c → IsStepped place c then_world.run (events_tried one world)
    stepped_so c calm found = cases (refusal_of one world)
      where
        cases : (why : Option Refused) → IsStepped place c (world_where why world (record world { run = happens world.sited.site world.sited.table one world.run })).run (events_where why (events_of world.sited.site world.sited.table one world.run))
        cases (Some why) = rests found
        cases None = calm_steps world.sited.site world.sited.table place one world.run c calm found

-- ---- a step of the controller

-- A controller whose initialisation is completed makes a step, and its link is open before and after it.
module _ (c : ClockedControllerState SignalState) (taken given : ℕ) (has : HasCounted taken given c.host.link) (is : c.host.stage ≡ Stage.Completed) (opened : is_open (settled (reading_of c.clock) c.host.link).phase ≡ true) where
  abbrev pub now : ℕ
  now = reading_of c.clock

  abbrev pub link : LinkState
  link = settled (reading_of c.clock) c.host.link

  abbrev pub found : HostState SignalState
  found = record c.host { link = settled (reading_of c.clock) c.host.link }

  abbrev IsOpenBehind : Input → Type 0
  IsOpenBehind input = is_open (step_of signal_behaviour input c).host.link.phase ≡ true

  pub step_counts : (input : Input) → is_open (step_of signal_behaviour input c).host.link.phase ≡ true → counted.Counts (reading_of c.clock) input c.host
  step_counts input opened_then = counted.counts now input c.host is opened opened_then

  has_settled : HasCounted taken given (settled (reading_of c.clock) c.host.link)
  has_settled = subst (HasCounted taken given) (sym (settled_open now c.host.link opened).0) (record { taken_is = has.taken_is; given_is = has.given_is; waiting = has.waiting })

  -- a datagram comes
  pub record Heard (bytes : List ℕ) : Type 0 where
    pub hears : counted.Hears (reading_of c.clock) bytes (record c.host { link = settled (reading_of c.clock) c.host.link })
    pub comes_open : is_open (receiving (reading_of c.clock) bytes (settled (reading_of c.clock) c.host.link)).link.phase ≡ true
    pub counts : HasCounted (taken + length (receiving (reading_of c.clock) bytes (settled (reading_of c.clock) c.host.link)).items) given (receiving (reading_of c.clock) bytes (settled (reading_of c.clock) c.host.link)).link
    pub up : ((receiving (reading_of c.clock) bytes (settled (reading_of c.clock) c.host.link)).items ≡ []) ⊎ (is_up (receiving (reading_of c.clock) bytes (settled (reading_of c.clock) c.host.link)).link.phase ≡ true)

  pub heard : (bytes : _) → is_open (step_of signal_behaviour (Input.Datagram bytes) c).host.link.phase ≡ true → Heard bytes.now
  unfolding given_in
  heard bytes opened_then = by_receipt (receipt_counts now bytes.now taken given link came_open (λ e. has_settled))
    where
      h : counted.Hears now bytes.now found
      h = hears now bytes.now found is (step_counts (Input.Datagram bytes) opened_then).heard_open

      came_open : is_open (receiving now bytes.now link).link.phase ≡ true
      came_open = ap (λ (l : LinkState). is_open l.phase) (sym h.link) ∙ (step_counts (Input.Datagram bytes) opened_then).heard_open

      by_receipt : AfterReceipt now bytes.now taken given link → Heard bytes.now
      by_receipt (stays_in was so up_so stays_up) = record { hears = h; comes_open = came_open; counts = so; up = up_so }
      by_receipt (comes_in out none so) = absurd (false≢true (sym out ∙ ap (λ (l : LinkState). is_open l.phase) (settled_twice now c.host.link) ∙ opened))

  -- what a step makes of the counts
  pub record Tallies (input : Input) : Type 0 where
    pub given_is : (step_of signal_behaviour input c).host.link.given + owed (step_of signal_behaviour input c).host.object ≤ c.host.link.given + (owed c.host.object + coming (reading_of c.clock) input (settled (reading_of c.clock) c.host.link))
    pub taken_is : (step_of signal_behaviour input c).host.link.taken ≡ stops_at_greatest (taken + coming (reading_of c.clock) input (settled (reading_of c.clock) c.host.link))

  none_more : (n : ℕ) → n ≡ n + 0
  none_more n = omega arith

  pub tallies : (input : Input) → is_open (step_of signal_behaviour input c).host.link.phase ≡ true → Tallies input
  tallies Input.Tick opened_then = let s = step_counts Input.Tick opened_then in record {
    given_is = let g = s.given_is in let same = settled_given now c.host.link in omega (arith, g, same);
    taken_is = s.taken_is ∙ has_settled.taken_is ∙ ap stops_at_greatest (none_more taken);
  }
  tallies (Input.Sense contact) opened_then = let s = step_counts (Input.Sense contact) opened_then in record {
    given_is = let g = s.given_is in let same = settled_given now c.host.link in omega (arith, g, same);
    taken_is = s.taken_is ∙ has_settled.taken_is ∙ ap stops_at_greatest (none_more taken);
  }
  tallies (Input.Datagram bytes) opened_then = let s = step_counts (Input.Datagram bytes) opened_then in let h = heard bytes opened_then in record {
    given_is = let g = s.given_is in let same = h.counts.given_is in let was = has.given_is in omega (arith, g, same, was);
    taken_is = s.taken_is ∙ h.counts.taken_is;
  }

-- ---- many events

-- From one moment to another a controller has given no more reports than items have come, and the one that it owed.
abbrev pub GivesFew : (old new : ClockedControllerState SignalState) → Type 0
GivesFew old new = new.host.link.given + owed new.host.object + old.host.link.taken ≤ old.host.link.given + owed old.host.object + new.host.link.taken

module _ (laws : LawsBelow) (sited : SitedTable) (station : IsStation sited.site) (once : Once sited.site) (place : ℕ) (below : place < length sited.site.signals) (connection : ℕ) where
  abbrev StandsAt : Played → Links → Type 0
  StandsAt = Stands laws sited station once place below connection

  abbrev ControlsAt : Played → Links → Type 0
  ControlsAt = Controls laws sited station once place below connection

  abbrev ThroughAt : List LinksEvent → Links → Type 0
  ThroughAt = IsThrough laws sited station once place below connection

  -- of one event
  pub one_gives_few : (one : Event) (world : Played) (these : Links) → Stands laws sited station once place below connection world these → (m : Controls laws sited station once place below connection world these)
      → (n : Controls laws sited station once place below connection (after world one) (run_links (events_tried one world) these)) → IsCalm one → is_open (settled (reading_of m.c.clock) m.c.host.link).phase ≡ true
      → 2 ≤ length (these.ends place).server.taken → GivesFew m.c n.c
  unfolding controller_after
  one_gives_few one world these s m n calm opened many = by_step (stepped_so laws sited station once place below connection one world these s m.c calm m.stands_there)
    where
      by_step : IsStepped place m.c (after world one).run (events_tried one world) → GivesFew m.c n.c
      by_step (rests e) = let same = same_Some m.c n.c (sym e ∙ n.stands_there) in subst (GivesFew m.c) same (omega arith)
      by_step (steps input other moment e events) = subst (GivesFew m.c) same by_counts
        where
          same : controller_after (step_of signal_behaviour input m.c) other moment m.c ≡ n.c
          same = same_Some (controller_after (step_of signal_behaviour input m.c) other moment m.c) n.c (sym e ∙ n.stands_there)

          tally : Tallies m.c (length (these.ends place).server.taken) m.given_counts m.counts_so (m.completed many) opened input
          tally = tallies m.c (length (these.ends place).server.taken) m.given_counts m.counts_so (m.completed many) opened input (ap (λ (x : ClockedControllerState SignalState). is_open x.host.link.phase) same ∙ n.opened)

          by_counts : (step_of signal_behaviour input m.c).host.link.given + owed (step_of signal_behaviour input m.c).host.object + m.c.host.link.taken ≤ m.c.host.link.given + owed m.c.host.object + (step_of signal_behaviour input m.c).host.link.taken
          by_counts =
              let g = tally.given_is
              in let t = tally.taken_is
              in let then_taken = ap (λ (x : ClockedControllerState SignalState). x.host.link.taken) same
              in let few = n.taken_few
              in let is = n.taken_is
              in let was = m.taken_is
              in let ex = exact (length (these.ends place).server.taken + coming (reading_of m.c.clock) input (settled (reading_of m.c.clock) m.c.host.link)) (omega (arith, t, then_taken, few, is))
              in omega (arith, g, t, ex, was)

  pub settled_there : (world : Played) (these : Links) → Stands laws sited station once place below connection world these → (m : Controls laws sited station once place below connection world these) → is_open (settled (reading_of m.c.clock) m.c.host.link).phase ≡ true
  settled_there world these s m = ap (λ (l : LinkState). is_open l.phase) (sym m.link_is) ∙ s.server.opened

  -- what is so of the first event, and after it
  pub through_first : (one : Event) (others : List Event) (world : Played) (these : Links) → IsThrough laws sited station once place below connection (all_events_tried (one ∷ others) world) these
      → IsThrough laws sited station once place below connection (events_tried one world) these × IsThrough laws sited station once place below connection (all_events_tried others (after world one)) (run_links (events_tried one world) these)
  through_first one others world these (client, server) = ((client_split.0, server_split.0), (behind Role.Client client_split.1, behind Role.Server server_split.1))
    where
      first : List LinkEvent
      first = run_on place (events_tried one world) these

      rest : List LinkEvent
      rest = run_on place (all_events_tried others (after world one)) (run_links (events_tried one world) these)

      split : (who : Role) → IsInThrough who connection (run_on place (all_events_tried (one ∷ others) world) these) (seen place these)
          → IsInThrough who connection first (seen place these) × IsInThrough who connection rest (run first (seen place these))
      split who is = through_front who connection first rest (seen place these)
          (subst (λ (l : List LinkEvent). IsInThrough who connection l (seen place these)) (on_both place (events_tried one world) (all_events_tried others (after world one)) these) is)

      client_split : IsInThrough Role.Client connection first (seen place these) × IsInThrough Role.Client connection rest (run first (seen place these))
      client_split = split Role.Client client

      server_split : IsInThrough Role.Server connection first (seen place these) × IsInThrough Role.Server connection rest (run first (seen place these))
      server_split = split Role.Server server

      behind : (who : Role) → IsInThrough who connection rest (run first (seen place these)) → IsInThrough who connection rest (seen place (run_links (events_tried one world) these))
      behind who is = subst (IsInThrough who connection rest) (sym (laws.each_link_sees_its_events_run place (events_tried one world) these)) is

  -- the counts of what is taken don't fall
  taken_grows : (world : Played) (these : Links) (one : Event) → Stands laws sited station once place below connection world these → (m : Controls laws sited station once place below connection world these)
      → (n : Controls laws sited station once place below connection (after world one) (run_links (events_tried one world) these)) → IsCalm one → is_open (settled (reading_of m.c.clock) m.c.host.link).phase ≡ true
      → 2 ≤ length (these.ends place).server.taken → m.c.host.link.taken ≤ n.c.host.link.taken
  unfolding controller_after
  taken_grows world these one s m n calm opened many = by_step (stepped_so laws sited station once place below connection one world these s m.c calm m.stands_there)
    where
      by_step : IsStepped place m.c (after world one).run (events_tried one world) → m.c.host.link.taken ≤ n.c.host.link.taken
      by_step (rests e) = let same = ap (λ (x : ClockedControllerState SignalState). x.host.link.taken) (same_Some m.c n.c (sym e ∙ n.stands_there)) in omega (arith, same)
      by_step (steps input other moment e events) = by_counts
        where
          same : controller_after (step_of signal_behaviour input m.c) other moment m.c ≡ n.c
          same = same_Some (controller_after (step_of signal_behaviour input m.c) other moment m.c) n.c (sym e ∙ n.stands_there)

          tally : Tallies m.c (length (these.ends place).server.taken) m.given_counts m.counts_so (m.completed many) opened input
          tally = tallies m.c (length (these.ends place).server.taken) m.given_counts m.counts_so (m.completed many) opened input (ap (λ (x : ClockedControllerState SignalState). is_open x.host.link.phase) same ∙ n.opened)

          by_counts : m.c.host.link.taken ≤ n.c.host.link.taken
          by_counts =
              let t = tally.taken_is
              in let then_taken = ap (λ (x : ClockedControllerState SignalState). x.host.link.taken) same
              in let few = n.taken_few
              in let is = n.taken_is
              in let was = m.taken_is
              in let ex = exact (length (these.ends place).server.taken + coming (reading_of m.c.clock) input (settled (reading_of m.c.clock) m.c.host.link)) (omega (arith, t, then_taken, few, is))
              in omega (arith, t, ex, was, then_taken)

  -- where some events lead
  pub record Leads (events : List Event) (world : Played) (these : Links) (old : ClockedControllerState SignalState) : Type 0 where
    pub stands_so : Stands laws sited station once place below connection (after_each events world) (run_links (all_events_tried events world) these)
    pub controls_so : Controls laws sited station once place below connection (after_each events world) (run_links (all_events_tried events world) these)
    pub gives_few : GivesFew old controls_so.c
    pub grows : old.host.link.taken ≤ controls_so.c.host.link.taken

  pub leads : (events : List Event) (world : Played) (these : Links) (s : Stands laws sited station once place below connection world these) (m : Controls laws sited station once place below connection world these) → Each IsCalm events
      → IsThrough laws sited station once place below connection (all_events_tried events world) these → 2 ≤ length (these.ends place).server.taken → Leads events world these m.c
  leads [] world these s m calm through many = record { stands_so = s; controls_so = m; gives_few = omega arith; grows = omega arith }
  leads (one ∷ others) world these s m calm through many = on_then (leads others (after world one) (run_links (events_tried one world) these) next_stands next calm.1 halves.1
      (let g = grown in let a = m.taken_is in let b = next.taken_is in omega (arith, g, a, b, many)))
    where
      halves : IsThrough laws sited station once place below connection (events_tried one world) these × IsThrough laws sited station once place below connection (all_events_tried others (after world one)) (run_links (events_tried one world) these)
      halves = through_first one others world these through

      next_stands : Stands laws sited station once place below connection (after world one) (run_links (events_tried one world) these)
      next_stands = stands_then laws sited station once place below connection one world these s halves.0

      next : Controls laws sited station once place below connection (after world one) (run_links (events_tried one world) these)
      next = controls laws sited station once place below connection (after world one) (run_links (events_tried one world) these) next_stands

      grown : m.c.host.link.taken ≤ next.c.host.link.taken
      grown = taken_grows world these one s m next calm.0 (settled_there world these s m) many

      first_few : GivesFew m.c next.c
      first_few = one_gives_few one world these s m next calm.0 (settled_there world these s m) many

      same_links : run_links (all_events_tried (one ∷ others) world) these ≡ run_links (all_events_tried others (after world one)) (run_links (events_tried one world) these)
      same_links = links_both (events_tried one world) (all_events_tried others (after world one)) these

      on_then : Leads others (after world one) (run_links (events_tried one world) these) next.c → Leads (one ∷ others) world these m.c
      on_then l = record {
        stands_so = subst (Stands laws sited station once place below connection (after_each others (after world one))) (sym same_links) l.stands_so;
        controls_so = last;
        gives_few = let f = first_few in let r = l.gives_few in let e = same_c in let g = ap (λ (x : ClockedControllerState SignalState). x.host.link.given) e in let o = ap (λ (x : ClockedControllerState SignalState). owed x.host.object) e in
            let t = ap (λ (x : ClockedControllerState SignalState). x.host.link.taken) e in omega (arith, f, r, g, o, t);
        grows = let f = grown in let r = l.grows in let t = ap (λ (x : ClockedControllerState SignalState). x.host.link.taken) same_c in omega (arith, f, r, t);
      }
        where
          last : Controls laws sited station once place below connection (after_each others (after world one)) (run_links (all_events_tried (one ∷ others) world) these)
          last = subst (Controls laws sited station once place below connection (after_each others (after world one))) (sym same_links) l.controls_so

          same_c : last.c ≡ l.controls_so.c
          same_c = same_Some last.c l.controls_so.c (sym last.stands_there ∙ l.controls_so.stands_there)

  -- ---- the event in which a number of items is taken

  pub record FoundAt (number : ℕ) (events : List Event) (world : Played) (these : Links) : Type 0 where
    pub front : List Event
    pub one : Event
    pub rest : List Event
    pub are : events ≡ front ++ one ∷ rest
    pub fewer : ((run_links (all_events_tried front world) these).ends place).server.link.taken < number
    pub enough : number ≤ ((run_links (all_events_tried (front ++ one ∷ []) world) these).ends place).server.link.taken

  pub finds : (number : ℕ) (events : List Event) (world : Played) (these : Links) → (these.ends place).server.link.taken < number → number ≤ ((run_links (all_events_tried events world) these).ends place).server.link.taken → FoundAt number events world these
  finds number [] world these fewer enough = absurd (omega (arith, fewer, enough))
  finds number (one ∷ others) world these fewer enough = choose (nat_le number ((run_links (events_tried one world) these).ends place).server.link.taken) refl
      (λ still. finds number others (after world one) (run_links (events_tried one world) these) still (subst (λ (l : Links). number ≤ (l.ends place).server.link.taken) (links_both (events_tried one world) (all_events_tried others (after world one)) these) enough))
    where
      Rest : Type 0
      Rest = ((run_links (events_tried one world) these).ends place).server.link.taken < number → FoundAt number others (after world one) (run_links (events_tried one world) these)

      on_then : FoundAt number others (after world one) (run_links (events_tried one world) these) → FoundAt number (one ∷ others) world these
      on_then f = record {
        front = one ∷ f.front;
        one = f.one;
        rest = f.rest;
        are = ap (λ (l : List Event). one ∷ l) f.are;
        fewer = subst (λ (l : Links). (l.ends place).server.link.taken < number) (sym (links_both (events_tried one world) (all_events_tried f.front (after world one)) these)) f.fewer;
        enough = subst (λ (l : Links). number ≤ (l.ends place).server.link.taken) (sym (links_both (events_tried one world) (all_events_tried (f.front ++ f.one ∷ []) (after world one)) these)) f.enough;
      }

      choose : (b : Bool) → nat_le number ((run_links (events_tried one world) these).ends place).server.link.taken ≡ b → Rest → FoundAt number (one ∷ others) world these
      choose true e rest = record { front = []; one = one; rest = others; are = refl; fewer = fewer; enough = subst (λ (l : List LinksEvent). number ≤ ((run_links l these).ends place).server.link.taken) (sym (append-nil (events_tried one world))) (leb-true _ _ e) }
      choose false e rest = on_then (rest (leb-false _ _ e))
