-- What a good round brings to a point whose controller has answered all moves: each report that it gives tells the side of its move.
use Rattle.simulator_recovery.proofs.Words.Basics.{◌≡◌, ◌⊎◌, inl, inr, ℕ, zero, suc, ◌∙◌, ◌+◌, ◌-◌, ◌<◌, nat_le, Bool, true, false, List, [], ◌∷◌, ◌++◌, append-nil, append_assoc, length, map, Option, Some, None, slice_get, refl, sym, ap, subst, arith, false≢true, same_Some}
use Rattle.simulator_recovery.proofs.Words.Links.{settled, Each, end_later, kept, reading_of, Links, run_links, seen, Ends, LinkState, is_open}
use Rattle.simulator_recovery.proofs.Words.Controllers.{moves_in, called_all, entering, stepped, step_of as world_step, Message, PointPosition, Side, Telegram, HostSoFar, HostState, is_completed, IsNamedAs, ActsOn, commands_of, items_given, items_taken, host_step, contacts_of, item_of, Input as HostInput, Report, point_behaviour, PointState, commanded_by, drive_end, own_report, one_more, Progress}
use Rattle.simulator_recovery.proofs.Words.Interlockings.{SitedTable}
use Rattle.simulator_recovery.proofs.Words.Stations.{Once, IsStation, Event, NodeId, Refused, FoundDriven, controller_after, step_of, Flowing, deliveries, position_of, reach, reaches, round, round_of_time, ticks, nodes, point_link, ClockedControllerState, Played, after, arrival_in, refusal_of, events_of}
use Rattle.simulator_recovery.proofs.Words.Recovery.{all_events_tried, behind_time, event_of, events_tried, events_where, links_behind, time_of_round, IsWork, all_tried, item_for, LawsBelow, LawsOfHost}
use Rattle.simulator_recovery.proofs.Lemmas.Points.BeginsStep.{Answers, Stands, answers, has_none, report_of, stage_behind}
use Rattle.simulator_recovery.proofs.Lemmas.Rounds.Clocks.{IsCalm}
use Rattle.simulator_recovery.proofs.Lemmas.Talk.ControllerSaid.{same_step, world}
use Rattle.simulator_recovery.proofs.Lemmas.Ground.ControllersOnLinks.{lists_at}
use Rattle.simulator_recovery.proofs.Lemmas.Ground.LinkCounts.{settled_open}
use Rattle.simulator_recovery.proofs.Lemmas.Rounds.LinkRounds.{HasThese, after_each, round_tried}
use Rattle.simulator_recovery.proofs.Lemmas.Ground.EndCalls.{each_both, map_both}
use Rattle.simulator_recovery.proofs.Lemmas.Points.MovesEvent.{IsInputOf, PointEvent, stays, steps}
use Rattle.simulator_recovery.proofs.Lemmas.Points.MovesOwed.{commands_both}
use Rattle.simulator_recovery.proofs.Lemmas.Points.MovesReported.{Is as IsOf, IsPlain, IsQuiet, LateNow, On as OnOf, SameNow, by_links, deliveries_plain, end_is, enters_none, given_then, gone_then, happened_so, is_then, joined, new, next_of, plain_calm, plain_input, reach_quiet, reaches_quiet, same_lists, ticks_plain, timed_has, timed_host, work_quiet}
use Rattle.simulator_recovery.proofs.Lemmas.Talk.Standing.{points_tell}

-- ---- what telegrams command

pub moves_both : (one other : List Telegram) → moves_in (one ++ other) ≡ moves_in one ++ moves_in other
unfolding moves_in
moves_both [] other = refl
moves_both (first ∷ one) other = choose (commanded_by first.message) (moves_both one other)
  where
    choose : (o : Option Side) → moves_in (one ++ other) ≡ moves_in one ++ moves_in other → one_more o (moves_in (one ++ other)) ≡ one_more o (moves_in one) ++ moves_in other
    choose None same = same
    choose (Some side) same = ap (λ (rest : List Side). side ∷ rest) same

-- ---- what a step takes, where the link is open before it

module _ (laws : LawsOfHost point_behaviour) (input : HostInput) (connection : ℕ) (c : ClockedControllerState PointState) (ends : Ends)
    (link_is : ends.server.link ≡ settled (reading_of c.clock) c.host.link) (clock_is : ends.server.clock ≡ c.clock) where
  taken_then : is_open ends.server.link.phase ≡ true → (called_all connection (step_of point_behaviour input c).calls ends).server.taken ≡ ends.server.taken ++ items_taken (reading_of c.clock)
      (step_of point_behaviour input c).calls (settled (reading_of c.clock) c.host.link)
  unfolding stepped
  taken_then opened = ap (λ (s : HostSoFar PointState). (called_all connection s.calls ends).server.taken) (sym done_is)
      ∙ laws.taken input connection (world point_behaviour points_tell 1 laws input connection 0 c ends link_is clock_is)
      ∙ ap (λ (n : ℕ). kept (entering input connection ends) ends.server.taken ++ items_taken n
      (world_step point_behaviour input (world point_behaviour points_tell 1 laws input connection 0 c ends link_is clock_is)).calls ends.server.link) (ap reading_of clock_is)
      ∙ ap (λ (l : LinkState). kept (entering input connection ends) ends.server.taken ++ items_taken (reading_of c.clock)
      (world_step point_behaviour input (world point_behaviour points_tell 1 laws input connection 0 c ends link_is clock_is)).calls l) link_is
      ∙ ap (λ (s : HostSoFar PointState). kept (entering input connection ends) ends.server.taken ++ items_taken (reading_of c.clock) s.calls (settled (reading_of c.clock) c.host.link)) done_is
      ∙ ap (λ (o : Option ℕ). kept o ends.server.taken ++ items_taken (reading_of c.clock) (step_of point_behaviour input c).calls (settled (reading_of c.clock) c.host.link))
      (enters_none laws input connection c ends link_is clock_is input opened)
    where
      done_is : world_step point_behaviour input (world point_behaviour points_tell 1 laws input connection 0 c ends link_is clock_is) ≡ step_of point_behaviour input c
      done_is = same_step point_behaviour points_tell 1 laws input connection 0 c ends link_is clock_is

-- the step of a host keeps its name, and so its reports
same_items : (old new : HostState PointState) → IsNamedAs old new → item_of old ≡ item_of new
same_items old new named = ap (λ (n : List ℕ). item_for n old.peer_name) (sym named.own_name) ∙ ap (item_for new.own_name) (sym named.peer_name)

-- ---- the links

abbrev pub ActLaw : Type 0
ActLaw = (now : ℕ) (input : HostInput) (host : HostState PointState)
    → ActsOn (items_taken now (host_step point_behaviour now input host).calls (settled now host.link)) (host_step point_behaviour now input host)

module _ (laws : LawsBelow) (acts : ActLaw) (sited : SitedTable) (station : IsStation sited.site) (once : Once sited.site) (place : ℕ) (few : place < length sited.site.points) (now : ℕ)
    (fresh : nat_le (drive_end now) now ≡ false)
    (connection : ℕ) (before : List (List ℕ)) (first : List Side) where
  abbrev link : ℕ
  link = point_link sited.site place

  abbrev Is : Played → Links → ClockedControllerState PointState → Type 0
  Is = IsOf laws sited station once place few Side.Left now now fresh connection before

  abbrev On : (ClockedControllerState PointState → Links → Type 0) → Played → Links → Type 0
  On = OnOf laws sited station once place few Side.Left now now fresh connection before

  abbrev Same : Links → Type 0
  Same = SameNow laws sited station once place few Side.Left now now fresh connection before

  abbrev Late : Links → Type 0
  Late = LateNow laws sited station once place few Side.Left now now fresh connection before

  abbrev gave : Links → List (List ℕ)
  gave network = (network.ends link).server.given

  abbrev took_in : Links → List Side
  took_in network = moves_in (commands_of (network.ends link).server.taken)

  abbrev is_in : Links → Type 0
  is_in network = is_open (network.ends link).server.link.phase ≡ true

  -- The controller has reported so many moves, each with its side, and these wait; or one of the ends has left the connection.
  data Now (c : ClockedControllerState PointState) (network : Links) : Type 0 where
    goes : (paid rest : List Side) → Same network → is_in network → is_completed c.host.stage ≡ true → gave network ≡ before ++ map (report_of c.host) paid
        → took_in network ≡ first ++ (paid ++ rest) → Stands now rest c.host → Now c network
    gone : Late network ⊎ (Same network × (is_open (network.ends link).server.link.phase ≡ false)) → Now c network

  -- ---- an event that is tried

  module _ (played : Played) (network : Links) (one : Event) (calm : IsCalm one) (c : ClockedControllerState PointState) (is : Is played network c) where
    abbrev then_played : Played
    then_played = after played one

    abbrev then_network : Links
    then_network = run_links (events_tried one played) network

    abbrev next : (x : ClockedControllerState PointState) × (slice_get then_played.run.points place ≡ Some x)
    next = new laws sited station once place few Side.Left now now fresh connection before played network one calm c is

    next_is : Is then_played then_network next.0
    next_is = is_then laws sited station once place few Side.Left now now fresh connection before played network one calm c is

    event : PointEvent link place one c next.0 network then_network
    event = happened_so laws sited station once place few Side.Left now now fresh connection before played network one calm c is

    gone_on : Late network ⊎ (Same network × (is_open (network.ends link).server.link.phase ≡ false)) → Now next.0 then_network
    gone_on left = gone (gone_then laws sited station once place few Side.Left now now fresh connection before played network one calm c is left)

    -- its link stays in the connection, or is gone
    by_link : Same network → (Same then_network → is_in then_network → Now next.0 then_network) → Now next.0 then_network
    by_link same on = by_links laws sited station once place few Side.Left now now fresh connection before played network one calm c is same gone on

    stays_on : next.0 ≡ c → lists_at then_network link ≡ lists_at network link → Now c network → Now next.0 then_network
    stays_on e f (gone left) = gone_on left
    stays_on e f (goes paid rest same opened completed given taken stands) = by_link same (λ still opened_then. goes paid rest still opened_then
        (ap (λ (x : ClockedControllerState PointState). is_completed x.host.stage) e ∙ completed)
        (ap (λ lists. lists.given) f ∙ given ∙ ap (λ (x : ClockedControllerState PointState). before ++ map (report_of x.host) paid) (sym e))
        (ap (λ lists. moves_in (commands_of lists.taken)) f ∙ taken)
        (subst (λ (x : ClockedControllerState PointState). Stands now rest x.host) (sym e) stands))

    -- a step of the controller
    module _ (paid rest : List Side) (same : Same network) (opened : is_in network) (completed : is_completed c.host.stage ≡ true) (given : gave network ≡ before ++ map (report_of c.host) paid)
        (taken : took_in network ≡ first ++ (paid ++ rest)) (stands : Stands now rest c.host) (input : HostInput) (at moment : ℕ) (plain : IsPlain one) (of : IsInputOf place one input)
        (e : next.0 ≡ controller_after (step_of point_behaviour input c) at moment c) (f : seen link then_network ≡ called_all at (step_of point_behaviour input c).calls (seen link network)) where
      abbrev reading : ℕ
      reading = reading_of c.clock

      abbrev part : HostSoFar PointState
      part = step_of point_behaviour input c

      ends_so : ((network.ends link).server.link ≡ settled reading c.host.link) × ((network.ends link).server.clock ≡ c.clock)
      ends_so = end_is laws sited station once place few Side.Left now now fresh connection before played network c is

      host_is : next.0.host ≡ part.host
      unfolding controller_after
      host_is = ap (λ (x : ClockedControllerState PointState). x.host) e

      was_open : is_open (settled reading c.host.link).phase ≡ true
      was_open = ap (λ (l : LinkState). is_open l.phase) (sym ends_so.0) ∙ opened

      given_so : gave then_network ≡ (before ++ map (report_of c.host) paid) ++ items_given reading part.calls (settled reading c.host.link)
      given_so = ap (λ (s : Ends). s.server.given) f ∙ given_then laws.points input at c (seen link network) ends_so.0 ends_so.1 opened
          ∙ ap (λ (list : List (List ℕ)). list ++ items_given reading part.calls (settled reading c.host.link)) given

      abbrev items : List (List ℕ)
      items = items_taken reading part.calls (settled reading c.host.link)

      taken_so : took_in then_network ≡ (first ++ (paid ++ rest)) ++ moves_in (commands_of items)
      taken_so = ap (λ (s : Ends). moves_in (commands_of s.server.taken)) f
          ∙ ap (λ (list : List (List ℕ)). moves_in (commands_of list)) (taken_then laws.points input at c (seen link network) ends_so.0 ends_so.1 opened)
          ∙ ap moves_in (commands_both (network.ends link).server.taken items) ∙ moves_both (commands_of (network.ends link).server.taken) (commands_of items)
          ∙ ap (λ (list : List Side). list ++ moves_in (commands_of items)) taken

      names : item_of c.host ≡ item_of part.host
      names = same_items c.host part.host (laws.points.names reading input c.host)

      fresh_here : nat_le (drive_end reading) reading ≡ false
      fresh_here = subst (λ (n : ℕ). nat_le (drive_end n) n ≡ false) (sym is.clock) fresh

      stands_here : Stands reading rest c.host
      stands_here = subst (λ (n : ℕ). Stands n rest c.host) (sym is.clock) stands

      goes_then : Same then_network → is_in then_network → Now next.0 then_network
      goes_then still opened_then = goes (paid ++ a.paid) a.rest still opened_then
          (ap (λ (h : HostState PointState). is_completed h.stage) host_is ∙ stage_behind laws.point_makes_a_step reading input c.host was_open completed none fresh_here part_open)
          all_given
          all_taken
          (subst (λ (h : HostState PointState). Stands now a.rest h) (sym host_is) (subst (λ (n : ℕ). Stands n a.rest part.host) is.clock a.stands))
        where
          none : contacts_of input ≡ []
          none = plain_input place one input plain of

          part_open : is_open part.host.link.phase ≡ true
          part_open = ap (λ (h : HostState PointState). is_open h.link.phase) (sym host_is)
              ∙ (settled_open (reading_of next.0.clock) next.0.host.link
              (ap (λ (l : LinkState). is_open l.phase) (sym (end_is laws sited station once place few Side.Left now now fresh connection before then_played then_network next.0 next_is).0)
              ∙ opened_then)).1

          a : Answers laws.point_makes_a_step reading input c.host was_open completed none fresh_here part_open rest
          a = answers laws.point_makes_a_step reading input c.host was_open completed none fresh_here part_open rest stands_here

          told_so : moves_in (commands_of items) ≡ a.took
          told_so =
              let on = acts reading input c.host
              in ap moves_in (ap commands_of (on.beginning ∙ ap (λ (dropped : List (List ℕ)). part.acted ++ dropped) (on.whole part_open) ∙ append-nil part.acted) ∙ sym on.told) ∙ a.told

          all_taken : took_in then_network ≡ first ++ ((paid ++ a.paid) ++ a.rest)
          all_taken = taken_so ∙ ap (λ (list : List Side). (first ++ (paid ++ rest)) ++ list) told_so ∙ append_assoc first (paid ++ rest) a.took
              ∙ ap (λ (list : List Side). first ++ list) (append_assoc paid rest a.took ∙ ap (λ (list : List Side). paid ++ list) a.sum ∙ sym (append_assoc paid a.paid a.rest))

          all_given : gave then_network ≡ before ++ map (report_of next.0.host) (paid ++ a.paid)
          all_given = given_so ∙ ap (λ (list : List (List ℕ)). (before ++ map (report_of c.host) paid) ++ list) a.gives
              ∙ ap (λ (item : Report → List ℕ). (before ++ map (λ (side : Side). item (own_report (Message.Point (PointPosition (position_of side))))) paid) ++ map
              (report_of part.host) a.paid) names
              ∙ append_assoc before (map (report_of part.host) paid) (map (report_of part.host) a.paid)
              ∙ ap (λ (list : List (List ℕ)). before ++ list) (sym (map_both (report_of part.host) paid a.paid))
              ∙ ap (λ (h : HostState PointState). before ++ map (report_of h) (paid ++ a.paid)) (sym host_is)

    -- an event in which no contact of the point tells
    plain_on : IsPlain one → Now c network → Now next.0 then_network
    plain_on plain (gone left) = gone_on left
    plain_on plain (goes paid rest same opened completed given taken stands) = choose event
      where
        choose : PointEvent link place one c next.0 network then_network → Now next.0 then_network
        choose (stays e f) = stays_on e f (goes paid rest same opened completed given taken stands)
        choose (steps input at moment of e f) = by_link same (goes_then paid rest same opened completed given taken stands input at moment plain of e f)

    -- one that isn't for this controller
    quiet_on : IsQuiet laws sited station once place few Side.Left now now fresh connection before one → Now c network → Now next.0 then_network
    quiet_on quiet state = choose event
      where
        choose : PointEvent link place one c next.0 network then_network → Now next.0 then_network
        choose (stays e f) = stays_on e f state
        choose (steps input at moment of e f) = absurd (quiet.1 input of)

  -- ---- the events of a round

  plain_walk : (list : List Event) → Each IsPlain list → (played : Played) (network : Links) → On Now played network
      → On Now (after_each list played) (run_links (all_events_tried list played) network)
  plain_walk [] plain played network on = on
  plain_walk (one ∷ others) plain played network on =
      let calm = plain_calm one plain.0
      in next_of laws sited station once place few Side.Left now now fresh connection before Now one others played network
      (plain_walk others plain.1 (after played one) (run_links (events_tried one played) network)
      (record { c = (next played network one calm on.c on.is).0; is = next_is played network one calm on.c on.is; state = plain_on played network one calm on.c on.is plain.0 on.state }))

  abbrev Quiet : Event → Type 0
  Quiet = IsQuiet laws sited station once place few Side.Left now now fresh connection before

  quiet_walk : (list : List Event) → Each Quiet list → (played : Played) (network : Links) → On Now played network
      → On Now (after_each list played) (run_links (all_events_tried list played) network)
  quiet_walk [] quiet played network on = on
  quiet_walk (one ∷ others) quiet played network on =
      next_of laws sited station once place few Side.Left now now fresh connection before Now one others played network
      (quiet_walk others quiet.1 (after played one) (run_links (events_tried one played) network)
      (record {
        c = (next played network one quiet.0.0 on.c on.is).0;
        is = next_is played network one quiet.0.0 on.c on.is;
        state = quiet_on played network one quiet.0.0 on.c on.is quiet.0 on.state;
      }))

  joined_walk : (front rest : List Event) (played : Played) (network : Links)
      → On Now (after_each rest (after_each front played)) (run_links (all_events_tried rest (after_each front played)) (run_links (all_events_tried front played) network))
      → On Now (after_each (front ++ rest) played) (run_links (all_events_tried (front ++ rest) played) network)
  joined_walk front rest played network on = joined laws sited station once place few Side.Left now now fresh connection before Now front rest played network on

  -- a point that wasn't found driven doesn't come to lie
  reaches_elsewhere : (passed at more : ℕ) (drives : List (Option FoundDriven)) → at + more ≡ place → slice_get drives more ≡ Some None → Each Quiet (map event_of (reaches passed at drives))
  unfolding reaches
  reaches_elsewhere passed at more [] here undriven = tt
  reaches_elsewhere passed at zero (drive ∷ drives) here undriven = subst (λ (d : Option FoundDriven). Each Quiet (map event_of (reach passed at d ++ reaches passed (suc at) drives)))
      (sym (same_Some drive None undriven))
      (reaches_quiet laws sited station once place few Side.Left now now fresh connection before passed (suc at) drives (omega (arith, here)))
  reaches_elsewhere passed at (suc more) (drive ∷ drives) here undriven = subst (Each Quiet) (sym (map_both event_of (reach passed at drive) (reaches passed (suc at) drives)))
      (each_both Quiet (map event_of (reach passed at drive)) (map event_of (reaches passed (suc at) drives))
      (reach_quiet laws sited station once place few Side.Left now now fresh connection before passed at drive (λ same. omega (arith, here, same)))
      (reaches_elsewhere passed (suc at) more drives (omega (arith, here)) undriven))

  -- after the time of a round
  behind_walk : (between : List Event) (flowing : Flowing) → Each IsWork between → slice_get flowing.drives place ≡ Some None → (played : Played) (network : Links) → On Now played network
      → On Now (after_each (map event_of (behind_time flowing) ++ between) played) (run_links (all_events_tried (map event_of (behind_time flowing) ++ between) played) network)
  behind_walk between flowing work undriven played network on =
      joined_walk (map event_of (behind_time flowing)) between played network
      (quiet_walk between (work_quiet laws sited station once place few Side.Left now now fresh connection before between work) (after_each (map event_of (behind_time flowing)) played)
      (run_links (all_events_tried (map event_of (behind_time flowing)) played) network)
      (subst (λ (list : List Event). On Now (after_each list played) (run_links (all_events_tried list played) network)) (sym parts)
      (joined_walk come (ticked ++ reached) played network
      (joined_walk ticked reached (after_each come played) (run_links (all_events_tried come played) network)
      (quiet_walk reached (reaches_elsewhere sent 0 place flowing.drives (omega arith) undriven) (after_each ticked (after_each come played))
      (run_links (all_events_tried ticked (after_each come played)) (run_links (all_events_tried come played) network))
      (plain_walk ticked (ticks_plain laws sited station once place few Side.Left now now fresh connection before sent 0 count) (after_each come played)
      (run_links (all_events_tried come played) network)
      (plain_walk come (deliveries_plain laws sited station once place few Side.Left now now fresh connection before arriving_at flowing.passed (sent - flowing.passed)) played network on)))))))
    where
      sent : ℕ
      sent = length flowing.state.run.sent

      count : ℕ
      count = nodes flowing.state.sited.site

      arriving_at : ℕ → Option (NodeId × List ℕ)
      arriving_at = arrival_in flowing.state

      come : List Event
      come = map event_of (deliveries arriving_at flowing.passed (sent - flowing.passed))

      ticked : List Event
      ticked = map event_of (ticks sent 0 count)

      reached : List Event
      reached = map event_of (reaches sent 0 flowing.drives)

      parts : map event_of (behind_time flowing) ≡ come ++ (ticked ++ reached)
      parts = map_both event_of (deliveries arriving_at flowing.passed (sent - flowing.passed)) (ticks sent 0 count ++ reaches sent 0 flowing.drives)
          ∙ ap (λ (rest : List Event). come ++ rest) (map_both event_of (ticks sent 0 count) (reaches sent 0 flowing.drives))

  -- ---- a round

  -- A controller after a round, with its links.
  pub record Reported (played : Played) (network : Links) : Type 0 where
    pub has : HasThese sited played network
    pub c : ClockedControllerState PointState
    pub there : slice_get played.run.points place ≡ Some c
    pub clock : reading_of c.clock ≡ now
    pub inside : (network.ends link).server.connection ≡ Some connection
    pub paid : List Side
    pub rest : List Side
    pub given : gave network ≡ before ++ map (report_of c.host) paid
    pub taken : took_in network ≡ first ++ (paid ++ rest)
    pub stands : Stands now rest c.host

  module _ (flowing : Flowing) (network : Links) (has : HasThese sited flowing.state network) (c : ClockedControllerState PointState)
      (there : slice_get flowing.state.run.points place ≡ Some c) where
    abbrev timed : Played
    timed = after flowing.state (round_of_time flowing.state.sited.site)

    abbrev timed_network : Links
    timed_network = run_links (time_of_round flowing) network

    same_taken : (timed_network.ends link).server.taken ≡ (network.ends link).server.taken
    unfolding events_of end_later
    same_taken = choose (refusal_of (round_of_time flowing.state.sited.site) flowing.state)
      where
        choose : (why : Option Refused)
            → ((run_links (events_where why
            (events_of flowing.state.sited.site flowing.state.sited.table (round_of_time flowing.state.sited.site) flowing.state.run)) network).ends link).server.taken ≡
            (network.ends link).server.taken
        choose (Some why) = refl
        choose None = refl

    same_ends : (((timed_network.ends link).client.connection ≡ (network.ends link).client.connection) × ((timed_network.ends link).server.connection ≡ (network.ends link).server.connection))
        × (gave timed_network ≡ gave network)
    same_ends = same_lists laws sited station once place few Side.Left now now fresh connection before flowing network has c there

    starts : (one : ClockedControllerState PointState) → slice_get timed.run.points place ≡ Some one → reading_of one.clock ≡ now → Same network → is_completed c.host.stage ≡ true
        → c.host.object.progress ≡ Progress.Answered → gave network ≡ before → took_in network ≡ first
        → On Now timed timed_network
    starts one e clock same completed idle given taken = record {
      c = one;
      is = record { has = timed_has laws sited station once place few Side.Left now now fresh connection before flowing network has c there; there = e; clock = clock };
      state = by_open (is_open (timed_network.ends link).server.link.phase) refl;
    }
      where
        still : Same timed_network
        still = record { client = same_ends.0.0 ∙ same.client; server = same_ends.0.1 ∙ same.server }

        host : one.host ≡ c.host
        host = timed_host flowing place c one there e

        by_open : (b : Bool) → is_open (timed_network.ends link).server.link.phase ≡ b → Now one timed_network
        by_open true f = goes [] [] still f (ap (λ (h : HostState PointState). is_completed h.stage) host ∙ completed) (same_ends.1 ∙ given ∙ sym (append-nil before))
            (ap (λ (list : List (List ℕ)). moves_in (commands_of list)) same_taken ∙ taken ∙ sym (append-nil first)) (has_none (ap (λ (h : HostState PointState). h.object.progress) host
            ∙ idle) refl)
        by_open false f = gone (inr (still, f))

    -- Where both ends are in the connection after the round, each report that was given tells the side of its move.
    pub round_reports : (between : List Event) → Each IsWork between → slice_get flowing.drives place ≡ Some None → (one : ClockedControllerState PointState)
        → slice_get timed.run.points place ≡ Some one → reading_of one.clock ≡ now → Same network
        → is_completed c.host.stage ≡ true → c.host.object.progress ≡ Progress.Answered → gave network ≡ before → took_in network ≡ first
        → (HasThese sited (all_tried between (round flowing)).state (links_behind between flowing network)
        → ((links_behind between flowing network).ends link).client.connection ≡ Some connection × is_in (links_behind between flowing network))
        → Reported (all_tried between (round flowing)).state (links_behind between flowing network)
    round_reports between work undriven one e clock same completed idle given taken stays_in = by_state walked.state
      where
        then_network : Links
        then_network = links_behind between flowing network

        walked : On Now (all_tried between (round flowing)).state then_network
        walked = subst (λ (w : Played). On Now w then_network) (sym (round_tried between flowing))
            (behind_walk between flowing work undriven timed timed_network (starts one e clock same completed idle given taken))

        not_late : Late then_network → ⊥
        not_late late = let began = same_Some late.began connection (sym late.client ∙ (stays_in walked.is.has).0) in let more = late.later in omega (arith, began, more)

        by_state : Now walked.c then_network → Reported (all_tried between (round flowing)).state then_network
        by_state (goes paid rest still opened done given_now taken_now stands) = record {
          has = walked.is.has;
          c = walked.c;
          there = walked.is.there;
          clock = walked.is.clock;
          inside = still.server;
          paid = paid;
          rest = rest;
          given = given_now;
          taken = taken_now;
          stands = stands;
        }
        by_state (gone (inl late)) = absurd (not_late late)
        by_state (gone (inr (still, shut))) = absurd (false≢true (sym shut ∙ (stays_in walked.is.has).1))
