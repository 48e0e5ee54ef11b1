-- A point that is driven through a good round drives on, or lies at its side after it and has reported so.
use Rattle.simulator_recovery.proofs.Words.Basics.{◌≡◌, ◌≢◌, ◌⊎◌, inl, inr, ℕ, zero, suc, ◌∙◌, ◌+◌, ◌-◌, ◌≤◌, ◌<◌, nat_le, nat_lt, Bool, true, false, if◌then◌else◌, List, [], ◌∷◌, ◌++◌, append-nil, length, map, replicate, Option, Some, None, slice_get, refl, sym, ap, subst, arith, drop, false≢true, none-some, same_Some}
use Rattle.simulator_recovery.proofs.Words.Links.{settled, Each, EndState, end_later, kept, outcome, reading_of, MayRun, run, Links, LinksEvent, run_links, run_on, seen, Names, Ends, LinkState, is_open}
use Rattle.simulator_recovery.proofs.Words.Controllers.{called_all, entering, stepped, step_of as world_step, Message, PointPosition, Position, Side, HostSoFar, HostState, is_completed, items_given, contacts_of, item_of, Input as HostInput, Report, Sense, point_behaviour, PointState, drive_end, is_at, own_report, Progress}
use Rattle.simulator_recovery.proofs.Words.Interlockings.{SitedTable}
use Rattle.simulator_recovery.proofs.Words.Stations.{Once, IsStation, Event, NodeId, Refused, FoundDriven, controller_after, controller_later, step_of, Flowing, deliveries, delivery, position_of, reach, reaches, round, round_of_time, ticks, all_later, happens, passed, ServerEnd, end_of_server, names_at, links, nodes, partners, point_link, ClockedControllerState, Played, after, arrival_in, refusal_of, world_where, events_of}
use Rattle.simulator_recovery.proofs.Words.Recovery.{all_events_tried, behind_time, event_of, events_tried, events_where, links_behind, time_of_round, IsWork, all_tried, LawsBelow, LawsOfHost}
use Rattle.simulator_recovery.proofs.Lemmas.Ground.ClientItem.{partners_length}
use Rattle.simulator_recovery.proofs.Lemmas.Ground.AtLink.{mapped, of_second}
use Rattle.simulator_recovery.proofs.Lemmas.Rounds.Clocks.{IsCalm}
use Rattle.simulator_recovery.proofs.Lemmas.Talk.ControllerSaid.{same_step, world}
use Rattle.simulator_recovery.proofs.Lemmas.Ground.ControllersOnLinks.{lists_at}
use Rattle.simulator_recovery.proofs.Lemmas.Ground.EndCalls.{IsCallOn, at_place, each_both, map_both, map_length}
use Rattle.simulator_recovery.proofs.Lemmas.Ground.LinkCounts.{settled_open}
use Rattle.simulator_recovery.proofs.Lemmas.Rounds.LinkRounds.{Followed, HasThese, after_both, after_each, are_links, calm_called, events_both, links_both, round_tried, tried_followed}
use Rattle.simulator_recovery.proofs.Lemmas.Points.MovesArrive.{DrivesOn, Reports, Waits, drives_on, senses_on, stage_after}
use Rattle.simulator_recovery.proofs.Lemmas.Points.MovesEvent.{IsInputOf, PointEvent, point_event, stays, steps}
use Rattle.simulator_recovery.proofs.Lemmas.Links.MovesInOne.{IsLate, IsSame, Stays, on_calls, run_late, run_stays}
use Rattle.simulator_recovery.proofs.Lemmas.Rounds.Rounds.{work_calm}
use Rattle.simulator_recovery.proofs.Lemmas.Ground.StationKeeps.{later_at}
use Rattle.simulator_recovery.proofs.Lemmas.Talk.Standing.{points_tell}

-- ---- what a step gives, where the link is open before it

module _ (laws : LawsOfHost point_behaviour) (input : HostInput) (connection : ℕ) (c : ClockedControllerState PointState) (ends : Ends) (link_is : ends.server.link ≡ settled (reading_of c.clock) c.host.link) (clock_is : ends.server.clock ≡ c.clock) where
  pub enters_none : (i : HostInput) → is_open ends.server.link.phase ≡ true → entering i connection ends ≡ None
  unfolding outcome
  enters_none HostInput.Tick opened = refl
  enters_none (HostInput.Sense contact) opened = refl
  enters_none (HostInput.Datagram bytes) opened = rw opened refl

  pub given_then : is_open ends.server.link.phase ≡ true → (called_all connection (step_of point_behaviour input c).calls ends).server.given ≡ ends.server.given ++ items_given (reading_of c.clock) (step_of point_behaviour input c).calls (settled (reading_of c.clock) c.host.link)
  unfolding stepped
  given_then opened = ap (λ (s : HostSoFar PointState). (called_all connection s.calls ends).server.given) (sym done_is) ∙ laws.given input connection (world point_behaviour points_tell 1 laws input connection 0 c ends link_is clock_is)
      ∙ ap (λ (n : ℕ). kept (entering input connection ends) ends.server.given ++ items_given n (world_step point_behaviour input (world point_behaviour points_tell 1 laws input connection 0 c ends link_is clock_is)).calls ends.server.link) (ap reading_of clock_is)
      ∙ ap (λ (l : LinkState). kept (entering input connection ends) ends.server.given ++ items_given (reading_of c.clock) (world_step point_behaviour input (world point_behaviour points_tell 1 laws input connection 0 c ends link_is clock_is)).calls l) link_is
      ∙ ap (λ (s : HostSoFar PointState). kept (entering input connection ends) ends.server.given ++ items_given (reading_of c.clock) s.calls (settled (reading_of c.clock) c.host.link)) done_is
      ∙ ap (λ (o : Option ℕ). kept o ends.server.given ++ items_given (reading_of c.clock) (step_of point_behaviour input c).calls (settled (reading_of c.clock) c.host.link)) (enters_none input opened)
    where
      done_is : world_step point_behaviour input (world point_behaviour points_tell 1 laws input connection 0 c ends link_is clock_is) ≡ step_of point_behaviour input c
      done_is = same_step point_behaviour points_tell 1 laws input connection 0 c ends link_is clock_is

-- ---- the events of a round

-- not for this point's controller
abbrev pub IsElsewhere : ℕ → Event → Type 0
IsElsewhere place one = (input : HostInput) → IsInputOf place one input → ⊥

-- its contact doesn't tell
abbrev pub IsPlain : Event → Type 0
IsPlain (Event.Reach point position) = ⊥
IsPlain one = IsCalm one

pub plain_calm : (one : Event) → IsPlain one → IsCalm one
plain_calm (Event.Request command) plain = plain
plain_calm (Event.Occupy section occupancy) plain = plain
plain_calm (Event.Tick node) plain = plain
plain_calm (Event.Time elapsed clocks) plain = plain
plain_calm (Event.Deliver node bytes) plain = plain
plain_calm (Event.Lose bytes) plain = plain
plain_calm (Event.Reach point position) plain = absurd plain
plain_calm (Event.Restart node clock first) plain = plain

pub plain_input : (place : ℕ) (one : Event) (input : HostInput) → IsPlain one → IsInputOf place one input → contacts_of input ≡ []
plain_input place (Event.Request command) input plain is = absurd is
plain_input place (Event.Occupy section occupancy) input plain is = absurd is
plain_input place (Event.Tick node) input plain is = ap contacts_of is
plain_input place (Event.Time elapsed clocks) input plain is = absurd is
plain_input place (Event.Deliver node bytes) input plain is = ap contacts_of is
plain_input place (Event.Lose bytes) input plain is = absurd is
plain_input place (Event.Reach point position) input plain is = absurd plain
plain_input place (Event.Restart node clock first) input plain is = absurd is

pub at_its_side : (side : Side) (position : Position) → is_at side position ≡ true → position ≡ position_of side
at_its_side Side.Right Position.Right e = refl
at_its_side Side.Left Position.Left e = refl
at_its_side Side.Right Position.Left e = absurd (false≢true e)
at_its_side Side.Right Position.NoEndPosition e = absurd (false≢true e)
at_its_side Side.Left Position.Right e = absurd (false≢true e)
at_its_side Side.Left Position.NoEndPosition e = absurd (false≢true e)

-- ---- clocks

each_ten : (n : ℕ) → Each (λ (step : ℕ). step ≤ 10000) (replicate n 10000)
each_ten zero = tt
each_ten (suc n) = (omega arith, each_ten n)

each_drop : {X : Type 0} (P : X → Type 0) (n : ℕ) (list : List X) → Each P list → Each P (drop n list)
each_drop P zero list each = each
each_drop P (suc n) [] each = tt
each_drop P (suc n) (x ∷ list) each = each_drop P n list each.1

clock_later : (moment : ℕ) (times : List ℕ) (servers : List (ClockedControllerState PointState)) (place : ℕ) (one : ClockedControllerState PointState) → Each (λ (step : ℕ). step ≤ 10000) times → slice_get (all_later moment times servers) place ≡ Some one
    → (server : ClockedControllerState PointState) × (slice_get servers place ≡ Some server) × (one.clock ≤ server.clock + 10000)
unfolding controller_later
clock_later moment times [] place one each e = absurd (none-some one e)
clock_later moment [] (first ∷ others) place one each e = (one, e, omega arith)
clock_later moment (step ∷ times) (first ∷ others) zero one each e = (first, refl, let same = ap (λ (c : ClockedControllerState PointState). c.clock) (same_Some _ one e) in let few = each.0 in omega (arith, same, few))
clock_later moment (step ∷ times) (first ∷ others) (suc place) one each e = clock_later moment times others place one each.1 e

-- after the time of a round a clock has gone on by 10 ms at most
pub timed_clock : (flowing : Flowing) (place : ℕ) (c new : ClockedControllerState PointState) → slice_get flowing.state.run.points place ≡ Some c → slice_get (after flowing.state (round_of_time flowing.state.sited.site)).run.points place ≡ Some new → new.clock ≤ c.clock + 10000
unfolding happens passed
timed_clock flowing place c new there e = choose (refusal_of (round_of_time flowing.state.sited.site) flowing.state) e
  where
    choose : (why : Option Refused) → slice_get (world_where why flowing.state (record flowing.state { run = happens flowing.state.sited.site flowing.state.sited.table (round_of_time flowing.state.sited.site) flowing.state.run })).run.points place ≡ Some new → new.clock ≤ c.clock + 10000
    choose (Some why) f = let same = ap (λ (x : ClockedControllerState PointState). x.clock) (same_Some new c (sym f ∙ there)) in omega (arith, same)
    choose None f =
        let found = clock_later (length flowing.state.run.sent) (drop (length flowing.state.run.signals) (drop 1 (replicate (nodes flowing.state.sited.site) 10000))) flowing.state.run.points place new
        (each_drop (λ (step : ℕ). step ≤ 10000) (length flowing.state.run.signals) (drop 1 (replicate (nodes flowing.state.sited.site) 10000)) (each_drop (λ (step : ℕ). step ≤ 10000) 1 (replicate (nodes flowing.state.sited.site) 10000) (each_ten (nodes flowing.state.sited.site)))) f
        in let same = ap (λ (x : ClockedControllerState PointState). x.clock) (same_Some found.0 c (sym found.1 ∙ there))
        in let most = found.2
        in omega (arith, same, most)

-- and its host is the same
pub timed_host : (flowing : Flowing) (place : ℕ) (c new : ClockedControllerState PointState) → slice_get flowing.state.run.points place ≡ Some c → slice_get (after flowing.state (round_of_time flowing.state.sited.site)).run.points place ≡ Some new → new.host ≡ c.host
unfolding happens passed
timed_host flowing place c new there e = choose (refusal_of (round_of_time flowing.state.sited.site) flowing.state) e
  where
    choose : (why : Option Refused) → slice_get (world_where why flowing.state (record flowing.state { run = happens flowing.state.sited.site flowing.state.sited.table (round_of_time flowing.state.sited.site) flowing.state.run })).run.points place ≡ Some new → new.host ≡ c.host
    choose (Some why) f = ap (λ (x : ClockedControllerState PointState). x.host) (same_Some new c (sym f ∙ there))
    choose None f =
        let found = later_at (length flowing.state.run.sent) (drop (length flowing.state.run.signals) (drop 1 (replicate (nodes flowing.state.sited.site) 10000))) flowing.state.run.points place new f
        in found.2 ∙ ap (λ (x : ClockedControllerState PointState). x.host) (same_Some found.0 c (sym found.1 ∙ there))

-- ---- what comes of a drive

-- A point's controller that had given these items drives on for the same move, or it has reported that the point lies at its side.
pub data Comes (side : Side) (since : ℕ) (before given : List (List ℕ)) (host : HostState PointState) : Type 0 where
  drives_still : host.object.progress ≡ Progress.Driving side since → given ≡ before → Comes side since before given host
  has_told : host.object.progress ≡ Progress.Answered → given ≡ before ++ item_of host (own_report (Message.Point (PointPosition (position_of side)))) ∷ [] → Comes side since before given host

-- That is so of these links.
pub record Walked (sited : SitedTable) (link place : ℕ) (side : Side) (since now connection : ℕ) (before : List (List ℕ)) (played : Played) (network : Links) : Type 0 where
  pub has : HasThese sited played network
  pub c : ClockedControllerState PointState
  pub there : slice_get played.run.points place ≡ Some c
  pub clock : reading_of c.clock ≡ now
  pub inside : (network.ends link).server.connection ≡ Some connection
  pub comes : Comes side since before (network.ends link).server.given c.host

module _ (laws : LawsBelow) (sited : SitedTable) (station : IsStation sited.site) (once : Once sited.site) (place : ℕ) (few : place < length sited.site.points) (side : Side) (since now : ℕ) (early : nat_le (drive_end since) now ≡ false)
    (connection : ℕ) (before : List (List ℕ)) where
  abbrev link : ℕ
  link = point_link sited.site place

  abbrev names : Names
  names = names_at sited.site link

  pub below : link < links sited.site
  below = omega (arith, few)

  abbrev report : Report
  report = own_report (Message.Point (PointPosition (position_of side)))

  -- a station at this reading of the controller's clock, with its links
  pub record Is (played : Played) (network : Links) (c : ClockedControllerState PointState) : Type 0 where
    pub has : HasThese sited played network
    pub there : slice_get played.run.points place ≡ Some c
    pub clock : reading_of c.clock ≡ now

  abbrev pub end : Links → EndState
  end network = (network.ends link).server

  abbrev pub SameNow : Links → Type 0
  SameNow network = IsSame laws names ((are_links laws sited station once).each link below) connection (seen link network)

  abbrev pub LateNow : Links → Type 0
  LateNow network = IsLate laws names ((are_links laws sited station once).each link below) connection (seen link network)

  -- the end of the controller
  pub end_is : (played : Played) (network : Links) (c : ClockedControllerState PointState) → Is played network c → ((end network).link ≡ settled (reading_of c.clock) c.host.link) × ((end network).clock ≡ c.clock)
  end_is played network c is =
      let id = at_place (partners sited.site) link (subst (λ (n : ℕ). link < n) (sym (partners_length sited.site)) below)
      in let s = is.has.are.servers link id.0 id.1
      in let kept_is : s.kept ≡ end_of_server c = same_Some s.kept (end_of_server c) (sym s.there ∙ of_second (map end_of_server played.run.signals) _ _ (length sited.site.signals) place (end_of_server c)
      (map_length end_of_server played.run.signals ∙ is.has.whole.signals) (mapped end_of_server played.run.points place c is.there))
      in (s.link_is ∙ ap (λ (k : ServerEnd). settled (reading_of k.clock) k.link) kept_is, s.clock_is ∙ ap (λ (k : ServerEnd). k.clock) kept_is)

  -- ---- how far it is

  -- It is driven on, or one of the ends has left the connection.
  data First (c : ClockedControllerState PointState) (network : Links) : Type 0 where
    ahead : SameNow network → is_open (end network).link.phase ≡ true → is_completed c.host.stage ≡ true → c.host.object.progress ≡ Progress.Driving side since → (end network).given ≡ before → First c network
    gone : LateNow network ⊎ (SameNow network × (is_open (end network).link.phase ≡ false)) → First c network

  -- Or it has reported, or owes that.
  data Second (c : ClockedControllerState PointState) (network : Links) : Type 0 where
    first : First c network → Second c network
    told : SameNow network → is_open (end network).link.phase ≡ true → c.host.object.progress ≡ Progress.Answered → (end network).given ≡ before ++ item_of c.host report ∷ [] → Second c network
    owed : c.host.object.progress ≡ Progress.Arrived → Second c network

  pub record On (P : ClockedControllerState PointState → Links → Type 0) (played : Played) (network : Links) : Type 0 where
    pub c : ClockedControllerState PointState
    pub is : Is played network c
    pub state : P c network

  -- ---- an event that is tried

  module _ (played : Played) (network : Links) (one : Event) (calm : IsCalm one) (c : ClockedControllerState PointState) (is : Is played network c) where
    abbrev then_played : Played
    then_played = after played one

    abbrev then_network : Links
    then_network = run_links (events_tried one played) network

    followed : Followed sited (events_tried one played) network then_played
    followed = tried_followed laws sited station once one played network is.has

    called : Each IsCallOn (events_tried one played)
    called = choose (refusal_of one played)
      where
        choose : (why : Option Refused) → Each IsCallOn (events_where why (events_of played.sited.site played.sited.table one played.run))
        choose (Some why) = tt
        choose None = calm_called played.sited.site played.sited.table one played.run calm

    seen_then : seen link then_network ≡ run (run_on link (events_tried one played) network) (seen link network)
    seen_then = laws.each_link_sees_its_events_run link (events_tried one played) network

    may_then : MayRun names (run_on link (events_tried one played) network) (seen link network)
    may_then = laws.each_link_sees_its_events_may_run (links sited.site) (names_at sited.site) (events_tried one played) network (are_links laws sited station once) is.has.timely followed.may link below

    late_then : LateNow network → LateNow then_network
    late_then late = subst (IsLate laws names ((are_links laws sited station once).each link below) connection) (sym seen_then)
        (run_late laws names ((are_links laws sited station once).each link below) connection (run_on link (events_tried one played) network) (seen link network) (on_calls link (events_tried one played) network called) may_then (is.has.timely.each link below) late)

    same_then : SameNow network → LateNow then_network ⊎ (SameNow then_network × (is_open (end network).link.phase ≡ false → is_open (end then_network).link.phase ≡ false))
    same_then same = subst (Stays laws names ((are_links laws sited station once).each link below) connection (seen link network)) (sym seen_then)
        (run_stays laws names ((are_links laws sited station once).each link below) connection (run_on link (events_tried one played) network) (seen link network) (on_calls link (events_tried one played) network called) may_then (is.has.timely.each link below) same)

    pub gone_then : LateNow network ⊎ (SameNow network × (is_open (end network).link.phase ≡ false)) → LateNow then_network ⊎ (SameNow then_network × (is_open (end then_network).link.phase ≡ false))
    gone_then (inl late) = inl (late_then late)
    gone_then (inr (same, shut)) = choose (same_then same)
      where
        choose : LateNow then_network ⊎ (SameNow then_network × (is_open (end network).link.phase ≡ false → is_open (end then_network).link.phase ≡ false)) → LateNow then_network ⊎ (SameNow then_network × (is_open (end then_network).link.phase ≡ false))
        choose (inl late) = inl late
        choose (inr (still, shuts)) = inr (still, shuts shut)

    pub new : (one : ClockedControllerState PointState) × (slice_get then_played.run.points place ≡ Some one)
    new = let many = followed.has.whole.points in at_place then_played.run.points place (omega (arith, few, many))

    pub happened_so : PointEvent link place one c new.0 network then_network
    happened_so = choose (refusal_of one played) refl new.0 new.1
      where
        choose : (why : Option Refused) → refusal_of one played ≡ why → (x : ClockedControllerState PointState) → slice_get (world_where why played (record played { run = happens played.sited.site played.sited.table one played.run })).run.points place ≡ Some x
            → PointEvent link place one c x network (run_links (events_where why (events_of played.sited.site played.sited.table one played.run)) network)
        choose (Some why) e x f = stays (same_Some x c (sym f ∙ is.there)) refl
        choose None e x f = subst (λ (s : SitedTable). PointEvent (point_link s.site place) place one c x network (run_links (events_of played.sited.site played.sited.table one played.run) network)) is.has.same
            (point_event laws played.sited.site played.sited.table place played.run network (is.has.whole.signals ∙ ap (λ (s : SitedTable). length s.site.signals) (sym is.has.same)) (is.has.whole.points ∙ ap (λ (s : SitedTable). length s.site.points) (sym is.has.same)) c is.there one calm x f)

    -- its clock is the same
    clock_then : new.0.clock ≡ c.clock
    unfolding controller_after
    clock_then = choose happened_so
      where
        choose : PointEvent link place one c new.0 network then_network → new.0.clock ≡ c.clock
        choose (stays e f) = ap (λ (x : ClockedControllerState PointState). x.clock) e
        choose (steps input at moment of e f) = ap (λ (x : ClockedControllerState PointState). x.clock) e

    pub is_then : Is then_played then_network new.0
    is_then = record { has = followed.has; there = new.1; clock = ap reading_of clock_then ∙ is.clock }

    -- where the controller stays as it is, its link does
    open_still : new.0 ≡ c → is_open (end network).link.phase ≡ true → is_open (end then_network).link.phase ≡ true
    open_still e opened = ap (λ (l : LinkState). is_open l.phase) ((end_is then_played then_network new.0 is_then).0 ∙ ap (λ (x : ClockedControllerState PointState). settled (reading_of x.clock) x.host.link) e ∙ sym (end_is played network c is).0) ∙ opened

    stays_first : new.0 ≡ c → lists_at then_network link ≡ lists_at network link → First c network → First new.0 then_network
    stays_first e f (gone left) = gone (gone_then left)
    stays_first e f (ahead same opened completed drives given) = choose (same_then same)
      where
        choose : LateNow then_network ⊎ (SameNow then_network × (is_open (end network).link.phase ≡ false → is_open (end then_network).link.phase ≡ false)) → First new.0 then_network
        choose (inl late) = gone (inl late)
        choose (inr (still, shuts)) = ahead still (open_still e opened) (ap (λ (x : ClockedControllerState PointState). is_completed x.host.stage) e ∙ completed) (ap (λ (x : ClockedControllerState PointState). x.host.object.progress) e ∙ drives) (ap (λ lists. lists.given) f ∙ given)

    stays_second : new.0 ≡ c → lists_at then_network link ≡ lists_at network link → Second c network → Second new.0 then_network
    stays_second e f (first state) = first (stays_first e f state)
    stays_second e f (owed arrived) = owed (ap (λ (x : ClockedControllerState PointState). x.host.object.progress) e ∙ arrived)
    stays_second e f (told same opened answered given) = choose (same_then same)
      where
        choose : LateNow then_network ⊎ (SameNow then_network × (is_open (end network).link.phase ≡ false → is_open (end then_network).link.phase ≡ false)) → Second new.0 then_network
        choose (inl late) = first (gone (inl late))
        choose (inr (still, shuts)) = told still (open_still e opened) (ap (λ (x : ClockedControllerState PointState). x.host.object.progress) e ∙ answered)
            (ap (λ lists. lists.given) f ∙ given ∙ ap (λ (x : ClockedControllerState PointState). before ++ item_of x.host report ∷ []) (sym e))

    -- an event that isn't for this controller
    elsewhere_second : IsElsewhere place one → Second c network → Second new.0 then_network
    elsewhere_second other state = choose happened_so
      where
        choose : PointEvent link place one c new.0 network then_network → Second new.0 then_network
        choose (stays e f) = stays_second e f state
        choose (steps input at moment of e f) = absurd (other input of)

    elsewhere_first : IsElsewhere place one → First c network → First new.0 then_network
    elsewhere_first other state = choose happened_so
      where
        choose : PointEvent link place one c new.0 network then_network → First new.0 then_network
        choose (stays e f) = stays_first e f state
        choose (steps input at moment of e f) = absurd (other input of)

    -- a step of a controller that drives
    module _ (same : SameNow network) (opened : is_open (end network).link.phase ≡ true) (completed : is_completed c.host.stage ≡ true) (drives : c.host.object.progress ≡ Progress.Driving side since) (given : (end network).given ≡ before)
        (input : HostInput) (at moment : ℕ) (e : new.0 ≡ controller_after (step_of point_behaviour input c) at moment c) (f : seen link then_network ≡ called_all at (step_of point_behaviour input c).calls (seen link network)) where
      abbrev part : HostSoFar PointState
      part = step_of point_behaviour input c

      host_is : new.0.host ≡ part.host
      unfolding controller_after
      host_is = ap (λ (x : ClockedControllerState PointState). x.host) e

      was_open : is_open (settled (reading_of c.clock) c.host.link).phase ≡ true
      was_open = ap (λ (l : LinkState). is_open l.phase) (sym (end_is played network c is).0) ∙ opened

      early_now : nat_le (drive_end since) (reading_of c.clock) ≡ false
      early_now = ap (nat_le (drive_end since)) is.clock ∙ early

      given_so : (end then_network).given ≡ before ++ items_given (reading_of c.clock) part.calls (settled (reading_of c.clock) c.host.link)
      given_so = ap (λ (s : Ends). s.server.given) f ∙ given_then laws.points input at c (seen link network) (end_is played network c is).0 (end_is played network c is).1 opened
          ∙ ap (λ (list : List (List ℕ)). list ++ items_given (reading_of c.clock) part.calls (settled (reading_of c.clock) c.host.link)) given

      module _ (still : SameNow then_network) (opened_then : is_open (end then_network).link.phase ≡ true) where
        part_open : is_open part.host.link.phase ≡ true
        part_open = ap (λ (h : HostState PointState). is_open h.link.phase) (sym host_is)
            ∙ (settled_open (reading_of new.0.clock) new.0.host.link (ap (λ (l : LinkState). is_open l.phase) (sym (end_is then_played then_network new.0 is_then).0) ∙ opened_then)).1

        goes_ahead : DrivesOn side since part (items_given (reading_of c.clock) part.calls (settled (reading_of c.clock) c.host.link)) → First new.0 then_network
        goes_ahead on = ahead still opened_then
            (ap (λ (h : HostState PointState). is_completed h.stage) host_is ∙ stage_after laws.point_makes_a_step (reading_of c.clock) input c.host side since was_open completed drives early_now part_open)
            (ap (λ (h : HostState PointState). h.object.progress) host_is ∙ on.drives) (given_so ∙ ap (λ (list : List (List ℕ)). before ++ list) on.gives ∙ append-nil before)

        plain_step : contacts_of input ≡ [] → First new.0 then_network
        plain_step none = goes_ahead (drives_on laws.point_makes_a_step (reading_of c.clock) input c.host side since was_open completed drives early_now part_open none)

        contact_step : (position : Position) → contacts_of input ≡ Sense.Position position ∷ [] → Second new.0 then_network
        contact_step position contact = choose (senses_on laws.point_makes_a_step (reading_of c.clock) input c.host side since was_open completed drives early_now part_open position contact)
          where
            choose : DrivesOn side since part (items_given (reading_of c.clock) part.calls (settled (reading_of c.clock) c.host.link))
                ⊎ ((is_at side position ≡ true) × (Reports position part (items_given (reading_of c.clock) part.calls (settled (reading_of c.clock) c.host.link)) ⊎ Waits part)) → Second new.0 then_network
            choose (inl on) = first (goes_ahead on)
            choose (inr (there, inr waits)) = owed (ap (λ (h : HostState PointState). h.object.progress) host_is ∙ waits.arrived)
            choose (inr (there, inl reports)) = told still opened_then (ap (λ (h : HostState PointState). h.object.progress) host_is ∙ reports.answered)
                (given_so ∙ ap (λ (list : List (List ℕ)). before ++ list) (reports.gives ∙ ap (λ (p : Position). item_of part.host (own_report (Message.Point (PointPosition p))) ∷ []) (at_its_side side position there))
                ∙ ap (λ (h : HostState PointState). before ++ item_of h report ∷ []) (sym host_is))

    pub by_links : {P : Type 0} → SameNow network → (LateNow then_network ⊎ (SameNow then_network × (is_open (end then_network).link.phase ≡ false)) → P) → (SameNow then_network → is_open (end then_network).link.phase ≡ true → P) → P
    by_links {P} same left on = choose (same_then same)
      where
        by_open : SameNow then_network → (b : Bool) → is_open (end then_network).link.phase ≡ b → P
        by_open still true e = on still e
        by_open still false e = left (inr (still, e))

        choose : LateNow then_network ⊎ (SameNow then_network × (is_open (end network).link.phase ≡ false → is_open (end then_network).link.phase ≡ false)) → P
        choose (inl late) = left (inl late)
        choose (inr (still, shuts)) = by_open still (is_open (end then_network).link.phase) refl

    -- an event in which its contact doesn't tell
    plain_first : IsPlain one → First c network → First new.0 then_network
    plain_first plain (gone left) = gone (gone_then left)
    plain_first plain (ahead same opened completed drives given) = choose happened_so
      where
        choose : PointEvent link place one c new.0 network then_network → First new.0 then_network
        choose (stays e f) = stays_first e f (ahead same opened completed drives given)
        choose (steps input at moment of e f) = by_links same gone (λ still opened_then. plain_step same opened completed drives given input at moment e f still opened_then (plain_input place one input plain of))

    -- its contact
    contact_first : (position : Position) → ((input : HostInput) → IsInputOf place one input → contacts_of input ≡ Sense.Position position ∷ []) → First c network → Second new.0 then_network
    contact_first position tells (gone left) = first (gone (gone_then left))
    contact_first position tells (ahead same opened completed drives given) = choose happened_so
      where
        choose : PointEvent link place one c new.0 network then_network → Second new.0 then_network
        choose (stays e f) = first (stays_first e f (ahead same opened completed drives given))
        choose (steps input at moment of e f) = by_links same (λ left. first (gone left)) (λ still opened_then. contact_step same opened completed drives given input at moment e f still opened_then position (tells input of))

  -- ---- lists of events

  pub joined : (P : ClockedControllerState PointState → Links → Type 0) (front rest : List Event) (played : Played) (network : Links)
      → On P (after_each rest (after_each front played)) (run_links (all_events_tried rest (after_each front played)) (run_links (all_events_tried front played) network)) → On P (after_each (front ++ rest) played) (run_links (all_events_tried (front ++ rest) played) network)
  joined P front rest played network on = subst (λ (w : Played). On P w (run_links (all_events_tried (front ++ rest) played) network)) (sym (after_both front rest played))
      (subst (On P (after_each rest (after_each front played))) (sym (ap (λ (events : List LinksEvent). run_links events network) (events_both front rest played) ∙ links_both (all_events_tried front played) (all_events_tried rest (after_each front played)) network)) on)

  pub next_of : (P : ClockedControllerState PointState → Links → Type 0) (one : Event) (others : List Event) (played : Played) (network : Links) → On P (after_each others (after played one)) (run_links (all_events_tried others (after played one)) (run_links (events_tried one played) network))
      → On P (after_each (one ∷ others) played) (run_links (all_events_tried (one ∷ others) played) network)
  next_of P one others played network on = subst (On P (after_each others (after played one))) (sym (links_both (events_tried one played) (all_events_tried others (after played one)) network)) on

  plain_walk : (list : List Event) → Each IsPlain list → (played : Played) (network : Links) → On First played network → On First (after_each list played) (run_links (all_events_tried list played) network)
  plain_walk [] plain played network on = on
  plain_walk (one ∷ others) plain played network on =
      let calm = plain_calm one plain.0
      in next_of First one others played network (plain_walk others plain.1 (after played one) (run_links (events_tried one played) network)
      (record { c = (new played network one calm on.c on.is).0; is = is_then played network one calm on.c on.is; state = plain_first played network one calm on.c on.is plain.0 on.state }))

  abbrev pub IsQuiet : Event → Type 0
  IsQuiet one = IsCalm one × IsElsewhere place one

  quiet_first : (list : List Event) → Each IsQuiet list → (played : Played) (network : Links) → On First played network → On First (after_each list played) (run_links (all_events_tried list played) network)
  quiet_first [] quiet played network on = on
  quiet_first (one ∷ others) quiet played network on =
      next_of First one others played network (quiet_first others quiet.1 (after played one) (run_links (events_tried one played) network)
      (record { c = (new played network one quiet.0.0 on.c on.is).0; is = is_then played network one quiet.0.0 on.c on.is; state = elsewhere_first played network one quiet.0.0 on.c on.is quiet.0.1 on.state }))

  quiet_second : (list : List Event) → Each IsQuiet list → (played : Played) (network : Links) → On Second played network → On Second (after_each list played) (run_links (all_events_tried list played) network)
  quiet_second [] quiet played network on = on
  quiet_second (one ∷ others) quiet played network on =
      next_of Second one others played network (quiet_second others quiet.1 (after played one) (run_links (events_tried one played) network)
      (record { c = (new played network one quiet.0.0 on.c on.is).0; is = is_then played network one quiet.0.0 on.c on.is; state = elsewhere_second played network one quiet.0.0 on.c on.is quiet.0.1 on.state }))

  -- ---- the events of a round

  pub reach_quiet : (passed at : ℕ) (drive : Option FoundDriven) → at ≢ place → Each IsQuiet (map event_of (reach passed at drive))
  reach_quiet passed at None differ = tt
  reach_quiet passed at (Some drive) differ = choose (nat_lt drive.rounds 50)
    where
      choose : (b : Bool) → Each IsQuiet (map event_of (if b then [] else (record { event = Event.Reach (record { 0 = at }) (position_of drive.side); passed = passed } ∷ [])))
      choose true = tt
      choose false = ((tt, λ input is. differ is.0), tt)

  pub reaches_quiet : (passed at : ℕ) (drives : List (Option FoundDriven)) → place < at → Each IsQuiet (map event_of (reaches passed at drives))
  unfolding reaches
  reaches_quiet passed at [] beyond = tt
  reaches_quiet passed at (drive ∷ drives) beyond = subst (Each IsQuiet) (sym (map_both event_of (reach passed at drive) (reaches passed (suc at) drives)))
      (each_both IsQuiet (map event_of (reach passed at drive)) (map event_of (reaches passed (suc at) drives)) (reach_quiet passed at drive (λ same. omega (arith, beyond, same))) (reaches_quiet passed (suc at) drives (omega (arith, beyond))))

  -- its own contact
  own_reach : (passed : ℕ) (drive : Option FoundDriven) (played : Played) (network : Links) → On First played network
      → On Second (after_each (map event_of (reach passed place drive)) played) (run_links (all_events_tried (map event_of (reach passed place drive)) played) network)
  own_reach passed None played network on = record { c = on.c; is = on.is; state = first on.state }
  own_reach passed (Some drive) played network on = choose (nat_lt drive.rounds 50)
    where
      reaching : Event
      reaching = Event.Reach (record { 0 = place }) (position_of drive.side)

      events_if : Bool → List Event
      events_if b = map event_of (if b then [] else (record { event = reaching; passed = passed } ∷ []))

      choose : (b : Bool) → On Second (after_each (events_if b) played) (run_links (all_events_tried (events_if b) played) network)
      choose true = record { c = on.c; is = on.is; state = first on.state }
      choose false = next_of Second reaching [] played network (record {
        c = (new played network reaching tt on.c on.is).0;
        is = is_then played network reaching tt on.c on.is;
        state = contact_first played network reaching tt on.c on.is (position_of drive.side) (λ input is. ap contacts_of is.1) on.state;
      })

  reaches_walk : (passed at more : ℕ) (drives : List (Option FoundDriven)) → at + more ≡ place → (played : Played) (network : Links) → On First played network
      → On Second (after_each (map event_of (reaches passed at drives)) played) (run_links (all_events_tried (map event_of (reaches passed at drives)) played) network)
  unfolding reaches
  reaches_walk passed at more [] here played network on = record { c = on.c; is = on.is; state = first on.state }
  reaches_walk passed at zero (drive ∷ drives) here played network on =
      subst (λ (list : List Event). On Second (after_each list played) (run_links (all_events_tried list played) network)) (sym (map_both event_of (reach passed at drive) (reaches passed (suc at) drives)))
      (joined Second (map event_of (reach passed at drive)) (map event_of (reaches passed (suc at) drives)) played network
      (quiet_second (map event_of (reaches passed (suc at) drives)) (reaches_quiet passed (suc at) drives (omega (arith, here))) (after_each (map event_of (reach passed at drive)) played) (run_links (all_events_tried (map event_of (reach passed at drive)) played) network)
      (subst (λ (n : ℕ). On Second (after_each (map event_of (reach passed n drive)) played) (run_links (all_events_tried (map event_of (reach passed n drive)) played) network)) (omega (arith, here)) (own_reach passed drive played network on))))
  reaches_walk passed at (suc more) (drive ∷ drives) here played network on =
      subst (λ (list : List Event). On Second (after_each list played) (run_links (all_events_tried list played) network)) (sym (map_both event_of (reach passed at drive) (reaches passed (suc at) drives)))
      (joined Second (map event_of (reach passed at drive)) (map event_of (reaches passed (suc at) drives)) played network
      (reaches_walk passed (suc at) more drives (omega (arith, here)) (after_each (map event_of (reach passed at drive)) played) (run_links (all_events_tried (map event_of (reach passed at drive)) played) network)
      (quiet_first (map event_of (reach passed at drive)) (reach_quiet passed at drive (λ same. omega (arith, here, same))) played network on)))

  delivery_plain : (at : ℕ) (arrival : Option (NodeId × List ℕ)) → Each IsPlain (map event_of (delivery at arrival))
  delivery_plain at None = tt
  delivery_plain at (Some arrival) = (tt, tt)

  pub deliveries_plain : (arrival : ℕ → Option (NodeId × List ℕ)) (at more : ℕ) → Each IsPlain (map event_of (deliveries arrival at more))
  unfolding deliveries
  deliveries_plain arrival at zero = tt
  deliveries_plain arrival at (suc more) = subst (Each IsPlain) (sym (map_both event_of (delivery at (arrival at)) (deliveries arrival (suc at) more)))
      (each_both IsPlain (map event_of (delivery at (arrival at))) (map event_of (deliveries arrival (suc at) more)) (delivery_plain at (arrival at)) (deliveries_plain arrival (suc at) more))

  pub ticks_plain : (passed at more : ℕ) → Each IsPlain (map event_of (ticks passed at more))
  unfolding ticks
  ticks_plain passed at zero = tt
  ticks_plain passed at (suc more) = (tt, ticks_plain passed (suc at) more)

  pub work_quiet : (between : List Event) → Each IsWork between → Each IsQuiet between
  work_quiet [] work = tt
  work_quiet (one ∷ others) work = ((work_calm one work.0, elsewhere one work.0), work_quiet others work.1)
    where
      elsewhere : (e : Event) → IsWork e → IsElsewhere place e
      elsewhere (Event.Request command) is = λ input of. of
      elsewhere (Event.Occupy section occupancy) is = λ input of. of
      elsewhere (Event.Tick node) is = absurd is
      elsewhere (Event.Time elapsed clocks) is = absurd is
      elsewhere (Event.Deliver node bytes) is = absurd is
      elsewhere (Event.Lose bytes) is = absurd is
      elsewhere (Event.Reach point position) is = absurd is
      elsewhere (Event.Restart node clock first_number) is = absurd is

  -- after the time of a round
  behind_walk : (between : List Event) (flowing : Flowing) → Each IsWork between → (played : Played) (network : Links) → On First played network
      → On Second (after_each (map event_of (behind_time flowing) ++ between) played) (run_links (all_events_tried (map event_of (behind_time flowing) ++ between) played) network)
  behind_walk between flowing work played network on =
      joined Second (map event_of (behind_time flowing)) between played network
      (quiet_second between (work_quiet between work) (after_each (map event_of (behind_time flowing)) played) (run_links (all_events_tried (map event_of (behind_time flowing)) played) network)
      (subst (λ (list : List Event). On Second (after_each list played) (run_links (all_events_tried list played) network)) (sym parts)
      (joined Second come (ticked ++ reached) played network
      (joined Second ticked reached (after_each come played) (run_links (all_events_tried come played) network)
      (reaches_walk sent 0 place flowing.drives (omega arith) (after_each ticked (after_each come played)) (run_links (all_events_tried ticked (after_each come played)) (run_links (all_events_tried come played) network))
      (plain_walk ticked (ticks_plain sent 0 count) (after_each come played) (run_links (all_events_tried come played) network)
      (plain_walk come (deliveries_plain arriving_at flowing.passed (sent - flowing.passed)) played network on)))))))
    where
      sent : ℕ
      sent = length flowing.state.run.sent

      count : ℕ
      count = nodes flowing.state.sited.site

      arriving_at : ℕ → Option (NodeId × List ℕ)
      arriving_at = arrival_in flowing.state

      come : List Event
      come = map event_of (deliveries arriving_at flowing.passed (sent - flowing.passed))

      ticked : List Event
      ticked = map event_of (ticks sent 0 count)

      reached : List Event
      reached = map event_of (reaches sent 0 flowing.drives)

      parts : map event_of (behind_time flowing) ≡ come ++ (ticked ++ reached)
      parts = map_both event_of (deliveries arriving_at flowing.passed (sent - flowing.passed)) (ticks sent 0 count ++ reaches sent 0 flowing.drives)
          ∙ ap (λ (rest : List Event). come ++ rest) (map_both event_of (ticks sent 0 count) (reaches sent 0 flowing.drives))

  -- ---- the time of a round

  module _ (flowing : Flowing) (network : Links) (has : HasThese sited flowing.state network) (c : ClockedControllerState PointState) (there : slice_get flowing.state.run.points place ≡ Some c) where
    abbrev timed : Played
    timed = after flowing.state (round_of_time flowing.state.sited.site)

    abbrev timed_network : Links
    timed_network = run_links (time_of_round flowing) network

    pub timed_has : HasThese sited timed timed_network
    timed_has = (tried_followed laws sited station once (round_of_time flowing.state.sited.site) flowing.state network has).has

    -- the ends are in the connection that they were in, and have given what they had
    pub same_lists : (((timed_network.ends link).client.connection ≡ (network.ends link).client.connection) × ((timed_network.ends link).server.connection ≡ (network.ends link).server.connection)) × ((timed_network.ends link).server.given ≡ (network.ends link).server.given)
    unfolding events_of end_later
    same_lists = choose (refusal_of (round_of_time flowing.state.sited.site) flowing.state)
      where
        choose : (why : Option Refused) → ((((run_links (events_where why (events_of flowing.state.sited.site flowing.state.sited.table (round_of_time flowing.state.sited.site) flowing.state.run)) network).ends link).client.connection ≡ (network.ends link).client.connection)
            × (((run_links (events_where why (events_of flowing.state.sited.site flowing.state.sited.table (round_of_time flowing.state.sited.site) flowing.state.run)) network).ends link).server.connection ≡ (network.ends link).server.connection))
            × (((run_links (events_where why (events_of flowing.state.sited.site flowing.state.sited.table (round_of_time flowing.state.sited.site) flowing.state.run)) network).ends link).server.given ≡ (network.ends link).server.given)
        choose (Some why) = ((refl, refl), refl)
        choose None = ((refl, refl), refl)

    starts : (new : ClockedControllerState PointState) → slice_get timed.run.points place ≡ Some new → reading_of new.clock ≡ now → SameNow network → is_completed c.host.stage ≡ true → c.host.object.progress ≡ Progress.Driving side since → (end network).given ≡ before
        → On First timed timed_network
    starts new e clock same completed drives given = record {
      c = new;
      is = record { has = timed_has; there = e; clock = clock };
      state = by_open (is_open (end timed_network).link.phase) refl;
    }
      where
        still : SameNow timed_network
        still = record { client = same_lists.0.0 ∙ same.client; server = same_lists.0.1 ∙ same.server }

        host : new.host ≡ c.host
        host = timed_host flowing place c new there e

        by_open : (b : Bool) → is_open (end timed_network).link.phase ≡ b → First new timed_network
        by_open true f = ahead still f (ap (λ (h : HostState PointState). is_completed h.stage) host ∙ completed) (ap (λ (h : HostState PointState). h.object.progress) host ∙ drives) (same_lists.1 ∙ given)
        by_open false f = gone (inr (still, f))

    round_walk : (between : List Event) → Each IsWork between → (new : ClockedControllerState PointState) → slice_get timed.run.points place ≡ Some new → reading_of new.clock ≡ now → SameNow network → is_completed c.host.stage ≡ true → c.host.object.progress ≡ Progress.Driving side since → (end network).given ≡ before
        → On Second (all_tried between (round flowing)).state (links_behind between flowing network)
    round_walk between work new e clock same completed drives given = subst (λ (w : Played). On Second w (links_behind between flowing network)) (sym (round_tried between flowing))
        (behind_walk between flowing work timed timed_network (starts new e clock same completed drives given))

    -- Where both ends are in the connection after the round, and no report waits, it drives on or has reported.
    pub round_comes : (between : List Event) → Each IsWork between → (new : ClockedControllerState PointState) → slice_get timed.run.points place ≡ Some new → reading_of new.clock ≡ now → SameNow network → is_completed c.host.stage ≡ true → c.host.object.progress ≡ Progress.Driving side since → (end network).given ≡ before
        → (HasThese sited (all_tried between (round flowing)).state (links_behind between flowing network)
        → ((links_behind between flowing network).ends link).client.connection ≡ Some connection × (is_open (end (links_behind between flowing network)).link.phase ≡ true))
        → ((last : ClockedControllerState PointState) → slice_get (all_tried between (round flowing)).state.run.points place ≡ Some last → last.host.object.progress ≡ Progress.Arrived → ⊥)
        → Walked sited link place side since now connection before (all_tried between (round flowing)).state (links_behind between flowing network)
    round_comes between work new e clock same completed drives given stays_in unowed = by (round_walk between work new e clock same completed drives given)
      where
        then_network : Links
        then_network = links_behind between flowing network

        by : On Second (all_tried between (round flowing)).state then_network → Walked sited link place side since now connection before (all_tried between (round flowing)).state then_network
        by on = by_state on.state
          where
            made : SameNow then_network → Comes side since before (end then_network).given on.c.host → Walked sited link place side since now connection before (all_tried between (round flowing)).state then_network
            made still comes = record { has = on.is.has; c = on.c; there = on.is.there; clock = on.is.clock; inside = still.server; comes = comes }

            not_late : LateNow then_network → ⊥
            not_late late = let began = same_Some late.began connection (sym late.client ∙ (stays_in on.is.has).0) in let more = late.later in omega (arith, began, more)

            by_state : Second on.c then_network → Walked sited link place side since now connection before (all_tried between (round flowing)).state then_network
            by_state (first (ahead still opened done on_drives kept_given)) = made still (drives_still on_drives kept_given)
            by_state (first (gone (inl late))) = absurd (not_late late)
            by_state (first (gone (inr (still, shut)))) = absurd (false≢true (sym shut ∙ (stays_in on.is.has).1))
            by_state (told still opened answered all_given) = made still (has_told answered all_given)
            by_state (owed arrived) = absurd (unowed on.c on.is.there arrived)
