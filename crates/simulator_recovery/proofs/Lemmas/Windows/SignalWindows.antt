-- No event closes a signal's link for a full window of its client.
use Rattle.simulator_recovery.proofs.Words.Basics.{◌≡◌, ◌≢◌, ◌⊎◌, inl, inr, ℕ, ◌+◌, ◌-◌, ◌<◌, ◌≤◌, ◌==◌, Bool, true, false, if◌then◌else◌, nat_le, List, length, map, Option, Some, None, slice_get, refl, sym, ap, subst, ◌∙◌, arith, false≢true, nat_tests, same_Some, []}
use Rattle.simulator_recovery.proofs.Words.Links.{quiet_until, Each, stops_at_greatest, window_size, confirmed_items, is_up, created, reading_of, is_open, AreTimely, AreLinks, begun as begun_links}
use Rattle.simulator_recovery.proofs.Words.Controllers.{Aspect}
use Rattle.simulator_recovery.proofs.Words.Interlockings.{ClientState, is_outside, is_ready, ClientSoFar, LinkCall, clocked, Stage, set_anew, come_to, is_proceeding, is_waiting, KnownSignalState, RouteState, changed, clocked_known_signal, Detector, Node, Point, Signal, known_signal_after, Row, Table, at, has_taken_stop, is_known_signal_at_stop, Phase, new_client, IxlState, Input, begun_with, empty_outbox, is_set}
use Rattle.simulator_recovery.proofs.Words.Stations.{Site, Signal as SignalEntry, Beginning, new_ixl, new_known_signal_of, new_route_of, interlocking_stepped, interlocking_step, key_of, ClockedInterlockingState, WorldState, IsReached, Once, IsStation, Event, names_at, starts_at_zero, links, refusal, IsNodeOf, link_at, events_of, IsStanding, links_in, HasClients}
use Rattle.simulator_recovery.proofs.Words.Recovery.{FillsNoWindowOn, LawsBelow}
use Rattle.simulator_spec.specs.ixl_spec.Step as ixl
use Rattle.simulator_recovery.proofs.Lemmas.Ground.AspectCalls.{CallsKeep, DoneBy, IsCommanded, hears, noted_at, ticks, step_held}
use Rattle.simulator_recovery.proofs.Lemmas.Talk.ClientLinks.{up_open}
use Rattle.simulator_recovery.proofs.Lemmas.Windows.FewItems.{GivenBy, GivesFew, LeavesWindow, few_wait, new_client_few}
use Rattle.simulator_recovery.proofs.Lemmas.Ground.IxlClients.{changed_at, mapped_at, signal_client, signal_is}
use Rattle.simulator_recovery.proofs.Lemmas.Ground.IxlSoFar.{at_itself, at_node, at_other, set_at}
use Rattle.simulator_recovery.proofs.Lemmas.Ground.EndCalls.{each_both}
use Rattle.simulator_recovery.proofs.Lemmas.Ground.SignalParts.{AtRoute, GoesOn, IsGiven, IsOver, IsQuiet, hears as hears_on, new_signal, ticks as ticks_on}
use Rattle.simulator_recovery.proofs.Lemmas.Lamps.StopsGiven.{StopsStand, changed_here, is_equal, proceeding_set, stand_keep}
use Rattle.simulator_recovery.proofs.Lemmas.Windows.WaitingItems.{IsGivenOne, Went, clock_went, commanded_is, done_leaves, done_went, ready_inside}
use Rattle.simulator_recovery.proofs.Lemmas.Ground.IxlAlways.{always}
use Rattle.simulator_recovery.proofs.Lemmas.Windows.WindowEvents.{event_leaves}

-- ---- few items wait at a signal: an aspect is given at known stop alone, and stop where one route has its aspect

-- ---- a signal

-- at most so many items wait at a client that is up
abbrev pub AtMost : ℕ → ClientState → Type 0
AtMost most client = is_up client.link.phase ≡ true → length client.link.waiting ≤ most

-- what was given was given to a client that is ready
abbrev pub GivenWhenReady : KnownSignalState → Type 0
GivenWhenReady known = is_ready known.client.stage ≡ false → known.aspect ≡ None

-- Few items wait at a signal's client: two where it was given no aspect in the connection, and else four at most. The number of the last
-- aspect is that of all items given.
pub record FewWait (known : KnownSignalState) : Type 0 where
  pub gives : GivesFew true known.client
  pub up : is_outside known.client.stage ≡ false → is_up known.client.link.phase ≡ true
  pub none : known.aspect ≡ None → GivesFew false known.client
  pub number : (aspect : Aspect) → known.aspect ≡ Some aspect → known.number ≡ known.client.link.given
  pub four : AtMost 4 known.client

-- outside nothing was given
outside_given : (s : Stage) → is_outside s ≡ true → (n : ℕ) → GivenBy true s n → n ≡ 0
outside_given Stage.Outside e n few = few
outside_given Stage.AwaitsAnswer e n few = absurd (false≢true e)
outside_given Stage.AwaitsStart e n few = absurd (false≢true e)
outside_given (Stage.AwaitsStatus left) e n few = absurd (false≢true e)
outside_given Stage.Completed e n few = absurd (false≢true e)
outside_given Stage.AwaitsReport e n few = absurd (false≢true e)

outside_none : (s : Stage) → is_outside s ≡ true → (n : ℕ) → n ≡ 0 → GivenBy false s n
outside_none Stage.Outside e n none = none
outside_none Stage.AwaitsAnswer e n none = absurd (false≢true e)
outside_none Stage.AwaitsStart e n none = absurd (false≢true e)
outside_none (Stage.AwaitsStatus left) e n none = absurd (false≢true e)
outside_none Stage.Completed e n none = absurd (false≢true e)
outside_none Stage.AwaitsReport e n none = absurd (false≢true e)

outside_few : (client : ClientState) → is_outside client.stage ≡ true → GivesFew true client → GivesFew false client
outside_few client e few = record {
  inside = λ up. let w = few.inside up in record { taken = w.taken; given = w.given; counts = w.counts; few = outside_none client.stage e w.given (outside_given client.stage e w.given w.few) };
  starting = few.starting;
}

outside_at_most : (most : ℕ) (client : ClientState) → is_outside client.stage ≡ true → GivesFew true client → AtMost most client
outside_at_most most client e few up = let w = few.inside up in let none = outside_given client.stage e w.given w.few in let n = w.counts.waiting in omega (arith, none, n)

-- what is kept of a signal whose client isn't outside
record Inside (aspect : Option Aspect) (number : ℕ) (client : ClientState) : Type 0 where
  up : is_up client.link.phase ≡ true
  none : aspect ≡ None → GivesFew false client
  number_is : (a : Aspect) → aspect ≡ Some a → number ≡ client.link.given
  four : AtMost 4 client

known_after : (aspect : Option Aspect) (number : ℕ) (indicated : Option Aspect) (client : ClientState) → GivesFew true client → (is_outside client.stage ≡ false → Inside aspect number client) → FewWait (known_signal_after aspect number indicated client)
known_after aspect number indicated client few so = signal_is FewWait aspect number indicated client
    (λ e. record { gives = few; up = λ inside. absurd (false≢true (sym inside ∙ e)); none = λ f. outside_few client e few; number = λ a f. absurd (cc f); four = outside_at_most 4 client e few })
    (λ e. let i = so e in record { gives = few; up = λ inside. i.up; none = i.none; number = i.number_is; four = i.four })

at_most_after : (most : ℕ) (aspect : Option Aspect) (number : ℕ) (indicated : Option Aspect) (client : ClientState) → AtMost most client → AtMost most (known_signal_after aspect number indicated client).client
at_most_after most aspect number indicated client few = subst (AtMost most) (sym (signal_client aspect number indicated client)) few

-- ---- a part of a step that is no command

pub given_ready : (known : KnownSignalState) (aspect : Aspect) → GivenWhenReady known → known.aspect ≡ Some aspect → is_ready known.client.stage ≡ true
given_ready known aspect ready e = choose (is_ready known.client.stage) refl
  where
    choose : (b : Bool) → is_ready known.client.stage ≡ b → is_ready known.client.stage ≡ true
    choose true f = f
    choose false f = absurd (cc (sym e ∙ ready f))

module _ (known : KnownSignalState) (client : ClientState) (went : Went known.client client) (ready : GivenWhenReady known) (few : FewWait known) where
  went_at_most : (most : ℕ) → 2 ≤ most → AtMost most known.client → AtMost most client
  went_at_most most two was up = by_aspect known.aspect refl
    where
      by_aspect : (a : Option Aspect) → known.aspect ≡ a → length client.link.waiting ≤ most
      by_aspect None e = let n = few_wait client (went.few false (few.none e)) (up_open client.link.phase up) in omega (arith, n, two)
      by_aspect (Some a) e =
          let is_so = given_ready known a ready e
          in let no_more = (went.none few.gives is_so up).waiting
          in let had = was (few.up (ready_inside known.client.stage is_so))
          in omega (arith, no_more, had)

  went_few : (indicated : Option Aspect) → FewWait (known_signal_after known.aspect known.number indicated client)
  went_few indicated = known_after known.aspect known.number indicated client (went.few true few.gives) (λ inside. record {
    up = went.up inside;
    none = λ e. went.few false (few.none e);
    number_is = λ a e. few.number a e ∙ sym (went.none few.gives (given_ready known a ready e) (went.up inside)).given;
    four = went_at_most 4 (omega arith) few.four;
  })

-- ---- an aspect

-- at known stop two items wait at most: where stop was given last, none
stopped_few : (now : ℕ) (known : KnownSignalState) → is_known_signal_at_stop now known ≡ true → FewWait known → AtMost 2 known.client
stopped_few now known stopped few up = by_aspect known.aspect refl
  where
    taken : has_taken_stop known.aspect known.number (confirmed_items known.client.link) ≡ true
    taken = sym (ap (λ (b : Bool). if b then has_taken_stop known.aspect known.number (confirmed_items known.client.link) else nat_le (quiet_until known.client.link) now) up) ∙ stopped

    none_waits : (number given counted waiting : ℕ) → number ≡ given → given ≡ stops_at_greatest counted → waiting ≤ counted → nat_le number (given - waiting) ≡ true → waiting ≤ 2
    none_waits number given counted waiting all is most confirmed = grind (arith, nat_tests, all, is, most, confirmed)

    by_aspect : (a : Option Aspect) → known.aspect ≡ a → length known.client.link.waiting ≤ 2
    by_aspect None e = few_wait known.client (few.none e) (up_open known.client.link.phase up)
    by_aspect (Some Aspect.Stop) e =
        let w = few.gives.inside up
        in none_waits known.number known.client.link.given w.given (length known.client.link.waiting) (few.number Aspect.Stop e) w.counts.given_is w.counts.waiting
        (ap (λ (a : Option Aspect). has_taken_stop a known.number (confirmed_items known.client.link)) (sym e) ∙ taken)
    by_aspect (Some Aspect.Proceed) e = absurd (false≢true (ap (λ (a : Option Aspect). has_taken_stop a known.number (confirmed_items known.client.link)) (sym e) ∙ taken))
    by_aspect (Some Aspect.Slow) e = absurd (false≢true (ap (λ (a : Option Aspect). has_taken_stop a known.number (confirmed_items known.client.link)) (sym e) ∙ taken))

-- where so many wait, one more waits after an aspect
one_more : (most : ℕ) (old new : ClientState) → IsGivenOne old new → AtMost most old → AtMost (most + 1) new
one_more most old new gave few up = let o = gave.one up in let had = few o.0 in let more = o.1 in omega (arith, had, more)

given_few : (aspect : Aspect) (known : KnownSignalState) (client : ClientState) → IsGivenOne known.client client → AtMost 3 known.client → FewWait (new_signal aspect client.link.given client known)
given_few aspect known client gave few = known_after (Some aspect) client.link.given known.indicated client gave.few (λ inside. record {
  up = gave.up inside;
  none = λ e. absurd (cc e);
  number_is = λ a e. refl;
  four = one_more 3 known.client client gave few;
})

room : (most : ℕ) (client : ClientState) → most < window_size → AtMost most client → is_up client.link.phase ≡ true → length client.link.waiting < window_size
room most client below few up = let n = few up in omega (arith, n, below)

-- ---- the calls of its link

leaves_here : (place : ℕ) (more : List LinkCall) (calls : List (Node × LinkCall)) → Each LeavesWindow more → Each LeavesWindow (at_node (Signal place) calls) → Each LeavesWindow (at_node (Signal place) (noted_at (Signal place) more calls))
leaves_here place more calls leaves before = subst (Each LeavesWindow) (sym (at_itself (Signal place) calls more)) (each_both LeavesWindow (at_node (Signal place) calls) more before leaves)

leaves_noted : (place other : ℕ) (more : List LinkCall) (calls : List (Node × LinkCall)) → Each LeavesWindow more → Each LeavesWindow (at_node (Signal place) calls) → Each LeavesWindow (at_node (Signal place) (noted_at (Signal other) more calls))
leaves_noted place other more calls leaves before = decide (other == place) refl
  where
    decide : (b : Bool) → (other == place) ≡ b → Each LeavesWindow (at_node (Signal place) (noted_at (Signal other) more calls))
    decide true e = subst (λ (k : ℕ). Each LeavesWindow (at_node (Signal place) (noted_at (Signal k) more calls))) (sym (is_equal other place e)) (leaves_here place more calls leaves before)
    decide false e = subst (Each LeavesWindow) (sym (at_other (Signal place) (Signal other) e calls more)) before

-- ---- all signals

-- Set routes begin at different signals; few items wait at each signal, at most three where a route has its aspect; and no call closes
-- a signal's link for a full window.
pub record WindowsStand (table : Table) (routes : List RouteState) (signals : List KnownSignalState) (calls : List (Node × LinkCall)) : Type 0 where
  pub stops : StopsStand table routes signals
  pub few : (place : ℕ) (known : KnownSignalState) → slice_get signals place ≡ Some known → FewWait known
  pub three : (number : ℕ) (row : Row) (route : RouteState) → AtRoute table number row route routes → is_proceeding route.phase ≡ true → (known : KnownSignalState) → slice_get signals row.entry ≡ Some known → AtMost 3 known.client
  pub leaves : (place : ℕ) → Each LeavesWindow (at_node (Signal place) calls)

-- a route that has its aspect after a change had it before
pub record Had (table : Table) (number : ℕ) (row : Row) (routes : List RouteState) : Type 0 where
  pub was : RouteState
  pub at : AtRoute table number row was routes
  pub proceeds : is_proceeding was.phase ≡ true

pub had_aspect : (table : Table) (number k : ℕ) (change : RouteState → RouteState) (row : Row) (route : RouteState) (routes : List RouteState)
    → ((was : RouteState) → slice_get routes number ≡ Some was → is_proceeding (change was).phase ≡ true → is_proceeding was.phase ≡ true)
    → AtRoute table k row route (changed change number routes) → is_proceeding route.phase ≡ true → Had table k row routes
had_aspect table number k change row route routes stays at proceeds = choose (changed_at change number routes k route at.there)
  where
    choose : ((k ≡ number) × (was : RouteState) × (slice_get routes number ≡ Some was) × (route ≡ change was)) ⊎ (slice_get routes k ≡ Some route) → Had table k row routes
    choose (inl (same, was, there, is)) =
        record { was = was; at = record { row_there = at.row_there; there = ap (slice_get routes) same ∙ there }; proceeds = stays was there (ap (λ (r : RouteState). is_proceeding r.phase) (sym is) ∙ proceeds) }
    choose (inr there) = record { was = route; at = record { row_there = at.row_there; there = there }; proceeds = proceeds }

over_unproceeding : (p : Phase) → IsOver p → is_proceeding p ≡ true → ⊥
over_unproceeding Phase.Free over e = false≢true e
over_unproceeding Phase.Waiting over e = false≢true e
over_unproceeding Phase.Proceeding over e = over
over_unproceeding Phase.Withdrawn over e = false≢true e
over_unproceeding (Phase.Ended clock done) over e = false≢true e

module _ (now : ℕ) (table : Table) where
  abbrev Stand : List RouteState → List KnownSignalState → List (Node × LinkCall) → Type 0
  Stand = WindowsStand table

  goes_on : (old : ClientState) (done : ClientSoFar) → DoneBy now old done → GoesOn now old done.client
  goes_on old done (hears bytes outbox is) = hears_on bytes outbox (ap (λ (d : ClientSoFar). d.client) is)
  goes_on old done (ticks outbox is) = ticks_on outbox (ap (λ (d : ClientSoFar). d.client) is)

  is_given : (aspect : Aspect) (old : ClientState) (done : ClientSoFar) → IsCommanded now aspect old done → IsGiven now aspect old done.client
  is_given aspect old done so = record { ready = so.ready; outbox = so.outbox; is = ap (λ (d : ClientSoFar). d.client) so.is }

  -- the clock
  clock_stands : (routes : List RouteState) (signals : List KnownSignalState) (calls : List (Node × LinkCall)) → Stand routes signals calls → Stand routes (map (clocked_known_signal now) signals) calls
  clock_stands routes signals calls stand = record {
    stops = (stand_keep now table).clock routes signals stand.stops;
    few = λ place known e. let was = mapped_at (clocked_known_signal now) signals place known e
        in subst FewWait (sym was.2) (went_few was.0 (clocked now was.0.client) (clock_went now was.0.client) (stand.stops.ready place was.0 was.1) (stand.few place was.0 was.1) was.0.indicated);
    three = λ number row route there proceeds known e. let was = mapped_at (clocked_known_signal now) signals row.entry known e
        in subst (λ (k : KnownSignalState). AtMost 3 k.client) (sym was.2) (at_most_after 3 was.0.aspect was.0.number was.0.indicated (clocked now was.0.client)
        (went_at_most was.0 (clocked now was.0.client) (clock_went now was.0.client) (stand.stops.ready row.entry was.0 was.1) (stand.few row.entry was.0 was.1) 3 (omega arith) (stand.three number row route there proceeds was.0 was.1)));
    leaves = stand.leaves;
  }

  -- the client of a signal goes on
  client_stands : (place : ℕ) (known : KnownSignalState) (done : ClientSoFar) (indicated : Option Aspect) (routes : List RouteState) (signals : List KnownSignalState) (calls : List (Node × LinkCall)) → slice_get signals place ≡ Some known
      → DoneBy now known.client done → Stand routes signals calls
      → Stand routes (changed (λ old. known_signal_after known.aspect known.number indicated done.client) place signals) (noted_at (Signal place) done.calls calls)
  client_stands place known done indicated routes signals calls there by stand = record {
    stops = (stand_keep now table).client place known done.client indicated routes signals there (goes_on known.client done by) stand.stops;
    few = λ k later e. few_so k later (set_at place new signals k later e);
    three = λ number row route at proceeds later e. three_so number row route at proceeds later (set_at place new signals row.entry later e);
    leaves = λ k. leaves_noted k place done.calls calls (done_leaves now known.client done by (stand.few place known there).gives) (stand.leaves k);
  }
    where
      new : KnownSignalState
      new = known_signal_after known.aspect known.number indicated done.client

      went : Went known.client done.client
      went = done_went now known.client done by

      few_so : (k : ℕ) (later : KnownSignalState) → ((k ≡ place) × (later ≡ new)) ⊎ ((k ≢ place) × (slice_get signals k ≡ Some later)) → FewWait later
      few_so k later (inl (same, is)) = subst FewWait (sym is) (went_few known done.client went (stand.stops.ready place known there) (stand.few place known there) indicated)
      few_so k later (inr (differ, f)) = stand.few k later f

      three_so : (number : ℕ) (row : Row) (route : RouteState) → AtRoute table number row route routes → is_proceeding route.phase ≡ true → (later : KnownSignalState)
          → ((row.entry ≡ place) × (later ≡ new)) ⊎ ((row.entry ≢ place) × (slice_get signals row.entry ≡ Some later)) → AtMost 3 later.client
      three_so number row route at proceeds later (inl (same, is)) = subst (λ (k : KnownSignalState). AtMost 3 k.client) (sym is) (at_most_after 3 known.aspect known.number indicated done.client
          (went_at_most known done.client went (stand.stops.ready place known there) (stand.few place known there) 3 (omega arith) (stand.three number row route at proceeds known (ap (slice_get signals) same ∙ there))))
      three_so number row route at proceeds later (inr (differ, f)) = stand.three number row route at proceeds later f

  -- a signal is given an aspect, where three items wait at most
  module _ (aspect : Aspect) (place : ℕ) (known : KnownSignalState) (done : ClientSoFar) (routes : List RouteState) (signals : List KnownSignalState) (calls : List (Node × LinkCall)) (there : slice_get signals place ≡ Some known)
      (so : IsCommanded now aspect known.client done) (three_wait : AtMost 3 known.client) (stand : Stand routes signals calls) where
    gave : IsGivenOne known.client done.client × Each LeavesWindow done.calls
    gave = commanded_is now aspect known.client done so (room 3 known.client (omega arith) three_wait) (stand.few place known there).gives

    aspect_few : (k : ℕ) (later : KnownSignalState) → slice_get (changed (λ old. new_signal aspect done.client.link.given done.client known) place signals) k ≡ Some later → FewWait later
    aspect_few k later e = choose (set_at place (new_signal aspect done.client.link.given done.client known) signals k later e)
      where
        choose : ((k ≡ place) × (later ≡ new_signal aspect done.client.link.given done.client known)) ⊎ ((k ≢ place) × (slice_get signals k ≡ Some later)) → FewWait later
        choose (inl (same, is)) = subst FewWait (sym is) (given_few aspect known done.client gave.0 three_wait)
        choose (inr (differ, f)) = stand.few k later f

    aspect_leaves : (k : ℕ) → Each LeavesWindow (at_node (Signal k) (noted_at (Signal place) done.calls calls))
    aspect_leaves k = leaves_noted k place done.calls calls gave.1 (stand.leaves k)

  -- a route is withdrawn
  withdrawn_stands : (number : ℕ) (row : Row) (route : RouteState) (known : KnownSignalState) (done : ClientSoFar) (routes : List RouteState) (signals : List KnownSignalState) (calls : List (Node × LinkCall)) → AtRoute table number row route routes
      → is_proceeding route.phase ≡ true → slice_get signals row.entry ≡ Some known → IsCommanded now Aspect.Stop known.client done → Stand routes signals calls
      → Stand (changed (come_to Phase.Withdrawn) number routes) (changed (λ old. new_signal Aspect.Stop done.client.link.given done.client known) row.entry signals) (noted_at (Signal row.entry) done.calls calls)
  withdrawn_stands number row route known done routes signals calls at proceeds there so stand = record {
    stops = (stand_keep now table).withdraws number row route known done.client.link.given done.client routes signals at proceeds there (is_given Aspect.Stop known.client done so) stand.stops;
    few = aspect_few Aspect.Stop row.entry known done routes signals calls there so three_wait stand;
    three = λ k other other_route other_at other_proceeds later e. three_so k other other_route other_at other_proceeds later (set_at row.entry (new_signal Aspect.Stop done.client.link.given done.client known) signals other.entry later e);
    leaves = aspect_leaves Aspect.Stop row.entry known done routes signals calls there so three_wait stand;
  }
    where
      three_wait : AtMost 3 known.client
      three_wait = stand.three number row route at proceeds known there

      had : (k : ℕ) (other : Row) (other_route : RouteState) → AtRoute table k other other_route (changed (come_to Phase.Withdrawn) number routes) → is_proceeding other_route.phase ≡ true → Had table k other routes
      had k other other_route other_at other_proceeds = had_aspect table number k (come_to Phase.Withdrawn) other other_route routes (λ was e f. absurd (false≢true f)) other_at other_proceeds

      -- no other route has its aspect there
      alone : (k : ℕ) (other : Row) (other_route : RouteState) → AtRoute table k other other_route (changed (come_to Phase.Withdrawn) number routes) → is_proceeding other_route.phase ≡ true → other.entry ≡ row.entry → ⊥
      alone k other other_route other_at other_proceeds same =
          let one = had k other other_route other_at other_proceeds
          in let is : k ≡ number = stand.stops.apart k number other row one.was route one.at at same (proceeding_set one.was.phase one.proceeds) (proceeding_set route.phase proceeds)
          in let here = changed_here (come_to Phase.Withdrawn) number routes route at.there
          in let is_it = same_Some other_route (come_to Phase.Withdrawn route) (sym other_at.there ∙ (ap (slice_get (changed (come_to Phase.Withdrawn) number routes)) is ∙ here))
          in false≢true (ap (λ (r : RouteState). is_proceeding r.phase) (sym is_it) ∙ other_proceeds)

      three_so : (k : ℕ) (other : Row) (other_route : RouteState) → AtRoute table k other other_route (changed (come_to Phase.Withdrawn) number routes) → is_proceeding other_route.phase ≡ true → (later : KnownSignalState)
          → ((other.entry ≡ row.entry) × (later ≡ new_signal Aspect.Stop done.client.link.given done.client known)) ⊎ ((other.entry ≢ row.entry) × (slice_get signals other.entry ≡ Some later)) → AtMost 3 later.client
      three_so k other other_route other_at other_proceeds later (inl (same, is)) = absurd (alone k other other_route other_at other_proceeds same)
      three_so k other other_route other_at other_proceeds later (inr (differ, f)) = let one = had k other other_route other_at other_proceeds in stand.three k other one.was one.at one.proceeds later f

  fallen_stands : (number : ℕ) (row : Row) (route : RouteState) (routes : List RouteState) (signals : List KnownSignalState) (calls : List (Node × LinkCall)) → AtRoute table number row route routes → is_proceeding route.phase ≡ true
      → at signals row.entry (λ known. is_ready known.client.stage) ≡ false → Stand routes signals calls → Stand (changed (come_to Phase.Withdrawn) number routes) signals calls
  fallen_stands number row route routes signals calls there proceeds unready stand = record {
    stops = (stand_keep now table).falls number row route routes signals there proceeds unready stand.stops;
    few = stand.few;
    three = λ k other other_route other_at other_proceeds known e.
        let one = had_aspect table number k (come_to Phase.Withdrawn) other other_route routes (λ was f g. absurd (false≢true g)) other_at other_proceeds
        in stand.three k other one.was one.at one.proceeds known e;
    leaves = stand.leaves;
  }

  -- a route is given its aspect
  proceeding_stands : (number : ℕ) (row : Row) (route : RouteState) (known : KnownSignalState) (done : ClientSoFar) (change : RouteState → RouteState) (routes : List RouteState) (signals : List KnownSignalState) (calls : List (Node × LinkCall))
      → AtRoute table number row route routes → is_waiting route.phase ≡ true → route.cancelled ≡ false → ((one : RouteState) → (change one).phase ≡ Phase.Proceeding) → slice_get signals row.entry ≡ Some known
      → is_known_signal_at_stop now known ≡ true → IsCommanded now row.aspect known.client done → Stand routes signals calls
      → Stand (changed change number routes) (changed (λ old. new_signal row.aspect done.client.link.given done.client known) row.entry signals) (noted_at (Signal row.entry) done.calls calls)
  proceeding_stands number row route known done change routes signals calls at waits uncancelled proceeds there stopped so stand = record {
    stops = (stand_keep now table).rules.proceeds number row route known done.client.link.given done.client change routes signals at waits uncancelled proceeds there (is_given row.aspect known.client done so) stand.stops;
    few = aspect_few row.aspect row.entry known done routes signals calls there so three_wait stand;
    three = λ k other other_route other_at other_proceeds later e. three_so k other other_route other_at other_proceeds later (set_at row.entry new signals other.entry later e);
    leaves = aspect_leaves row.aspect row.entry known done routes signals calls there so three_wait stand;
  }
    where
      new : KnownSignalState
      new = new_signal row.aspect done.client.link.given done.client known

      two_wait : AtMost 2 known.client
      two_wait = stopped_few now known stopped (stand.few row.entry known there)

      three_wait : AtMost 3 known.client
      three_wait up = let n = two_wait up in omega (arith, n)

      gave_one : IsGivenOne known.client done.client
      gave_one = (gave row.aspect row.entry known done routes signals calls there so three_wait stand).0

      unchanged : (k : ℕ) (other : Row) (other_route : RouteState) → AtRoute table k other other_route (changed change number routes) → other.entry ≢ row.entry → slice_get routes k ≡ Some other_route
      unchanged k other other_route other_at differ = choose (changed_at change number routes k other_route other_at.there)
        where
          choose : ((k ≡ number) × (was : RouteState) × (slice_get routes number ≡ Some was) × (other_route ≡ change was)) ⊎ (slice_get routes k ≡ Some other_route) → slice_get routes k ≡ Some other_route
          choose (inl (same, was, f, is)) = absurd (differ (ap (λ (r : Row). r.entry) (same_Some other row (sym other_at.row_there ∙ (ap (slice_get table.rows) same ∙ at.row_there)))))
          choose (inr f) = f

      three_so : (k : ℕ) (other : Row) (other_route : RouteState) → AtRoute table k other other_route (changed change number routes) → is_proceeding other_route.phase ≡ true → (later : KnownSignalState)
          → ((other.entry ≡ row.entry) × (later ≡ new)) ⊎ ((other.entry ≢ row.entry) × (slice_get signals other.entry ≡ Some later)) → AtMost 3 later.client
      three_so k other other_route other_at other_proceeds later (inl (same, is)) = subst (λ (s : KnownSignalState). AtMost 3 s.client) (sym is)
          (at_most_after 3 (Some row.aspect) done.client.link.given known.indicated done.client (one_more 2 known.client done.client gave_one two_wait))
      three_so k other other_route other_at other_proceeds later (inr (differ, f)) =
          stand.three k other other_route (record { row_there = other_at.row_there; there = unchanged k other other_route other_at differ }) other_proceeds later f

  pub windows_keep : CallsKeep now table Stand
  windows_keep = record {
    clock = clock_stands;
    client = client_stands;
    point = λ place more routes signals calls stand. record {
      stops = stand.stops;
      few = stand.few;
      three = stand.three;
      leaves = λ k. subst (Each LeavesWindow) (sym (at_other (Signal k) (Point place) refl calls more)) (stand.leaves k);
    };
    detector = λ place more routes signals calls stand. record {
      stops = stand.stops;
      few = stand.few;
      three = stand.three;
      leaves = λ k. subst (Each LeavesWindow) (sym (at_other (Signal k) (Detector place) refl calls more)) (stand.leaves k);
    };
    quiet = λ number change routes signals calls quiet stand. record {
      stops = (stand_keep now table).rules.quiet number change routes signals quiet stand.stops;
      few = stand.few;
      three = λ k row route there proceeds known e. let one = had_aspect table number k change row route routes (λ was f g. quiet_aspect was (change was) (quiet was f) g) there proceeds
          in stand.three k row one.was one.at one.proceeds known e;
      leaves = stand.leaves;
    };
    withdraws = withdrawn_stands;
    falls = fallen_stands;
    proceeds = proceeding_stands;
    sets = λ route ixl calls none stand. record {
      stops = (stand_keep now table).sets route ixl tt none stand.stops;
      few = stand.few;
      three = λ k row other there proceeds known e. let one = had_aspect table route.0 k set_anew row other ixl.routes (λ was f g. absurd (false≢true g)) there proceeds
          in stand.three k row one.was one.at one.proceeds known e;
      leaves = stand.leaves;
    };
  }
    where
      quiet_aspect : (old new : RouteState) → IsQuiet old new → is_proceeding new.phase ≡ true → is_proceeding old.phase ≡ true
      quiet_aspect old new (inl (same, cancelled)) proceeds = ap is_proceeding (sym same) ∙ proceeds
      quiet_aspect old new (inr (over, undone, was, kept)) proceeds = absurd (over_unproceeding new.phase over proceeds)

-- ---- after every list of events of a station few items wait at a signal, and no step of the interlocking closes a signal's link for a full window

module _ (site : Site) (table : Table) where
  -- between two steps
  abbrev Rests : IxlState → Type 0
  Rests ixl = WindowsStand table ixl.routes ixl.known_signals []

  -- no link of a new interlocking is open
  new_few : (begins : Beginning) (entry : SignalEntry) → FewWait (new_known_signal_of site begins entry)
  unfolding new_client created
  new_few begins entry = record {
    gives = new_client_few true _ _ _ _;
    up = λ inside. absurd (false≢true (sym inside));
    none = λ f. new_client_few false _ _ _ _;
    number = λ aspect f. absurd (cc f);
    four = λ up. absurd (false≢true up);
  }

  pub new_rests : (begins : Beginning) → Rests (new_ixl site table begins)
  unfolding new_ixl at_node
  new_rests begins = record {
    stops = record {
      apart = λ a b row other_row route other_route at other_at same set other_set. let found = mapped_at new_route_of table.rows a route at.there in absurd (false≢true (ap (λ (r : RouteState). is_set r.phase) (sym found.2) ∙ set));
      stops = λ signal known e none. let found = mapped_at (new_known_signal_of site begins) site.signals signal known e in inl (ap (λ (k : KnownSignalState). k.aspect) found.2);
      ready = λ place known e unready. let found = mapped_at (new_known_signal_of site begins) site.signals place known e in ap (λ (k : KnownSignalState). k.aspect) found.2;
    };
    few = λ place known e. let found = mapped_at (new_known_signal_of site begins) site.signals place known e in subst FewWait (sym found.2) (new_few begins found.0);
    three = λ number row route at proceeds known e. let found = mapped_at new_route_of table.rows number route at.there in absurd (false≢true (ap (λ (r : RouteState). is_proceeding r.phase) (sym found.2) ∙ proceeds));
    leaves = λ place. tt;
  }

  -- after a step, with all its calls
  pub step_stands : (input : Input) (station : ClockedInterlockingState) → Rests station.ixl
      → WindowsStand table (interlocking_step site table input station).ixl.routes (interlocking_step site table input station).ixl.known_signals (interlocking_step site table input station).calls
  step_stands input station rests =
      step_held (reading_of station.clock) table (WindowsStand table) (windows_keep (reading_of station.clock) table) (key_of site) input (begun_with station.ixl empty_outbox) rests

  rests_then : (input : Input) (world : WorldState) → Rests world.interlocking.ixl → Rests (interlocking_stepped site table input world).interlocking.ixl
  unfolding at_node interlocking_stepped
  rests_then input world rests = let stand = step_stands input world.interlocking rests in record { stops = stand.stops; few = stand.few; three = stand.three; leaves = λ place. tt }

  pub reached_rests : (world : WorldState) → IsReached site table world → Rests world.interlocking.ixl
  reached_rests = always site table (λ routes signals. WindowsStand table routes signals []) new_rests rests_then

-- at most four items wait at a signal
pub four_wait : (site : Site) (table : Table) (world : WorldState) → IsReached site table world → (place : ℕ) (known : KnownSignalState) → slice_get world.interlocking.ixl.known_signals place ≡ Some known
    → is_open known.client.link.phase ≡ true → length known.client.link.waiting ≤ 4
four_wait site table world reached place known there opened = by_up (is_up known.client.link.phase) refl
  where
    few : FewWait known
    few = (reached_rests site table world reached).few place known there

    by_up : (b : Bool) → is_up known.client.link.phase ≡ b → length known.client.link.waiting ≤ 4
    by_up true e = few.four e
    by_up false e = let n = (few.gives.starting opened e).waiting in omega (arith, n)

-- and no call of a step closes a signal's link for a full window
pub step_leaves : (site : Site) (table : Table) (world : WorldState) → IsReached site table world → (input : Input) (place : ℕ) → Each LeavesWindow (at_node (Signal place) (interlocking_step site table input world.interlocking).calls)
step_leaves site table world reached input place = (step_stands site table input world.interlocking (reached_rests site table world reached)).leaves place

-- ---- the windows of a station's links, event by event, from what the interlocking gives to one of its clients in a step

module _ (laws : LawsBelow) (site : Site) (table : Table) (station : IsStation site) (once : Once site) (world : WorldState) (reached : IsReached site table world) where
  are_links : AreLinks (links site) (names_at site)
  are_links = laws.layouts_name_their_links site station once

  stands : IsStanding site world
  stands = subst (IsStanding site) (sym reached.after) (laws.stations_have_links_run site table reached.outset reached.events station once reached.lies reached.can)

  timely : AreTimely (links site) (names_at site) (links_in stands.linked)
  timely = laws.links_keep_time_run (links site) (names_at site) stands.linked.events (begun_links (names_at site) starts_at_zero) are_links (laws.links_keep_time_starts (links site) (names_at site) starts_at_zero are_links) stands.linked.may

  pub node_leaves : (node : Node) → IsNodeOf site node
      → ((input : ixl.Input) → HasClients site (interlocking_step site table input world.interlocking).ixl → Each LeavesWindow (at_node node (interlocking_step site table input world.interlocking).calls))
      → (happening : Event) → refusal site happening world ≡ None → Each (FillsNoWindowOn (link_at site node)) (events_of site table happening world)
  node_leaves node there steps happening may = event_leaves laws site table node there world (links_in stands.linked) are_links stands.whole timely stands.linked.are
      (λ other intact. (laws.stations_have_links_kept site table other world station once stands intact).whole) (λ events. Unit {0}) (λ input connection comes given clients. steps input clients) happening may tt

-- ---- no event closes a signal's link for a full window of its client

pub signal_leaves : (laws : LawsBelow) (site : Site) (table : Table) (station : IsStation site) (once : Once site) (world : WorldState) (reached : IsReached site table world) (place : ℕ) → place < length site.signals
    → (happening : Event) → refusal site happening world ≡ None → Each (FillsNoWindowOn place) (events_of site table happening world)
signal_leaves laws site table station once world reached place below = node_leaves laws site table station once world reached (Signal place) below (λ input clients. step_leaves site table world reached input place)
