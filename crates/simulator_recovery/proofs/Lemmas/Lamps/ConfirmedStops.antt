-- Where the interlocking's link to a signal holds for confirmed what was given, the authority of a withdrawn route has ended.
use Rattle.simulator_recovery.proofs.Words.Basics.{◌≡◌, ℕ, true, false, inl, refl, slice_get, sym, ap, ◌∙◌, false≢true, same_Some, ◌≢◌, ◌⊎◌, inr, zero, suc, ◌<◌, ◌==◌, ◌&&◌, Bool, if◌then◌else◌, List, Option, Some, None, subst, arith, nat_tests, none-some, ◌-◌, nat_le, ◌≤◌, length}
use Rattle.simulator_recovery.proofs.Words.Links.{reading_of, opening, ticking as link_ticking, quiet_until, beginning, may_open, requesting, OutboxState, Step, beating, entered, sending, silent, Heartbeat, LinkState, confirmed_items, is_up, settled}
use Rattle.simulator_recovery.proofs.Words.Interlockings.{IsRouteOf, is_proceeding, is_waiting, is_set, Phase, KnownSignalState, RouteState, Input, begun_with, empty_outbox, Row, Table, ClientState, is_outside, is_ready, begun, calling, fallen, ticking, Stage, come_to, count, ended, ending_authority, is_withdrawn, withdrawn, changed, stepped, StepSoFar, at_route, known_signal_after, over, with_one, with_route, at, has_taken_stop, is_at_known_stop, is_known_signal_at_stop, Phase as RoutePhase, IsTableOf}
use Rattle.simulator_recovery.proofs.Words.Stations.{Site, Beginning, new_ixl, new_known_signal_of, new_route_of, interlocking_stepped, key_of, WorldState, IsReached, Once, IsStation, ServerEnd, links}
use Rattle.simulator_recovery.proofs.Words.Recovery.{HasStopLast, IsWithdrawnFrom, NoneProceeds, IsStopTaken, HasConfirmed, GivesNoMore, IsGivenNoMore, IsStopLast, LawsBelow}
use Rattle.simulator_recovery.proofs.Words.Controllers.{Aspect}
use Rattle.simulator_recovery.proofs.Words.Machine.{Signal, IsLastGiven}
use Rattle.simulator_recovery.proofs.Lemmas.Ground.IxlAlways.{always}
use Rattle.simulator_recovery.proofs.Lemmas.Ground.IxlClients.{mapped_at, changed_at, signal_is}
use Rattle.simulator_recovery.proofs.Lemmas.Ground.SignalParts.{step_held, AtRoute, IsOver, IsQuiet, RulesKeep, behind_ending, both_rules, new_signal, ticked_held, watched_held}
use Rattle.simulator_recovery.proofs.Lemmas.Lamps.StopsGiven.{AnyCommand, StopsStand, stand_keep, changed_here, fails, is_equal, waiting_set}
use Rattle.simulator_recovery.proofs.Lemmas.Talk.ClientLinks.{up_open}
use Rattle.simulator_recovery.proofs.Lemmas.Ground.IxlSoFar.{set_at}
use Rattle.simulator_recovery.proofs.Lemmas.Ground.LinkCounts.{entered_open, tick_was_open, settled_open}
use Rattle.simulator_recovery.proofs.Lemmas.Silence.Spent.{within_some}
use Rattle.simulator_recovery.proofs.Lemmas.Lamps.SeenSignals.{SignalAt, client_same, controller_there, given_length, known_there, seen_then, signal_at}

-- ---- after every list of events a signal from which no route has its aspect was given stop last, or no aspect; and set routes begin at different signals

module _ (site : Site) (table : Table) where
  abbrev pub Standing : WorldState → Type 0
  Standing world = StopsStand table world.interlocking.ixl.routes world.interlocking.ixl.known_signals

  pub new_stands : (begins : Beginning) → StopsStand table (new_ixl site table begins).routes (new_ixl site table begins).known_signals
  unfolding new_ixl
  new_stands begins = record {
    apart = λ a b row other_row route other_route at other_at same set other_set. let found = mapped_at new_route_of table.rows a route at.there in absurd (false≢true (ap (λ (r : RouteState). is_set r.phase) (sym found.2) ∙ set));
    stops = λ signal known e none. let found = mapped_at (new_known_signal_of site begins) site.signals signal known e in inl (ap (λ (k : KnownSignalState). k.aspect) found.2);
    ready = λ place known e unready. let found = mapped_at (new_known_signal_of site begins) site.signals place known e in ap (λ (k : KnownSignalState). k.aspect) found.2;
  }

  pub stepped_stands : (input : Input) (world : WorldState) → Standing world → Standing (interlocking_stepped site table input world)
  unfolding interlocking_stepped
  stepped_stands input world stand = step_held (reading_of world.interlocking.clock) table AnyCommand (StopsStand table) (stand_keep (reading_of world.interlocking.clock) table) (key_of site) input
      (begun_with world.interlocking.ixl empty_outbox) (λ command e. tt) stand

pub standing_then : (site : Site) (table : Table) (world : WorldState) → IsReached site table world → StopsStand table world.interlocking.ixl.routes world.interlocking.ixl.known_signals
standing_then site table = always site table (StopsStand table) (new_stands site table) (stepped_stands site table)

pub stops_given : (site : Site) (table : Table) (world : WorldState) (signal : ℕ) → IsReached site table world → NoneProceeds table world.interlocking.ixl signal → HasStopLast signal world.interlocking.ixl
stops_given site table world signal reached none known there = (standing_then site table world reached).stops signal known there (λ number row route at entry. (none number row route (at.row_there, at.there) entry).1)

-- no other set route begins at the signal of a set one
pub alone : (site : Site) (table : Table) (world : WorldState) → IsReached site table world → (number other : ℕ) (row other_row : Row) (route other_route : RouteState) → IsRouteOf table world.interlocking.ixl number row route → IsRouteOf table world.interlocking.ixl other other_row other_route
    → row.entry ≡ other_row.entry → is_set route.phase ≡ true → is_set other_route.phase ≡ true → number ≡ other
alone site table world reached number other row other_row route other_route is other_is =
    (standing_then site table world reached).apart number other row other_row route other_route (record { row_there = is.0; there = is.1 }) (record { row_there = other_is.0; there = other_is.1 })

-- none proceeds from the signal of a withdrawn one, or waits to
pub none_proceeds : (site : Site) (table : Table) (world : WorldState) (signal : ℕ) → IsReached site table world → IsWithdrawnFrom table world.interlocking.ixl signal → NoneProceeds table world.interlocking.ixl signal
none_proceeds site table world signal reached is other other_row other_route other_is entry = by_phase other_route.phase refl
  where
    Rests : Phase → Type 0
    Rests p = (is_waiting p ≡ true → other_route.cancelled ≡ true) × (is_proceeding p ≡ false)

    one : is_set other_route.phase ≡ true → other_route.phase ≡ Phase.Withdrawn
    one set =
        let same = alone site table world reached other is.number other_row is.row other_route is.route other_is is.is_route (entry ∙ sym is.entry) set (ap is_set is.withdrawn)
        in ap (λ (r : RouteState). r.phase) (same_Some other_route is.route (sym other_is.1 ∙ (ap (slice_get world.interlocking.ixl.routes) same ∙ is.is_route.1))) ∙ is.withdrawn

    by_phase : (p : Phase) → other_route.phase ≡ p → Rests p
    by_phase Phase.Free e = (λ waits. absurd (false≢true waits), refl)
    by_phase Phase.Waiting e = absurd (cc (sym e ∙ one (ap is_set e)))
    by_phase Phase.Proceeding e = absurd (cc (sym e ∙ one (ap is_set e)))
    by_phase Phase.Withdrawn e = (λ waits. absurd (false≢true waits), refl)
    by_phase (Phase.Ended clock done) e = (λ waits. absurd (false≢true waits), refl)

-- ---- authority ends in the step in which stop is confirmed: no route is withdrawn whose signal is known to have taken stop, where its link is up

-- ---- a tick of an up link

opens_up : (now : ℕ) (l : LinkState) → is_up (opening now l).link.phase ≡ true → (is_up l.phase ≡ true) × (confirmed_items (opening now l).link ≡ confirmed_items l)
unfolding opening requesting beginning sending
opens_up now l up = choose (may_open k) up
  where
    k : LinkState
    k = (entered now l).link

    choose : (b : Bool) → is_up (if b then requesting k else silent k).link.phase ≡ true → (is_up l.phase ≡ true) × (confirmed_items (if b then requesting k else silent k).link ≡ confirmed_items l)
    choose true f = absurd (false≢true f)
    choose false f =
        let same = ap (λ (s : Step). s.link) (entered_open now l (up_open k.phase f)).0
        in (sym (ap (λ (x : LinkState). is_up x.phase) same) ∙ f, ap confirmed_items same)

ticks_up : (now : ℕ) (l : LinkState) → is_up (link_ticking now l).link.phase ≡ true → (is_up l.phase ≡ true) × (confirmed_items (link_ticking now l).link ≡ confirmed_items l)
unfolding link_ticking beating sending
ticks_up now l up = subst (λ (s : Step). is_up (beating s.link).link.phase ≡ true → (is_up l.phase ≡ true) × (confirmed_items (beating s.link).link ≡ confirmed_items l)) (sym (tick_was_open now l (up_open (link_ticking now l).link.phase up)).0) (choose due) up
  where
    late : LinkState
    late = record l { clock = now }

    due : Bool
    due = is_up l.phase && nat_le 300 (now - l.sent_at)

    choose : (b : Bool) → is_up (if b then sending Heartbeat late else silent late).link.phase ≡ true → (is_up l.phase ≡ true) × (confirmed_items (if b then sending Heartbeat late else silent late).link ≡ confirmed_items l)
    choose true f = (f, refl)
    choose false f = (f, refl)

-- what a client is after a tick, where its link is up then
pub record TicksUp (now : ℕ) (client after : ClientState) : Type 0 where
  pub up : is_up client.link.phase ≡ true
  pub confirmed : confirmed_items after.link ≡ confirmed_items client.link
  pub same : after.stage ≡ client.stage

pub client_ticks : (now : ℕ) (client : ClientState) (outbox : OutboxState) → is_up (ticking now (begun client outbox)).client.link.phase ≡ true → TicksUp now client (ticking now (begun client outbox)).client
unfolding ticking calling fallen
client_ticks now client outbox up = choose (is_up k.phase) refl up
  where
    k : LinkState
    k = (opening now (link_ticking now client.link).link).link

    late : ClientState
    late = record client { link = k }

    choose : (b : Bool) → is_up k.phase ≡ b → is_up (if b then late else record late { stage = Stage.Outside }).link.phase ≡ true → TicksUp now client (if b then late else record late { stage = Stage.Outside })
    choose true e f = let opened = opens_up now (link_ticking now client.link).link e in let ticked = ticks_up now client.link opened.0 in record { up = ticked.0; confirmed = opened.1 ∙ ticked.1; same = refl }
    choose false e f = absurd (false≢true (sym e ∙ f))

-- ---- what is awaited

abbrev IsAwaited : KnownSignalState → Type 0
IsAwaited known = is_up known.client.link.phase ≡ true → has_taken_stop known.aspect known.number (confirmed_items known.client.link) ≡ false

ticks_await : (now : ℕ) (known : KnownSignalState) (outbox : OutboxState) → (is_ready known.client.stage ≡ false → known.aspect ≡ None) → IsAwaited known
    → IsAwaited (known_signal_after known.aspect known.number known.indicated (ticking now (begun known.client outbox)).client)
ticks_await now known outbox ready awaited = signal_is IsAwaited known.aspect known.number known.indicated after
    (λ e up. absurd (false≢true (sym (awaited (client_ticks now known.client outbox up).up) ∙ ap (λ (a : Option Aspect). has_taken_stop a known.number (confirmed_items known.client.link))
    (ready (unready e up)))))
    (λ e up. ap (has_taken_stop known.aspect known.number) (client_ticks now known.client outbox up).confirmed ∙ awaited (client_ticks now known.client outbox up).up)
  where
    after : ClientState
    after = (ticking now (begun known.client outbox)).client

    unready : is_outside after.stage ≡ true → is_up after.link.phase ≡ true → is_ready known.client.stage ≡ false
    unready out up = by_stage after.stage out (client_ticks now known.client outbox up).same
      where
        by_stage : (s : Stage) → is_outside s ≡ true → s ≡ known.client.stage → is_ready known.client.stage ≡ false
        by_stage Stage.Outside e same = ap is_ready (sym same)
        by_stage Stage.AwaitsAnswer e same = absurd (false≢true e)
        by_stage Stage.AwaitsStart e same = absurd (false≢true e)
        by_stage (Stage.AwaitsStatus left) e same = absurd (false≢true e)
        by_stage Stage.Completed e same = absurd (false≢true e)
        by_stage Stage.AwaitsReport e same = absurd (false≢true e)

-- Set routes stand apart, and each withdrawn one awaits its stop where the link is up.
record Awaits (table : Table) (routes : List RouteState) (signals : List KnownSignalState) : Type 0 where
  stand : StopsStand table routes signals
  awaits : (number : ℕ) (row : Row) (route : RouteState) (known : KnownSignalState) → AtRoute table number row route routes → route.phase ≡ RoutePhase.Withdrawn → slice_get signals row.entry ≡ Some known → IsAwaited known

over_not : (p : RoutePhase) → IsOver p → p ≡ RoutePhase.Withdrawn → ⊥
over_not RoutePhase.Free over e = cc e
over_not (RoutePhase.Ended clock done) over e = cc e
over_not RoutePhase.Waiting over e = over
over_not RoutePhase.Proceeding over e = over
over_not RoutePhase.Withdrawn over e = over

module _ (now : ℕ) (table : Table) where
  quiet_awaits : (number : ℕ) (change : RouteState → RouteState) (routes : List RouteState) (signals : List KnownSignalState) → ((route : RouteState) → slice_get routes number ≡ Some route → IsQuiet route (change route)) → Awaits table routes signals
      → (k : ℕ) (row : Row) (route : RouteState) (known : KnownSignalState) → AtRoute table k row route (changed change number routes) → route.phase ≡ RoutePhase.Withdrawn → slice_get signals row.entry ≡ Some known → IsAwaited known
  quiet_awaits number change routes signals quiet is k row route known there withdrawn e = choose (changed_at change number routes k route there.there)
    where
      by_quiet : (was : RouteState) → IsQuiet was (change was) → (change was).phase ≡ RoutePhase.Withdrawn → was.phase ≡ RoutePhase.Withdrawn
      by_quiet was (inl (same, cancelled)) so = sym same ∙ so
      by_quiet was (inr (over, undone, set, kept)) so = absurd (over_not (change was).phase over so)

      choose : ((k ≡ number) × (was : RouteState) × (slice_get routes number ≡ Some was) × (route ≡ change was)) ⊎ (slice_get routes k ≡ Some route) → IsAwaited known
      choose (inl (same, was, f, changed_so)) = is.awaits k row was known (record { row_there = there.row_there; there = ap (slice_get routes) same ∙ f }) (by_quiet was (quiet was f) (ap (λ (r : RouteState). r.phase) (sym changed_so) ∙ withdrawn)) e
      choose (inr f) = is.awaits k row route known (record { row_there = there.row_there; there = f }) withdrawn e

  proceeding_awaits : (number : ℕ) (row : Row) (route : RouteState) (new : KnownSignalState) (change : RouteState → RouteState) (routes : List RouteState) (signals : List KnownSignalState) → AtRoute table number row route routes → is_waiting route.phase ≡ true
      → ((one : RouteState) → (change one).phase ≡ RoutePhase.Proceeding) → Awaits table routes signals
      → (k : ℕ) (other : Row) (later : RouteState) (known : KnownSignalState) → AtRoute table k other later (changed change number routes) → later.phase ≡ RoutePhase.Withdrawn → slice_get (changed (λ old. new) row.entry signals) other.entry ≡ Some known → IsAwaited known
  proceeding_awaits number row route new change routes signals there waits proceeds is k other later known later_at withdrawn e = choose (changed_at change number routes k later later_at.there)
    where
      here : slice_get routes k ≡ Some later → AtRoute table k other later routes
      here f = record { row_there = later_at.row_there; there = f }

      by_signal : slice_get routes k ≡ Some later → ((other.entry ≡ row.entry) × (known ≡ new)) ⊎ ((other.entry ≢ row.entry) × (slice_get signals other.entry ≡ Some known)) → IsAwaited known
      by_signal f (inl (same, so)) =
          let one : k ≡ number = is.stand.apart k number other row later route (here f) there same (ap is_set withdrawn) (waiting_set route.phase waits)
          in let both : later ≡ route = same_Some later route (sym f ∙ (ap (slice_get routes) one ∙ there.there))
          in absurd (false≢true (sym (ap is_waiting (ap (λ (r : RouteState). r.phase) (sym both) ∙ withdrawn)) ∙ waits))
      by_signal f (inr (differ, g)) = is.awaits k other later known (here f) withdrawn g

      choose : ((k ≡ number) × (was : RouteState) × (slice_get routes number ≡ Some was) × (later ≡ change was)) ⊎ (slice_get routes k ≡ Some later) → IsAwaited known
      choose (inl (same, was, f, so)) = absurd (cc (sym withdrawn ∙ (ap (λ (r : RouteState). r.phase) so ∙ proceeds was)))
      choose (inr f) = by_signal f (set_at row.entry new signals other.entry known e)

  ticking_awaits : (place : ℕ) (before : KnownSignalState) (outbox : OutboxState) (routes : List RouteState) (signals : List KnownSignalState) → slice_get signals place ≡ Some before → Awaits table routes signals
      → (k : ℕ) (row : Row) (route : RouteState) (known : KnownSignalState) → AtRoute table k row route routes → route.phase ≡ RoutePhase.Withdrawn
      → slice_get (changed (λ old. known_signal_after before.aspect before.number before.indicated (ticking now (begun before.client outbox)).client) place signals) row.entry ≡ Some known → IsAwaited known
  ticking_awaits place before outbox routes signals there is k row route known route_at withdrawn e = choose (changed_at (λ old. new) place signals row.entry known e)
    where
      new : KnownSignalState
      new = known_signal_after before.aspect before.number before.indicated (ticking now (begun before.client outbox)).client

      choose : ((row.entry ≡ place) × (was : KnownSignalState) × (slice_get signals place ≡ Some was) × (known ≡ new)) ⊎ (slice_get signals row.entry ≡ Some known) → IsAwaited known
      choose (inl (same, was, f, so)) = subst IsAwaited (sym so) (ticks_await now before outbox (is.stand.ready place before there) (is.awaits k row route before route_at withdrawn (ap (slice_get signals) same ∙ there)))
      choose (inr f) = is.awaits k row route known route_at withdrawn f

  awaits_keep : RulesKeep now table (Awaits table)
  awaits_keep = record {
    quiet = λ number change routes signals quiet is. record { stand = (stand_keep now table).rules.quiet number change routes signals quiet is.stand; awaits = quiet_awaits number change routes signals quiet is };
    proceeds = λ number row route known items client change routes signals there waits goes_on proceeds e so is. record {
      stand = (stand_keep now table).rules.proceeds number row route known items client change routes signals there waits goes_on proceeds e so is.stand;
      awaits = proceeding_awaits number row route (new_signal row.aspect items client known) change routes signals there waits proceeds is;
    };
    ticks = λ place known outbox routes signals there is. record { stand = (stand_keep now table).rules.ticks place known outbox routes signals there is.stand; awaits = ticking_awaits place known outbox routes signals there is };
  }

  -- ---- the second rule

  abbrev EndsSo : ℕ → Row → StepSoFar → Type 0
  EndsSo number row part = (route : RouteState) → slice_get part.ixl.routes number ≡ Some route → route.phase ≡ RoutePhase.Withdrawn → at part.ixl.known_signals row.entry (is_known_signal_at_stop now) ≡ false

  one_so : {A : Type 0} (number : ℕ) (row : Row) (found : Option A) (does : A → StepSoFar → StepSoFar) (part : StepSoFar) → ((one : A) → EndsSo number row (does one part)) → EndsSo number row part → EndsSo number row (with_one found does part)
  one_so number row None does part each is = is
  one_so number row (Some one) does part each is = each one

  -- a turn ends more, and changes no signal
  turn_so : (number many : ℕ) (row : Row) (b : Bool) (part : StepSoFar) → EndsSo number row part → EndsSo number row (if b then with_route many (come_to (RoutePhase.Ended now 0)) part else part)
  turn_so number many row false part is route e gone = is route e gone
  turn_so number many row true part is route e gone = choose (changed_at (come_to (RoutePhase.Ended now 0)) many part.ixl.routes number route e)
    where
      choose : ((number ≡ many) × (was : RouteState) × (slice_get part.ixl.routes many ≡ Some was) × (route ≡ come_to (RoutePhase.Ended now 0) was)) ⊎ (slice_get part.ixl.routes number ≡ Some route) → at part.ixl.known_signals row.entry (is_known_signal_at_stop now) ≡ false
      choose (inl (same, was, f, so)) = absurd (cc (sym gone ∙ ap (λ (r : RouteState). r.phase) so))
      choose (inr f) = is route f gone

  another_turn : (number many : ℕ) (row : Row) (part : StepSoFar) → EndsSo number row part → EndsSo number row (ending_authority now table many part)
  unfolding ending_authority at_route
  another_turn number many row part is = one_so number row (slice_get table.rows many) _ part (λ r. one_so number row (slice_get part.ixl.routes many) _ part (λ route. turn_so number many row _ part is) is) is

  own_turn : (number : ℕ) (row : Row) (part : StepSoFar) → slice_get table.rows number ≡ Some row → EndsSo number row (ending_authority now table number part)
  unfolding ending_authority at_route is_at_known_stop
  own_turn number row part there = subst (λ (found : Option Row). EndsSo number row (with_one found (λ r p. with_one (slice_get p.ixl.routes number) (λ route p. turn r route p) p) part)) (sym there) (at_place (slice_get part.ixl.routes number) refl)
    where
      turn : Row → RouteState → StepSoFar → StepSoFar
      turn r route p = if is_withdrawn route.phase && at p.ixl.known_signals r.entry (is_known_signal_at_stop now) then with_route number (come_to (RoutePhase.Ended now 0)) p else p

      by_test : (route : RouteState) → slice_get part.ixl.routes number ≡ Some route → (b : Bool) → (is_withdrawn route.phase && at part.ixl.known_signals row.entry (is_known_signal_at_stop now)) ≡ b
          → EndsSo number row (if b then with_route number (come_to (RoutePhase.Ended now 0)) part else part)
      by_test route e true due = λ one f withdrawn. absurd (cc (sym withdrawn ∙ ap (λ (r : RouteState). r.phase)
          (sym (same_Some (come_to (RoutePhase.Ended now 0) route) one (sym (changed_here (come_to (RoutePhase.Ended now 0)) number part.ixl.routes route e) ∙ f)))))
      by_test route e false due = λ one f withdrawn. second (is_withdrawn route.phase) (at part.ixl.known_signals row.entry (is_known_signal_at_stop now)) due
          (ap is_withdrawn (ap (λ (r : RouteState). r.phase) (sym (same_Some one route (sym f ∙ e))) ∙ withdrawn))
        where
          second : (a b : Bool) → (a && b) ≡ false → a ≡ true → b ≡ false
          second true b h g = h
          second false b h g = absurd (false≢true g)

      at_place : (found : Option RouteState) → slice_get part.ixl.routes number ≡ found → EndsSo number row (with_one found (λ route p. turn row route p) part)
      at_place None e = λ one f withdrawn. absurd (none-some one (sym e ∙ f))
      at_place (Some route) e = by_test route e (is_withdrawn route.phase && at part.ixl.known_signals row.entry (is_known_signal_at_stop now)) refl

  -- after the rule, of each route
  ends_so : (number : ℕ) (row : Row) (many : ℕ) (part : StepSoFar) → slice_get table.rows number ≡ Some row → number < many → EndsSo number row (over (ending_authority now table) many part)
  ends_so number row zero part there few = absurd (omega (arith, few))
  ends_so number row (suc many) part there few = decide (many == number) refl (λ fewer. ends_so number row many part there fewer)
    where
      decide : (b : Bool) → (many == number) ≡ b → (number < many → EndsSo number row (over (ending_authority now table) many part)) → EndsSo number row (ending_authority now table many (over (ending_authority now table) many part))
      decide true e behind = subst (λ (n : ℕ). EndsSo number row (ending_authority now table n (over (ending_authority now table) many part))) (sym (is_equal many number e)) (own_turn number row (over (ending_authority now table) many part) there)
      decide false e behind = another_turn number many row (over (ending_authority now table) many part) (behind (fewer e))
        where
          fewer : (many == number) ≡ false → number < many
          fewer f = grind (arith, nat_tests, f, few)

  ended_awaits : (part : StepSoFar) → StopsStand table (ended now table part).ixl.routes (ended now table part).ixl.known_signals → Awaits table (ended now table part).ixl.routes (ended now table part).ixl.known_signals
  ended_awaits part stand = record {
    stand = stand;
    awaits = λ number row route known there withdrawn e up. up_then known up (fails (ended now table part).ixl.known_signals row.entry (is_known_signal_at_stop now) known e
        (ends_so number row (count table) (withdrawn_part part) there.row_there (within_some table.rows number row there.row_there) route there.there withdrawn));
  }
    where
      withdrawn_part : StepSoFar → StepSoFar
      withdrawn_part p = withdrawn now table p

      up_then : (known : KnownSignalState) → is_up known.client.link.phase ≡ true → is_known_signal_at_stop now known ≡ false → has_taken_stop known.aspect known.number (confirmed_items known.client.link) ≡ false
      up_then known up not_known = sym (ap (λ (b : Bool). if b then has_taken_stop known.aspect known.number (confirmed_items known.client.link) else nat_le (quiet_until known.client.link) now) up) ∙ not_known

-- ---- each step, and every list of events

step_awaits : (site : Site) (table : Table) (input : Input) (world : WorldState) → Awaits table world.interlocking.ixl.routes world.interlocking.ixl.known_signals
    → Awaits table (interlocking_stepped site table input world).interlocking.ixl.routes (interlocking_stepped site table input world).interlocking.ixl.known_signals
unfolding interlocking_stepped stepped
step_awaits site table input world is =
    ticked_held now table (Awaits table) (awaits_keep now table) input _ (behind_ending now table (Awaits table) (awaits_keep now table) _ (ended_awaits now table _
    (both_rules now table AnyCommand (StopsStand table) (stand_keep now table) _ (watched_held now table AnyCommand (StopsStand table) (stand_keep now table) (key_of site) input (begun_with world.interlocking.ixl empty_outbox) (λ command e. tt) is.stand))))
  where
    now : ℕ
    now = reading_of world.interlocking.clock

new_awaits : (site : Site) (table : Table) (begins : Beginning) → Awaits table (new_ixl site table begins).routes (new_ixl site table begins).known_signals
unfolding new_ixl
new_awaits site table begins = record {
  stand = new_stands site table begins;
  awaits = λ number row route known there withdrawn e. let found = mapped_at new_route_of table.rows number route there.there in absurd (cc (sym withdrawn ∙ ap (λ (r : RouteState). r.phase) found.2));
}

pub not_outlived : (site : Site) (table : Table) (world : WorldState) (signal : ℕ) (known : KnownSignalState) → IsReached site table world → IsWithdrawnFrom table world.interlocking.ixl signal → slice_get world.interlocking.ixl.known_signals signal ≡ Some known → IsStopTaken known → ⊥
not_outlived site table world signal known reached is there taken =
    false≢true (sym ((always site table (Awaits table) (new_awaits site table) (step_awaits site table) world reached).awaits is.number is.row is.route known (record { row_there = is.is_route.0; there = is.is_route.1 }) is.withdrawn
    (ap (slice_get world.interlocking.ixl.known_signals) is.entry ∙ there) taken.0) ∙ taken.1)

-- ---- where the interlocking's link to a signal holds for confirmed what was given, the authority of a withdrawn route has ended

-- the number of stop, as the last aspect given, is how many items were given
number_is : {world : WorldState} {known : KnownSignalState} {server : ServerEnd} {signal : Signal} (s : SignalAt world known server signal) → (is_ready known.client.stage ≡ false → known.aspect ≡ None) → known.aspect ≡ Some Aspect.Stop
    → known.number ≡ known.client.link.given
number_is {known = known} s ready stop = by_stage (is_ready known.client.stage) refl
  where
    last : IsLastGiven (Some Aspect.Stop) known.number s.commands
    last = subst (λ (aspect : Option Aspect). IsLastGiven aspect known.number s.commands) stop s.last

    by_stage : (b : Bool) → is_ready known.client.stage ≡ b → known.number ≡ known.client.link.given
    by_stage true e = let n = ap length s.are ∙ given_length known.client.peer known.client.stage s.commands e in let m = last.1 in let g = s.gave in omega (arith, n, m, g)
    by_stage false e = absurd (cc (sym (ready e) ∙ stop))

-- stop is taken, where as many items are confirmed as were given with it
is_taken : (before after : KnownSignalState) (confirmed : ℕ) → IsStopLast before → IsGivenNoMore before after → (before.aspect ≡ Some Aspect.Stop → before.number ≤ confirmed) → has_taken_stop after.aspect after.number confirmed ≡ true
is_taken before after confirmed last (inl none) enough = ap (λ (aspect : Option Aspect). has_taken_stop aspect after.number confirmed) none
is_taken before after confirmed (inl none) (inr (same, number)) enough = ap (λ (aspect : Option Aspect). has_taken_stop aspect after.number confirmed) (same ∙ none)
is_taken before after confirmed (inr stop) (inr (same, number)) enough =
    ap (λ (aspect : Option Aspect). has_taken_stop aspect after.number confirmed) (same ∙ stop) ∙ (ap (λ (n : ℕ). nat_le n confirmed) number ∙ least before.number confirmed (enough stop))
  where
    least : (a b : ℕ) → a ≤ b → nat_le a b ≡ true
    least a b few = grind (arith, nat_tests, few)

-- a link that is up as the clock rules are applied was up before
pub still_up : (now : ℕ) (l : LinkState) → is_up (settled now l).phase ≡ true → is_up l.phase ≡ true
still_up now l up = sym (ap (λ (x : LinkState). is_up x.phase) (settled_open now l (up_open (settled now l).phase up)).0) ∙ up

pub confirmed_ends : LawsBelow → (site : Site) (table : Table) (old new : WorldState) (signal : ℕ) → Once site → IsStation site → IsTableOf site table → IsReached site table old → IsReached site table new → signal < length site.signals
    → HasConfirmed signal old new → NoneProceeds table old.interlocking.ixl signal → GivesNoMore signal old.interlocking.ixl new.interlocking.ixl → IsWithdrawnFrom table new.interlocking.ixl signal → ⊥
confirmed_ends laws site table old new signal once station is_table reached_old reached_new few over none no_more withdrawn =
    let was = seen_then laws site table once station is_table old reached_old
    in let is = seen_then laws site table once station is_table new reached_new
    in let below : signal < links site = omega (arith, few)
    in let before = known_there site table old was.0 was.1 signal few
    in let after = known_there site table new is.0 is.1 signal few
    in let first = controller_there site table old was.0 was.1 signal few
    in let second = controller_there site table new is.0 is.1 signal few
    in let s = signal_at laws site table old was.0 was.1 signal below over.before before.0 before.1 first.0 first.1
    in let was_client = client_same laws site table old was.0 was.1 signal below over.before before.0 before.1 first.0 first.1
    in let is_client = client_same laws site table new is.0 is.1 signal below over.behind after.0 after.1 second.0 second.1
    in let ready = (standing_then site table old reached_old).ready signal before.0 before.1
    in let enough = subst (λ (l : LinkState). before.0.client.link.given ≤ confirmed_items l) is_client (subst (λ (l : LinkState). l.given ≤ confirmed_items over.behind.client) was_client over.confirmed)
    in let taken = is_taken before.0 after.0 (confirmed_items after.0.client.link) (stops_given site table old signal reached_old none before.0 before.1) (no_more before.0 after.0 before.1 after.1)
    (λ stop. subst (λ (n : ℕ). n ≤ confirmed_items after.0.client.link) (sym (number_is s ready stop)) enough)
    in not_outlived site table new signal after.0 reached_new withdrawn after.1 (ap (λ (l : LinkState). is_up l.phase) (sym is_client) ∙ still_up (reading_of new.interlocking.clock) over.behind.client over.behind.client_up, taken)
