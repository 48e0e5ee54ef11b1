-- A route is withdrawn in the step that gives stop to its signal, whatever comes in the step, where the signal's link is ready and stays so.
use Rattle.simulator_recovery.proofs.Words.Basics.{◌≡◌, ◌≢◌, ◌⊎◌, inl, inr, ℕ, suc, ◌+◌, ◌^◌, ◌≤◌, Bool, true, false, nat_le, List, [], Option, Some, None, slice_get, refl, sym, ap, subst, ◌∙◌, arith, leb-false, leb-true, false≢true, same_Some}
use Rattle.simulator_recovery.proofs.Words.Links.{settled, reading_of, stops_at_greatest, is_up, reading, Key}
use Rattle.simulator_recovery.proofs.Words.Controllers.{Aspect}
use Rattle.simulator_recovery.proofs.Words.Interlockings.{ClientState, is_ready, ClientSoFar, begun, commanding, hearing, commanded_by, obeyed, refusal, released_at, set_anew, At, come_to, count, ending_authority, is_stop_due, is_withdrawn, ruled, stopped, withdrawing, withdrawn, IxlState, KnownSignalState, RouteState, changed, Commands, Datagram, Input, Tick, addressed, all_clocked, detector_hearing, given, known_point_hearing, known_signal_hearing, looking, looks, node_hearing, occupied_heard, stepped, ticked, watching, Detector, Node, Point, Signal, StepSoFar, begun_with, detector_after, empty_outbox, giving_aspect, noted, over, with_detector, with_one, with_route, Row, Table, is_signal_ready, Command, Refusal, Phase, giving_move}
use Rattle.simulator_recovery.proofs.Words.Stations.{Site, interlocking_stepped, key_of, WorldState, IsReached}
use Rattle.simulator_recovery.proofs.Words.Recovery.{ClientStandsByCounts}
use Rattle.simulator_spec.specs.ixl_client.declared.command.Command.{Command as ClientCommand}
use Rattle.simulator_recovery.proofs.Lemmas.RoutesGoing.AuthorityCancels.{CountsSo, command_counts}
use Rattle.simulator_recovery.proofs.Lemmas.RoutesGoing.BetweenSignals.{over_idle}
use Rattle.simulator_recovery.proofs.Lemmas.Lamps.Cancelled.{OfRoute}
use Rattle.simulator_recovery.proofs.Lemmas.Talk.ClientLinks.{commanding_stands}
use Rattle.simulator_recovery.proofs.Lemmas.Ground.DueShapes.{along_keeps, either_keeps, one_keeps, over_keeps, route_keeps, where_keeps}
use Rattle.simulator_recovery.proofs.Lemmas.Ground.IxlClients.{changed_at, signal_client}
use Rattle.simulator_recovery.proofs.Lemmas.Ground.IxlSoFar.{set_at}
use Rattle.simulator_recovery.proofs.Lemmas.Ground.SignalParts.{IsGiven, IsQuiet, RulesKeep, aspect_held, behind_ending, ending_held, looking_keeps, new_signal, over_held, ticked_held, watching_keeps}
use Rattle.simulator_recovery.proofs.Lemmas.Lamps.StopsGiven.{fails}
use Rattle.simulator_recovery.proofs.Lemmas.Windows.WaitingItems.{ready_inside}
use Rattle.simulator_recovery.proofs.Lemmas.RoutesGoing.WithdrawnSteps.{Grows, given_grows, ready_counts, rules as grow_rules, seen_known, seen_then, set_grows, step_grows}
use Rattle.simulator_recovery.proofs.Lemmas.Ground.MovedAtOnce.{moved_keeps}

quiet_so : (old new : RouteState) → IsQuiet old new → is_withdrawn old.phase ≡ false → is_withdrawn new.phase ≡ false
quiet_so old new (inl (same, kept)) is = ap is_withdrawn same ∙ is
quiet_so old new (inr (ended, undone, set, kept)) is = over_idle new.phase ended

-- where a route is changed
of_changed : (F : RouteState → Type 0) (number place : ℕ) (change : RouteState → RouteState) (routes : List RouteState) → ((was : RouteState) → slice_get routes place ≡ Some was → number ≡ place → F (change was))
    → ((one : RouteState) → slice_get routes number ≡ Some one → F one) → (one : RouteState) → slice_get (changed change place routes) number ≡ Some one → F one
of_changed F number place change routes so is one e = choose (changed_at change place routes number one e)
  where
    choose : ((number ≡ place) × (was : RouteState) × (slice_get routes place ≡ Some was) × (one ≡ change was)) ⊎ (slice_get routes number ≡ Some one) → F one
    choose (inl (same, was, f, g)) = subst F (sym g) (so was f same)
    choose (inr f) = is one f

-- ---- before the rules no route is withdrawn

module _ (now : ℕ) (table : Table) (number : ℕ) where
  abbrev Unwithdrawn : RouteState → Type 0
  Unwithdrawn route = is_withdrawn route.phase ≡ false

  abbrev NotYet : StepSoFar → Type 0
  NotYet part = OfRoute number Unwithdrawn part.ixl.routes []

  quietly : (place : ℕ) (change : RouteState → RouteState) (part : StepSoFar) → ((route : RouteState) → slice_get part.ixl.routes place ≡ Some route → IsQuiet route (change route)) → NotYet part → NotYet (with_route place change part)
  quietly place change part quiet is = of_changed Unwithdrawn number place change part.ixl.routes (λ was e same. quiet_so was (change was) (quiet was e) (is was (ap (slice_get part.ixl.routes) same ∙ e))) is

  hears_not : (bytes : List ℕ) (node : Node) (part : StepSoFar) → NotYet part → NotYet (node_hearing now table bytes node part)
  unfolding node_hearing known_signal_hearing known_point_hearing detector_hearing
  hears_not bytes (Signal place) part is = one_keeps NotYet (slice_get part.ixl.known_signals place) _ part (λ known e. is) is
  hears_not bytes (Point place) part is = one_keeps NotYet (slice_get part.ixl.known_points place) _ part (λ known e. is) is
  hears_not bytes (Detector place) part is = one_keeps NotYet (slice_get table.detectors place) _ part (λ sections f. one_keeps NotYet (slice_get part.ixl.detectors place) _ part (λ known e.
      let done = hearing now bytes (begun known.client part.outbox)
      in along_keeps NotYet (looking table) (looking_keeps now table NotYet quietly) (looks sections known done.heard done.client)
      (with_detector place (detector_after (occupied_heard done.heard known.occupied) done.client) (noted (Detector place) done part)) is) is) is

  obeyed_not : (command : Command) (part : StepSoFar) → NotYet part → NotYet (record part { ixl = obeyed now command part.ixl })
  unfolding obeyed
  obeyed_not (Command.Request route) part is = of_changed Unwithdrawn number route.0 set_anew part.ixl.routes (λ was e same. refl) is
  obeyed_not (Command.Cancel route) part is = of_changed Unwithdrawn number route.0 (λ old. record old { cancelled = true }) part.ixl.routes (λ was e same. is was (ap (slice_get part.ixl.routes) same ∙ e)) is
  obeyed_not Command.Resume part is = is
  obeyed_not (Command.Release route) part is = of_changed Unwithdrawn number route.0 (released_at now) part.ixl.routes (λ was e same. is was (ap (slice_get part.ixl.routes) same ∙ e)) is
  obeyed_not (Command.Move point side) part is = is
  obeyed_not (Command.Close named) part is = is
  obeyed_not (Command.Open named) part is = is

  commanded_not : (cause : Option Refusal) (command : Command) (part : StepSoFar) → NotYet part → NotYet (record part { ixl = commanded_by now cause command part.ixl })
  commanded_not None command part is = obeyed_not command part is
  commanded_not (Some cause) command part is = is

  heard_not : (bytes : List ℕ) (found : Option Node) (part : StepSoFar) → NotYet part → NotYet (with_one found (node_hearing now table bytes) part)
  heard_not bytes None part is = is
  heard_not bytes (Some node) part is = hears_not bytes node part is

  given_not : (key : Key) (input : Input) (part : StepSoFar) → NotYet part → NotYet (given now table key input part)
  unfolding given giving_move
  given_not key Tick part is = is
  given_not key (Datagram bytes) part is = heard_not bytes (addressed (reading key bytes) part.ixl) part is
  given_not key (Commands command) part is =
      moved_keeps NotYet now table (λ point side q available all. one_keeps NotYet (slice_get q.ixl.known_points point) _ q (λ known e. all) all)
      (refusal now table command part.ixl) command part refl (commanded_not (refusal now table command part.ixl) command part is)

  clocked_not : (part : StepSoFar) → NotYet part → NotYet (record part { ixl = all_clocked now part.ixl })
  unfolding all_clocked
  clocked_not part is = is

  seen_not : (key : Key) (input : Input) (part : StepSoFar) → NotYet part → NotYet (over (watching table) (count table) (given now table key input (record part { ixl = all_clocked now part.ixl })))
  seen_not key input part is = over_keeps NotYet (watching table) (watching_keeps now table NotYet quietly) (count table) _ (given_not key input (record part { ixl = all_clocked now part.ixl }) (clocked_not part is))

-- ---- the rules

-- a route is withdrawn where its signal was given more
record Falls (number signal items more : ℕ) (routes : List RouteState) (signals : List KnownSignalState) : Type 0 where
  grows : (known : KnownSignalState) → slice_get signals signal ≡ Some known → Grows items known.client
  past : (route : RouteState) → slice_get routes number ≡ Some route → is_withdrawn route.phase ≡ true → (known : KnownSignalState) → slice_get signals signal ≡ Some known → Grows more known.client

module _ (now : ℕ) (table : Table) (number : ℕ) (row : Row) (row_there : slice_get table.rows number ≡ Some row) (items more : ℕ) (small : more ≤ 2 ^ 31) (little : more ≤ suc items) where
  abbrev FallsSo : List RouteState → List KnownSignalState → Type 0
  FallsSo = Falls number row.entry items more

  abbrev Past : List KnownSignalState → RouteState → Type 0
  Past signals route = is_withdrawn route.phase ≡ true → (known : KnownSignalState) → slice_get signals row.entry ≡ Some known → Grows more known.client

  -- an aspect is an item more
  given_more : (aspect : Aspect) (many : ℕ) (known : KnownSignalState) (client : ClientState) → IsGiven now aspect known.client client → Grows items known.client → Grows more (new_signal aspect many client known).client
  given_more aspect many known client is grows = subst (Grows more) (sym (signal_client (Some aspect) many known.indicated client ∙ is.is))
      (commanding_stands now (ClientCommand.Indicate aspect) (begun known.client is.outbox) grows.0, enough)
    where
      done : ClientSoFar
      done = commanding now (ClientCommand.Indicate aspect) (begun known.client is.outbox)

      one_more : (n before after : ℕ) → before ≡ stops_at_greatest n → after ≡ stops_at_greatest (n + 1) → items ≤ before → more ≤ after
      one_more n before after was is_now least = omega (arith, was, is_now, least, small, little)

      enough : is_ready done.client.stage ≡ true → more ≤ done.client.link.given
      enough ready =
          let has = ready_counts known.client.link.given known.client grows.0 is.ready refl
          in let then_has = command_counts now (ClientCommand.Indicate aspect) (begun known.client is.outbox) has.taken has.many (ready_inside done.client.stage ready) has.counts
          in one_more has.many known.client.link.given done.client.link.given has.counts.given_is then_has.given_is (grows.1 is.ready)

  falls_rules : RulesKeep now table FallsSo
  falls_rules = record {
    quiet = λ place change routes signals quiet falls. record {
      grows = falls.grows;
      past = of_changed (Past signals) number place change routes (λ was e same. quietly_past signals was (change was) (quiet was e) (falls.past was (ap (slice_get routes) same ∙ e))) falls.past;
    };
    proceeds = λ place other route known many client change routes signals at waits goes proceeding there given falls. record {
      grows = (grow_rules now table row.entry items).proceeds place other route known many client change routes signals at waits goes proceeding there given falls.grows;
      past = of_changed (Past (changed (λ old. new_signal other.aspect many client known) other.entry signals)) number place change routes
          (λ was e same withdrawn. absurd (false≢true (sym (ap is_withdrawn (proceeding was)) ∙ withdrawn)))
          (λ one e withdrawn. (grow_rules now table row.entry more).proceeds place other route known many client change routes signals at waits goes proceeding there given (falls.past one e withdrawn));
    };
    ticks = λ place known outbox routes signals there falls. record {
      grows = (grow_rules now table row.entry items).ticks place known outbox routes signals there falls.grows;
      past = λ one e withdrawn. (grow_rules now table row.entry more).ticks place known outbox routes signals there (falls.past one e withdrawn);
    };
  }
    where
      quietly_past : (signals : List KnownSignalState) (old new : RouteState) → IsQuiet old new → Past signals old → Past signals new
      quietly_past signals old new (inl (same, kept)) past withdrawn = past (ap is_withdrawn (sym same) ∙ withdrawn)
      quietly_past signals old new (inr (ended, undone, set, kept)) past withdrawn = absurd (false≢true (sym (over_idle new.phase ended) ∙ withdrawn))

  abbrev FallsIn : StepSoFar → Type 0
  FallsIn part = FallsSo part.ixl.routes part.ixl.known_signals

  -- a route is withdrawn: where it is this one its signal is given stop, if it is ready
  module _ (place : ℕ) (other : Row) (there : slice_get table.rows place ≡ Some other) (part : StepSoFar) (falls : FallsIn part) where
    same_entry : number ≡ place → row.entry ≡ other.entry
    same_entry same = ap (λ (r : Row). r.entry) (same_Some row other (sym row_there ∙ (ap (slice_get table.rows) same ∙ there)))

    gives_stop : (known : KnownSignalState) (many : ℕ) (client : ClientState) → slice_get part.ixl.known_signals other.entry ≡ Some known → IsGiven now Aspect.Stop known.client client
        → FallsSo (changed (come_to Phase.Withdrawn) place part.ixl.routes) (changed (λ old. new_signal Aspect.Stop many client known) other.entry part.ixl.known_signals)
    gives_stop known many client e given = record {
      grows = set_grows now table row.entry items other.entry new part.ixl.routes part.ixl.known_signals
          (λ same. given_grows now table row.entry items Aspect.Stop many known client given (falls.grows known (ap (slice_get part.ixl.known_signals) (sym same) ∙ e))) falls.grows;
      past = of_changed (Past (changed (λ old. new) other.entry part.ixl.known_signals)) number place (come_to Phase.Withdrawn) part.ixl.routes
          (λ was f same withdrawn later g. its_own same later (set_at other.entry new part.ixl.known_signals row.entry later g))
          (λ one f withdrawn. set_grows now table row.entry more other.entry new part.ixl.routes part.ixl.known_signals
          (λ same. given_grows now table row.entry more Aspect.Stop many known client given (falls.past one f withdrawn known (ap (slice_get part.ixl.known_signals) (sym same) ∙ e))) (falls.past one f withdrawn));
    }
      where
        new : KnownSignalState
        new = new_signal Aspect.Stop many client known

        its_own : number ≡ place → (later : KnownSignalState) → ((row.entry ≡ other.entry) × (later ≡ new)) ⊎ ((row.entry ≢ other.entry) × (slice_get part.ixl.known_signals row.entry ≡ Some later)) → Grows more later.client
        its_own same later (inl (entry, is)) = subst (λ (k : KnownSignalState). Grows more k.client) (sym is)
            (given_more Aspect.Stop many known client given (falls.grows known (ap (slice_get part.ixl.known_signals) entry ∙ e)))
        its_own same later (inr (differ, g)) = absurd (differ (same_entry same))

    gives_none : is_signal_ready part.ixl other.entry ≡ false → FallsSo (changed (come_to Phase.Withdrawn) place part.ixl.routes) part.ixl.known_signals
    gives_none unready = record {
      grows = falls.grows;
      past = of_changed (Past part.ixl.known_signals) number place (come_to Phase.Withdrawn) part.ixl.routes
          (λ was f same withdrawn known e. (
            (falls.grows known e).0,
            λ ready. absurd (false≢true (sym (fails part.ixl.known_signals other.entry (λ k. is_ready k.client.stage) known (ap (slice_get part.ixl.known_signals) (sym (same_entry same)) ∙ e) unready) ∙ ready)),
          )) falls.past;
    }

    falls_there : FallsIn (stopped now other (with_route place (come_to Phase.Withdrawn) part))
    falls_there = either_keeps FallsIn (is_signal_ready part.ixl other.entry) (giving_aspect now other.entry Aspect.Stop (with_route place (come_to Phase.Withdrawn) part)) (with_route place (come_to Phase.Withdrawn) part)
        (λ ready. aspect_held now table FallsSo falls_rules other.entry Aspect.Stop (with_route place (come_to Phase.Withdrawn) part) ready (λ known many client e given. gives_stop known many client e given)) gives_none

  withdrawing_falls : (place : ℕ) (part : StepSoFar) → FallsIn part → FallsIn (withdrawing now table place part)
  unfolding withdrawing
  withdrawing_falls place part falls = route_keeps FallsIn table place _ part (λ other route there here. where_keeps FallsIn (is_stop_due table part.ixl other route) part _ (λ due. falls_there place other there part falls) falls) falls

  rules_fall : (input : Input) (part : StepSoFar) → FallsIn part → FallsIn (ticked now input (ruled now table part))
  rules_fall input part falls = ticked_held now table FallsSo falls_rules input (ruled now table part) (behind_ending now table FallsSo falls_rules part
      (over_held now table FallsSo falls_rules (ending_authority now table) (ending_held now table FallsSo falls_rules) (count table) (withdrawn now table part)
      (over_held now table FallsSo falls_rules (withdrawing now table) withdrawing_falls (count table) part falls)))

-- ---- a step

-- a route is withdrawn where its signal was given so many items, while this is ready
abbrev pub IsPastIn : ℕ → ℕ → ℕ → IxlState → Type 0
IsPastIn number signal more ixl = (route : RouteState) → slice_get ixl.routes number ≡ Some route → is_withdrawn route.phase ≡ true
    → (known : KnownSignalState) → slice_get ixl.known_signals signal ≡ Some known → is_ready known.client.stage ≡ true → more ≤ known.client.link.given

module _ (site : Site) (table : Table) (number : ℕ) (row : Row) (row_there : slice_get table.rows number ≡ Some row) (input : Input) (world : WorldState) (known : KnownSignalState) (reached : IsReached site table world)
    (there : slice_get world.interlocking.ixl.known_signals row.entry ≡ Some known) (ready : is_ready known.client.stage ≡ true) (up : is_up (settled (reading_of world.interlocking.clock) known.client.link).phase ≡ true) (stands : ClientStandsByCounts known.client)
    (more : ℕ) (small : more ≤ 2 ^ 31) (little : more ≤ suc known.client.link.given) where
  -- where it isn't withdrawn before
  not_yet : OfRoute number (λ route. is_withdrawn route.phase ≡ false) world.interlocking.ixl.routes [] → IsPastIn number row.entry more (interlocking_stepped site table input world).interlocking.ixl
  unfolding interlocking_stepped stepped
  not_yet unwithdrawn route is withdrawn later later_there = ((rules_fall now table number row row_there known.client.link.given more small little input seen falls).past route is withdrawn later later_there).1
    where
      now : ℕ
      now = reading_of world.interlocking.clock

      seen : StepSoFar
      seen = seen_then site table row.entry input world known reached there ready up stands

      counted : At seen.ixl.known_signals row.entry (λ one. ClientStandsByCounts one.client × (is_ready one.client.stage ≡ true → CountsSo known.client.link.given one.client))
      counted = seen_known site table row.entry input world known reached there ready up stands

      falls : Falls number row.entry known.client.link.given more seen.ixl.routes seen.ixl.known_signals
      falls = record {
        grows = λ one e. subst (λ (k : KnownSignalState). Grows known.client.link.given k.client) (same_Some counted.0 one (sym counted.1 ∙ e)) (counted.2.0, λ is_ready_then. let has = counted.2.1 is_ready_then in let are = has.are in omega (arith, are));
        past = λ one e so. absurd (false≢true (sym (seen_not now table number (key_of site) input (begun_with world.interlocking.ixl empty_outbox) unwithdrawn one e) ∙ so));
      }

  pub stepped_past : IsPastIn number row.entry more world.interlocking.ixl → IsPastIn number row.entry more (interlocking_stepped site table input world).interlocking.ixl
  stepped_past past = by_count (nat_le more known.client.link.given) refl
    where
      unwithdrawn : (nat_le more known.client.link.given ≡ false) → (route : RouteState) → slice_get world.interlocking.ixl.routes number ≡ Some route → (b : Bool) → is_withdrawn route.phase ≡ b → is_withdrawn route.phase ≡ false
      unwithdrawn few route is false e = e
      unwithdrawn few route is true e = let least = past route is e known there ready in let less = leb-false _ _ few in absurd (omega (arith, least, less))

      by_count : (b : Bool) → nat_le more known.client.link.given ≡ b → IsPastIn number row.entry more (interlocking_stepped site table input world).interlocking.ixl
      by_count true e = λ route is withdrawn later later_there later_ready.
          let least = leb-true _ _ e
          in let grown = step_grows site table row.entry input world known reached there ready up stands later later_there later_ready
          in omega (arith, least, grown)
      by_count false e = not_yet (λ route is. unwithdrawn e route is (is_withdrawn route.phase) refl)
