-- In a step in which a route loses its aspect its signal is given stop; or the route keeps it.
use Rattle.simulator_recovery.proofs.Words.Basics.{◌≡◌, ◌≢◌, ◌⊎◌, inl, inr, ℕ, ◌+◌, ◌≤◌, ◌==◌, Bool, true, false, not, List, [], Option, Some, None, slice_get, refl, sym, ap, subst, ◌∙◌, arith, ◌||◌, false≢true, same_Some}
use Rattle.simulator_recovery.proofs.Words.Links.{settled, reading_of, OutboxState, stops_at_greatest, LinkState, is_up, reading, Key}
use Rattle.simulator_recovery.proofs.Words.Controllers.{Aspect}
use Rattle.simulator_recovery.proofs.Words.Interlockings.{ClientState, is_ready, ClientSoFar, begun, clocked, commanding, hearing, ticking, commanded_by, obeyed, refusal, set_anew, At, come_to, count, ending_authority, is_proceeding, is_stop_due, is_withdrawn, ruled, stopped, withdrawing, withdrawn, KnownSignalState, RouteState, changed, Commands, Datagram, Input, Tick, addressed, all_clocked, clocked_known_signal, detector_hearing, given, known_point_hearing, known_signal_hearing, looking, looking_by, looks, node_hearing, occupied_heard, stepped, ticked, watching, Detector, Node, Point, Signal, StepSoFar, begun_with, detector_after, empty_outbox, giving_aspect, known_signal_after, noted, over, with_detector, with_one, with_route, Row, Table, is_signal_ready, was_authorised, Command, Refusal, Phase, giving_move, moved_at_once}
use Rattle.simulator_recovery.proofs.Words.Stations.{Site, RouteId, Event, interlocking_stepped, key_of, WorldState, IsReached}
use Rattle.simulator_recovery.proofs.Words.Recovery.{ClientStandsByCounts, SetsNot}
use Rattle.simulator_spec.specs.ixl_client.declared.command.Command.{Command as ClientCommand}
use Rattle.simulator_recovery.proofs.Lemmas.Windows.SignalWindows.{reached_rests}
use Rattle.simulator_recovery.proofs.Lemmas.Ground.AspectCalls.{hears as hears_so}
use Rattle.simulator_recovery.proofs.Lemmas.RoutesGoing.AuthorityCancels.{CountsSo, clocked_there, command_counts}
use Rattle.simulator_recovery.proofs.Lemmas.Lamps.Cancelled.{NoCommand as NoOne, OfRoute, RouteKeeps, none_comes, route_keep}
use Rattle.simulator_recovery.proofs.Lemmas.Talk.ClientLinks.{ClockedStands, clocked_stands, commanding_stands, hearing_stands, ticking_stands, up_open}
use Rattle.simulator_recovery.proofs.Lemmas.RoutesComing.DueKnown.{inside_ticks}
use Rattle.simulator_recovery.proofs.Lemmas.Ground.IxlClients.{changed_at, signal_client}
use Rattle.simulator_recovery.proofs.Lemmas.Ground.IxlSoFar.{set_at}
use Rattle.simulator_recovery.proofs.Lemmas.Ground.DueShapes.{along_keeps, either_keeps, one_keeps, over_keeps, route_keeps, where_keeps}
use Rattle.simulator_recovery.proofs.Lemmas.Windows.FewItems.{GivesFew}
use Rattle.simulator_recovery.proofs.Lemmas.RoutesComing.RoutesGround.{clocked_up}
use Rattle.simulator_recovery.proofs.Lemmas.Ground.SignalParts.{IsGiven, PartsKeep, RulesKeep, aspect_held, behind_ending, both_rules, clocked_held, ending_held, new_signal, over_held, step_held, ticked_held, watching_held}
use Rattle.simulator_recovery.proofs.Lemmas.Talk.StationTalk.{clocked_link}
use Rattle.simulator_recovery.proofs.Lemmas.Lamps.StopsGiven.{changed_elsewhere, changed_here, differs, is_equal}
use Rattle.simulator_recovery.proofs.Lemmas.Windows.WaitingItems.{clock_went, done_went, ready_inside, ticked_none}
use Rattle.simulator_recovery.proofs.Lemmas.Ground.MovedAtOnce.{moved_keeps}

-- ---- a client that is ready

-- a client that is ready is up
ready_up : (client : ClientState) → ClientStandsByCounts client → is_ready client.stage ≡ true → is_up client.link.phase ≡ true
ready_up client stands ready = by_up (is_up client.link.phase) refl
  where
    by_up : (b : Bool) → is_up client.link.phase ≡ b → is_up client.link.phase ≡ true
    by_up true e = e
    by_up false e = absurd (false≢true (sym (ready_inside client.stage ready) ∙ (stands.outside ∙ ap not e)))

-- it stands by its counts
pub ready_counts : (items : ℕ) (client : ClientState) → ClientStandsByCounts client → is_ready client.stage ≡ true → client.link.given ≡ items → CountsSo items client
ready_counts items client stands ready are =
    let by_stage = stands.stands (up_open client.link.phase (ready_up client stands ready))
    in record { taken = by_stage.taken; many = by_stage.given; counts = by_stage.counts; are = are }

-- it stands by its counts, and has given so many where it is ready
abbrev ClientCounts : ℕ → ClientState → Type 0
ClientCounts items client = ClientStandsByCounts client × (is_ready client.stage ≡ true → CountsSo items client)

-- What is so of it after the clock, and after what comes where it is ready still.
record ReadySo (now items : ℕ) (known : KnownSignalState) : Type 0 where
  stands : ClockedStands now known.client
  few : GivesFew true known.client
  ready : is_ready known.client.stage ≡ true
  are : known.client.link.given ≡ items

abbrev Counted : ℕ → KnownSignalState → Type 0
Counted items known = ClientCounts items known.client

counted_so : (now items : ℕ) (known : KnownSignalState) → ReadySo now items known → Counted items known
counted_so now items known so = (so.stands.stands, λ ready. ready_counts items known.client so.stands.stands ready so.are)

-- nothing is given by what it hears
heard_so : (now items : ℕ) (bytes : List ℕ) (known : KnownSignalState) (outbox : OutboxState) → ReadySo now items known → is_ready (hearing now bytes (begun known.client outbox)).client.stage ≡ true
    → CountsSo items (hearing now bytes (begun known.client outbox)).client
heard_so now items bytes known outbox so ready =
    let went = done_went now known.client (hearing now bytes (begun known.client outbox)) (hears_so bytes outbox refl)
    in let none = went.none so.few so.ready (went.up (ready_inside _ ready))
    in ready_counts items (hearing now bytes (begun known.client outbox)).client (hearing_stands now bytes (begun known.client outbox) so.stands) ready (none.given ∙ so.are)

-- ---- a signal of a list

at_set : (F : KnownSignalState → Type 0) (signal place : ℕ) (new : KnownSignalState) (signals : List KnownSignalState) → (place ≡ signal → F new) → At signals signal F → At (changed (λ old. new) place signals) signal F
at_set F signal place new signals so is = decide (signal == place) refl
  where
    decide : (b : Bool) → (signal == place) ≡ b → At (changed (λ old. new) place signals) signal F
    decide true e =
        let same : signal ≡ place = is_equal signal place e
        in (new, ap (slice_get (changed (λ old. new) place signals)) same ∙ changed_here (λ old. new) place signals is.0 (ap (slice_get signals) (sym same) ∙ is.1), so (sym same))
    decide false e = (is.0, changed_elsewhere (λ old. new) place signal signals (differs signal place e) ∙ is.1, is.2)

-- ---- what comes in a step

module _ (now : ℕ) (table : Table) (signal items : ℕ) where
  abbrev Ready : StepSoFar → Type 0
  Ready part = At part.ixl.known_signals signal (ReadySo now items)

  abbrev Counts : StepSoFar → Type 0
  Counts part = At part.ixl.known_signals signal (Counted items)

  counts : (part : StepSoFar) → Ready part → Counts part
  counts part is = (is.0, is.1, counted_so now items is.0 is.2)

  looking_counts : (look : ℕ × Bool) (part : StepSoFar) → Counts part → Counts (looking table look part)
  unfolding looking_by
  looking_counts look part is = over_keeps Counts (looking_by look.0 look.1 table) (λ number q all. route_keeps Counts table number _ q (λ row route there here. where_keeps Counts (was_authorised route.phase) q _ (λ due. all) all) all) (count table) part is

  hearing_counts : (bytes : List ℕ) (node : Node) (part : StepSoFar) → Ready part → Counts (node_hearing now table bytes node part)
  unfolding node_hearing known_signal_hearing known_point_hearing detector_hearing
  hearing_counts bytes (Signal place) part is = one_keeps Counts (slice_get part.ixl.known_signals place) _ part (λ known e. at_set (Counted items) signal place _ part.ixl.known_signals (λ same. heard known e same _) (counts part is)) (counts part is)
    where
      heard : (known : KnownSignalState) → slice_get part.ixl.known_signals place ≡ Some known → place ≡ signal → (indicated : Option Aspect)
          → Counted items (known_signal_after known.aspect known.number indicated (hearing now bytes (begun known.client part.outbox)).client)
      heard known e same indicated = subst (ClientCounts items) (sym (signal_client known.aspect known.number indicated (hearing now bytes (begun known.client part.outbox)).client))
          (let so : ReadySo now items known = subst (ReadySo now items) (same_Some is.0 known (sym is.1 ∙ (ap (slice_get part.ixl.known_signals) (sym same) ∙ e))) is.2
          in (hearing_stands now bytes (begun known.client part.outbox) so.stands, heard_so now items bytes known part.outbox so))
  hearing_counts bytes (Point place) part is = one_keeps Counts (slice_get part.ixl.known_points place) _ part (λ known e. counts part is) (counts part is)
  hearing_counts bytes (Detector place) part is = one_keeps Counts (slice_get table.detectors place) _ part (λ sections f. one_keeps Counts (slice_get part.ixl.detectors place) _ part (λ known e.
      let done = hearing now bytes (begun known.client part.outbox)
      in along_keeps Counts (looking table) looking_counts (looks sections known done.heard done.client)
      (with_detector place (detector_after (occupied_heard done.heard known.occupied) done.client) (noted (Detector place) done part)) (counts part is)) (counts part is)) (counts part is)

  heard_at : (bytes : List ℕ) (found : Option Node) (part : StepSoFar) → Ready part → Counts (with_one found (node_hearing now table bytes) part)
  heard_at bytes None part is = counts part is
  heard_at bytes (Some node) part is = hearing_counts bytes node part is

  obeyed_counts : (command : Command) (part : StepSoFar) → Ready part → Counts (record part { ixl = obeyed now command part.ixl })
  unfolding obeyed
  obeyed_counts (Command.Request route) part is = counts part is
  obeyed_counts (Command.Cancel route) part is = counts part is
  obeyed_counts Command.Resume part is = counts part is
  obeyed_counts (Command.Release route) part is = counts part is
  obeyed_counts (Command.Move point side) part is = counts part is
  obeyed_counts (Command.Close named) part is = counts part is
  obeyed_counts (Command.Open named) part is = counts part is

  commanded_counts : (cause : Option Refusal) (command : Command) (part : StepSoFar) → Ready part → Counts (record part { ixl = commanded_by now cause command part.ixl })
  commanded_counts None command part is = obeyed_counts command part is
  commanded_counts (Some cause) command part is = counts part is

  given_counts : (key : Key) (input : Input) (part : StepSoFar) → Ready part → Counts (given now table key input part)
  unfolding given giving_move
  given_counts key Tick part is = counts part is
  given_counts key (Datagram bytes) part is = heard_at bytes (addressed (reading key bytes) part.ixl) part is
  given_counts key (Commands command) part is =
      moved_keeps Counts now table (λ point side q available all. one_keeps Counts (slice_get q.ixl.known_points point) _ q (λ known e. all) all)
      (refusal now table command part.ixl) command part refl (commanded_counts (refusal now table command part.ixl) command part is)

  watching_counts : (number : ℕ) (part : StepSoFar) → Counts part → Counts (watching table number part)
  unfolding watching
  watching_counts number part is = route_keeps Counts table number _ part (λ row route there here. where_keeps Counts (is_proceeding route.phase || is_withdrawn route.phase) part _ (λ due. is) is) is

  -- before the rules
  seen_counts : (key : Key) (input : Input) (part : StepSoFar) → Ready part → Counts (over (watching table) (count table) (given now table key input part))
  seen_counts key input part is = over_keeps Counts (watching table) watching_counts (count table) _ (given_counts key input part is)

-- ---- what is given by the rules

-- it stands by its counts, and has given so many at least where it is ready
abbrev pub Grows : ℕ → ClientState → Type 0
Grows items client = ClientStandsByCounts client × (is_ready client.stage ≡ true → items ≤ client.link.given)

pub counts_grow : (n : ℕ) → stops_at_greatest n ≤ stops_at_greatest (n + 1)
counts_grow n = omega arith

module _ (now : ℕ) (table : Table) (signal items : ℕ) where
  abbrev pub GrowsAmong : List RouteState → List KnownSignalState → Type 0
  GrowsAmong routes signals = (known : KnownSignalState) → slice_get signals signal ≡ Some known → Grows items known.client

  pub set_grows : (place : ℕ) (new : KnownSignalState) (routes : List RouteState) (signals : List KnownSignalState) → (place ≡ signal → Grows items new.client) → GrowsAmong routes signals → GrowsAmong routes (changed (λ old. new) place signals)
  set_grows place new routes signals so is known e = choose (set_at place new signals signal known e)
    where
      choose : ((signal ≡ place) × (known ≡ new)) ⊎ ((signal ≢ place) × (slice_get signals signal ≡ Some known)) → Grows items known.client
      choose (inl (same, f)) = subst (λ (k : KnownSignalState). Grows items k.client) (sym f) (so (sym same))
      choose (inr (differ, f)) = is known f

  -- an aspect
  pub given_grows : (aspect : Aspect) (number : ℕ) (known : KnownSignalState) (client : ClientState) → IsGiven now aspect known.client client → Grows items known.client → Grows items (new_signal aspect number client known).client
  given_grows aspect number known client is grows = subst (Grows items) (sym (signal_client (Some aspect) number known.indicated client ∙ is.is))
      (commanding_stands now (ClientCommand.Indicate aspect) (begun known.client is.outbox) grows.0, more)
    where
      done : ClientSoFar
      done = commanding now (ClientCommand.Indicate aspect) (begun known.client is.outbox)

      more : is_ready done.client.stage ≡ true → items ≤ done.client.link.given
      more ready =
          let has = ready_counts known.client.link.given known.client grows.0 is.ready refl
          in let then_has = command_counts now (ClientCommand.Indicate aspect) (begun known.client is.outbox) has.taken has.many (ready_inside done.client.stage ready) has.counts
          in let before = has.counts.given_is
          in let after = then_has.given_is
          in let most = counts_grow has.many
          in let least = grows.1 is.ready
          in omega (arith, before, after, most, least)

  -- a tick
  ticks_grow : (known : KnownSignalState) (outbox : OutboxState) → Grows items known.client → Grows items (known_signal_after known.aspect known.number known.indicated (ticking now (begun known.client outbox)).client).client
  ticks_grow known outbox grows = subst (Grows items) (sym (signal_client known.aspect known.number known.indicated (ticking now (begun known.client outbox)).client))
      (ticking_stands now (begun known.client outbox) grows.0, more)
    where
      more : is_ready (ticking now (begun known.client outbox)).client.stage ≡ true → items ≤ (ticking now (begun known.client outbox)).client.link.given
      more ready =
          let inside = inside_ticks now known.client outbox (ready_inside (ticking now (begun known.client outbox)).client.stage ready)
          in let least = grows.1 (ap is_ready (sym inside.same) ∙ ready)
          in let same = (ticked_none now known.client outbox inside.up).given
          in omega (arith, least, same)

  pub rules : RulesKeep now table GrowsAmong
  rules = record {
    quiet = λ number change routes signals quiet is. is;
    proceeds = λ number row route known many client change routes signals at waits goes changes there given is.
        set_grows row.entry (new_signal row.aspect many client known) routes signals (λ same. given_grows row.aspect many known client given (is known (ap (slice_get signals) (sym same) ∙ there))) is;
    ticks = λ place known outbox routes signals there is.
        set_grows place (known_signal_after known.aspect known.number known.indicated (ticking now (begun known.client outbox)).client) routes signals (λ same. ticks_grow known outbox (is known (ap (slice_get signals) (sym same) ∙ there))) is;
  }

  abbrev GrowsIn : StepSoFar → Type 0
  GrowsIn part = GrowsAmong part.ixl.routes part.ixl.known_signals

  stop_grows : (row : Row) (part : StepSoFar) → GrowsIn part → GrowsIn (stopped now row part)
  stop_grows row part all = either_keeps GrowsIn (is_signal_ready part.ixl row.entry) (giving_aspect now row.entry Aspect.Stop part) part
      (λ ready. aspect_held now table GrowsAmong rules row.entry Aspect.Stop part ready (λ known many client e so.
      set_grows row.entry (new_signal Aspect.Stop many client known) part.ixl.routes part.ixl.known_signals (λ same. given_grows Aspect.Stop many known client so (all known (ap (slice_get part.ixl.known_signals) (sym same) ∙ e))) all))
      (λ not_ready. all)

  withdrawing_grows : (number : ℕ) (part : StepSoFar) → GrowsIn part → GrowsIn (withdrawing now table number part)
  unfolding withdrawing
  withdrawing_grows number part is = route_keeps GrowsIn table number _ part (λ row route there here. where_keeps GrowsIn (is_stop_due table part.ixl row route) part _ (λ due. stop_grows row (with_route number (come_to Phase.Withdrawn) part) is) is) is

  rules_grow : (input : Input) (part : StepSoFar) → GrowsIn part → GrowsIn (ticked now input (ruled now table part))
  rules_grow input part all = ticked_held now table GrowsAmong rules input (ruled now table part) (behind_ending now table GrowsAmong rules part
      (over_held now table GrowsAmong rules (ending_authority now table) (ending_held now table GrowsAmong rules) (count table) (withdrawn now table part)
      (over_held now table GrowsAmong rules (withdrawing now table) withdrawing_grows (count table) part all)))

-- ---- before the rules of a step

module _ (site : Site) (table : Table) (signal : ℕ) (input : Input) (world : WorldState) (known : KnownSignalState) (reached : IsReached site table world) (there : slice_get world.interlocking.ixl.known_signals signal ≡ Some known)
    (ready : is_ready known.client.stage ≡ true) (up : is_up (settled (reading_of world.interlocking.clock) known.client.link).phase ≡ true) (stands : ClientStandsByCounts known.client) where
  abbrev Now : ℕ
  Now = reading_of world.interlocking.clock

  abbrev begins : StepSoFar
  begins = begun_with world.interlocking.ixl empty_outbox

  abbrev pub seen_then : StepSoFar
  seen_then = over (watching table) (count table) (given Now table (key_of site) input (record begins { ixl = all_clocked Now begins.ixl }))

  late : KnownSignalState
  late = clocked_known_signal Now known

  client_is : late.client ≡ clocked Now known.client
  unfolding late
  client_is = signal_client known.aspect known.number known.indicated (clocked Now known.client)

  up_late : is_up (clocked Now known.client).link.phase ≡ true
  up_late = ap (λ (l : LinkState). is_up l.phase) (clocked_link Now known.client) ∙ up

  late_so : ReadySo Now known.client.link.given late
  late_so =
      let few = ((reached_rests site table world reached).few signal known there).gives
      in let went = clock_went Now known.client
      in record {
        stands = subst (ClockedStands Now) (sym client_is) (clocked_stands Now known.client stands);
        few = subst (GivesFew true) (sym client_is) (went.few true few);
        ready = ap (λ (c : ClientState). is_ready c.stage) client_is ∙ (ap is_ready (clocked_up Now known.client up) ∙ ready);
        are = ap (λ (c : ClientState). c.link.given) client_is ∙ (went.none few ready up_late).given;
      }

  pub seen_known : At seen_then.ixl.known_signals signal (Counted known.client.link.given)
  unfolding late
  seen_known = seen_counts Now table signal known.client.link.given (key_of site) input (record begins { ixl = all_clocked Now begins.ixl }) (late, clocked_there Now world.interlocking.ixl signal known there, late_so)

  -- while it is ready it gives no less
  pub step_grows : (later : KnownSignalState) → slice_get (interlocking_stepped site table input world).interlocking.ixl.known_signals signal ≡ Some later → is_ready later.client.stage ≡ true → known.client.link.given ≤ later.client.link.given
  unfolding interlocking_stepped stepped
  step_grows later e = (rules_grow Now table signal known.client.link.given input seen_then grows later e).1
    where
      grows : (seen : KnownSignalState) → slice_get seen_then.ixl.known_signals signal ≡ Some seen → Grows known.client.link.given seen.client
      grows seen f = subst (λ (k : KnownSignalState). Grows known.client.link.given k.client) (same_Some seen_known.0 seen (sym seen_known.1 ∙ f))
          (seen_known.2.0, λ is. let has = seen_known.2.1 is in let are = has.are in omega (arith, are))

-- ---- a step

-- no request for the route comes that is accepted
abbrev pub Apart : Table → ℕ → Input → WorldState → Type 0
Apart table number input world = (command : Command) → input ≡ Commands command
    → refusal (reading_of world.interlocking.clock) table command (all_clocked (reading_of world.interlocking.clock) world.interlocking.ixl) ≡ None → SetsNot number (Event.Request command)

module _ (now : ℕ) (table : Table) (number : ℕ) (P : List RouteState → List KnownSignalState → Type 0) (keep : PartsKeep now table (λ command. SetsNot number (Event.Request command)) P) where
  abbrev Asks : Command → Type 0
  Asks command = SetsNot number (Event.Request command)

  abbrev Held : StepSoFar → Type 0
  Held part = P part.ixl.routes part.ixl.known_signals

  given_refused : (key : Key) (command : Command) (cause : Refusal) (part : StepSoFar) → refusal now table command part.ixl ≡ Some cause → Held part → Held (given now table key (Commands command) part)
  unfolding given moved_at_once
  given_refused key command cause part refused all =
      subst (λ (found : Option Refusal). Held (moved_at_once now found command (record part { ixl = commanded_by now found command part.ixl }))) (sym refused) all

  refused_held : (key : Key) (command : Command) (cause : Refusal) (part : StepSoFar) → refusal now table command (all_clocked now part.ixl) ≡ Some cause → Held part → Held (stepped now table key (Commands command) part)
  unfolding stepped
  refused_held key command cause part refused all = ticked_held now table P keep.rules (Commands command) _ (behind_ending now table P keep.rules _ (both_rules now table Asks P keep _
      (over_held now table P keep.rules (watching table) (watching_held now table Asks P keep) (count table) _
      (given_refused key command cause (record part { ixl = all_clocked now part.ixl }) refused (clocked_held now table Asks P keep part all)))))

  -- what the parts of a step keep where no request comes for the route is kept where it is refused
  pub held_apart : (key : Key) (input : Input) (part : StepSoFar) → ((command : Command) → input ≡ Commands command → refusal now table command (all_clocked now part.ixl) ≡ None → SetsNot number (Event.Request command))
      → Held part → Held (stepped now table key input part)
  held_apart key Tick part apart all = step_held now table Asks P keep key Tick part (λ command e. absurd (cc e)) all
  held_apart key (Datagram bytes) part apart all = step_held now table Asks P keep key (Datagram bytes) part (λ command e. absurd (cc e)) all
  held_apart key (Commands command) part apart all = by_refusal (refusal now table command (all_clocked now part.ixl)) refl
    where
      same_command : {one other : Command} → Commands one ≡ Commands other → one ≡ other
      same_command e = cc e

      by_refusal : (found : Option Refusal) → refusal now table command (all_clocked now part.ixl) ≡ found → Held (stepped now table key (Commands command) part)
      by_refusal None e = step_held now table Asks P keep key (Commands command) part (λ other f. subst Asks (same_command f) (apart command refl e)) all
      by_refusal (Some cause) e = refused_held key command cause part e all

-- so what is kept of one route
pub stepped_apart : (F : RouteState → Type 0) → RouteKeeps F → (site : Site) (table : Table) (number : ℕ) (input : Input) (world : WorldState) → Apart table number input world
    → OfRoute number F world.interlocking.ixl.routes [] → OfRoute number F (interlocking_stepped site table input world).interlocking.ixl.routes []
unfolding interlocking_stepped
stepped_apart F keeps site table number input world apart is = held_apart (reading_of world.interlocking.clock) table number (OfRoute number F) keep (key_of site) input (begun_with world.interlocking.ixl empty_outbox) apart is
  where
    kept : PartsKeep (reading_of world.interlocking.clock) table NoOne (OfRoute number F)
    kept = route_keep (reading_of world.interlocking.clock) table NoOne none_comes number F keeps

    keep : PartsKeep (reading_of world.interlocking.clock) table (λ command. SetsNot number (Event.Request command)) (OfRoute number F)
    keep = record {
      rules = kept.rules;
      clock = kept.clock;
      client = kept.client;
      withdraws = kept.withdraws;
      falls = kept.falls;
      sets = λ route ixl obeys none of one e. other route obeys ixl.routes of one (changed_at set_anew route.0 ixl.routes number one e);
    }
      where
        other : (route : RouteId) → SetsNot number (Event.Request (Command.Request route)) → (routes : List RouteState) → ((one : RouteState) → slice_get routes number ≡ Some one → F one) → (one : RouteState)
            → ((number ≡ route.0) × (was : RouteState) × (slice_get routes route.0 ≡ Some was) × (one ≡ set_anew was)) ⊎ (slice_get routes number ≡ Some one) → F one
        other route obeys routes of one (inl (same, was, there, is)) = absurd (obeys (sym same))
        other route obeys routes of one (inr there) = of one there
