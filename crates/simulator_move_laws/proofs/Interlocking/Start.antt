-- How a step begins: the clock acts on every link, and the machine sees nothing of it.
use Rattle.std.proofs.Common.{◌≡◌, ℕ, true, false, not, List, [], length, refl, sym, ap, subst, ◌∙◌}
use Rattle.std.specs.Prelude.{◌-◌, Option, Some, None, option_map, slice_get}
use Rattle.std.proofs.lemmas.Option.{slice_get-map}
use Rattle.ixl_spec.specs.rasta_core.Clock.{settled}
use Rattle.ixl_spec.specs.rasta_core.Outbox.{OutboxState}
use Rattle.ixl_spec.specs.rasta_core.State.{LinkState, confirmed_items, is_client, is_up}
use Rattle.ixl_spec.specs.ixl_client.Client.{ClientState, IsClient, is_outside, is_ready}
use Rattle.ixl_spec.specs.ixl_client.Made.{link_after}
use Rattle.ixl_spec.specs.ixl_client.Step.{clocked, fallen}
use Rattle.ixl_spec.specs.ixl_client.declared.command.Command.{Command}
use Rattle.ixl_spec.specs.ixl_client.declared.stage.Stage.TheVariants as stage
use Rattle.ixl_spec.specs.StepSoFar.{Node, begun_with, known_signal_after, known_point_after}
use Rattle.ixl_spec.specs.State.{IxlState, KnownSignalState, KnownPointState}
use Rattle.ixl_spec.specs.Step.{Input, all_clocked, clocked_known_signal, clocked_known_point}
use Rattle.simulator_machine.specs.Lists.{last_of}
use Rattle.std.specs.FinSet.{empty}
use Rattle.simulator_machine.specs.Machine.{Machine}
use Rattle.simulator_machine.specs.Point.{Point}
use Rattle.simulator_machine.specs.Signal.{Signal}
use Rattle.simulator_machine.specs.Table.{Table}
use Rattle.simulator_move_laws.specs.Calls.{Items, calls_at, items_after}
use Rattle.simulator_move_laws.specs.MachineSoFar.{KnownSignalSoFar, Leads, KnownPointSoFar}
use Rattle.simulator_move_laws.specs.Link.{ClientFits, client_at, is_inside}
use Rattle.simulator_move_laws.specs.Nodes.{IsLastGiven, IsOfPoint, KnownSignalFits, KnownPointFits}
use Rattle.simulator_move_laws.specs.Sees.{Given, IsClosedSince, Sees, SeesPoint, SeesSignal}
use Rattle.simulator_move_laws.specs.Telegrams.{AreHeard, given_by, position_seen, positions_told}
use Rattle.simulator_move_laws.proofs.Interlocking.Tests.{by_test}
use Rattle.simulator_move_laws.proofs.Interlocking.MachineSoFar.{stays_closed}
use Rattle.simulator_move_laws.proofs.Interlocking.ClientFits.{fallen_link, not_ready}
use Rattle.simulator_move_laws.proofs.Interlocking.DatagramHeard.{is_outside_at}
use Rattle.simulator_move_laws.proofs.Interlocking.Nodes.{stays_so}
use Rattle.simulator_move_laws.proofs.Interlocking.Receipts.{settled_goes}
use Rattle.simulator_move_laws.proofs.Interlocking.Settled.{confirmed_settled, inside_settled, phase_settled, place_settled, up_settled}
use Rattle.simulator_move_laws.proofs.Interlocking.KnownPoint.{none_heard}

pub clocked_link : (now : ℕ) (client : ClientState) → (clocked now client).link ≡ settled now client.link
unfolding clocked
clocked_link now client = fallen_link (record client { link = settled now client.link })

pub clocked_peer : (now : ℕ) (client : ClientState) → (clocked now client).peer ≡ client.peer
unfolding clocked fallen
clocked_peer now client = by_test (λ (c : ClientState). c.peer ≡ client.peer) (is_up (settled now client.link).phase) (record client { link = settled now client.link })
    (record client { link = settled now client.link; stage = stage.Outside }) (λ e. refl) (λ e. refl)

stage_kept : (now : ℕ) (client : ClientState) → (is_up (settled now client.link).phase ≡ false → stage.Outside ≡ client.stage) → (clocked now client).stage ≡ client.stage
unfolding clocked fallen
stage_kept now client out = by_test (λ (c : ClientState). c.stage ≡ client.stage) (is_up (settled now client.link).phase) (record client { link = settled now client.link })
    (record client { link = settled now client.link; stage = stage.Outside }) (λ e. refl) (λ down. out down)

-- inside a connection it keeps its stage
clocked_stage : (now : ℕ) (client : ClientState) → IsClient client → is_inside now (clocked now client).link ≡ true → (clocked now client).stage ≡ client.stage
clocked_stage now client is inside = kept (subst (λ l. is_inside now l ≡ true) (clocked_link now client) inside) where
  kept : is_inside now (settled now client.link) ≡ true → (clocked now client).stage ≡ client.stage
  kept still = stage_kept now client (λ down. sym (is_outside_at client.stage (is.outside ∙ ap not (ap is_up (sym (phase_settled now client.link still)) ∙ down))))

clocked_outside : (now : ℕ) (client : ClientState) → IsClient client → is_outside (clocked now client).stage ≡ not (is_up (clocked now client).link.phase)
unfolding clocked fallen
clocked_outside now client is = by_test (λ (c : ClientState). is_outside c.stage ≡ not (is_up c.link.phase)) (is_up (settled now client.link).phase) (record client { link = settled now client.link })
    (record client { link = settled now client.link; stage = stage.Outside }) (λ up. is.outside ∙ ap not (up_settled now client.link up) ∙ sym (ap not up)) (λ down. sym (ap not down))

was_inside : (now : ℕ) (client : ClientState) → is_inside now (clocked now client).link ≡ true → is_inside now client.link ≡ true
was_inside now client inside = inside_settled now client.link (subst (λ l. is_inside now l ≡ true) (clocked_link now client) inside)

client_clocked : (now : ℕ) (client : ClientState) (items : Items) (commands : List Command) → ClientFits now client items commands → ClientFits now (clocked now client) items commands
client_clocked now client items commands fits = record {
  steady = record {
    outside = clocked_outside now client fits.steady;
    opens = ap (λ (l : LinkState). is_client l.identity.role) (clocked_link now client) ∙ ap (λ i. is_client i.role) (settled_goes now client.link).identity ∙ fits.steady.opens;
  };
  given = λ inside. fits.given (was_inside now client inside) ∙ ap (λ p. given_by p client.stage commands) (sym (clocked_peer now client))
      ∙ ap (λ s. given_by (clocked now client).peer s commands) (sym (clocked_stage now client fits.steady inside));
  early = λ inside ready. fits.early (was_inside now client inside) (ap is_ready (sym (clocked_stage now client fits.steady inside)) ∙ ready);
}

place_clocked : (now : ℕ) (client : ClientState) → client_at now (clocked now client).link ≡ client_at now client.link
place_clocked now client = ap (client_at now) (clocked_link now client) ∙ place_settled now client.link

known_signal_clocked : (now : ℕ) (known_signal : KnownSignalState) (items : Items) (signal : Signal) → KnownSignalFits now known_signal items signal → KnownSignalFits now (clocked_known_signal now known_signal) items signal
unfolding known_signal_after
known_signal_clocked now known_signal items signal fits = by_test (λ (l : KnownSignalState). KnownSignalFits now l items signal) (is_outside (clocked now known_signal.client).stage) none some
    (λ out. fit none refl (λ inside. (client_clocked now known_signal.client items fits.commands fits.client).early inside (not_ready (clocked now known_signal.client).stage out)))
    (λ e. fit some refl (λ inside. fits.last (was_inside now known_signal.client inside)))
  where
    none : KnownSignalState
    none = record { client = clocked now known_signal.client; aspect = None; number = 0; indicated = None }

    some : KnownSignalState
    some = record { client = clocked now known_signal.client; aspect = known_signal.aspect; number = known_signal.number; indicated = known_signal.indicated }

    fit : (l : KnownSignalState) → l.client ≡ clocked now known_signal.client → (is_inside now (clocked now known_signal.client).link ≡ true → IsLastGiven l.aspect l.number fits.commands) → KnownSignalFits now l items signal
    fit l same last = record {
      commands = fits.commands;
      client = subst (λ c. ClientFits now c items fits.commands) (sym same) (client_clocked now known_signal.client items fits.commands fits.client);
      place = fits.place ∙ sym (place_clocked now known_signal.client) ∙ ap (λ (c : ClientState). client_at now c.link) (sym same);
      aspects = λ inside. fits.aspects (was_inside now known_signal.client (ap (λ (c : ClientState). is_inside now c.link) (sym same) ∙ inside));
      last = λ inside. last (ap (λ (c : ClientState). is_inside now c.link) (sym same) ∙ inside);
      confirmed = λ up. fits.confirmed up ∙ ap (λ n. n - 2) (sym (confirmed_settled now known_signal.client.link) ∙ ap confirmed_items (sym (clocked_link now known_signal.client)) ∙ ap (λ (c : ClientState). confirmed_items c.link) (sym same));
    }

known_point_clocked : (now : ℕ) (known_point : KnownPointState) (items : Items) (point : Point) → KnownPointFits now known_point items point → KnownPointFits now (clocked_known_point now known_point) items point
unfolding known_point_after
known_point_clocked now known_point items point fits = by_test (λ (l : KnownPointState). KnownPointFits now l items point) (is_outside (clocked now known_point.client).stage) none some
    (λ out. fit none refl (λ inside. none_heard (clocked now known_point.client).stage point.heard (length fits.commands) out
    (subst (λ s. AreHeard s (length point.heard) (length fits.commands)) (sym (clocked_stage now known_point.client fits.client.steady inside)) (fits.heard (was_inside now known_point.client inside)))))
    (λ e. fit some refl (λ inside. fits.last (was_inside now known_point.client inside)))
  where
    none : KnownPointState
    none = record { client = clocked now known_point.client; side = None; moved = empty }

    some : KnownPointState
    some = record { client = clocked now known_point.client; side = known_point.side; moved = known_point.moved }

    fit : (l : KnownPointState) → l.client ≡ clocked now known_point.client → (is_inside now (clocked now known_point.client).link ≡ true → last_of None point.heard ≡ position_seen l.side) → KnownPointFits now l items point
    fit l same last = record {
      commands = fits.commands;
      client = subst (λ c. ClientFits now c items fits.commands) (sym same) (client_clocked now known_point.client items fits.commands fits.client);
      peer = subst IsOfPoint (sym (ap (λ (c : ClientState). c.peer) same ∙ clocked_peer now known_point.client)) fits.peer;
      place = fits.place ∙ sym (place_clocked now known_point.client) ∙ ap (λ (c : ClientState). client_at now c.link) (sym same);
      moves = λ inside. fits.moves (was_inside now known_point.client (here inside));
      told = λ inside. fits.told (was_inside now known_point.client (here inside)) ∙ ap (λ p. positions_told p items.taken) (sym (ap (λ (c : ClientState). c.peer) same ∙ clocked_peer now known_point.client));
      heard = λ inside. subst (λ s. AreHeard s (length point.heard) (length fits.commands))
          (sym (ap (λ (c : ClientState). c.stage) same ∙ clocked_stage now known_point.client fits.client.steady (here inside))) (fits.heard (was_inside now known_point.client (here inside)));
      last = λ inside. last (here inside);
    } where
      here : is_inside now l.client.link ≡ true → is_inside now (clocked now known_point.client).link ≡ true
      here inside = ap (λ (c : ClientState). is_inside now c.link) (sym same) ∙ inside

known_signal_after_client : (now : ℕ) (known_signal : KnownSignalState) → (clocked_known_signal now known_signal).client ≡ clocked now known_signal.client
unfolding known_signal_after
known_signal_after_client now known_signal = by_test (λ (l : KnownSignalState). l.client ≡ clocked now known_signal.client) (is_outside (clocked now known_signal.client).stage)
    (record { client = clocked now known_signal.client; aspect = None; number = 0; indicated = None }) (record { client = clocked now known_signal.client; aspect = known_signal.aspect; number = known_signal.number; indicated = known_signal.indicated }) (λ e. refl) (λ e. refl)

known_point_after_client : (now : ℕ) (known_point : KnownPointState) → (clocked_known_point now known_point).client ≡ clocked now known_point.client
unfolding known_point_after
known_point_after_client now known_point = by_test (λ (l : KnownPointState). l.client ≡ clocked now known_point.client) (is_outside (clocked now known_point.client).stage)
    (record { client = clocked now known_point.client; side = None; moved = empty }) (record { client = clocked now known_point.client; side = known_point.side; moved = known_point.moved }) (λ e. refl) (λ e. refl)

-- ---- the step has begun

module _ (now : ℕ) (input : Input) (table : Table) (ixl : IxlState) (given : Given) (machine : Machine) (sees : Sees now ixl given machine) where
  known_signal_begun : (first : Option KnownSignalState) (items : Items) (signal : Signal) → SeesSignal now ixl first items signal →
      KnownSignalSoFar now input table ixl given machine first items [] (option_map (clocked_known_signal now) first) signal signal
  unfolding link_after items_after
  known_signal_begun None items signal is = refl
  known_signal_begun (Some first) items signal is = record {
    fits = known_signal_clocked now first items signal is.fits;
    held = λ holds. subst (IsClosedSince ixl.created) (sym link_is) (stays_closed ixl.created first.client.link (settled now first.client.link) (settled_goes now first.client.link) (is.held holds));
    are = tt;
    made = link_is;
    same = ap (λ (c : ClientState). c.peer) (known_signal_after_client now first) ∙ clocked_peer now first.client;
    stays = record { server = refl; done = refl };
    totals = λ readable as_given. as_given;
  } where
    link_is : (clocked_known_signal now first).client.link ≡ settled now first.client.link
    link_is = ap (λ (c : ClientState). c.link) (known_signal_after_client now first) ∙ clocked_link now first.client

  known_point_begun : (first : Option KnownPointState) (items : Items) (point : Point) → SeesPoint now ixl first items point →
      KnownPointSoFar now input table ixl given machine first items [] (option_map (clocked_known_point now) first) point point
  unfolding link_after items_after
  known_point_begun None items point is = refl
  known_point_begun (Some first) items point is = record {
    fits = known_point_clocked now first items point is.fits;
    held = λ holds. subst (IsClosedSince ixl.created) (sym link_is) (stays_closed ixl.created first.client.link (settled now first.client.link) (settled_goes now first.client.link) (is.held holds));
    are = tt;
    made = link_is;
    same = ap (λ (c : ClientState). c.peer) (known_point_after_client now first) ∙ clocked_peer now first.client;
    stays = record { server = refl; taken = refl; reports = refl; driven = refl; position = refl };
    totals = λ readable as_given. as_given;
  } where
    link_is : (clocked_known_point now first).client.link ≡ settled now first.client.link
    link_is = ap (λ (c : ClientState). c.link) (known_point_after_client now first) ∙ clocked_link now first.client

  none_called : (node : Node) → calls_at node [] ≡ []
  unfolding calls_at
  none_called node = refl

  pub begins_so : (outbox : OutboxState) → Leads now input table ixl given machine (begun_with (all_clocked now ixl) outbox)
  unfolding all_clocked calls_at
  begins_so outbox = (
    machine,
    record {
      signals = λ place. subst (λ l. KnownSignalSoFar now input table ixl given machine (slice_get ixl.known_signals place) (given.signals place) [] l (machine.signals place) (machine.signals place))
          (sym (slice_get-map (clocked_known_signal now) ixl.known_signals place)) (known_signal_begun (slice_get ixl.known_signals place) (given.signals place) (machine.signals place) (sees.signals place));
      points = λ place. subst (λ l. KnownPointSoFar now input table ixl given machine (slice_get ixl.known_points place) (given.points place) [] l (machine.points place) (machine.points place))
          (sym (slice_get-map (clocked_known_point now) ixl.known_points place)) (known_point_begun (slice_get ixl.known_points place) (given.points place) (machine.points place) (sees.points place));
      routes = sees.routes;
      count = refl;
      created = refl;
      holding = sees.holding;
      frozen = refl;
      moves = stays_so table machine;
    },
  )
