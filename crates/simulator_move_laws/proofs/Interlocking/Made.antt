-- What the machine sees of an interlocking that was just made, or made anew.
use Rattle.std.proofs.Common.{◌≡◌, ℕ, ◌+◌, ◌<◌, true, false, not, [], refl, sym, ap, ◌∙◌, arith}
use Rattle.std.specs.Prelude.{nat_lt, min, Option, Some, None, slice_get}
use Rattle.std.proofs.lemmas.Bool.{true≢false, lt-ltb, ltb-true}
use Rattle.ixl_spec.specs.rasta_core.Clock.{deadline, state_at}
use Rattle.ixl_spec.specs.rasta_core.Parameters.{greatest, quiet_time}
use Rattle.ixl_spec.specs.rasta_core.State.{LinkState, is_open, is_up}
use Rattle.ixl_spec.specs.ixl_client.Client.{ClientState, is_outside}
use Rattle.ixl_spec.specs.State.{IxlState, KnownSignalState, RouteState, KnownPointState}
use Rattle.ixl_spec.specs.View.{is_holding}
use Rattle.simulator_machine.specs.Link.{Quiet}
use Rattle.simulator_machine.specs.Machine.{Machine}
use Rattle.simulator_machine.specs.Route.{Free}
use Rattle.simulator_machine.specs.Signal.{Signal}
use Rattle.simulator_move_laws.specs.Calls.{Items}
use Rattle.simulator_move_laws.specs.Link.{ClientFits, client_at, is_inside}
use Rattle.simulator_move_laws.specs.Made.{IsJustMade, IsMadeClient, IsQuietMachine}
use Rattle.simulator_move_laws.specs.Nodes.{KnownSignalFits, phase_seen, route_seen}
use Rattle.simulator_move_laws.specs.Sees.{Given, IsClosedSince, Sees, SeesPoint, SeesSignal}
use Rattle.simulator_move_laws.proofs.Interlocking.Places.{inside_open}

module _ (now : ℕ) (ixl : IxlState) (holds : is_holding now ixl ≡ true) where
  shut : (client : ClientState) → IsMadeClient ixl.created client → is_open client.link.phase ≡ false
  shut client is = ap is_open is.since.closed

  never_inside : {A : Type 0} (client : ClientState) → IsMadeClient ixl.created client → is_inside now client.link ≡ true → A
  never_inside client is inside = absurd (true≢false (sym (inside_open now client.link inside) ∙ shut client is))

  quiet_still : nat_lt now (ixl.created + quiet_time) ≡ true
  quiet_still = lt-ltb now (ixl.created + quiet_time) (within (ltb-true now (min (ixl.created + quiet_time) greatest) holds)) where
    within : now < min (ixl.created + quiet_time) greatest → now < ixl.created + quiet_time
    within less = omega (arith, less)

  pub link_quiet : (link : LinkState) → IsClosedSince ixl.created link → client_at now link ≡ Quiet
  unfolding state_at deadline
  link_quiet link is = rw is.closed (rw is.at (rw quiet_still refl))

  client_fits : (client : ClientState) (items : Items) → IsMadeClient ixl.created client → ClientFits now client items []
  client_fits client items is = record {
    steady = record { outside = ap is_outside is.outside ∙ sym (ap (λ p. not (is_up p)) is.since.closed); opens = is.opens };
    given = λ inside. never_inside client is inside;
    early = λ inside ready. refl;
  }

  known_signal_seen : (known_signal : KnownSignalState) (items : Items) (signal : Signal) → IsMadeClient ixl.created known_signal.client → signal.link.client ≡ Quiet → KnownSignalFits now known_signal items signal
  known_signal_seen known_signal items signal is quiet = record {
    commands = [];
    client = client_fits known_signal.client items is;
    place = quiet ∙ sym (link_quiet known_signal.client.link is.since);
    aspects = λ inside. never_inside known_signal.client is inside;
    last = λ inside. never_inside known_signal.client is inside;
    confirmed = λ up. absurd (cc (quiet, up));
  }

  pub made_sees : (given : Given) (machine : Machine) → IsJustMade ixl → IsQuietMachine ixl machine → Sees now ixl given machine
  made_sees given machine made quiet = record {
    signals = λ place. signal place (slice_get ixl.known_signals place) refl;
    points = λ place. point place (slice_get ixl.known_points place) refl;
    routes = λ number. quiet.routes number ∙ route (slice_get ixl.routes number) (made.routes number);
    holding = quiet.holding ∙ sym holds;
  } where
    signal : (place : ℕ) (known_signal : Option KnownSignalState) → slice_get ixl.known_signals place ≡ known_signal → SeesSignal now ixl known_signal (given.signals place) (machine.signals place)
    signal place None is = quiet.unknown place is
    signal place (Some known_signal) is = record { fits = known_signal_seen known_signal (given.signals place) (machine.signals place) (made.known_signals place known_signal is) (quiet.signals place); held = λ e. (made.known_signals place known_signal is).since }

    point : (place : ℕ) (known_point : Option KnownPointState) → slice_get ixl.known_points place ≡ known_point → SeesPoint now ixl known_point (given.points place) (machine.points place)
    point place None is = tt
    point place (Some known_point) is = let client = made.known_points place known_point is in record {
      fits = record {
        commands = [];
        client = client_fits known_point.client (given.points place) client.0;
        peer = client.1;
        place = quiet.points place ∙ sym (link_quiet known_point.client.link client.0.since);
        moves = λ inside. never_inside known_point.client client.0 inside;
        told = λ inside. never_inside known_point.client client.0 inside;
        heard = λ inside. never_inside known_point.client client.0 inside;
        last = λ inside. never_inside known_point.client client.0 inside;
      };
      held = λ e. client.0.since;
    }

    route : (state : Option RouteState) → ((one : RouteState) → state ≡ Some one → phase_seen one.phase ≡ Free) → Free ≡ route_seen state
    route None is = refl
    route (Some one) is = sym (is one refl)
