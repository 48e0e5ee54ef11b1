-- The clock of an interlocking goes on with no call.
use Rattle.std.proofs.Common.{inl, inr, ◌≡◌, ◌≢◌, ◌⊎◌, ℕ, ◌+◌, ◌≤◌, ◌<◌, Bool, true, false, List, [], ◌∷◌, length, refl, sym, ◌∙◌, arith}
use Rattle.std.specs.Prelude.{get_or, min, nat_lt, Option, Some, None, slice_get}
use Rattle.std.proofs.lemmas.Bool.{true≢false, lt-ltb, ltb-true, ltb-false}
use Rattle.std.proofs.lemmas.Option.{slice_get_cases}
use Rattle.ixl_spec.specs.rasta_core.Clock.{deadline, state_at}
use Rattle.ixl_spec.specs.rasta_core.Parameters.{greatest, quiet_time}
use Rattle.ixl_spec.specs.rasta_core.State.{LinkState, is_open}
use Rattle.ixl_spec.specs.ixl_client.Client.{ClientState}
use Rattle.ixl_spec.specs.ixl_client.declared.command.Command.{Command}
use Rattle.ixl_spec.specs.State.{IxlState, KnownSignalState, KnownPointState}
use Rattle.ixl_spec.specs.View.{is_holding}
use Rattle.simulator_machine.specs.Chains.{MovesTo, NoneFrom, PointMayChain, SignalMayChain, points_chained, signals_chained}
use Rattle.simulator_machine.specs.Link.{Closes, Down, Gone, In, Quiet, QuietEnds, Server}
use Rattle.simulator_machine.specs.Machine.{Machine}
use Rattle.simulator_machine.specs.Moves.{HoldEnds}
use Rattle.simulator_machine.specs.Point.{Point, PointLink, PointMove}
use Rattle.simulator_machine.specs.Signal.{Signal, SignalLink, SignalMove}
use Rattle.simulator_machine.specs.Table.{Table}
use Rattle.simulator_move_laws.specs.Calls.{Items}
use Rattle.simulator_move_laws.specs.Link.{ClientFits, client_at, is_inside}
use Rattle.simulator_move_laws.specs.Onward.{AreAloneAfterQuiet, IsPassed}
use Rattle.simulator_move_laws.specs.Sees.{Given, IsClosedSince, PointFits, Sees, SeesPoint, SeesSignal, SignalFits}
use Rattle.simulator_move_laws.proofs.Interlocking.Tests.{both_true, true_both}
use Rattle.simulator_move_laws.proofs.Interlocking.Places.{by_place, inside_start, inside_up}
use Rattle.simulator_move_laws.proofs.Interlocking.RulesKept.{one_move}
use Rattle.simulator_move_laws.proofs.Interlocking.Signals.{PointGoes, SignalGoes}

-- a link closed since a creation is down when the hold after it is over
ended_down : (later : ℕ) (ixl : IxlState) (link : LinkState) → is_holding later ixl ≡ false → later < greatest → IsClosedSince ixl.created link → client_at later link ≡ Down
unfolding state_at deadline
ended_down later ixl link over clock is = rw is.closed (rw is.at (rw (past (ltb-false later (min (ixl.created + quiet_time) greatest) over)) refl)) where
  past : min (ixl.created + quiet_time) greatest ≤ later → nat_lt later (ixl.created + quiet_time) ≡ false
  past most = cases (nat_lt later (ixl.created + quiet_time)) refl where
    cases : (b : Bool) → nat_lt later (ixl.created + quiet_time) ≡ b → nat_lt later (ixl.created + quiet_time) ≡ false
    cases true e = absurd (omega (arith, most, clock, ltb-true later (ixl.created + quiet_time) e))
    cases false e = e

module _ (now later : ℕ) (ixl : IxlState) (order : now ≤ later) where
  inside_before : (link : LinkState) → is_inside later link ≡ true → is_inside now link ≡ true
  inside_before link inside =
      let both = both_true (is_open link.phase) (nat_lt later (deadline link)) inside
      in true_both (is_open link.phase) (nat_lt now (deadline link)) both.0 (lt-ltb now (deadline link) (omega (arith, order, ltb-true later (deadline link) both.1)))

  held_before : is_holding later ixl ≡ true → is_holding now ixl ≡ true
  held_before holds = lt-ltb now (min (ixl.created + quiet_time) greatest) (omega (arith, order, ltb-true later (min (ixl.created + quiet_time) greatest) holds))

  client_later : (client : ClientState) (items : Items) (commands : List Command) → ClientFits now client items commands → ClientFits later client items commands
  client_later client items commands fits = record {
    steady = fits.steady;
    given = λ inside. fits.given (inside_before client.link inside);
    early = λ inside ready. fits.early (inside_before client.link inside) ready;
  }

  -- ---- a signal

  known_signal_passes : (known_signal : KnownSignalState) (items : Items) (signal : Signal) → SignalFits now ixl known_signal items signal → (client_at later known_signal.client.link ≡ Down → signal.link.server ≢ In) →
      SignalGoes (SignalFits later ixl known_signal items) signal
  known_signal_passes known_signal items signal sees alone =
      by_place (λ c. client_at later known_signal.client.link ≡ c → SignalGoes (SignalFits later ixl known_signal items) signal) later known_signal.client.link
      (λ inside up. λ at. same (inside_up now known_signal.client.link (inside_before known_signal.client.link inside) up ∙ sym at))
      (λ inside down. λ at. same (inside_start now known_signal.client.link (inside_before known_signal.client.link inside) down ∙ sym at))
      (λ shut. λ at. quiet at) (λ shut is. λ at. down at) refl
    where
      same : client_at now known_signal.client.link ≡ client_at later known_signal.client.link → SignalGoes (SignalFits later ixl known_signal items) signal
      same at = record {
        moves = [];
        may = tt;
        fits = record {
          fits = record {
            commands = sees.fits.commands;
            client = client_later known_signal.client items sees.fits.commands sees.fits.client;
            place = sees.fits.place ∙ at;
            aspects = λ inside. sees.fits.aspects (inside_before known_signal.client.link inside);
            last = λ inside. sees.fits.last (inside_before known_signal.client.link inside);
            confirmed = sees.fits.confirmed;
          };
          held = λ holds. sees.held (held_before holds);
        };
        stays = record { server = refl; done = refl };
        given = refl;
      }

      quiet : client_at later known_signal.client.link ≡ Quiet → SignalGoes (SignalFits later ixl known_signal items) signal
      quiet at = record {
        moves = SignalLink Closes ∷ [];
        may = (tt, tt);
        fits = record {
          fits = record {
            commands = sees.fits.commands;
            client = client_later known_signal.client items sees.fits.commands sees.fits.client;
            place = sym at;
            aspects = λ inside. sees.fits.aspects (inside_before known_signal.client.link inside);
            last = λ inside. sees.fits.last (inside_before known_signal.client.link inside);
            confirmed = λ e. absurd (cc (e));
          };
          held = λ holds. sees.held (held_before holds);
        };
        stays = record { server = refl; done = refl };
        given = refl;
      }

      down : client_at later known_signal.client.link ≡ Down → SignalGoes (SignalFits later ixl known_signal items) signal
      down at = record {
        moves = SignalLink QuietEnds ∷ [];
        may = (alone at, tt);
        fits = record {
          fits = record {
            commands = sees.fits.commands;
            client = client_later known_signal.client items sees.fits.commands sees.fits.client;
            place = sym at;
            aspects = λ inside. sees.fits.aspects (inside_before known_signal.client.link inside);
            last = λ inside. sees.fits.last (inside_before known_signal.client.link inside);
            confirmed = λ e. absurd (cc (e));
          };
          held = λ holds. sees.held (held_before holds);
        };
        stays = record { server = refl; done = refl };
        given = refl;
      }

  record SignalPasses (known_signal : Option KnownSignalState) (items : Items) (signal : Signal) : Type 0 where
    goes : SignalGoes (SeesSignal later ixl known_signal items) signal
    still : known_signal ≡ None → goes.moves ≡ []

  signal_passes : (known_signal : Option KnownSignalState) (items : Items) (signal : Signal) → SeesSignal now ixl known_signal items signal →
      ((one : KnownSignalState) → known_signal ≡ Some one → client_at later one.client.link ≡ Down → signal.link.server ≢ In) → SignalPasses known_signal items signal
  signal_passes None items signal sees alone = record { goes = record { moves = []; may = tt; fits = sees; stays = record { server = refl; done = refl }; given = refl }; still = λ none. refl }
  signal_passes (Some known_signal) items signal sees alone = record { goes = known_signal_passes known_signal items signal sees (alone known_signal refl); still = λ none. absurd (cc (none)) }

  -- ---- a point

  known_point_passes : (known_point : KnownPointState) (items : Items) (point : Point) → PointFits now ixl known_point items point → (client_at later known_point.client.link ≡ Down → point.link.server ≢ In) →
      PointGoes (PointFits later ixl known_point items) point
  known_point_passes known_point items point sees alone =
      by_place (λ c. client_at later known_point.client.link ≡ c → PointGoes (PointFits later ixl known_point items) point) later known_point.client.link
      (λ inside up. λ at. same (inside_up now known_point.client.link (inside_before known_point.client.link inside) up ∙ sym at))
      (λ inside down. λ at. same (inside_start now known_point.client.link (inside_before known_point.client.link inside) down ∙ sym at))
      (λ shut. λ at. quiet at) (λ shut is. λ at. down at) refl
    where
      was : is_inside later known_point.client.link ≡ true → is_inside now known_point.client.link ≡ true
      was inside = inside_before known_point.client.link inside

      same : client_at now known_point.client.link ≡ client_at later known_point.client.link → PointGoes (PointFits later ixl known_point items) point
      same at = record {
        moves = [];
        may = tt;
        fits = record {
          fits = record {
            commands = sees.fits.commands;
            client = client_later known_point.client items sees.fits.commands sees.fits.client;
            peer = sees.fits.peer;
            place = sees.fits.place ∙ at;
            moves = λ inside. sees.fits.moves (was inside);
            told = λ inside. sees.fits.told (was inside);
            heard = λ inside. sees.fits.heard (was inside);
            last = λ inside. sees.fits.last (was inside);
          };
          held = λ holds. sees.held (held_before holds);
        };
        stays = record { server = refl; taken = refl; reports = refl; driven = refl; position = refl };
        given = refl;
      }

      quiet : client_at later known_point.client.link ≡ Quiet → PointGoes (PointFits later ixl known_point items) point
      quiet at = record {
        moves = PointLink Closes ∷ [];
        may = (tt, tt);
        fits = record {
          fits = record {
            commands = sees.fits.commands;
            client = client_later known_point.client items sees.fits.commands sees.fits.client;
            peer = sees.fits.peer;
            place = sym at;
            moves = λ inside. sees.fits.moves (was inside);
            told = λ inside. sees.fits.told (was inside);
            heard = λ inside. sees.fits.heard (was inside);
            last = λ inside. sees.fits.last (was inside);
          };
          held = λ holds. sees.held (held_before holds);
        };
        stays = record { server = refl; taken = refl; reports = refl; driven = refl; position = refl };
        given = refl;
      }

      down : client_at later known_point.client.link ≡ Down → PointGoes (PointFits later ixl known_point items) point
      down at = record {
        moves = PointLink QuietEnds ∷ [];
        may = (alone at, tt);
        fits = record {
          fits = record {
            commands = sees.fits.commands;
            client = client_later known_point.client items sees.fits.commands sees.fits.client;
            peer = sees.fits.peer;
            place = sym at;
            moves = λ inside. sees.fits.moves (was inside);
            told = λ inside. sees.fits.told (was inside);
            heard = λ inside. sees.fits.heard (was inside);
            last = λ inside. sees.fits.last (was inside);
          };
          held = λ holds. sees.held (held_before holds);
        };
        stays = record { server = refl; taken = refl; reports = refl; driven = refl; position = refl };
        given = refl;
      }

  record PointPasses (known_point : Option KnownPointState) (items : Items) (point : Point) : Type 0 where
    goes : PointGoes (SeesPoint later ixl known_point items) point
    still : known_point ≡ None → goes.moves ≡ []

  point_passes : (known_point : Option KnownPointState) (items : Items) (point : Point) → SeesPoint now ixl known_point items point →
      ((one : KnownPointState) → known_point ≡ Some one → client_at later one.client.link ≡ Down → point.link.server ≢ In) → PointPasses known_point items point
  point_passes None items point sees alone = record { goes = record { moves = []; may = tt; fits = sees; stays = record { server = refl; taken = refl; reports = refl; driven = refl; position = refl }; given = refl }; still = λ none. refl }
  point_passes (Some known_point) items point sees alone = record { goes = known_point_passes known_point items point sees (alone known_point refl); still = λ none. absurd (cc (none)) }

  -- ---- all of them

  none_past : {A : Type 0} (list : List A) (place : ℕ) → length list ≤ place → slice_get list place ≡ None
  none_past {A = A} list place past = cases (slice_get_cases list place).1 where
    cases : ((x : A) × (place < length list) × (slice_get list place ≡ Some x) × (get_or list place x ≡ x)) ⊎ ((length list ≤ place) × (slice_get list place ≡ None)) → slice_get list place ≡ None
    cases (inl there) = absurd (omega (arith, past, there.1))
    cases (inr none) = none.1

  module _ (table : Table) (given : Given) (machine : Machine) (sees : Sees now ixl given machine) (alone : AreAloneAfterQuiet later ixl machine)
      (each_signals : (machine : Machine) (count : ℕ) (moves : ℕ → List SignalMove) → ((place : ℕ) → SignalMayChain (moves place) (machine.signals place)) → NoneFrom count moves → MovesTo table machine (signals_chained moves machine))
      (each_points : (machine : Machine) (count : ℕ) (moves : ℕ → List PointMove) → ((place : ℕ) → PointMayChain (moves place) (machine.points place)) → NoneFrom count moves → MovesTo table machine (points_chained moves machine))
      (onward : (old between new : Machine) → MovesTo table old between → MovesTo table between new → MovesTo table old new) where
    at_signal : (place : ℕ) → SignalPasses (slice_get ixl.known_signals place) (given.signals place) (machine.signals place)
    at_signal place = signal_passes (slice_get ixl.known_signals place) (given.signals place) (machine.signals place) (sees.signals place) (λ one is down. alone.signals place one is down)

    at_point : (place : ℕ) → PointPasses (slice_get ixl.known_points place) (given.points place) (machine.points place)
    at_point place = point_passes (slice_get ixl.known_points place) (given.points place) (machine.points place) (sees.points place) (λ one is down. alone.points place one is down)

    of_signals : Machine
    of_signals = signals_chained (λ place. (at_signal place).goes.moves) machine

    of_points : Machine
    of_points = points_chained (λ place. (at_point place).goes.moves) of_signals

    moves_there : MovesTo table machine of_points
    unfolding of_signals of_points
    moves_there = onward machine of_signals of_points
        (each_signals machine (length ixl.known_signals) (λ place. (at_signal place).goes.moves) (λ place. (at_signal place).goes.may) (λ place past. (at_signal place).still (none_past ixl.known_signals place past)))
        (each_points of_signals (length ixl.known_points) (λ place. (at_point place).goes.moves) (λ place. (at_point place).goes.may) (λ place past. (at_point place).still (none_past ixl.known_points place past)))

    -- in the hold no server stays in a connection until it ends
    none_in : is_holding now ixl ≡ true → is_holding later ixl ≡ false → (place : ℕ) → (of_points.signals place).link.server ≢ In
    unfolding of_points of_signals
    none_in holds over place inside = cases (slice_get ixl.known_signals place) refl (sees.signals place) where
      server : (machine.signals place).link.server ≡ In
      server = sym (at_signal place).goes.stays.server ∙ inside

      gone_is_out : (s : Server) → s ≡ Gone → s ≡ In → ⊥
      gone_is_out s one other = cc (one, other)

      cases : (known_signal : Option KnownSignalState) → slice_get ixl.known_signals place ≡ known_signal → SeesSignal now ixl known_signal (given.signals place) (machine.signals place) → ⊥
      cases None is gone = gone_is_out (machine.signals place).link.server gone server
      cases (Some known_signal) is fits = alone.signals place known_signal is (ended_down later ixl known_signal.client.link over alone.clock (fits.held holds)) server

    pub passes : (new : Machine) × IsPassed later table ixl given machine new
    unfolding of_points of_signals
    passes = cases (is_holding now ixl) refl (is_holding later ixl) refl where
      same : is_holding now ixl ≡ is_holding later ixl → (new : Machine) × IsPassed later table ixl given machine new
      same holding = (
        of_points,
        record {
          keeps = record { moves = moves_there; signals = λ place. (at_signal place).goes.stays; points = λ place. (at_point place).goes.stays; aspects = λ place. (at_signal place).goes.given; given = λ place. (at_point place).goes.given };
          frozen = refl;
          sees = record { signals = λ place. (at_signal place).goes.fits; points = λ place. (at_point place).goes.fits; routes = sees.routes; holding = sees.holding ∙ holding };
        },
      )

      ends : is_holding now ixl ≡ true → is_holding later ixl ≡ false → (new : Machine) × IsPassed later table ixl given machine new
      ends holds over = (
        record of_points { holding = false },
        record {
          keeps = record {
            moves = onward machine of_points (record of_points { holding = false }) moves_there (one_move table of_points HoldEnds (none_in holds over));
            signals = λ place. (at_signal place).goes.stays;
            points = λ place. (at_point place).goes.stays;
            aspects = λ place. (at_signal place).goes.given;
            given = λ place. (at_point place).goes.given;
          };
          frozen = refl;
          sees = record { signals = λ place. (at_signal place).goes.fits; points = λ place. (at_point place).goes.fits; routes = sees.routes; holding = sym over };
        },
      )

      cases : (b : Bool) → is_holding now ixl ≡ b → (c : Bool) → is_holding later ixl ≡ c → (new : Machine) × IsPassed later table ixl given machine new
      cases true was true is = same (was ∙ sym is)
      cases true was false is = ends was is
      cases false was true is = absurd (true≢false (sym (held_before is) ∙ was))
      cases false was false is = same (was ∙ sym is)
