-- A world in which one controller is changed, or none, is seen by the machine.
use Rattle.std.proofs.Common.{◌≡◌, ◌≢◌, ◌⊎◌, ◌∙◌, ℕ, ◌+◌, ◌<◌, true, false, List, length, Some, None, slice_get, slice_set, refl, sym, ap, subst, arith, inl, inr}
use Rattle.std.specs.List.{Contains}
use Rattle.std.proofs.lemmas.Option.{same_Some}
use Rattle.simulator_link_laws.specs.sci_telegram.declared.message.Position.{Position}
use Rattle.simulator_link_laws.specs.layout.declared.entries.Point.{Point}
use Rattle.simulator_link_laws.specs.layout.declared.entries.Signal.{Signal}
use Rattle.simulator_link_laws.specs.layout.Entries.{Site}
use Rattle.simulator_link_laws.specs.rasta_core.Ends.{EndState}
use Rattle.simulator_link_laws.specs.rasta_core.Links.{Links, seen}
use Rattle.simulator_link_laws.specs.point_ctl.Drive.{PointState}
use Rattle.simulator_link_laws.specs.signal_ctl.Signal.{SignalState}
use Rattle.simulator_link_laws.specs.ixl_spec.Table.{Table}
use Rattle.simulator_machine.specs.Chains.{MovesTo, PointMayChain, SignalMayChain, point_chained, signal_chained}
use Rattle.simulator_machine.specs.Invariant.{Invariant}
use Rattle.simulator_machine.specs.Link.{Gone, Link}
use Rattle.simulator_machine.specs.Lists.{is_same}
use Rattle.simulator_machine.specs.Machine.{Machine, with_point, with_signal}
use Rattle.simulator_machine.specs.Point.{Point as MachinePoint, PointMove}
use Rattle.simulator_machine.specs.Signal.{Signal as MachineSignal, SignalMove}
use Rattle.simulator_machine.specs.Table.{IsSound, Table as MachineTable}
use Rattle.simulator_link_laws.specs.simulator_move_laws.Items.{aspects_in, moves_in}
use Rattle.simulator_link_laws.specs.simulator_move_laws.EndsSeen.{client_of}
use Rattle.simulator_link_laws.specs.simulator_move_laws.Point.{IsPointSeen, PointGoes}
use Rattle.simulator_link_laws.specs.simulator_move_laws.Signal.{IsSignalSeen, SignalGoes}
use Rattle.simulator_link_laws.specs.simulator_move_laws.Onward.{LooksAlike, PointLooksAlike, SignalLooksAlike}
use Rattle.simulator_link_laws.specs.simulator_move_laws.Rows.{machine_table}
use Rattle.simulator_link_laws.specs.simulator_spec.Nodes.{point_link}
use Rattle.simulator_link_laws.specs.simulator_spec.State.{ClockedControllerState, WorldState}
use Rattle.simulator_link_laws.specs.simulator_event.Safe.{IsThere}
use Rattle.simulator_link_laws.specs.simulator_event.declared.snapshot.Held.{Held}
use Rattle.simulator_safety.specs.Represents.{AreFrozen, ArePointsSeen, AreSignalsSeen, IsHostOf, Represents, RepresentsAfter, IsInterlockingSeen}
use Rattle.simulator_safety.specs.Seen.{AreHeldPairs}
use Rattle.simulator_safety.specs.Change.{LeavesInterlocking}
use Rattle.simulator_safety.proofs.Elsewhere.{StayLaws, client_seen, point_stays, signal_stays, station_stays}
use Rattle.simulator_safety.proofs.ControllerLists.{at_other, at_place, get_set, get_set_other, none_some, same_or_other, some_within, within_some}

-- the laws that this stands on
pub record ChangeLaws : Type 0 where
  pub stays : StayLaws
  pub signal_moves : (table : MachineTable) (machine : Machine) (place : ℕ) (moves : List SignalMove) → SignalMayChain moves (machine.signals place)
      → MovesTo table machine (with_signal place (signal_chained moves (machine.signals place)) machine)
  pub point_moves : (table : MachineTable) (machine : Machine) (place : ℕ) (moves : List PointMove) → PointMayChain moves (machine.points place)
      → MovesTo table machine (with_point place (point_chained moves (machine.points place)) machine)
  pub none : (table : MachineTable) (machine : Machine) → MovesTo table machine machine
  pub reached : (table : MachineTable) (old new : Machine) → IsSound table → Invariant table old → MovesTo table old new → Invariant table new
  pub sound : (table : Table) → IsSound (machine_table table)
  pub same : (n : ℕ) → is_same n n ≡ true
  pub other : (a b : ℕ) → a ≢ b → is_same a b ≡ false

module _ (laws : ChangeLaws) (site : Site) (table : Table) (world new : WorldState) (machine : Machine) (represented : Represents site table world machine) (after : Links)
    (leaves : LeavesInterlocking site world new represented.network after) where
  abbrev before : Links
  before = represented.network

  -- ---- the parts together

  frozen_stays : (other : Machine) → other.frozen ≡ machine.frozen → AreFrozen site table new.frozen other
  frozen_stays other same = record {
    pairs = subst (λ held. AreHeldPairs (machine_table table) new.frozen held) (sym same)
        (subst (λ (pairs : List Held). AreHeldPairs (machine_table table) pairs machine.frozen) (sym leaves.frozen) represented.frozen.pairs);
    there = subst (λ (pairs : List Held). (pair : Held) → Contains pairs pair → IsThere site pair) (sym leaves.frozen) represented.frozen.there;
  }

  pub together : (other : Machine) → MovesTo (machine_table table) machine other → LooksAlike world.interlocking.ixl machine other
      → AreSignalsSeen site after new.signals other → ArePointsSeen site after new.points new.positions other → RepresentsAfter site table machine new
  together other moves alike signals points = record {
    machine = other;
    moves = moves;
    represented = record {
      network = after;
      linked = leaves.linked;
      signals = signals;
      points = points;
      station = subst (λ station. IsInterlockingSeen site table after station other) (sym leaves.station)
          (station_stays laws.stays site table before after leaves.clients world.interlocking machine other alike represented.station);
      frozen = frozen_stays other alike.frozen;
      invariant = laws.reached (machine_table table) machine other (laws.sound table) represented.invariant moves;
    };
  }

  -- ---- what is elsewhere

  signal_there : (place : ℕ) (server : ClockedControllerState SignalState) → slice_get world.signals place ≡ Some server → place < length site.signals
  signal_there place server at = subst (λ n. place < n) represented.linked.whole.signals (within_some world.signals place server at)

  point_there : (place : ℕ) (server : ClockedControllerState PointState) → slice_get world.points place ≡ Some server → place < length site.points
  point_there place server at = subst (λ n. place < n) represented.linked.whole.points (within_some world.points place server at)

  one_signal_stays : (place : ℕ) (server : ClockedControllerState SignalState) → slice_get world.signals place ≡ Some server → (after.ends place).server ≡ (before.ends place).server
      → IsSignalSeen (seen place after) server.host (machine.signals place)
  one_signal_stays place server at same =
      signal_stays laws.stays (seen place before) (seen place after) server.host (machine.signals place) (leaves.clients place) same (represented.signals.each place server at)

  one_point_stays : (place : ℕ) (server : ClockedControllerState PointState) → slice_get world.points place ≡ Some server → (after.ends (point_link site place)).server ≡ (before.ends (point_link site place)).server
      → IsPointSeen (seen (point_link site place) after) server.host (machine.points place)
  one_point_stays place server at same =
      point_stays laws.stays (seen (point_link site place) before) (seen (point_link site place) after) server.host (machine.points place) (leaves.clients (point_link site place)) same (represented.points.each place server at)

  signals_elsewhere : (other : Machine) → other.signals ≡ machine.signals → new.signals ≡ world.signals → ((link : ℕ) → link < length site.signals → (after.ends link).server ≡ (before.ends link).server)
      → AreSignalsSeen site after new.signals other
  signals_elsewhere other same signals servers = record {
    each = λ place server at.
        let there : slice_get world.signals place ≡ Some server = ap (λ l. slice_get l place) (sym signals) ∙ at
        in subst (λ (all : ℕ → MachineSignal). IsSignalSeen (seen place after) server.host (all place)) (sym same)
        (one_signal_stays place server there (servers place (signal_there place server there)));
    hosts = λ place entry server is at. represented.signals.hosts place entry server is (ap (λ l. slice_get l place) (sym signals) ∙ at);
  }

  points_elsewhere : (other : Machine) → other.points ≡ machine.points → new.points ≡ world.points → new.positions ≡ world.positions
      → ((place : ℕ) → place < length site.points → (after.ends (point_link site place)).server ≡ (before.ends (point_link site place)).server)
      → ArePointsSeen site after new.points new.positions other
  points_elsewhere other same points positions servers = record {
    each = λ place server at.
        let there : slice_get world.points place ≡ Some server = ap (λ l. slice_get l place) (sym points) ∙ at
        in subst (λ (all : ℕ → MachinePoint). IsPointSeen (seen (point_link site place) after) server.host (all place)) (sym same)
        (one_point_stays place server there (servers place (point_there place server there)));
    hosts = λ place entry server is at. represented.points.hosts place entry server is (ap (λ l. slice_get l place) (sym points) ∙ at);
    sensed = λ place server position at is.
        represented.points.sensed place server position (ap (λ l. slice_get l place) (sym points) ∙ at) (ap (λ (l : List Position). slice_get l place) (sym positions) ∙ is);
    count = ap (λ (l : List Position). length l) positions ∙ represented.points.count;
  }

  -- ---- no controller is changed

  all_alike : LooksAlike world.interlocking.ixl machine machine
  all_alike = record {
    signals = λ place. record { client = refl; aspects = refl; confirmed = refl };
    points = λ place. record { client = refl; moves = refl; heard = refl };
    unknown = λ place none gone. gone;
    routes = refl;
    holding = refl;
    frozen = refl;
  }

  pub none_changed : new.signals ≡ world.signals → new.points ≡ world.points → new.positions ≡ world.positions
      → ((link : ℕ) → link < length site.signals + length site.points → (after.ends link).server ≡ (before.ends link).server) → RepresentsAfter site table machine new
  none_changed signals points positions servers =
      together machine (laws.none (machine_table table) machine) all_alike
      (signals_elsewhere machine refl signals (λ link below. servers link (omega (arith, below))))
      (points_elsewhere machine refl points positions (λ place below. servers (point_link site place) (omega (arith, below))))

  -- ---- one signal is changed

  module _ (place : ℕ) (next : ClockedControllerState SignalState) (below : place < length site.signals)
      (goes : SignalGoes (machine.signals place) (IsSignalSeen (seen place after) next.host)) where
    abbrev new_signal : MachineSignal
    new_signal = signal_chained goes.moves (machine.signals place)

    abbrev with_one_signal : Machine
    with_one_signal = with_signal place new_signal machine

    signal_here : with_one_signal.signals place ≡ new_signal
    signal_here = at_place place new_signal machine.signals (laws.same place)

    signal_elsewhere : (other : ℕ) → other ≢ place → with_one_signal.signals other ≡ machine.signals other
    signal_elsewhere other differ = at_other place new_signal machine.signals other (laws.other other place differ)

    within_signals : place < length world.signals
    within_signals = subst (λ n. place < n) (sym represented.linked.whole.signals) below

    signal_alike : SignalLooksAlike (machine.signals place) new_signal
    signal_alike =
        let old = some_within world.signals place within_signals
        in let was = represented.signals.each place old.0 old.1
        in record {
          client = ap (λ (l : Link). l.client) goes.sees.link ∙ client_seen (seen place after) ∙ ap client_of (leaves.clients place) ∙ sym (client_seen (seen place before)) ∙ sym (ap (λ (l : Link). l.client) was.link);
          aspects = goes.sees.given ∙ ap (λ (e : EndState). aspects_in e.given) (leaves.clients place) ∙ sym was.given;
          confirmed = goes.confirmed;
        }

    signals_alike : (other : ℕ) → (other ≡ place) ⊎ (other ≢ place) → SignalLooksAlike (machine.signals other) (with_one_signal.signals other)
    signals_alike other (inl same) = subst (λ n. SignalLooksAlike (machine.signals n) (with_one_signal.signals n)) (sym same) (subst (SignalLooksAlike (machine.signals place)) (sym signal_here) signal_alike)
    signals_alike other (inr differ) = subst (SignalLooksAlike (machine.signals other)) (sym (signal_elsewhere other differ)) (record { client = refl; aspects = refl; confirmed = refl })

    stays_gone : (other : ℕ) → (other ≡ place) ⊎ (other ≢ place) → slice_get world.interlocking.ixl.known_signals other ≡ None → (machine.signals other).link.server ≡ Gone → (with_one_signal.signals other).link.server ≡ Gone
    stays_gone other (inl same) none gone =
        let known_signal = some_within world.interlocking.ixl.known_signals place (subst (λ n. place < n) (sym represented.linked.whole.clients.known_signals) below)
        in absurd (none_some known_signal.0 (sym none ∙ ap (slice_get world.interlocking.ixl.known_signals) same ∙ known_signal.1))
    stays_gone other (inr differ) none gone = ap (λ (s : MachineSignal). s.link.server) (signal_elsewhere other differ) ∙ gone

    alike_signal : LooksAlike world.interlocking.ixl machine with_one_signal
    alike_signal = record {
      signals = λ other. signals_alike other (same_or_other other place);
      points = λ other. record { client = refl; moves = refl; heard = refl };
      unknown = λ other. stays_gone other (same_or_other other place);
      routes = refl;
      holding = refl;
      frozen = refl;
    }

    module _ (signals : new.signals ≡ slice_set world.signals place next) (others : (link : ℕ) → link ≢ place → (after.ends link).server ≡ (before.ends link).server)
        (host : (entry : Signal) → slice_get site.signals place ≡ Some entry → IsHostOf site entry.name next.host) where
      next_there : (server : ClockedControllerState SignalState) → slice_get new.signals place ≡ Some server → next ≡ server
      next_there server at = same_Some next server (sym (ap (λ l. slice_get l place) signals ∙ get_set world.signals place next within_signals) ∙ at)

      other_there : (other : ℕ) (server : ClockedControllerState SignalState) → other ≢ place → slice_get new.signals other ≡ Some server → slice_get world.signals other ≡ Some server
      other_there other server differ at = sym (ap (λ l. slice_get l other) signals ∙ get_set_other world.signals place other next differ) ∙ at

      each_signal : (other : ℕ) (server : ClockedControllerState SignalState) → (other ≡ place) ⊎ (other ≢ place) → slice_get new.signals other ≡ Some server
          → IsSignalSeen (seen other after) server.host (with_one_signal.signals other)
      each_signal other server (inl same) at =
          subst (λ n. IsSignalSeen (seen n after) server.host (with_one_signal.signals n)) (sym same)
          (subst (λ (s : ClockedControllerState SignalState). IsSignalSeen (seen place after) s.host (with_one_signal.signals place)) (next_there server (ap (slice_get new.signals) (sym same) ∙ at))
          (subst (IsSignalSeen (seen place after) next.host) (sym signal_here) goes.sees))
      each_signal other server (inr differ) at =
          let there = other_there other server differ at
          in subst (IsSignalSeen (seen other after) server.host) (sym (signal_elsewhere other differ)) (one_signal_stays other server there (others other differ))

      each_signal_host : (other : ℕ) (entry : Signal) (server : ClockedControllerState SignalState) → (other ≡ place) ⊎ (other ≢ place) → slice_get site.signals other ≡ Some entry → slice_get new.signals other ≡ Some server
          → IsHostOf site entry.name server.host
      each_signal_host other entry server (inl same) is at =
          subst (λ (s : ClockedControllerState SignalState). IsHostOf site entry.name s.host) (next_there server (ap (slice_get new.signals) (sym same) ∙ at)) (host entry (ap (slice_get site.signals) (sym same) ∙ is))
      each_signal_host other entry server (inr differ) is at = represented.signals.hosts other entry server is (other_there other server differ at)

      pub signal_changed : new.points ≡ world.points → new.positions ≡ world.positions → RepresentsAfter site table machine new
      signal_changed points positions =
          together with_one_signal (laws.signal_moves (machine_table table) machine place goes.moves goes.may) alike_signal
          (record {
            each = λ other server at. each_signal other server (same_or_other other place) at;
            hosts = λ other entry server is at. each_signal_host other entry server (same_or_other other place) is at;
          })
          (points_elsewhere with_one_signal refl points positions (λ other within. others (point_link site other) (λ same. omega (arith, below, same))))

  -- ---- one point is changed

  module _ (place : ℕ) (next : ClockedControllerState PointState) (below : place < length site.points)
      (goes : PointGoes (machine.points place) (IsPointSeen (seen (point_link site place) after) next.host)) where
    abbrev new_point : MachinePoint
    new_point = point_chained goes.moves (machine.points place)

    abbrev with_one_point : Machine
    with_one_point = with_point place new_point machine

    point_here : with_one_point.points place ≡ new_point
    point_here = at_place place new_point machine.points (laws.same place)

    point_elsewhere : (other : ℕ) → other ≢ place → with_one_point.points other ≡ machine.points other
    point_elsewhere other differ = at_other place new_point machine.points other (laws.other other place differ)

    within_points : place < length world.points
    within_points = subst (λ n. place < n) (sym represented.linked.whole.points) below

    point_alike : PointLooksAlike (machine.points place) new_point
    point_alike =
        let old = some_within world.points place within_points
        in let was = represented.points.each place old.0 old.1
        in let link : ℕ = point_link site place
        in record {
          client = ap (λ (l : Link). l.client) goes.sees.link ∙ client_seen (seen link after) ∙ ap client_of (leaves.clients link) ∙ sym (client_seen (seen link before)) ∙ sym (ap (λ (l : Link). l.client) was.link);
          moves = goes.sees.given ∙ ap (λ (e : EndState). length (moves_in e.given)) (leaves.clients link) ∙ sym was.given;
          heard = goes.heard;
        }

    points_alike : (other : ℕ) → (other ≡ place) ⊎ (other ≢ place) → PointLooksAlike (machine.points other) (with_one_point.points other)
    points_alike other (inl same) = subst (λ n. PointLooksAlike (machine.points n) (with_one_point.points n)) (sym same) (subst (PointLooksAlike (machine.points place)) (sym point_here) point_alike)
    points_alike other (inr differ) = subst (PointLooksAlike (machine.points other)) (sym (point_elsewhere other differ)) (record { client = refl; moves = refl; heard = refl })

    alike_point : LooksAlike world.interlocking.ixl machine with_one_point
    alike_point = record {
      signals = λ other. record { client = refl; aspects = refl; confirmed = refl };
      points = λ other. points_alike other (same_or_other other place);
      unknown = λ other none gone. gone;
      routes = refl;
      holding = refl;
      frozen = refl;
    }

    module _ (points : new.points ≡ slice_set world.points place next) (others : (link : ℕ) → link ≢ point_link site place → (after.ends link).server ≡ (before.ends link).server)
        (host : (entry : Point) → slice_get site.points place ≡ Some entry → IsHostOf site entry.name next.host)
        (stands : (position : Position) → slice_get new.positions place ≡ Some position → next.host.object.sensed ≡ position)
        (elsewhere : (other : ℕ) → other ≢ place → slice_get new.positions other ≡ slice_get world.positions other) where
      next_point_there : (server : ClockedControllerState PointState) → slice_get new.points place ≡ Some server → next ≡ server
      next_point_there server at = same_Some next server (sym (ap (λ l. slice_get l place) points ∙ get_set world.points place next within_points) ∙ at)

      other_point_there : (other : ℕ) (server : ClockedControllerState PointState) → other ≢ place → slice_get new.points other ≡ Some server → slice_get world.points other ≡ Some server
      other_point_there other server differ at = sym (ap (λ l. slice_get l other) points ∙ get_set_other world.points place other next differ) ∙ at

      other_link : (other : ℕ) → other ≢ place → point_link site other ≢ point_link site place
      other_link other differ same = differ (omega (arith, same))

      each_point : (other : ℕ) (server : ClockedControllerState PointState) → (other ≡ place) ⊎ (other ≢ place) → slice_get new.points other ≡ Some server
          → IsPointSeen (seen (point_link site other) after) server.host (with_one_point.points other)
      each_point other server (inl same) at =
          subst (λ n. IsPointSeen (seen (point_link site n) after) server.host (with_one_point.points n)) (sym same)
          (subst (λ (s : ClockedControllerState PointState). IsPointSeen (seen (point_link site place) after) s.host (with_one_point.points place)) (next_point_there server (ap (slice_get new.points) (sym same) ∙ at))
          (subst (IsPointSeen (seen (point_link site place) after) next.host) (sym point_here) goes.sees))
      each_point other server (inr differ) at =
          let there = other_point_there other server differ at
          in subst (IsPointSeen (seen (point_link site other) after) server.host) (sym (point_elsewhere other differ)) (one_point_stays other server there (others (point_link site other) (other_link other differ)))

      each_point_host : (other : ℕ) (entry : Point) (server : ClockedControllerState PointState) → (other ≡ place) ⊎ (other ≢ place) → slice_get site.points other ≡ Some entry → slice_get new.points other ≡ Some server
          → IsHostOf site entry.name server.host
      each_point_host other entry server (inl same) is at =
          subst (λ (s : ClockedControllerState PointState). IsHostOf site entry.name s.host) (next_point_there server (ap (slice_get new.points) (sym same) ∙ at)) (host entry (ap (slice_get site.points) (sym same) ∙ is))
      each_point_host other entry server (inr differ) is at = represented.points.hosts other entry server is (other_point_there other server differ at)

      each_sensed : (other : ℕ) (server : ClockedControllerState PointState) (position : Position) → (other ≡ place) ⊎ (other ≢ place) → slice_get new.points other ≡ Some server → slice_get new.positions other ≡ Some position
          → server.host.object.sensed ≡ position
      each_sensed other server position (inl same) at is =
          subst (λ (s : ClockedControllerState PointState). s.host.object.sensed ≡ position) (next_point_there server (ap (slice_get new.points) (sym same) ∙ at)) (stands position (ap (slice_get new.positions) (sym same) ∙ is))
      each_sensed other server position (inr differ) at is = represented.points.sensed other server position (other_point_there other server differ at) (sym (elsewhere other differ) ∙ is)

      pub point_changed : new.signals ≡ world.signals → length new.positions ≡ length world.positions → RepresentsAfter site table machine new
      point_changed signals count =
          together with_one_point (laws.point_moves (machine_table table) machine place goes.moves goes.may) alike_point
          (signals_elsewhere with_one_point refl signals (λ link within. others link (λ same. omega (arith, within, same))))
          (record {
            each = λ other server at. each_point other server (same_or_other other place) at;
            hosts = λ other entry server is at. each_point_host other entry server (same_or_other other place) is at;
            sensed = λ other server position at is. each_sensed other server position (same_or_other other place) at is;
            count = count ∙ represented.points.count;
          })
