-- Time passes.
use Rattle.std.proofs.Common.{◌≡◌, ◌≢◌, ◌∙◌, ◌+◌, ◌<◌, ◌≤◌, ℕ, zero, suc, Bool, true, false, not, nat_le, List, [], ◌∷◌, length, drop, Option, Some, None, refl, sym, ap, subst, arith}
use Rattle.std.specs.Prelude.{◌==◌, ◌&&◌, slice_get, slice_index_or}
use Rattle.std.specs.List.{list_all}
use Rattle.std.proofs.lemmas.Bool.{true≢false}
use Rattle.std.proofs.lemmas.Bool.Decides.{nat_tests}
use Rattle.simulator_link_laws.specs.layout.Entries.{Site}
use Rattle.simulator_link_laws.specs.rasta_core.Clock.{settled}
use Rattle.simulator_link_laws.specs.rasta_core.Ends.{end_later, reading_of}
use Rattle.simulator_link_laws.specs.rasta_core.Links.{Links, run_links, seen}
use Rattle.simulator_link_laws.specs.rasta_core.Names.{Names}
use Rattle.simulator_link_laws.specs.rasta_core.Parameters.{greatest}
use Rattle.simulator_link_laws.specs.rasta_core.Run.{Ends, later}
use Rattle.simulator_link_laws.specs.rasta_core.State.{LinkState}
use Rattle.simulator_link_laws.specs.object_host.Host.{HostState}
use Rattle.simulator_link_laws.specs.point_ctl.Drive.{PointState}
use Rattle.simulator_link_laws.specs.signal_ctl.Signal.{SignalState}
use Rattle.simulator_link_laws.specs.ixl_spec.State.{IxlState, KnownSignalState, KnownPointState}
use Rattle.simulator_link_laws.specs.ixl_spec.Table.{Table}
use Rattle.simulator_link_laws.specs.simulator_event.refused.Refused.{Refused}
use Rattle.simulator_link_laws.specs.simulator_event.refused.Refused.TheVariants as refused
use Rattle.simulator_machine.specs.Chains.{MovesTo, NoneFrom, PointMayChain, SignalMayChain, point_chained, points_chained, signal_chained, signals_chained}
use Rattle.simulator_machine.specs.Invariant.{Invariant}
use Rattle.simulator_machine.specs.Link.{Down, In, Link}
use Rattle.simulator_machine.specs.Machine.{Machine}
use Rattle.simulator_machine.specs.Point.{Point as MachinePoint, PointMove}
use Rattle.simulator_machine.specs.Signal.{Signal as MachineSignal, SignalMove}
use Rattle.simulator_machine.specs.Table.{Table as MachineTable}
use Rattle.simulator_link_laws.specs.simulator_move_laws.Lawful.{AreLawful, IsLawful}
use Rattle.simulator_link_laws.specs.simulator_move_laws.EndsSeen.{represented, server_of}
use Rattle.simulator_link_laws.specs.simulator_move_laws.Ends.{AreFit, server_later}
use Rattle.simulator_link_laws.specs.simulator_move_laws.Point.{IsPointSeen, PointGoes}
use Rattle.simulator_link_laws.specs.simulator_move_laws.Signal.{IsSignalSeen, SignalGoes}
use Rattle.simulator_link_laws.specs.simulator_move_laws.Onward.{AreAloneAfterQuiet, IsPassed, LooksAlike, PointLooksAlike, SignalLooksAlike}
use Rattle.simulator_link_laws.specs.simulator_move_laws.Link.{client_at}
use Rattle.simulator_link_laws.specs.simulator_move_laws.Rows.{machine_table}
use Rattle.simulator_link_laws.specs.simulator_move_laws.Sees.{Given, Sees, SeesPoint, SeesSignal}
use Rattle.simulator_link_laws.specs.Events.{time_events}
use Rattle.simulator_link_laws.specs.Nodes.{IsEndOfClient}
use Rattle.simulator_link_laws.specs.Whole.{IsWhole}
use Rattle.simulator_link_laws.specs.simulator_spec.Happens.{all_later, passed}
use Rattle.simulator_link_laws.specs.simulator_spec.Links.{AreLinksOf, names_at}
use Rattle.simulator_link_laws.specs.simulator_spec.Nodes.{links, nodes, point_link}
use Rattle.simulator_link_laws.specs.simulator_spec.Refusals.{all_within, interlocking_within, keeps_time, refusal_of_time, refused_where}
use Rattle.simulator_link_laws.specs.simulator_spec.TrueClocks.{refusal_but_drift}
use Rattle.simulator_link_laws.specs.simulator_spec.Controllers as servers_of
use Rattle.simulator_link_laws.specs.simulator_spec.State.{ClockedControllerState, WorldState}
use Rattle.simulator_safety.specs.Represents.{AreFrozen, ArePointsSeen, AreSignalsSeen, IsHostOf, IsNetworkOf, Represents, RepresentsAfter, IsInterlockingSeen, given_in}
use Rattle.simulator_safety.specs.Seen.{AreHeldPairs}
use Rattle.simulator_safety.proofs.TimePasses.{client_seen, point_passed, server_seen, signal_passed}
use Rattle.simulator_safety.proofs.StationEnds.{EndLaws, server_represented}
use Rattle.simulator_safety.proofs.StationLists.{get_below, none_above, none_long, within_some}

-- ---- the station's clock keeps within its limit

not_refused : (fails : Bool) (why : Refused) (otherwise : Option Refused) → refused_where fails why otherwise ≡ None → (fails ≡ false) × (otherwise ≡ None)
not_refused true why otherwise e = absurd (cc (e))
not_refused false why otherwise e = (refl, e)

not_false : (b : Bool) → not b ≡ false → b ≡ true
not_false true e = refl
not_false false e = absurd (true≢false e)

first_true : (a b : Bool) → a && b ≡ true → a ≡ true
first_true true b is = refl
first_true false b is = absurd (true≢false (sym is))

second_true : (a b : Bool) → a && b ≡ true → b ≡ true
second_true true b is = is
second_true false b is = absurd (true≢false (sym is))

within_limit : (a b : ℕ) → nat_le a b ≡ true → a ≤ b
within_limit a b e = grind (arith, nat_tests)

station_kept : (clock : ℕ) (steps : List ℕ) (others : List ℕ → Bool) (count : ℕ) → length steps ≡ suc count → interlocking_within clock steps others ≡ true → clock + slice_index_or steps 0 0 ≤ 9000000000000000
station_kept clock [] others count many is = absurd (omega arith)
station_kept clock (step ∷ steps) others count many is = within_limit (clock + step) 9000000000000000 (first_true (nat_le (clock + step) 9000000000000000) (others steps) is)

same_count : (a b : ℕ) → (a == b) ≡ true → a ≡ b
same_count a b e = grind (arith, nat_tests)

pub clock_within : (site : Site) (elapsed : ℕ) (steps : List ℕ) (world : WorldState) → refusal_of_time site elapsed steps world ≡ None → world.interlocking.clock + slice_index_or steps 0 0 ≤ 9000000000000000
unfolding refusal_of_time
clock_within site elapsed steps world none =
    let first = not_refused (not (length steps == nodes site)) refused.NoSuchNode _ none
    in let second = not_refused (not (list_all (keeps_time elapsed) steps)) refused.Drift _ first.1
    in let third = not_refused (not (nat_le (world.time + elapsed) 9000000000000000 && all_within world steps)) refused.ClockLimit None second.1
    in station_kept world.interlocking.clock steps _ (links site) (same_count (length steps) (nodes site) (not_false (length steps == nodes site) first.0))
    (second_true (nat_le (world.time + elapsed) 9000000000000000) (all_within world steps) (not_false (nat_le (world.time + elapsed) 9000000000000000 && all_within world steps) third.0))

-- so it does where nothing but its drift refuses a time
pub clock_within_but : (site : Site) (elapsed : ℕ) (steps : List ℕ) (world : WorldState) → refusal_but_drift site elapsed steps world ≡ None → world.interlocking.clock + slice_index_or steps 0 0 ≤ 9000000000000000
unfolding refusal_but_drift
clock_within_but site elapsed steps world none =
    let first = not_refused (not (length steps == nodes site)) refused.NoSuchNode _ none
    in let third = not_refused (not (nat_le (world.time + elapsed) 9000000000000000 && all_within world steps)) refused.ClockLimit None first.1
    in station_kept world.interlocking.clock steps _ (links site) (same_count (length steps) (nodes site) (not_false (length steps == nodes site) first.0))
    (second_true (nat_le (world.time + elapsed) 9000000000000000) (all_within world steps) (not_false (nat_le (world.time + elapsed) 9000000000000000 && all_within world steps) third.0))

reads_later : (clock elapsed : ℕ) → reading_of clock ≤ reading_of (clock + elapsed)
reads_later clock elapsed = omega arith

below_greatest : (clock : ℕ) → clock ≤ 9000000000000000 → reading_of clock < greatest
below_greatest clock within = omega arith

-- ---- the hosts stay as they are

pub host_later : {Object : Type 0} (moment : ℕ) (steps : List ℕ) (servers : List (ClockedControllerState Object)) (place : ℕ) (server : ClockedControllerState Object) → slice_get (all_later moment steps servers) place ≡ Some server
    → (before : ClockedControllerState Object) × (slice_get servers place ≡ Some before) × (server.host ≡ before.host)
unfolding servers_of.controller_later
host_later moment steps [] place server at = absurd (cc (at))
host_later moment [] (first ∷ others) place server at = (server, at, refl)
host_later {Object = Object} moment (step ∷ steps) (first ∷ others) zero server at = (first, refl, ap host_in (sym at)) where
  host_in : Option (ClockedControllerState Object) → HostState Object
  host_in None = first.host
  host_in (Some one) = one.host
host_later moment (step ∷ steps) (first ∷ others) (suc place) server at = host_later moment steps others place server at

-- ---- the laws that this stands on

pub record TimeLaws : Type 0 where
  pub ends : EndLaws
  pub each : (count : ℕ) (names : ℕ → Names) (network : Links) → AreLawful count names network → (link : ℕ) → link < count → IsLawful (names link) (seen link network)
  pub fit : (names : Names) (two : Ends) → IsLawful names two → AreFit two
  pub signal_alone : (elapsed of_client of_server : ℕ) (two : Ends) (host : HostState SignalState) (signal : MachineSignal) → AreFit two → AreFit (later elapsed of_client of_server two)
      → IsSignalSeen two host signal → SignalGoes signal (IsSignalSeen (server_later elapsed of_client of_server two) host)
  pub point_alone : (elapsed of_client of_server : ℕ) (two : Ends) (host : HostState PointState) (point : MachinePoint) → AreFit two → AreFit (later elapsed of_client of_server two)
      → IsPointSeen two host point → PointGoes point (IsPointSeen (server_later elapsed of_client of_server two) host)
  pub signals_move : (table : MachineTable) (machine : Machine) (count : ℕ) (moves : ℕ → List SignalMove) → ((place : ℕ) → SignalMayChain (moves place) (machine.signals place))
      → NoneFrom count moves → MovesTo table machine (signals_chained moves machine)
  pub points_move : (table : MachineTable) (machine : Machine) (count : ℕ) (moves : ℕ → List PointMove) → ((place : ℕ) → PointMayChain (moves place) (machine.points place))
      → NoneFrom count moves → MovesTo table machine (points_chained moves machine)
  pub compose : (table : MachineTable) (old between new : Machine) → MovesTo table old between → MovesTo table between new → MovesTo table old new
  pub alike : (now : ℕ) (kept : IxlState) (given : Given) (old new : Machine) → Sees now kept given old → LooksAlike kept old new → Sees now kept given new
  pub passing : (now later : ℕ) (table : MachineTable) (kept : IxlState) (given : Given) (machine : Machine) → now ≤ later → Sees now kept given machine
      → AreAloneAfterQuiet later kept machine → (new : Machine) × IsPassed later table kept given machine new
  pub alone : (now : ℕ) (names : Names) (link : LinkState) (two : Ends) → IsLawful names two → reading_of two.client.clock ≡ now → two.client.link ≡ settled now link
      → client_at now link ≡ Down → server_of two ≢ In
  pub known_signal_end : (site : Site) (world : WorldState) (network : Links) → IsWhole site world → AreLinksOf site world network → (place : ℕ) (known_signal : KnownSignalState)
      → slice_get world.interlocking.ixl.known_signals place ≡ Some known_signal → (place < links site) × IsEndOfClient world.interlocking known_signal.client (network.ends place).client
  pub known_point_end : (site : Site) (world : WorldState) (network : Links) → IsWhole site world → AreLinksOf site world network → (place : ℕ) (known_point : KnownPointState)
      → slice_get world.interlocking.ixl.known_points place ≡ Some known_point → (point_link site place < links site) × IsEndOfClient world.interlocking known_point.client (network.ends (point_link site place)).client
  pub reached : (table : Table) (old new : Machine) → Invariant (machine_table table) old → MovesTo (machine_table table) old new → Invariant (machine_table table) new

-- ---- the moves of each

module _ (laws : TimeLaws) (site : Site) (table : Table) (elapsed : ℕ) (steps : List ℕ) (world : WorldState) (machine : Machine) (represented_is : Represents site table world machine)
    (within : world.interlocking.clock + slice_index_or steps 0 0 ≤ 9000000000000000)
    (linked : IsNetworkOf site (passed elapsed steps world) (run_links (time_events elapsed steps) represented_is.network)) where
  abbrev network : Links
  network = represented_is.network

  abbrev after : Links
  after = run_links (time_events elapsed steps) network

  abbrev of_client : ℕ
  of_client = slice_index_or steps 0 0

  abbrev of_server : ℕ → ℕ
  of_server link = slice_index_or (drop 1 steps) link 0

  abbrev kept : IxlState
  kept = world.interlocking.ixl

  abbrev now : ℕ
  now = reading_of world.interlocking.clock

  abbrev reading : ℕ
  reading = reading_of (world.interlocking.clock + slice_index_or steps 0 0)

  -- a link when the clock of its server has gone on, and not yet that of its client
  abbrev half : ℕ → Ends
  half link = server_later elapsed (slice_index_or steps 0 0) (slice_index_or (drop 1 steps) link 0) (seen link network)

  whole_is : (link : ℕ) → later elapsed (slice_index_or steps 0 0) (slice_index_or (drop 1 steps) link 0) (seen link network) ≡ seen link after
  unfolding later
  whole_is link = refl

  signal_below : (place : ℕ) → place < length site.signals → place < links site
  signal_below place inside = sums (length site.signals) (length site.points) (length site.detectors) inside where
    sums : (a b c : ℕ) → place < a → place < a + b + c
    sums a b c less = omega arith

  point_below : (place : ℕ) → place < length site.points → point_link site place < links site
  point_below place inside = sums (length site.signals) (length site.points) (length site.detectors) inside where
    sums : (a b c : ℕ) → place < b → a + place < a + b + c
    sums a b c less = omega arith

  fit_before : (link : ℕ) → link < links site → AreFit (seen link network)
  fit_before link below = laws.fit (names_at site link) (seen link network) (laws.each (links site) (names_at site) network represented_is.linked.lawful link below)

  fit_after : (link : ℕ) → link < links site → AreFit (later elapsed (slice_index_or steps 0 0) (slice_index_or (drop 1 steps) link 0) (seen link network))
  fit_after link below = subst AreFit (sym (whole_is link)) (laws.fit (names_at site link) (seen link after) (laws.each (links site) (names_at site) after linked.lawful link below))

  -- what becomes of a signal of the machine, where there is one at the place
  abbrev SignalBetween : ℕ → Option (ClockedControllerState SignalState) → MachineSignal → Type 0
  SignalBetween place None signal = signal ≡ machine.signals place
  SignalBetween place (Some server) signal = IsSignalSeen (half place) server.host signal × (signal.confirmed ≡ (machine.signals place).confirmed)

  record SignalMoves (place : ℕ) (found : Option (ClockedControllerState SignalState)) : Type 0 where
    moves : List SignalMove
    may : SignalMayChain moves (machine.signals place)
    between : SignalBetween place found (signal_chained moves (machine.signals place))
    none : found ≡ None → moves ≡ []

  signal_moves : (place : ℕ) (found : Option (ClockedControllerState SignalState)) → slice_get world.signals place ≡ found → SignalMoves place found
  signal_moves place None at = record { moves = []; may = tt; between = refl; none = λ e. refl }
  signal_moves place (Some server) at =
      let below = signal_below place (subst (λ n. place < n) represented_is.linked.whole.signals (within_some world.signals place server at))
      in let goes : SignalGoes (machine.signals place) (IsSignalSeen (half place) server.host)
      = laws.signal_alone elapsed (slice_index_or steps 0 0) (slice_index_or (drop 1 steps) place 0) (seen place network) server.host (machine.signals place) (fit_before place below) (fit_after place below)
      (represented_is.signals.each place server at)
      in record { moves = goes.moves; may = goes.may; between = (goes.sees, goes.confirmed); none = λ e. absurd (cc (e)) }

  abbrev PointBetween : ℕ → Option (ClockedControllerState PointState) → MachinePoint → Type 0
  PointBetween place None point = point ≡ machine.points place
  PointBetween place (Some server) point = IsPointSeen (half (point_link site place)) server.host point × (point.heard ≡ (machine.points place).heard)

  record PointMoves (place : ℕ) (found : Option (ClockedControllerState PointState)) : Type 0 where
    moves : List PointMove
    may : PointMayChain moves (machine.points place)
    between : PointBetween place found (point_chained moves (machine.points place))
    none : found ≡ None → moves ≡ []

  point_moves : (place : ℕ) (found : Option (ClockedControllerState PointState)) → slice_get world.points place ≡ found → PointMoves place found
  point_moves place None at = record { moves = []; may = tt; between = refl; none = λ e. refl }
  point_moves place (Some server) at =
      let below = point_below place (subst (λ n. place < n) represented_is.linked.whole.points (within_some world.points place server at))
      in let goes : PointGoes (machine.points place) (IsPointSeen (half (point_link site place)) server.host)
      = laws.point_alone elapsed (slice_index_or steps 0 0) (slice_index_or (drop 1 steps) (point_link site place) 0) (seen (point_link site place) network) server.host (machine.points place)
      (fit_before (point_link site place) below) (fit_after (point_link site place) below) (represented_is.points.each place server at)
      in record { moves = goes.moves; may = goes.may; between = (goes.sees, goes.heard); none = λ e. absurd (cc (e)) }

  abbrev of_signals : ℕ → List SignalMove
  of_signals place = (signal_moves place (slice_get world.signals place) refl).moves

  abbrev of_points : ℕ → List PointMove
  of_points place = (point_moves place (slice_get world.points place) refl).moves

  -- ---- when the servers' clocks have gone on

  abbrev signals_between : Machine
  signals_between = signals_chained of_signals machine

  abbrev between : Machine
  between = points_chained of_points signals_between

  to_between : MovesTo (machine_table table) machine between
  to_between = laws.compose (machine_table table) machine signals_between between
      (laws.signals_move (machine_table table) machine (length world.signals) of_signals (λ place. (signal_moves place (slice_get world.signals place) refl).may)
      (λ place above. (signal_moves place (slice_get world.signals place) refl).none (none_above world.signals place above)))
      (laws.points_move (machine_table table) signals_between (length world.points) of_points (λ place. (point_moves place (slice_get world.points place) refl).may)
      (λ place above. (point_moves place (slice_get world.points place) refl).none (none_above world.points place above)))

  signal_between : (place : ℕ) (server : ClockedControllerState SignalState) → slice_get world.signals place ≡ Some server
      → IsSignalSeen (half place) server.host (between.signals place) × ((between.signals place).confirmed ≡ (machine.signals place).confirmed)
  signal_between place server at = subst (λ o. SignalBetween place o (between.signals place)) at (signal_moves place (slice_get world.signals place) refl).between

  no_signal_between : (place : ℕ) → slice_get world.signals place ≡ None → between.signals place ≡ machine.signals place
  no_signal_between place at = subst (λ o. SignalBetween place o (between.signals place)) at (signal_moves place (slice_get world.signals place) refl).between

  point_between : (place : ℕ) (server : ClockedControllerState PointState) → slice_get world.points place ≡ Some server
      → IsPointSeen (half (point_link site place)) server.host (between.points place) × ((between.points place).heard ≡ (machine.points place).heard)
  point_between place server at = subst (λ o. PointBetween place o (between.points place)) at (point_moves place (slice_get world.points place) refl).between

  no_point_between : (place : ℕ) → slice_get world.points place ≡ None → between.points place ≡ machine.points place
  no_point_between place at = subst (λ o. PointBetween place o (between.points place)) at (point_moves place (slice_get world.points place) refl).between

  signal_alike : (place : ℕ) (found : Option (ClockedControllerState SignalState)) → slice_get world.signals place ≡ found → SignalLooksAlike (machine.signals place) (between.signals place)
  signal_alike place None at = subst (λ s. SignalLooksAlike (machine.signals place) s) (sym (no_signal_between place at)) (record { client = refl; aspects = refl; confirmed = refl })
  signal_alike place (Some server) at =
      let new = signal_between place server at
      in let old = represented_is.signals.each place server at
      in record {
        client = ap (λ (l : Link). l.client) new.0.link ∙ client_seen elapsed (slice_index_or steps 0 0) (slice_index_or (drop 1 steps) place 0) (seen place network) ∙ ap (λ (l : Link). l.client) (sym old.link);
        aspects = new.0.given ∙ sym old.given;
        confirmed = new.1;
      }

  point_alike : (place : ℕ) (found : Option (ClockedControllerState PointState)) → slice_get world.points place ≡ found → PointLooksAlike (machine.points place) (between.points place)
  point_alike place None at = subst (λ p. PointLooksAlike (machine.points place) p) (sym (no_point_between place at)) (record { client = refl; moves = refl; heard = refl })
  point_alike place (Some server) at =
      let new = point_between place server at
      in let old = represented_is.points.each place server at
      in record {
        client = ap (λ (l : Link). l.client) new.0.link ∙ client_seen elapsed (slice_index_or steps 0 0) (slice_index_or (drop 1 steps) (point_link site place) 0) (seen (point_link site place) network)
            ∙ ap (λ (l : Link). l.client) (sym old.link);
        moves = new.0.given ∙ sym old.given;
        heard = new.1;
      }

  looks_alike : LooksAlike kept machine between
  looks_alike = record {
    signals = λ place. signal_alike place (slice_get world.signals place) refl;
    points = λ place. point_alike place (slice_get world.points place) refl;
    unknown = λ place none gone.
        let above : length kept.known_signals ≤ place = none_long kept.known_signals place none
        in let nowhere : slice_get world.signals place ≡ None = none_above world.signals place (subst (λ n. n ≤ place) (represented_is.linked.whole.clients.known_signals ∙ sym represented_is.linked.whole.signals) above)
        in ap (λ (s : MachineSignal). s.link.server) (no_signal_between place nowhere) ∙ gone;
    routes = refl;
    holding = refl;
    frozen = refl;
  }

  -- ---- when the client's clocks have gone on too

  known_signal_after : (place : ℕ) (known_signal : KnownSignalState) → slice_get kept.known_signals place ≡ Some known_signal
      → (place < links site) × ((after.ends place).client.link ≡ settled reading known_signal.client.link) × (reading_of (after.ends place).client.clock ≡ reading)
  unfolding passed
  known_signal_after place known_signal at = let end = laws.known_signal_end site (passed elapsed steps world) after linked.whole linked.are place known_signal at in (end.0, end.1.link_is, ap reading_of end.1.clock_is)

  known_point_after : (place : ℕ) (known_point : KnownPointState) → slice_get kept.known_points place ≡ Some known_point
      → (point_link site place < links site) × ((after.ends (point_link site place)).client.link ≡ settled reading known_point.client.link) × (reading_of (after.ends (point_link site place)).client.clock ≡ reading)
  unfolding passed
  known_point_after place known_point at = let end = laws.known_point_end site (passed elapsed steps world) after linked.whole linked.are place known_point at in (end.0, end.1.link_is, ap reading_of end.1.clock_is)

  server_is : (link : ℕ) → server_of (half link) ≡ server_of (seen link after)
  server_is link = server_seen elapsed (slice_index_or steps 0 0) (slice_index_or (drop 1 steps) link 0) (seen link network) ∙ ap server_of (whole_is link)

  alone_after : (link : ℕ) (state : LinkState) → link < links site → (after.ends link).client.link ≡ settled reading state → reading_of (after.ends link).client.clock ≡ reading
      → (machine_link : Link) → machine_link ≡ represented (half link) → client_at reading state ≡ Down → machine_link.server ≢ In
  alone_after link state below link_is clock_is machine_link is down inside =
      laws.alone reading (names_at site link) state (seen link after) (laws.each (links site) (names_at site) after linked.lawful link below) clock_is link_is down
      (sym (ap (λ (l : Link). l.server) is ∙ server_represented (half link) ∙ server_is link) ∙ inside)

  are_alone : AreAloneAfterQuiet reading kept between
  are_alone = record {
    clock = below_greatest (world.interlocking.clock + slice_index_or steps 0 0) within;
    signals = λ place known_signal at.
        let server = get_below world.signals place (subst (λ n. place < n) (represented_is.linked.whole.clients.known_signals ∙ sym represented_is.linked.whole.signals) (within_some kept.known_signals place known_signal at))
        in let end = known_signal_after place known_signal at
        in alone_after place known_signal.client.link end.0 end.1 end.2 (between.signals place).link (signal_between place server.0 server.1).0.link;
    points = λ place known_point at.
        let server = get_below world.points place (subst (λ n. place < n) (represented_is.linked.whole.clients.known_points ∙ sym represented_is.linked.whole.points) (within_some kept.known_points place known_point at))
        in let end = known_point_after place known_point at
        in alone_after (point_link site place) known_point.client.link end.0 end.1 end.2 (between.points place).link (point_between place server.0 server.1).0.link;
  }

  goes_on : (new : Machine) × IsPassed reading (machine_table table) kept (given_in site network) between new
  goes_on = laws.passing now reading (machine_table table) kept (given_in site network) between (reads_later world.interlocking.clock (slice_index_or steps 0 0))
      (laws.alike now kept (given_in site network) machine between represented_is.station.sees looks_alike) are_alone

  -- ---- the world then

  module _ (new : Machine) (is : IsPassed reading (machine_table table) kept (given_in site network) between new) where
    known_signal_seen : (place : ℕ) (known_signal : KnownSignalState) → slice_get kept.known_signals place ≡ Some known_signal → (new.signals place).link.client ≡ client_at reading known_signal.client.link
    known_signal_seen place known_signal at = (subst (λ o. SeesSignal reading kept o ((given_in site network).signals place) (new.signals place)) at (is.sees.signals place)).fits.place

    known_point_seen : (place : ℕ) (known_point : KnownPointState) → slice_get kept.known_points place ≡ Some known_point → (new.points place).link.client ≡ client_at reading known_point.client.link
    known_point_seen place known_point at = (subst (λ o. SeesPoint reading kept o ((given_in site network).points place) (new.points place)) at (is.sees.points place)).fits.place

    one_signal : (place : ℕ) (server : ClockedControllerState SignalState) → slice_get world.signals place ≡ Some server → IsSignalSeen (seen place after) server.host (new.signals place)
    one_signal place server at =
        let known_signal = get_below kept.known_signals place (subst (λ n. place < n) (represented_is.linked.whole.signals ∙ sym represented_is.linked.whole.clients.known_signals) (within_some world.signals place server at))
        in let end = known_signal_after place known_signal.0 known_signal.1
        in subst (λ (e : Ends). IsSignalSeen e server.host (new.signals place)) (whole_is place)
        (signal_passed elapsed (slice_index_or steps 0 0) (slice_index_or (drop 1 steps) place 0) (seen place network) laws.ends reading known_signal.0.client.link
        (ap (λ (e : Ends). reading_of e.client.clock) (whole_is place) ∙ end.2) (ap (λ (e : Ends). e.client.link) (whole_is place) ∙ end.1)
        server.host (between.signals place) (new.signals place) (signal_between place server at).0 (known_signal_seen place known_signal.0 known_signal.1) (is.keeps.signals place) (is.keeps.aspects place))

    one_point : (place : ℕ) (server : ClockedControllerState PointState) → slice_get world.points place ≡ Some server → IsPointSeen (seen (point_link site place) after) server.host (new.points place)
    one_point place server at =
        let known_point = get_below kept.known_points place (subst (λ n. place < n) (represented_is.linked.whole.points ∙ sym represented_is.linked.whole.clients.known_points) (within_some world.points place server at))
        in let end = known_point_after place known_point.0 known_point.1
        in subst (λ (e : Ends). IsPointSeen e server.host (new.points place)) (whole_is (point_link site place))
        (point_passed elapsed (slice_index_or steps 0 0) (slice_index_or (drop 1 steps) (point_link site place) 0) (seen (point_link site place) network) laws.ends reading known_point.0.client.link
        (ap (λ (e : Ends). reading_of e.client.clock) (whole_is (point_link site place)) ∙ end.2) (ap (λ (e : Ends). e.client.link) (whole_is (point_link site place)) ∙ end.1)
        server.host (between.points place) (new.points place) (point_between place server at).0 (known_point_seen place known_point.0 known_point.1) (is.keeps.points place) (is.keeps.given place))

    signals_then : AreSignalsSeen site after (passed elapsed steps world).signals new
    unfolding passed
    signals_then = record {
      each = λ place server at.
          let before = host_later (length world.sent) (drop 1 steps) world.signals place server at
          in subst (λ h. IsSignalSeen (seen place after) h (new.signals place)) (sym before.2) (one_signal place before.0 before.1);
      hosts = λ place entry server there at.
          let before = host_later (length world.sent) (drop 1 steps) world.signals place server at
          in subst (λ h. IsHostOf site entry.name h) (sym before.2) (represented_is.signals.hosts place entry before.0 there before.1);
    }

    points_then : ArePointsSeen site after (passed elapsed steps world).points (passed elapsed steps world).positions new
    unfolding passed
    points_then = record {
      each = λ place server at.
          let before = host_later (length world.sent) (drop (length world.signals) (drop 1 steps)) world.points place server at
          in subst (λ h. IsPointSeen (seen (point_link site place) after) h (new.points place)) (sym before.2) (one_point place before.0 before.1);
      hosts = λ place entry server there at.
          let before = host_later (length world.sent) (drop (length world.signals) (drop 1 steps)) world.points place server at
          in subst (λ h. IsHostOf site entry.name h) (sym before.2) (represented_is.points.hosts place entry before.0 there before.1);
      sensed = λ place server position at stands.
          let before = host_later (length world.sent) (drop (length world.signals) (drop 1 steps)) world.points place server at
          in ap (λ h. h.object.sensed) before.2 ∙ represented_is.points.sensed place before.0 position before.1 stands;
      count = represented_is.points.count;
    }

    station_then : IsInterlockingSeen site table after (passed elapsed steps world).interlocking new
    unfolding passed end_later
    station_then = record {
      sees = is.sees;
      routes = represented_is.station.routes;
      objects = represented_is.station.objects;
      clock = within;
    }

    frozen_then : AreFrozen site table (passed elapsed steps world).frozen new
    unfolding passed
    frozen_then = record { pairs = subst (λ f. AreHeldPairs (machine_table table) world.frozen f) (sym is.frozen) represented_is.frozen.pairs; there = represented_is.frozen.there }

    to_new : MovesTo (machine_table table) machine new
    to_new = laws.compose (machine_table table) machine between new to_between is.keeps.moves

    all_then : Represents site table (passed elapsed steps world) new
    all_then = record {
      network = after;
      linked = linked;
      signals = signals_then;
      points = points_then;
      station = station_then;
      frozen = frozen_then;
      invariant = laws.reached table machine new represented_is.invariant to_new;
    }

  pub time_represented : RepresentsAfter site table machine (passed elapsed steps world)
  time_represented = record { machine = goes_on.0; moves = to_new goes_on.0 goes_on.1; represented = all_then goes_on.0 goes_on.1 }
