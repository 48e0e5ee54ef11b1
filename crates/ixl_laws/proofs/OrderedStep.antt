-- A whole step calls links in its order, and hands out what the calls do.
use Rattle.std.proofs.Common.{◌≡◌, ◌<◌, ◌≤◌, inl, ℕ, zero, suc, List, [], ◌∷◌, ◌++◌, append_assoc, append-nil, arith, length, refl, ap, sym, ◌∙◌}
use Rattle.std.specs.Prelude.{map, Option, Some, None, option_map, slice_get}
use Rattle.ixl_state.specs.rasta_pdu.PduRead.{reading}
use Rattle.ixl_state.specs.rasta_core.Clock.{settled}
use Rattle.ixl_state.specs.rasta_core.Outbox.{OutboxState}
use Rattle.ixl_state.specs.rasta_core.State.{LinkState}
use Rattle.ixl_state.specs.ixl_client.Client.{ClientState}
use Rattle.ixl_state.specs.ixl_client.Step.{clocked, hearing, ticking}
use Rattle.ixl_state.specs.ixl_client.ClientSoFar.{Opens, Receives, Ticks, begun, calling}
use Rattle.ixl_state.specs.ixl_spec.Commands.{commanded_by, moved_at_once, obeyed, refusal, unmoved_for}
use Rattle.ixl_state.specs.ixl_spec.StepSoFar.{Detector, Node, Point, Signal, StepSoFar, begun_with, empty_outbox, over, with_one, with_route}
use Rattle.ixl_state.specs.ixl_spec.Rules.{count, ruled}
use Rattle.ixl_state.specs.ixl_spec.State.{IxlState, RouteState}
use Rattle.ixl_state.specs.ixl_spec.Step.{Commands, Datagram, Input, Reply, Tick, addressed, all_clocked, client_at, clocked_detector, clocked_known_point, clocked_known_signal, detector_hearing, detector_ticking, given, indicated_heard, known_point_hearing, known_point_ticking, known_signal_hearing, known_signal_ticking, looking, looks, node_hearing, occupied_heard, side_heard, stepped, ticked, watching}
use Rattle.ixl_state.specs.ixl_spec.Table.{Table}
use Rattle.ixl_state.specs.ixl_spec.declared.command.Command.{Command}
use Rattle.ixl_state.specs.ixl_spec.declared.command.Command.TheVariants as commands
use Rattle.ixl_state.specs.ixl_spec.declared.command.Refusal.{Refusal}
use Rattle.ixl_state.specs.First.{key_of}
use Rattle.ixl.specs.Interlocking.{HasStepped, InterlockingState, step_of}
use Rattle.ixl_laws.specs.Called.{ReceivesFirst}
use Rattle.ixl_laws.specs.Order.{AreOfCommand, AreOfInput, AtMostOne, CallsAtLink, CallsInOrder, beats, beats_of, calls_of, handed_out, links_at}
use Rattle.ixl_laws.proofs.Called.{clocked_clients, clocked_link, clocked_peer}
use Rattle.ixl_laws.proofs.CalledGiven.{commanded_clients}
use Rattle.ixl_laws.proofs.CalledSteps.{ClientLaws}
use Rattle.ixl_laws.proofs.InOrder.{Grows, calls_joined, grows_from, grows_nothing, grows_one}
use Rattle.ixl_laws.proofs.Ordered.{Ordered, SameSizes, SpeaksAs, begins_ordered, changed_length, link_of, same_ordered, sizes_then}
use Rattle.ixl_laws.proofs.OrderedNext.{Made, detector_next, point_next, signal_next}
use Rattle.ixl_laws.proofs.OrderedRules.{RulesGrow, move_grows, move_ordered, route_ordered, rules_grow}
use Rattle.ixl_laws.proofs.PickedByTest.{none_is, some_same}
use Rattle.ixl_laws.proofs.Ruled.{along_holds, looking_holds, seen_holds, with_one_or_none}

-- ---- lists

mapped_length : {A B : Type 0} (change : A → B) (list : List A) → length (map change list) ≡ length list
mapped_length change [] = refl
mapped_length change (first ∷ others) = ap suc (mapped_length change others)

is_there : {A : Type 0} (list : List A) (place : ℕ) → place < length list → (one : A) × (slice_get list place ≡ Some one)
is_there [] place within = absurd (omega (arith, within))
is_there (first ∷ others) zero within = (first, refl)
is_there (first ∷ others) (suc place) within = is_there others place (omega (arith, within))

beat_calls : (node : ℕ → Node) (n : ℕ) → calls_of (beats node (suc n)) ≡ calls_of (beats node n) ++ (node n, Ticks) ∷ (node n, Opens) ∷ []
beat_calls node n = calls_joined (beats node n) (record { node = node n; calls = Ticks ∷ Opens ∷ [] } ∷ [])

module _ (now : ℕ) (laws : ClientLaws now) (links : Node → Option LinkState) (start : IxlState) where
  abbrev On : StepSoFar → Type 0
  On part = Ordered now links start part

  -- ---- a datagram

  module _ (table : Table) (bytes : List ℕ) (first : StepSoFar) (ordered : On first) where
    abbrev AreFrom : Node → List CallsAtLink → Type 0
    AreFrom sender = AtMostOne (λ turn. (Some sender ≡ Some turn.node) × ReceivesFirst (Receives bytes ∷ []) turn.calls)

    -- the receipt is all that was done
    record Heard (sender : Node) (part : StepSoFar) : Type 0 where
      on : On part
      grows : Grows (AreFrom sender) first part

    nothing_heard : (sender : Node) → Heard sender first
    nothing_heard sender = record { on = ordered; grows = grows_nothing (AreFrom sender) first first refl (inl refl) }

    receives : (one : ClientState) → ReceivesFirst (Receives bytes ∷ []) (hearing now bytes (begun one first.outbox)).calls
    receives one = let makes = laws.receipt bytes (begun one first.outbox) in record { own = makes.0; calls_are = makes.1.calls_are; take_nothing = makes.2 }

    made : (one : ClientState) → Made now (Receives bytes ∷ (laws.receipt bytes (begun one first.outbox)).0) one first.outbox (hearing now bytes (begun one first.outbox))
    made one = ((laws.receipt bytes (begun one first.outbox)).1, laws.same_receipt bytes (begun one first.outbox))

    grown : (sender : Node) (one : ClientState) (part : StepSoFar) → part.calls ≡ first.calls ++ map (λ call. (sender, call)) (hearing now bytes (begun one first.outbox)).calls → Grows (AreFrom sender) first part
    grown sender one part calls = grows_one _ first part (record { node = sender; calls = (hearing now bytes (begun one first.outbox)).calls }) calls (refl, receives one)

    route_heard : (sender : Node) (number : ℕ) (change : RouteState → RouteState) (part : StepSoFar) → Heard sender part → Heard sender (with_route number change part)
    route_heard sender number change part is = record {
      on = route_ordered now laws links start number change part is.on;
      grows = record { turns = is.grows.turns; calls = is.grows.calls; are = is.grows.are };
    }

    signal_heard : (place : ℕ) → Heard (Signal place) (known_signal_hearing now bytes place first)
    unfolding known_signal_hearing
    signal_heard place = with_one_or_none (Heard (Signal place)) (slice_get first.ixl.known_signals place) _ first (λ kept there.
        let done = hearing now bytes (begun kept.client first.outbox)
        in record {
          on = signal_next now links start place kept first done kept.aspect kept.number (indicated_heard done.heard kept.indicated) _ there (made kept.client) ordered;
          grows = grown (Signal place) kept.client _ refl;
        }) (λ none. nothing_heard (Signal place))

    point_heard : (place : ℕ) → Heard (Point place) (known_point_hearing now bytes place first)
    unfolding known_point_hearing
    point_heard place = with_one_or_none (Heard (Point place)) (slice_get first.ixl.known_points place) _ first (λ kept there.
        let done = hearing now bytes (begun kept.client first.outbox)
        in record {
          on = point_next now links start place kept first done (side_heard done.heard kept.side) kept.moved _ there (made kept.client) ordered;
          grows = grown (Point place) kept.client _ refl;
        }) (λ none. nothing_heard (Point place))

    detector_heard : (place : ℕ) → Heard (Detector place) (detector_hearing now table bytes place first)
    unfolding detector_hearing
    detector_heard place = with_one_or_none (Heard (Detector place)) (slice_get table.detectors place) _ first (λ sections listed.
        with_one_or_none (Heard (Detector place)) (slice_get first.ixl.detectors place) _ first (λ kept there.
        let done = hearing now bytes (begun kept.client first.outbox)
        in along_holds (Heard (Detector place)) (looking table) (looking_holds (Heard (Detector place)) (route_heard (Detector place)) table) (looks sections kept done.heard done.client) _ (record {
          on = detector_next now links start place kept first done (occupied_heard done.heard kept.occupied) _ there (made kept.client) ordered;
          grows = grown (Detector place) kept.client _ refl;
        })) (λ none. nothing_heard (Detector place))) (λ none. nothing_heard (Detector place))

    node_heard : (sender : Node) → Heard sender (node_hearing now table bytes sender first)
    unfolding node_hearing
    node_heard (Signal place) = signal_heard place
    node_heard (Point place) = point_heard place
    node_heard (Detector place) = detector_heard place

    abbrev AreFromSome : Option Node → List CallsAtLink → Type 0
    AreFromSome sender = AtMostOne (λ turn. (sender ≡ Some turn.node) × ReceivesFirst (Receives bytes ∷ []) turn.calls)

    pub datagram_heard : (sender : Option Node) → On (with_one sender (node_hearing now table bytes) first) × Grows (AreFromSome sender) first (with_one sender (node_hearing now table bytes) first)
    datagram_heard None = (ordered, grows_nothing (AreFromSome None) first first refl (inl refl))
    datagram_heard (Some sender) = let heard = node_heard sender in (heard.on, heard.grows)

  -- ---- ticks

  -- so many of one kind were ticked
  record Beaten (node : ℕ → Node) (n : ℕ) (first part : StepSoFar) : Type 0 where
    on : On part
    sizes : SameSizes first.ixl part.ixl
    calls : part.calls ≡ first.calls ++ calls_of (beats node n)

  beaten_next : (node : ℕ → Node) (n : ℕ) (first part next : StepSoFar) → Beaten node n first part → On next → SameSizes part.ixl next.ixl → next.calls ≡ part.calls ++ map (λ call. (node n, call)) (Ticks ∷ Opens ∷ []) →
      Beaten node (suc n) first next
  beaten_next node n first part next is on sizes calls = record {
    on = on;
    sizes = sizes_then first.ixl part.ixl next.ixl is.sizes sizes;
    calls = calls ∙ ap (λ list. list ++ (node n, Ticks) ∷ (node n, Opens) ∷ []) is.calls ∙ append_assoc first.calls (calls_of (beats node n)) ((node n, Ticks) ∷ (node n, Opens) ∷ [])
        ∙ ap (λ more. first.calls ++ more) (sym (beat_calls node n));
  }

  beaten_none : (node : ℕ → Node) (first : StepSoFar) → On first → Beaten node 0 first first
  beaten_none node first on = record { on = on; sizes = record { signals = refl; points = refl; detectors = refl }; calls = sym (append-nil first.calls) }

  ticking_calls : (one : ClientState) (outbox : OutboxState) → (ticking now (begun one outbox)).calls ≡ Ticks ∷ Opens ∷ []
  unfolding ticking calling
  ticking_calls one outbox = refl

  ticked_made : (one : ClientState) (outbox : OutboxState) → Made now (laws.tick (begun one outbox)).0 one outbox (ticking now (begun one outbox))
  ticked_made one outbox = ((laws.tick (begun one outbox)).1, laws.same_tick (begun one outbox))

  signals_beaten : (n : ℕ) (first : StepSoFar) → On first → n ≤ length first.ixl.known_signals → Beaten Signal n first (over (known_signal_ticking now) n first)
  unfolding known_signal_ticking
  signals_beaten zero first on within = beaten_none Signal first on
  signals_beaten (suc n) first on within = next (signals_beaten n first on (omega (arith, within))) where
    part : StepSoFar
    part = over (known_signal_ticking now) n first

    next : Beaten Signal n first part → Beaten Signal (suc n) first (known_signal_ticking now n part)
    next is = with_one_or_none (Beaten Signal (suc n) first) (slice_get part.ixl.known_signals n) _ part (λ kept there.
        beaten_next Signal n first part _ is
        (signal_next now links start n kept part (ticking now (begun kept.client part.outbox)) kept.aspect kept.number kept.indicated _ there (ticked_made kept.client part.outbox) is.on)
        (record { signals = changed_length _ n part.ixl.known_signals; points = refl; detectors = refl })
        (ap (λ calls. part.calls ++ map (λ call. (Signal n, call)) calls) (ticking_calls kept.client part.outbox)))
        (λ none. let found = is_there part.ixl.known_signals n (omega (arith, within, is.sizes.signals)) in absurd (none_is (sym none ∙ found.1)))

  points_beaten : (n : ℕ) (first : StepSoFar) → On first → n ≤ length first.ixl.known_points → Beaten Point n first (over (known_point_ticking now) n first)
  unfolding known_point_ticking
  points_beaten zero first on within = beaten_none Point first on
  points_beaten (suc n) first on within = next (points_beaten n first on (omega (arith, within))) where
    part : StepSoFar
    part = over (known_point_ticking now) n first

    next : Beaten Point n first part → Beaten Point (suc n) first (known_point_ticking now n part)
    next is = with_one_or_none (Beaten Point (suc n) first) (slice_get part.ixl.known_points n) _ part (λ kept there.
        beaten_next Point n first part _ is
        (point_next now links start n kept part (ticking now (begun kept.client part.outbox)) kept.side kept.moved _ there (ticked_made kept.client part.outbox) is.on)
        (record { signals = refl; points = changed_length _ n part.ixl.known_points; detectors = refl })
        (ap (λ calls. part.calls ++ map (λ call. (Point n, call)) calls) (ticking_calls kept.client part.outbox)))
        (λ none. let found = is_there part.ixl.known_points n (omega (arith, within, is.sizes.points)) in absurd (none_is (sym none ∙ found.1)))

  detectors_beaten : (n : ℕ) (first : StepSoFar) → On first → n ≤ length first.ixl.detectors → Beaten Detector n first (over (detector_ticking now) n first)
  unfolding detector_ticking
  detectors_beaten zero first on within = beaten_none Detector first on
  detectors_beaten (suc n) first on within = next (detectors_beaten n first on (omega (arith, within))) where
    part : StepSoFar
    part = over (detector_ticking now) n first

    next : Beaten Detector n first part → Beaten Detector (suc n) first (detector_ticking now n part)
    next is = with_one_or_none (Beaten Detector (suc n) first) (slice_get part.ixl.detectors n) _ part (λ kept there.
        beaten_next Detector n first part _ is
        (detector_next now links start n kept part (ticking now (begun kept.client part.outbox)) kept.occupied _ there (ticked_made kept.client part.outbox) is.on)
        (record { signals = refl; points = refl; detectors = changed_length _ n part.ixl.detectors })
        (ap (λ calls. part.calls ++ map (λ call. (Detector n, call)) calls) (ticking_calls kept.client part.outbox)))
        (λ none. let found = is_there part.ixl.detectors n (omega (arith, within, is.sizes.detectors)) in absurd (none_is (sym none ∙ found.1)))

  pub tick_ordered : (input : Input) (part : StepSoFar) → On part → On (ticked now input part) × ((ticked now input part).calls ≡ part.calls ++ calls_of (beats_of input start))
  unfolding ticked
  tick_ordered (Commands command) part is = (is, sym (append-nil part.calls))
  tick_ordered (Datagram bytes) part is = (is, sym (append-nil part.calls))
  tick_ordered Tick part is = (detectors.on, calls) where
    s : ℕ
    s = length part.ixl.known_signals

    p : ℕ
    p = length part.ixl.known_points

    d : ℕ
    d = length part.ixl.detectors

    signalled : StepSoFar
    signalled = over (known_signal_ticking now) (length part.ixl.known_signals) part

    pointed : StepSoFar
    pointed = over (known_point_ticking now) (length part.ixl.known_points) signalled

    signals : Beaten Signal (length part.ixl.known_signals) part signalled
    signals = signals_beaten (length part.ixl.known_signals) part is (omega arith)

    points : Beaten Point (length part.ixl.known_points) signalled pointed
    points = points_beaten (length part.ixl.known_points) signalled signals.on (omega (arith, signals.sizes.points))

    detectors : Beaten Detector (length part.ixl.detectors) pointed (over (detector_ticking now) (length part.ixl.detectors) pointed)
    detectors = detectors_beaten (length part.ixl.detectors) pointed points.on (omega (arith, signals.sizes.detectors, points.sizes.detectors))

    joined : calls_of (beats Signal s ++ beats Point p ++ beats Detector d) ≡ calls_of (beats Signal s) ++ (calls_of (beats Point p) ++ calls_of (beats Detector d))
    joined = calls_joined (beats Signal s ++ beats Point p) (beats Detector d) ∙ ap (λ list. list ++ calls_of (beats Detector d)) (calls_joined (beats Signal s) (beats Point p))
        ∙ append_assoc (calls_of (beats Signal s)) (calls_of (beats Point p)) (calls_of (beats Detector d))

    calls : (over (detector_ticking now) (length part.ixl.detectors) pointed).calls ≡ part.calls ++ calls_of (beats_of Tick start)
    calls = detectors.calls ∙ ap (λ list. list ++ calls_of (beats Detector d)) (points.calls ∙ ap (λ list. list ++ calls_of (beats Point p)) signals.calls)
        ∙ append_assoc (part.calls ++ calls_of (beats Signal s)) (calls_of (beats Point p)) (calls_of (beats Detector d))
        ∙ append_assoc part.calls (calls_of (beats Signal s)) (calls_of (beats Point p) ++ calls_of (beats Detector d))
        ∙ ap (λ more. part.calls ++ more) (sym joined)
        ∙ ap (λ n. part.calls ++ calls_of (beats Signal n ++ beats Point p ++ beats Detector d)) is.sizes.signals
        ∙ ap (λ n. part.calls ++ calls_of (beats Signal (length start.known_signals) ++ beats Point n ++ beats Detector d)) is.sizes.points
        ∙ ap (λ n. part.calls ++ calls_of (beats Signal (length start.known_signals) ++ beats Point (length start.known_points) ++ beats Detector n)) is.sizes.detectors

-- ---- a step

kept_links : (now : ℕ) (kept : Option ClientState) → option_map (λ (one : ClientState). settled now one.link) kept ≡ link_of (option_map (clocked now) kept)
kept_links now None = refl
kept_links now (Some one) = ap Some (sym (clocked_link now one))

module _ (now : ℕ) (laws : ClientLaws now) (old : InterlockingState) where
  abbrev first : StepSoFar
  first = begun_with (all_clocked now old.state.ixl) empty_outbox

  abbrev OnStep : StepSoFar → Type 0
  OnStep part = Ordered now (links_at now old.state.ixl) old.state.ixl part

  speaks : (node : Node) (one : ClientState) → client_at node (all_clocked now old.state.ixl) ≡ Some one → SpeaksAs old.state.ixl node one
  speaks node one is = by_kept (client_at node old.state.ixl) refl where
    by_kept : (kept : Option ClientState) → client_at node old.state.ixl ≡ kept → SpeaksAs old.state.ixl node one
    by_kept None at = absurd (none_is (sym (clocked_clients now node old.state.ixl ∙ ap (option_map (clocked now)) at) ∙ is))
    by_kept (Some was) at =
        let found : clocked now was ≡ one = some_same (sym (clocked_clients now node old.state.ixl ∙ ap (option_map (clocked now)) at) ∙ is)
        in (was, at, ap (λ (c : ClientState). c.peer) (sym found) ∙ clocked_peer now was)

  clocked_sizes : SameSizes old.state.ixl (all_clocked now old.state.ixl)
  unfolding all_clocked
  clocked_sizes = record {
    signals = mapped_length (clocked_known_signal now) old.state.ixl.known_signals;
    points = mapped_length (clocked_known_point now) old.state.ixl.known_points;
    detectors = mapped_length (clocked_detector now) old.state.ixl.detectors;
  }

  begins : OnStep first
  begins = begins_ordered now (links_at now old.state.ixl) old.state.ixl first refl refl
      (λ node. kept_links now (client_at node old.state.ixl) ∙ ap link_of (sym (clocked_clients now node old.state.ixl))) speaks clocked_sizes

  obeyed_sizes : (command : Command) (ixl : IxlState) → SameSizes ixl (obeyed now command ixl)
  unfolding obeyed
  obeyed_sizes (commands.Request route) ixl = record { signals = refl; points = mapped_length (unmoved_for route.0) ixl.known_points; detectors = refl }
  obeyed_sizes (commands.Cancel route) ixl = record { signals = refl; points = refl; detectors = refl }
  obeyed_sizes commands.Resume ixl = record { signals = refl; points = refl; detectors = refl }
  obeyed_sizes (commands.Release route) ixl = record { signals = refl; points = refl; detectors = refl }
  obeyed_sizes (commands.Move point side) ixl = record { signals = refl; points = refl; detectors = refl }
  obeyed_sizes (commands.Close named) ixl = record { signals = refl; points = refl; detectors = refl }
  obeyed_sizes (commands.Open named) ixl = record { signals = refl; points = refl; detectors = refl }

  commanded_sizes : (cause : Option Refusal) (command : Command) (ixl : IxlState) → SameSizes ixl (commanded_by now cause command ixl)
  commanded_sizes None command ixl = obeyed_sizes command ixl
  commanded_sizes (Some refused) command ixl = record { signals = refl; points = refl; detectors = refl }

  -- a move calls the link of its point, and no other command any
  no_calls : (command : Command) → AreOfCommand old.state.ixl command []
  no_calls (commands.Request route) = refl
  no_calls (commands.Cancel route) = refl
  no_calls commands.Resume = refl
  no_calls (commands.Release route) = refl
  no_calls (commands.Move point side) = inl refl
  no_calls (commands.Close named) = refl
  no_calls (commands.Open named) = refl

  moved_heard : (cause : Option Refusal) (command : Command) (part : StepSoFar) → part.calls ≡ first.calls → OnStep part →
      OnStep (moved_at_once now cause command part) × Grows (AreOfCommand old.state.ixl command) first (moved_at_once now cause command part)
  unfolding moved_at_once
  moved_heard (Some refused) command part same on = (on, grows_nothing (AreOfCommand old.state.ixl command) first part same (no_calls command))
  moved_heard None (commands.Move point side) part same on = (
    move_ordered now laws (links_at now old.state.ixl) old.state.ixl point.0 side part on,
    grows_from (AreOfCommand old.state.ixl (commands.Move point side)) part first _ same (move_grows now laws (links_at now old.state.ixl) old.state.ixl point.0 side part on),
  )
  moved_heard None (commands.Request route) part same on = (on, grows_nothing (AreOfCommand old.state.ixl (commands.Request route)) first part same refl)
  moved_heard None (commands.Cancel route) part same on = (on, grows_nothing (AreOfCommand old.state.ixl (commands.Cancel route)) first part same refl)
  moved_heard None commands.Resume part same on = (on, grows_nothing (AreOfCommand old.state.ixl commands.Resume) first part same refl)
  moved_heard None (commands.Release route) part same on = (on, grows_nothing (AreOfCommand old.state.ixl (commands.Release route)) first part same refl)
  moved_heard None (commands.Close named) part same on = (on, grows_nothing (AreOfCommand old.state.ixl (commands.Close named)) first part same refl)
  moved_heard None (commands.Open named) part same on = (on, grows_nothing (AreOfCommand old.state.ixl (commands.Open named)) first part same refl)

  input_heard : (input : Input) → OnStep (given now old.state.sited.table (key_of old.state.sited.site) input first) × Grows (AreOfInput now input old) first (given now old.state.sited.table (key_of old.state.sited.site) input first)
  unfolding given
  input_heard Tick = (begins, grows_nothing (AreOfInput now Tick old) first first refl refl)
  input_heard (Commands command) =
      let cause = refusal now old.state.sited.table command (all_clocked now old.state.ixl)
      in moved_heard cause command (record first { ixl = commanded_by now cause command (all_clocked now old.state.ixl) }) refl
      (same_ordered now (links_at now old.state.ixl) old.state.ixl first (commanded_by now cause command (all_clocked now old.state.ixl))
      (λ node. commanded_clients now cause command (all_clocked now old.state.ixl) node) (commanded_sizes cause command (all_clocked now old.state.ixl)) begins)
  input_heard (Datagram bytes) = datagram_heard now laws (links_at now old.state.ixl) old.state.ixl old.state.sited.table bytes first begins (addressed (reading (key_of old.state.sited.site) bytes) (all_clocked now old.state.ixl))

  module _ (input : Input) where
    heard : StepSoFar
    heard = given now old.state.sited.table (key_of old.state.sited.site) input first

    seen : StepSoFar
    seen = over (watching old.state.sited.table) (count old.state.sited.table) heard

    seen_on : OnStep seen
    unfolding heard seen
    seen_on = seen_holds OnStep (route_ordered now laws (links_at now old.state.ixl) old.state.ixl) old.state.sited.table heard (input_heard input).0

    grows : Grows (AreOfInput now input old) first heard
    unfolding heard
    grows = (input_heard input).1

    seen_calls : seen.calls ≡ calls_of grows.turns
    unfolding seen
    seen_calls = seen_holds (λ p. p.calls ≡ calls_of grows.turns) (λ number change p same. same) old.state.sited.table heard grows.calls

    rules : RulesGrow now laws (links_at now old.state.ixl) old.state.ixl old.state.sited.table seen (ruled now old.state.sited.table seen)
    rules = rules_grow now laws (links_at now old.state.ixl) old.state.ixl old.state.sited.table seen seen_on

    ends : OnStep (ticked now input (ruled now old.state.sited.table seen)) × ((ticked now input (ruled now old.state.sited.table seen)).calls ≡ (ruled now old.state.sited.table seen).calls ++ calls_of (beats_of input old.state.ixl))
    ends = tick_ordered now laws (links_at now old.state.ixl) old.state.ixl input (ruled now old.state.sited.table seen) rules.ordered

    joined : (a b c d e : List CallsAtLink) → calls_of (a ++ b ++ c ++ d ++ e) ≡ calls_of a ++ calls_of b ++ calls_of c ++ calls_of d ++ calls_of e
    joined a b c d e = calls_joined (a ++ b ++ c ++ d) e ∙ ap (λ list. list ++ calls_of e) (calls_joined (a ++ b ++ c) d
        ∙ ap (λ list. list ++ calls_of d) (calls_joined (a ++ b) c ∙ ap (λ list. list ++ calls_of c) (calls_joined a b)))

    pub calls_in_order : CallsInOrder now input old
    unfolding stepped heard seen
    calls_in_order = record {
      heard = grows.turns;
      stops = rules.stops;
      moves = rules.moves;
      proceeds = rules.proceeds;
      calls = ends.1 ∙ ap (λ list. list ++ calls_of (beats_of input old.state.ixl)) (rules.calls ∙ ap (λ list. list ++ calls_of rules.stops ++ calls_of rules.moves ++ calls_of rules.proceeds) seen_calls)
          ∙ sym (joined grows.turns rules.stops rules.moves rules.proceeds (beats_of input old.state.ixl));
      heard_are = grows.are;
      stops_are = rules.stops_are;
      moves_are = rules.moves_are;
      proceeds_are = rules.proceeds_are;
    }

    pub datagrams_in_order : (new : InterlockingState) (answer : Reply) → HasStepped now input old new answer → new.outbox.datagrams ≡ handed_out now (step_of now input old.state).calls (links_at now old.state.ixl)
    unfolding stepped heard seen
    datagrams_in_order new answer step = ap (λ (box : OutboxState). box.datagrams) step.outbox ∙ ends.0.outbox
