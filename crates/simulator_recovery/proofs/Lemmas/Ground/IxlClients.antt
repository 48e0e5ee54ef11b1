-- What is kept of every client in a step of an interlocking.
use Rattle.simulator_recovery.proofs.Words.Basics.{◌≡◌, ℕ, zero, suc, Bool, true, false, List, [], ◌∷◌, map, Option, Some, None, slice_get, ◌⊎◌, inl, inr, if◌then◌else◌, refl, sym, ap, subst, none-some, same_Some}
use Rattle.simulator_recovery.proofs.Words.Links.{reading, Key}
use Rattle.simulator_recovery.proofs.Words.Controllers.{Aspect, Side}
use Rattle.simulator_recovery.proofs.Words.Interlockings.{ClientState, is_outside, ClientSoFar, begun, clocked, commanding, hearing, ticking, commanded_by, obeyed, refusal, unmoved_for, count, is_move_due, is_proceed_due, is_stop_due, moving_one, proceeding, ruled, withdrawing, IxlState, KnownDetectorState, KnownPointState, KnownSignalState, RouteState, changed, Commands, Datagram, Input, Tick, addressed, all_clocked, clocked_detector, clocked_known_point, clocked_known_signal, detector_hearing, detector_ticking, given, known_point_hearing, known_point_ticking, known_signal_hearing, known_signal_ticking, looking, looks, node_hearing, occupied_heard, stepped, ticked, watching, Detector, Node, Point, Signal, StepSoFar, detector_after, giving_aspect, giving_move, known_point_after, known_signal_after, noted, with_detector, with_one, with_route, Need, Table, Command, Refusal}
use Rattle.simulator_recovery.proofs.Words.Stations.{Places}
use Rattle.simulator_recovery.proofs.Words.Recovery.{EachClient}
use Rattle.simulator_spec.specs.ixl_client.declared.command.Command.{Command as ClientCommand}
use Rattle.simulator_recovery.proofs.Lemmas.Ground.DueShapes.{along_keeps, looking_turns, one_keeps, over_keeps, route_holds, ticked_keeps, turned_keeps, watching_turns, where_both}
use Rattle.simulator_recovery.proofs.Lemmas.Ground.DueTests.{either}
use Rattle.simulator_recovery.proofs.Lemmas.Ground.MovedAtOnce.{moved_keeps}

-- ---- lists of which one is changed

-- what stands at a place of a list of which one was changed: this one, or what stood there
pub changed_at : {X : Type 0} (change : X → X) (place : ℕ) (list : List X) (k : ℕ) (y : X) → slice_get (changed change place list) k ≡ Some y
    → ((k ≡ place) × (x : X) × (slice_get list place ≡ Some x) × (y ≡ change x)) ⊎ (slice_get list k ≡ Some y)
changed_at change place [] k y e = inr e
changed_at change zero (x ∷ xs) zero y e = inl (refl, x, refl, sym (same_Some (change x) y e))
changed_at change zero (x ∷ xs) (suc k) y e = inr e
changed_at change (suc place) (x ∷ xs) zero y e = inr e
changed_at change (suc place) (x ∷ xs) (suc k) y e = choose (changed_at change place xs k y e)
  where
    choose : ((k ≡ place) × (z : _) × (slice_get xs place ≡ Some z) × (y ≡ change z)) ⊎ (slice_get xs k ≡ Some y) → ((suc k ≡ suc place) × (z : _) × (slice_get xs place ≡ Some z) × (y ≡ change z)) ⊎ (slice_get xs k ≡ Some y)
    choose (inl (f, z, g, h)) = inl (ap suc f, z, g, h)
    choose (inr f) = inr f

pub mapped_at : {X Y : Type 0} (f : X → Y) (list : List X) (k : ℕ) (y : Y) → slice_get (map f list) k ≡ Some y → (x : X) × (slice_get list k ≡ Some x) × (y ≡ f x)
mapped_at f [] k y e = absurd (none-some y e)
mapped_at f (x ∷ xs) zero y e = (x, refl, sym (same_Some (f x) y e))
mapped_at f (x ∷ xs) (suc k) y e = mapped_at f xs k y e

-- ---- an object that is known, by its client

-- A signal with this client: nothing was given where the client is outside.
pub signal_is : (P : KnownSignalState → Type 0) (aspect : Option Aspect) (number : ℕ) (indicated : Option Aspect) (client : ClientState)
    → (is_outside client.stage ≡ true → P (record { client = client; aspect = None; number = 0; indicated = None }))
    → (is_outside client.stage ≡ false → P (record { client = client; aspect = aspect; number = number; indicated = indicated })) → P (known_signal_after aspect number indicated client)
unfolding known_signal_after
signal_is P aspect number indicated client outside inside = choose (is_outside client.stage) refl
  where
    none : KnownSignalState
    none = record { client = client; aspect = None; number = 0; indicated = None }

    some : KnownSignalState
    some = record { client = client; aspect = aspect; number = number; indicated = indicated }

    choose : (b : Bool) → is_outside client.stage ≡ b → P (if b then none else some)
    choose true = outside
    choose false = inside

pub signal_client : (aspect : Option Aspect) (number : ℕ) (indicated : Option Aspect) (client : ClientState) → (known_signal_after aspect number indicated client).client ≡ client
signal_client aspect number indicated client = signal_is (λ (known : KnownSignalState). known.client ≡ client) aspect number indicated client (λ outside. refl) (λ inside. refl)

pub point_client : (side : Option Side) (places : Places) (client : ClientState) → (known_point_after side places client).client ≡ client
unfolding known_point_after
point_client side places client = either (λ (known : KnownPointState). known.client ≡ client) (is_outside client.stage) _ _ (λ outside. refl) refl

pub detector_client : (occupied : Places) (client : ClientState) → (detector_after occupied client).client ≡ client
unfolding detector_after
detector_client occupied client = either (λ (known : KnownDetectorState). known.client ≡ client) (is_outside client.stage) _ _ (λ outside. refl) refl

-- ---- all clients

-- What a step of a client keeps: of a client whose link is settled at the reading, and of any.
pub record ClientsKeep (now : ℕ) (P0 P1 : Node → ClientState → Type 0) : Type 0 where
  pub clock : (node : Node) (client : ClientState) → P0 node client → P1 node (clocked now client)
  pub weaker : (node : Node) (client : ClientState) → P1 node client → P0 node client
  pub hears : (node : Node) (bytes : List ℕ) (part : ClientSoFar) → P1 node part.client → P0 node (hearing now bytes part).client
  pub commands : (node : Node) (command : ClientCommand) (part : ClientSoFar) → P0 node part.client → P0 node (commanding now command part).client
  pub ticks : (node : Node) (part : ClientSoFar) → P0 node part.client → P0 node (ticking now part).client

module _ (now : ℕ) (P0 P1 : Node → ClientState → Type 0) (keep : ClientsKeep now P0 P1) where
  signal_set : (place : ℕ) (new : KnownSignalState) (ixl : IxlState) → P0 (Signal place) new.client → EachClient P0 ixl → EachClient P0 (record ixl { known_signals = changed (λ old. new) place ixl.known_signals })
  signal_set place new ixl is all = record { signals = λ k known e. choose k known (changed_at (λ old. new) place ixl.known_signals k known e); points = all.points; detectors = all.detectors }
    where
      choose : (k : ℕ) (known : KnownSignalState) → ((k ≡ place) × (x : KnownSignalState) × (slice_get ixl.known_signals place ≡ Some x) × (known ≡ new)) ⊎ (slice_get ixl.known_signals k ≡ Some known) → P0 (Signal k) known.client
      choose k known (inl (e, x, f, g)) = subst (λ (n : ℕ). P0 (Signal n) known.client) (sym e) (subst (λ (y : KnownSignalState). P0 (Signal place) y.client) (sym g) is)
      choose k known (inr f) = all.signals k known f

  point_set : (place : ℕ) (new : KnownPointState) (ixl : IxlState) → P0 (Point place) new.client → EachClient P0 ixl → EachClient P0 (record ixl { known_points = changed (λ old. new) place ixl.known_points })
  point_set place new ixl is all = record { signals = all.signals; points = λ k known e. choose k known (changed_at (λ old. new) place ixl.known_points k known e); detectors = all.detectors }
    where
      choose : (k : ℕ) (known : KnownPointState) → ((k ≡ place) × (x : KnownPointState) × (slice_get ixl.known_points place ≡ Some x) × (known ≡ new)) ⊎ (slice_get ixl.known_points k ≡ Some known) → P0 (Point k) known.client
      choose k known (inl (e, x, f, g)) = subst (λ (n : ℕ). P0 (Point n) known.client) (sym e) (subst (λ (y : KnownPointState). P0 (Point place) y.client) (sym g) is)
      choose k known (inr f) = all.points k known f

  detector_set : (place : ℕ) (new : KnownDetectorState) (ixl : IxlState) → P0 (Detector place) new.client → EachClient P0 ixl → EachClient P0 (record ixl { detectors = changed (λ old. new) place ixl.detectors })
  detector_set place new ixl is all = record { signals = all.signals; points = all.points; detectors = λ k known e. choose k known (changed_at (λ old. new) place ixl.detectors k known e) }
    where
      choose : (k : ℕ) (known : KnownDetectorState) → ((k ≡ place) × (x : KnownDetectorState) × (slice_get ixl.detectors place ≡ Some x) × (known ≡ new)) ⊎ (slice_get ixl.detectors k ≡ Some known) → P0 (Detector k) known.client
      choose k known (inl (e, x, f, g)) = subst (λ (n : ℕ). P0 (Detector n) known.client) (sym e) (subst (λ (y : KnownDetectorState). P0 (Detector place) y.client) (sym g) is)
      choose k known (inr f) = all.detectors k known f

  abbrev Kept : StepSoFar → Type 0
  Kept part = EachClient P0 part.ixl

  with_route_kept : (number : ℕ) (change : RouteState → RouteState) (part : StepSoFar) → EachClient P0 part.ixl → EachClient P0 (with_route number change part).ixl
  with_route_kept number change part all = record { signals = all.signals; points = all.points; detectors = all.detectors }

  -- ---- commands to a client

  aspect_kept : (signal : ℕ) (aspect : Aspect) (part : StepSoFar) → EachClient P0 part.ixl → EachClient P0 (giving_aspect now signal aspect part).ixl
  unfolding giving_aspect
  aspect_kept signal aspect part all = one_keeps Kept (slice_get part.ixl.known_signals signal) _ part (λ known e.
      signal_set signal _ part.ixl (subst (P0 (Signal signal)) (sym (signal_client _ _ _ _)) (keep.commands (Signal signal) (ClientCommand.Indicate aspect) (begun known.client part.outbox) (all.signals signal known e))) all) all

  move_kept : (point : ℕ) (side : Side) (part : StepSoFar) → EachClient P0 part.ixl → EachClient P0 (giving_move now point side part).ixl
  unfolding giving_move
  move_kept point side part all = one_keeps Kept (slice_get part.ixl.known_points point) _ part (λ known e.
      point_set point _ part.ixl (subst (P0 (Point point)) (sym (point_client _ _ _)) (keep.commands (Point point) (ClientCommand.Move side) (begun known.client part.outbox) (all.points point known e))) all) all

  -- ---- the rules

  module _ (table : Table) where
    withdrawing_kept : (number : ℕ) (part : StepSoFar) → EachClient P0 part.ixl → EachClient P0 (withdrawing now table number part).ixl
    unfolding withdrawing
    withdrawing_kept number = route_holds Kept table number _ (λ row route part there here all. where_both Kept (is_stop_due table part.ixl row route) part _
        (where_both Kept _ _ _ (aspect_kept row.entry _ _ (with_route_kept number _ part all)) (with_route_kept number _ part all)) all)

    moving_one_kept : (number : ℕ) (need : Need) (part : StepSoFar) → EachClient P0 part.ixl → EachClient P0 (moving_one now table number need part).ixl
    unfolding moving_one
    moving_one_kept number need = route_holds Kept table number _ (λ row route part there here all. where_both Kept (is_move_due table part.ixl number route need) part _
        (move_kept need.point need.side part all) all)

    proceeding_kept : (number : ℕ) (part : StepSoFar) → EachClient P0 part.ixl → EachClient P0 (proceeding now table number part).ixl
    unfolding proceeding
    proceeding_kept number = route_holds Kept table number _ (λ row route part there here all. where_both Kept (is_proceed_due now table part.ixl row route) part _
        (aspect_kept row.entry row.aspect _ (with_route_kept number _ part all)) all)

    ruled_kept : (part : StepSoFar) → EachClient P0 part.ixl → EachClient P0 (ruled now table part).ixl
    ruled_kept = turned_keeps Kept now table with_route_kept withdrawing_kept moving_one_kept proceeding_kept

    -- ---- what is heard

    weaker_all : (ixl : IxlState) → EachClient P1 ixl → EachClient P0 ixl
    weaker_all ixl all = record {
      signals = λ place known e. keep.weaker (Signal place) known.client (all.signals place known e);
      points = λ place known e. keep.weaker (Point place) known.client (all.points place known e);
      detectors = λ place known e. keep.weaker (Detector place) known.client (all.detectors place known e);
    }

    hearing_kept : (bytes : List ℕ) (node : Node) (part : StepSoFar) → EachClient P1 part.ixl → EachClient P0 (node_hearing now table bytes node part).ixl
    unfolding node_hearing known_signal_hearing known_point_hearing detector_hearing
    hearing_kept bytes (Signal place) part all = one_keeps Kept (slice_get part.ixl.known_signals place) _ part (λ known e.
        signal_set place _ part.ixl (subst (P0 (Signal place)) (sym (signal_client _ _ _ _)) (keep.hears (Signal place) bytes (begun known.client part.outbox) (all.signals place known e))) (weaker_all part.ixl all)) (weaker_all part.ixl all)
    hearing_kept bytes (Point place) part all = one_keeps Kept (slice_get part.ixl.known_points place) _ part (λ known e.
        point_set place _ part.ixl (subst (P0 (Point place)) (sym (point_client _ _ _)) (keep.hears (Point place) bytes (begun known.client part.outbox) (all.points place known e))) (weaker_all part.ixl all)) (weaker_all part.ixl all)
    hearing_kept bytes (Detector place) part all = one_keeps Kept (slice_get table.detectors place) _ part (λ sections f. one_keeps Kept (slice_get part.ixl.detectors place) _ part (λ known e.
        let done = hearing now bytes (begun known.client part.outbox)
        in let heard = with_detector place (detector_after (occupied_heard done.heard known.occupied) done.client) (noted (Detector place) done part)
        in along_keeps Kept (looking table) (looking_turns Kept now table with_route_kept) (looks sections known done.heard done.client) heard
        (detector_set place (detector_after (occupied_heard done.heard known.occupied) done.client) part.ixl (subst (P0 (Detector place)) (sym (detector_client (occupied_heard done.heard known.occupied) done.client)) (keep.hears (Detector place) bytes (begun known.client part.outbox) (all.detectors place known e))) (weaker_all part.ixl all)))
        (weaker_all part.ixl all)) (weaker_all part.ixl all)

    -- ---- the input

    obeyed_kept : (command : Command) (ixl : IxlState) → EachClient P0 ixl → EachClient P0 (obeyed now command ixl)
    unfolding obeyed
    obeyed_kept (Command.Request route) ixl all = record {
      signals = all.signals;
      points = λ place known e. let found = mapped_at (unmoved_for route.0) ixl.known_points place known e in subst (λ (k : KnownPointState). P0 (Point place) k.client) (sym found.2) (all.points place found.0 found.1);
      detectors = all.detectors;
    }
    obeyed_kept (Command.Cancel route) ixl all = record { signals = all.signals; points = all.points; detectors = all.detectors }
    obeyed_kept Command.Resume ixl all = record { signals = all.signals; points = all.points; detectors = all.detectors }
    obeyed_kept (Command.Release route) ixl all = record { signals = all.signals; points = all.points; detectors = all.detectors }
    obeyed_kept (Command.Move point side) ixl all = all
    obeyed_kept (Command.Close named) ixl all = record { signals = all.signals; points = all.points; detectors = all.detectors }
    obeyed_kept (Command.Open named) ixl all = record { signals = all.signals; points = all.points; detectors = all.detectors }

    commanded_kept : (cause : Option Refusal) (command : Command) (ixl : IxlState) → EachClient P0 ixl → EachClient P0 (commanded_by now cause command ixl)
    commanded_kept None command ixl all = obeyed_kept command ixl all
    commanded_kept (Some cause) command ixl all = all

    heard_at : (bytes : List ℕ) (found : Option Node) (part : StepSoFar) → EachClient P1 part.ixl → EachClient P0 (with_one found (node_hearing now table bytes) part).ixl
    heard_at bytes None part all = weaker_all part.ixl all
    heard_at bytes (Some node) part all = hearing_kept bytes node part all

    given_kept : (key : Key) (input : Input) (part : StepSoFar) → EachClient P1 part.ixl → EachClient P0 (given now table key input part).ixl
    unfolding given
    given_kept key Tick part all = weaker_all part.ixl all
    given_kept key (Datagram bytes) part all = heard_at bytes (addressed (reading key bytes) part.ixl) part all
    given_kept key (Commands command) part all =
        moved_keeps Kept now table (λ point side part available. move_kept point side part) (refusal now table command part.ixl) command part refl
        (commanded_kept (refusal now table command part.ixl) command part.ixl (weaker_all part.ixl all))

    clocked_kept : (ixl : IxlState) → EachClient P0 ixl → EachClient P1 (all_clocked now ixl)
    unfolding all_clocked
    clocked_kept ixl all = record {
      signals = λ place known e. let found = mapped_at (clocked_known_signal now) ixl.known_signals place known e in
          subst (λ (k : KnownSignalState). P1 (Signal place) k.client) (sym found.2) (subst (P1 (Signal place)) (sym (signal_client _ _ _ _)) (keep.clock (Signal place) found.0.client (all.signals place found.0 found.1)));
      points = λ place known e. let found = mapped_at (clocked_known_point now) ixl.known_points place known e in
          subst (λ (k : KnownPointState). P1 (Point place) k.client) (sym found.2) (subst (P1 (Point place)) (sym (point_client _ _ _)) (keep.clock (Point place) found.0.client (all.points place found.0 found.1)));
      detectors = λ place known e. let found = mapped_at (clocked_detector now) ixl.detectors place known e in
          subst (λ (k : KnownDetectorState). P1 (Detector place) k.client) (sym found.2) (subst (P1 (Detector place)) (sym (detector_client _ _)) (keep.clock (Detector place) found.0.client (all.detectors place found.0 found.1)));
    }

    -- ---- ticks

    signal_ticked : (place : ℕ) (part : StepSoFar) → EachClient P0 part.ixl → EachClient P0 (known_signal_ticking now place part).ixl
    unfolding known_signal_ticking
    signal_ticked place part all = one_keeps Kept (slice_get part.ixl.known_signals place) _ part (λ known e.
        signal_set place _ part.ixl (subst (P0 (Signal place)) (sym (signal_client _ _ _ _)) (keep.ticks (Signal place) (begun known.client part.outbox) (all.signals place known e))) all) all

    point_ticked : (place : ℕ) (part : StepSoFar) → EachClient P0 part.ixl → EachClient P0 (known_point_ticking now place part).ixl
    unfolding known_point_ticking
    point_ticked place part all = one_keeps Kept (slice_get part.ixl.known_points place) _ part (λ known e.
        point_set place _ part.ixl (subst (P0 (Point place)) (sym (point_client _ _ _)) (keep.ticks (Point place) (begun known.client part.outbox) (all.points place known e))) all) all

    detector_ticked : (place : ℕ) (part : StepSoFar) → EachClient P0 part.ixl → EachClient P0 (detector_ticking now place part).ixl
    unfolding detector_ticking
    detector_ticked place part all = one_keeps Kept (slice_get part.ixl.detectors place) _ part (λ known e.
        detector_set place _ part.ixl (subst (P0 (Detector place)) (sym (detector_client _ _)) (keep.ticks (Detector place) (begun known.client part.outbox) (all.detectors place known e))) all) all

    ticked_kept : (input : Input) (part : StepSoFar) → EachClient P0 part.ixl → EachClient P0 (ticked now input part).ixl
    ticked_kept = ticked_keeps Kept now signal_ticked point_ticked detector_ticked

    pub step_kept : (key : Key) (input : Input) (part : StepSoFar) → EachClient P0 part.ixl → EachClient P0 (stepped now table key input part).ixl
    unfolding stepped
    step_kept key input part all = ticked_kept input _ (ruled_kept _ (over_keeps Kept (watching table) (watching_turns Kept now table with_route_kept) (count table) _
        (given_kept key input (record part { ixl = all_clocked now part.ixl }) (clocked_kept part.ixl all))))
