-- What is kept of every client in a step of an interlocking, with the calls that the step has made of its link so far.
use Rattle.simulator_recovery.proofs.Words.Basics.{◌≡◌, ◌≢◌, ℕ, zero, suc, ◌∙◌, ◌==◌, Bool, true, false, List, [], ◌∷◌, ◌++◌, map, Option, Some, None, slice_get, ◌⊎◌, inl, inr, if◌then◌else◌, refl, sym, ap, subst, arith, ◌&&◌, not, false≢true, nat_tests, none-some, same_Some}
use Rattle.simulator_recovery.proofs.Words.Links.{OutboxState, reading, Key}
use Rattle.simulator_recovery.proofs.Words.Controllers.{Aspect, Side}
use Rattle.simulator_recovery.proofs.Words.Interlockings.{lies_in_closed, ClientState, is_available, is_ready, ClientSoFar, LinkCall, begun, clocked, commanding, hearing, ticking, commanded_by, obeyed, refusal, unmoved_for, count, is_move_due, is_over_clear, is_proceed_due, is_stop_due, is_unmoved, is_waiting, moving_one, proceeding, ruled, withdrawing, IxlState, KnownDetectorState, KnownPointState, KnownSignalState, RouteState, changed, Commands, Datagram, Input, Tick, addressed, all_clocked, clocked_detector, clocked_known_point, clocked_known_signal, detector_hearing, detector_ticking, given, known_point_hearing, known_point_ticking, known_signal_hearing, known_signal_ticking, looking, looks, node_hearing, occupied_heard, stepped, ticked, watching, Detector, Node, Point, Signal, StepSoFar, detector_after, giving_aspect, giving_move, noted, with_detector, with_one, with_route, Need, Row, Table, at, passes, all_clear, all_known, is_at_known_stop, is_held_with_authority, is_known, is_point_available, is_signal_ready, Command, Refusal}
use Rattle.simulator_recovery.proofs.Words.Recovery.{EachClient}
use Rattle.simulator_spec.specs.ixl_client.declared.command.Command.{Command as ClientCommand}
use Rattle.simulator_recovery.proofs.Lemmas.Ground.DueShapes.{along_keeps, looking_turns, one_keeps, over_keeps, route_holds, ticked_keeps, turned_keeps, watching_turns, where_both, where_keeps}
use Rattle.simulator_recovery.proofs.Lemmas.Ground.IxlClients.{detector_client, mapped_at, point_client, signal_client}
use Rattle.simulator_recovery.proofs.Lemmas.Ground.MovedAtOnce.{moved_keeps}

-- ---- the calls at one controller

abbrev pub is_node : Node → Node → Bool
is_node (Signal place) (Signal other) = other == place
is_node (Point place) (Point other) = other == place
is_node (Detector place) (Detector other) = other == place
is_node _ _ = false

unfoldable pub at_node : Node → List (Node × LinkCall) → List LinkCall
at_node node [] = []
at_node node (first ∷ others) = if is_node node first.0 then first.1 ∷ at_node node others else at_node node others

pub same_place : (place : ℕ) → (place == place) ≡ true
same_place place = grind (arith, nat_tests)

pub other_place : (place other : ℕ) → other ≢ place → (other == place) ≡ false
other_place place other differ = choose (other == place) refl
  where
    choose : (b : Bool) → (other == place) ≡ b → (other == place) ≡ false
    choose false e = e
    choose true e = absurd (differ (grind (arith, nat_tests, e)))

pub is_itself : (node : Node) → is_node node node ≡ true
is_itself (Signal place) = same_place place
is_itself (Point place) = same_place place
is_itself (Detector place) = same_place place

pub at_itself : (node : Node) (before : List (Node × LinkCall)) (more : List LinkCall) → at_node node (before ++ map (λ call. (node, call)) more) ≡ at_node node before ++ more
unfolding at_node
at_itself node [] [] = refl
at_itself node [] (first ∷ more) = ap (λ (b : Bool). if b then first ∷ at_node node (map (λ call. (node, call)) more) else at_node node (map (λ call. (node, call)) more)) (is_itself node)
    ∙ ap (λ (rest : List LinkCall). first ∷ rest) (at_itself node [] more)
at_itself node (first ∷ before) more = choose (is_node node first.0) (at_itself node before more)
  where
    rest : List (Node × LinkCall)
    rest = before ++ map (λ call. (node, call)) more

    choose : (b : Bool) → at_node node rest ≡ at_node node before ++ more → (if b then first.1 ∷ at_node node rest else at_node node rest) ≡ (if b then first.1 ∷ at_node node before else at_node node before) ++ more
    choose true e = ap (λ (l : List LinkCall). first.1 ∷ l) e
    choose false e = e

pub at_other : (node other : Node) → is_node node other ≡ false → (before : List (Node × LinkCall)) (more : List LinkCall) → at_node node (before ++ map (λ call. (other, call)) more) ≡ at_node node before
unfolding at_node
at_other node other differ [] [] = refl
at_other node other differ [] (first ∷ more) = ap (λ (b : Bool). if b then first ∷ at_node node (map (λ call. (other, call)) more) else at_node node (map (λ call. (other, call)) more)) differ ∙ at_other node other differ [] more
at_other node other differ (first ∷ before) more = choose (is_node node first.0) (at_other node other differ before more)
  where
    rest : List (Node × LinkCall)
    rest = before ++ map (λ call. (other, call)) more

    choose : (b : Bool) → at_node node rest ≡ at_node node before → (if b then first.1 ∷ at_node node rest else at_node node rest) ≡ (if b then first.1 ∷ at_node node before else at_node node before)
    choose true e = ap (λ (l : List LinkCall). first.1 ∷ l) e
    choose false e = e

-- what stands at a place of a list of which one was set
pub set_at : {X : Type 0} (place : ℕ) (new : X) (list : List X) (k : ℕ) (y : X) → slice_get (changed (λ old. new) place list) k ≡ Some y → ((k ≡ place) × (y ≡ new)) ⊎ ((k ≢ place) × (slice_get list k ≡ Some y))
set_at place new [] k y e = absurd (none-some y e)
set_at zero new (x ∷ xs) zero y e = inl (refl, sym (same_Some new y e))
set_at zero new (x ∷ xs) (suc k) y e = inr (λ same. absurd (cc same), e)
set_at (suc place) new (x ∷ xs) zero y e = inr (λ same. absurd (cc same), e)
set_at (suc place) new (x ∷ xs) (suc k) y e = choose (set_at place new xs k y e)
  where
    choose : ((k ≡ place) × (y ≡ new)) ⊎ ((k ≢ place) × (slice_get xs k ≡ Some y)) → ((suc k ≡ suc place) × (y ≡ new)) ⊎ ((suc k ≢ suc place) × (slice_get xs k ≡ Some y))
    choose (inl (f, g)) = inl (ap suc f, g)
    choose (inr (f, g)) = inr (λ same. f (omega (arith, same)), g)

pub test_of : {A : Type 0} (list : List A) (place : ℕ) (test : A → Bool) (one : A) → slice_get list place ≡ Some one → at list place test ≡ true → test one ≡ true
unfolding at
test_of list place test one e holds = ap (passes test) (sym e) ∙ holds

-- ---- all clients

-- What a step of a client keeps, with the calls made of its link so far: as it was before the step, with its link settled at the
-- reading, and after each part.
pub record SoFarKeeps (now : ℕ) (Gives : ℕ → Aspect → Type 0) (Comes : List ℕ → Type 0) (Before : Node → ClientState → Type 0) (Clocked Holds : Node → ClientState → List LinkCall → Type 0) : Type 0 where
  pub clock : (node : Node) (client : ClientState) → Before node client → Clocked node (clocked now client) []
  pub weaker : (node : Node) (client : ClientState) (calls : List LinkCall) → Clocked node client calls → Holds node client calls
  pub hears : (node : Node) (bytes : List ℕ) (client : ClientState) (outbox : OutboxState) (calls : List LinkCall) → Comes bytes → Clocked node client calls
      → Holds node (hearing now bytes (begun client outbox)).client (calls ++ (hearing now bytes (begun client outbox)).calls)
  pub aspects : (place : ℕ) (aspect : Aspect) (client : ClientState) (outbox : OutboxState) (calls : List LinkCall) → Gives place aspect → is_ready client.stage ≡ true → Holds (Signal place) client calls
      → Holds (Signal place) (commanding now (ClientCommand.Indicate aspect) (begun client outbox)).client (calls ++ (commanding now (ClientCommand.Indicate aspect) (begun client outbox)).calls)
  pub moves : (place : ℕ) (side : Side) (client : ClientState) (outbox : OutboxState) (calls : List LinkCall) → is_available client.stage ≡ true → Holds (Point place) client calls
      → Holds (Point place) (commanding now (ClientCommand.Move side) (begun client outbox)).client (calls ++ (commanding now (ClientCommand.Move side) (begun client outbox)).calls)
  pub ticks : (node : Node) (client : ClientState) (outbox : OutboxState) (calls : List LinkCall) → Holds node client calls
      → Holds node (ticking now (begun client outbox)).client (calls ++ (ticking now (begun client outbox)).calls)

module _ (now : ℕ) (Gives : ℕ → Aspect → Type 0) (Comes : List ℕ → Type 0) (Before : Node → ClientState → Type 0) (Clocked Holds : Node → ClientState → List LinkCall → Type 0) (keep : SoFarKeeps now Gives Comes Before Clocked Holds) where
  -- every client, with the calls of its link
  pub record All (P : Node → ClientState → List LinkCall → Type 0) (part : StepSoFar) : Type 0 where
    pub signals : (place : ℕ) (known : KnownSignalState) → slice_get part.ixl.known_signals place ≡ Some known → P (Signal place) known.client (at_node (Signal place) part.calls)
    pub points : (place : ℕ) (known : KnownPointState) → slice_get part.ixl.known_points place ≡ Some known → P (Point place) known.client (at_node (Point place) part.calls)
    pub detectors : (place : ℕ) (known : KnownDetectorState) → slice_get part.ixl.detectors place ≡ Some known → P (Detector place) known.client (at_node (Detector place) part.calls)

  abbrev Held : StepSoFar → Type 0
  Held = All Holds

  -- a client is another, by these calls more
  signal_set : (place : ℕ) (new : KnownSignalState) (done : ClientSoFar) (part : StepSoFar) → Holds (Signal place) new.client (at_node (Signal place) part.calls ++ done.calls) → Held part
      → Held (record (noted (Signal place) done part) { ixl = record part.ixl { known_signals = changed (λ old. new) place part.ixl.known_signals } })
  signal_set place new done part is all = record {
    signals = λ k known e. choose k known (set_at place new part.ixl.known_signals k known e);
    points = λ k known e. subst (Holds (Point k) known.client) (sym (at_other (Point k) (Signal place) refl part.calls done.calls)) (all.points k known e);
    detectors = λ k known e. subst (Holds (Detector k) known.client) (sym (at_other (Detector k) (Signal place) refl part.calls done.calls)) (all.detectors k known e);
  }
    where
      after : List (Node × LinkCall)
      after = part.calls ++ map (λ call. (Signal place, call)) done.calls

      choose : (k : ℕ) (known : KnownSignalState) → ((k ≡ place) × (known ≡ new)) ⊎ ((k ≢ place) × (slice_get part.ixl.known_signals k ≡ Some known)) → Holds (Signal k) known.client (at_node (Signal k) after)
      choose k known (inl (e, g)) = subst (λ (n : ℕ). Holds (Signal n) known.client (at_node (Signal n) after)) (sym e)
          (subst (λ (y : KnownSignalState). Holds (Signal place) y.client (at_node (Signal place) after)) (sym g) (subst (Holds (Signal place) new.client) (sym (at_itself (Signal place) part.calls done.calls)) is))
      choose k known (inr (differ, f)) = subst (Holds (Signal k) known.client) (sym (at_other (Signal k) (Signal place) (other_place k place (λ same. differ (sym same))) part.calls done.calls)) (all.signals k known f)

  point_set : (place : ℕ) (new : KnownPointState) (done : ClientSoFar) (part : StepSoFar) → Holds (Point place) new.client (at_node (Point place) part.calls ++ done.calls) → Held part
      → Held (record (noted (Point place) done part) { ixl = record part.ixl { known_points = changed (λ old. new) place part.ixl.known_points } })
  point_set place new done part is all = record {
    signals = λ k known e. subst (Holds (Signal k) known.client) (sym (at_other (Signal k) (Point place) refl part.calls done.calls)) (all.signals k known e);
    points = λ k known e. choose k known (set_at place new part.ixl.known_points k known e);
    detectors = λ k known e. subst (Holds (Detector k) known.client) (sym (at_other (Detector k) (Point place) refl part.calls done.calls)) (all.detectors k known e);
  }
    where
      after : List (Node × LinkCall)
      after = part.calls ++ map (λ call. (Point place, call)) done.calls

      choose : (k : ℕ) (known : KnownPointState) → ((k ≡ place) × (known ≡ new)) ⊎ ((k ≢ place) × (slice_get part.ixl.known_points k ≡ Some known)) → Holds (Point k) known.client (at_node (Point k) after)
      choose k known (inl (e, g)) = subst (λ (n : ℕ). Holds (Point n) known.client (at_node (Point n) after)) (sym e)
          (subst (λ (y : KnownPointState). Holds (Point place) y.client (at_node (Point place) after)) (sym g) (subst (Holds (Point place) new.client) (sym (at_itself (Point place) part.calls done.calls)) is))
      choose k known (inr (differ, f)) = subst (Holds (Point k) known.client) (sym (at_other (Point k) (Point place) (other_place k place (λ same. differ (sym same))) part.calls done.calls)) (all.points k known f)

  detector_set : (place : ℕ) (new : KnownDetectorState) (done : ClientSoFar) (part : StepSoFar) → Holds (Detector place) new.client (at_node (Detector place) part.calls ++ done.calls) → Held part
      → Held (record (noted (Detector place) done part) { ixl = record part.ixl { detectors = changed (λ old. new) place part.ixl.detectors } })
  detector_set place new done part is all = record {
    signals = λ k known e. subst (Holds (Signal k) known.client) (sym (at_other (Signal k) (Detector place) refl part.calls done.calls)) (all.signals k known e);
    points = λ k known e. subst (Holds (Point k) known.client) (sym (at_other (Point k) (Detector place) refl part.calls done.calls)) (all.points k known e);
    detectors = λ k known e. choose k known (set_at place new part.ixl.detectors k known e);
  }
    where
      after : List (Node × LinkCall)
      after = part.calls ++ map (λ call. (Detector place, call)) done.calls

      choose : (k : ℕ) (known : KnownDetectorState) → ((k ≡ place) × (known ≡ new)) ⊎ ((k ≢ place) × (slice_get part.ixl.detectors k ≡ Some known)) → Holds (Detector k) known.client (at_node (Detector k) after)
      choose k known (inl (e, g)) = subst (λ (n : ℕ). Holds (Detector n) known.client (at_node (Detector n) after)) (sym e)
          (subst (λ (y : KnownDetectorState). Holds (Detector place) y.client (at_node (Detector place) after)) (sym g) (subst (Holds (Detector place) new.client) (sym (at_itself (Detector place) part.calls done.calls)) is))
      choose k known (inr (differ, f)) = subst (Holds (Detector k) known.client) (sym (at_other (Detector k) (Detector place) (other_place k place (λ same. differ (sym same))) part.calls done.calls)) (all.detectors k known f)

  with_route_held : (number : ℕ) (change : RouteState → RouteState) (part : StepSoFar) → Held part → Held (with_route number change part)
  with_route_held number change part all = record { signals = all.signals; points = all.points; detectors = all.detectors }

  -- ---- commands to a client

  aspect_held : (signal : ℕ) (aspect : Aspect) (part : StepSoFar) → Gives signal aspect → is_signal_ready part.ixl signal ≡ true → Held part → Held (giving_aspect now signal aspect part)
  unfolding giving_aspect
  aspect_held signal aspect part gives ready all = one_keeps Held (slice_get part.ixl.known_signals signal) _ part (λ known e.
      signal_set signal _ (commanding now (ClientCommand.Indicate aspect) (begun known.client part.outbox)) part
      (subst (λ (c : ClientState). Holds (Signal signal) c (at_node (Signal signal) part.calls ++ (commanding now (ClientCommand.Indicate aspect) (begun known.client part.outbox)).calls)) (sym (signal_client _ _ _ _))
      (keep.aspects signal aspect known.client part.outbox (at_node (Signal signal) part.calls) gives (test_of part.ixl.known_signals signal (λ k. is_ready k.client.stage) known e ready) (all.signals signal known e))) all) all

  move_held : (point : ℕ) (side : Side) (part : StepSoFar) → is_point_available part.ixl point ≡ true → Held part → Held (giving_move now point side part)
  unfolding giving_move
  move_held point side part available all = one_keeps Held (slice_get part.ixl.known_points point) _ part (λ known e.
      point_set point _ (commanding now (ClientCommand.Move side) (begun known.client part.outbox)) part
      (subst (λ (c : ClientState). Holds (Point point) c (at_node (Point point) part.calls ++ (commanding now (ClientCommand.Move side) (begun known.client part.outbox)).calls)) (sym (point_client _ _ _))
      (keep.moves point side known.client part.outbox (at_node (Point point) part.calls) (test_of part.ixl.known_points point (λ k. is_available k.client.stage) known e available) (all.points point known e))) all) all

  -- ---- the rules

  module _ (table : Table) (stop_is : (signal : ℕ) → Gives signal Aspect.Stop) (row_is : (number : ℕ) (row : Row) → slice_get table.rows number ≡ Some row → Gives row.entry row.aspect) where
    withdrawing_held : (number : ℕ) (part : StepSoFar) → Held part → Held (withdrawing now table number part)
    unfolding withdrawing
    withdrawing_held number = route_holds Held table number _ (λ row route part e here all. where_both Held (is_stop_due table part.ixl row route) part _
        (where_keeps Held (is_signal_ready part.ixl row.entry) _ _ (λ ready. aspect_held row.entry Aspect.Stop _ (stop_is row.entry) ready (with_route_held number _ part all))
        (with_route_held number _ part all)) all)

    is_available_there : (ixl : IxlState) (number : ℕ) (route : RouteState) (need : Need) → is_move_due table ixl number route need ≡ true → is_point_available ixl need.point ≡ true
    is_available_there ixl number route need due = in_middle (is_waiting route.phase) (not route.cancelled) (is_point_available ixl need.point) (not (is_known ixl need.point need.side)) (is_over_clear table ixl need.point)
        (not (is_held_with_authority table ixl need.point)) (is_unmoved ixl need.point number) (not (lies_in_closed table ixl need.point)) due
      where
        in_middle : (a b c d e f g h : Bool) → (a && b && c && d && e && f && g && h) ≡ true → c ≡ true
        in_middle true true true d e f g h is = refl
        in_middle true true false d e f g h is = absurd (false≢true is)
        in_middle true false c d e f g h is = absurd (false≢true is)
        in_middle false b c d e f g h is = absurd (false≢true is)

    is_ready_there : (ixl : IxlState) (row : Row) (route : RouteState) → is_proceed_due now table ixl row route ≡ true → is_signal_ready ixl row.entry ≡ true
    is_ready_there ixl row route due = in_middle (is_waiting route.phase) (not route.cancelled) (all_known ixl row.needs) (all_clear table ixl row.sections) (is_signal_ready ixl row.entry) (is_at_known_stop now ixl row.entry) due
      where
        in_middle : (a b c d e f : Bool) → (a && b && c && d && e && f) ≡ true → e ≡ true
        in_middle true true true true true f h = refl
        in_middle true true true true false f h = absurd (false≢true h)
        in_middle true true true false e f h = absurd (false≢true h)
        in_middle true true false d e f h = absurd (false≢true h)
        in_middle true false c d e f h = absurd (false≢true h)
        in_middle false b c d e f h = absurd (false≢true h)

    moving_one_held : (number : ℕ) (need : Need) (part : StepSoFar) → Held part → Held (moving_one now table number need part)
    unfolding moving_one
    moving_one_held number need = route_holds Held table number _ (λ row route part e here all. where_keeps Held (is_move_due table part.ixl number route need) part _
        (λ due. move_held need.point need.side part (is_available_there part.ixl number route need due) all) all)

    proceeding_held : (number : ℕ) (part : StepSoFar) → Held part → Held (proceeding now table number part)
    unfolding proceeding
    proceeding_held number = route_holds Held table number _ (λ row route part e here all. where_keeps Held (is_proceed_due now table part.ixl row route) part _
        (λ due. aspect_held row.entry row.aspect _ (row_is number row e) (is_ready_there part.ixl row route due) (with_route_held number _ part all)) all)

    ruled_held : (part : StepSoFar) → Held part → Held (ruled now table part)
    ruled_held = turned_keeps Held now table with_route_held withdrawing_held moving_one_held proceeding_held

    -- ---- what is heard

    weaker_all : (part : StepSoFar) → All Clocked part → Held part
    weaker_all part all = record {
      signals = λ place known e. keep.weaker (Signal place) known.client (at_node (Signal place) part.calls) (all.signals place known e);
      points = λ place known e. keep.weaker (Point place) known.client (at_node (Point place) part.calls) (all.points place known e);
      detectors = λ place known e. keep.weaker (Detector place) known.client (at_node (Detector place) part.calls) (all.detectors place known e);
    }

    hearing_held : (bytes : List ℕ) (node : Node) (part : StepSoFar) → Comes bytes → All Clocked part → Held (node_hearing now table bytes node part)
    unfolding node_hearing known_signal_hearing known_point_hearing detector_hearing
    hearing_held bytes (Signal place) part comes all = one_keeps Held (slice_get part.ixl.known_signals place) _ part (λ known e.
        signal_set place _ (hearing now bytes (begun known.client part.outbox)) part
        (subst (λ (c : ClientState). Holds (Signal place) c (at_node (Signal place) part.calls ++ (hearing now bytes (begun known.client part.outbox)).calls)) (sym (signal_client _ _ _ _))
        (keep.hears (Signal place) bytes known.client part.outbox (at_node (Signal place) part.calls) comes (all.signals place known e))) (weaker_all part all)) (weaker_all part all)
    hearing_held bytes (Point place) part comes all = one_keeps Held (slice_get part.ixl.known_points place) _ part (λ known e.
        point_set place _ (hearing now bytes (begun known.client part.outbox)) part
        (subst (λ (c : ClientState). Holds (Point place) c (at_node (Point place) part.calls ++ (hearing now bytes (begun known.client part.outbox)).calls)) (sym (point_client _ _ _))
        (keep.hears (Point place) bytes known.client part.outbox (at_node (Point place) part.calls) comes (all.points place known e))) (weaker_all part all)) (weaker_all part all)
    hearing_held bytes (Detector place) part comes all = one_keeps Held (slice_get table.detectors place) _ part (λ sections f. one_keeps Held (slice_get part.ixl.detectors place) _ part (λ known e.
        let done = hearing now bytes (begun known.client part.outbox)
        in let heard = with_detector place (detector_after (occupied_heard done.heard known.occupied) done.client) (noted (Detector place) done part)
        in along_keeps Held (looking table) (looking_turns Held now table with_route_held) (looks sections known done.heard done.client) heard
        (detector_set place (detector_after (occupied_heard done.heard known.occupied) done.client) done part
        (subst (λ (c : ClientState). Holds (Detector place) c (at_node (Detector place) part.calls ++ done.calls)) (sym (detector_client (occupied_heard done.heard known.occupied) done.client))
        (keep.hears (Detector place) bytes known.client part.outbox (at_node (Detector place) part.calls) comes (all.detectors place known e))) (weaker_all part all)))
        (weaker_all part all)) (weaker_all part all)

    -- ---- the input

    obeyed_held : (command : Command) (part : StepSoFar) → Held part → Held (record part { ixl = obeyed now command part.ixl })
    unfolding obeyed
    obeyed_held (Command.Request route) part all = record {
      signals = all.signals;
      points = λ place known e. let found = mapped_at (unmoved_for route.0) part.ixl.known_points place known e in subst (λ (k : KnownPointState). Holds (Point place) k.client (at_node (Point place) part.calls)) (sym found.2) (all.points place found.0 found.1);
      detectors = all.detectors;
    }
    obeyed_held (Command.Cancel route) part all = record { signals = all.signals; points = all.points; detectors = all.detectors }
    obeyed_held Command.Resume part all = record { signals = all.signals; points = all.points; detectors = all.detectors }
    obeyed_held (Command.Release route) part all = record { signals = all.signals; points = all.points; detectors = all.detectors }
    obeyed_held (Command.Move point side) part all = all
    obeyed_held (Command.Close named) part all = record { signals = all.signals; points = all.points; detectors = all.detectors }
    obeyed_held (Command.Open named) part all = record { signals = all.signals; points = all.points; detectors = all.detectors }

    commanded_held : (cause : Option Refusal) (command : Command) (part : StepSoFar) → Held part → Held (record part { ixl = commanded_by now cause command part.ixl })
    commanded_held None command part all = obeyed_held command part all
    commanded_held (Some cause) command part all = record { signals = all.signals; points = all.points; detectors = all.detectors }

    heard_at : (bytes : List ℕ) (found : Option Node) (part : StepSoFar) → Comes bytes → All Clocked part → Held (with_one found (node_hearing now table bytes) part)
    heard_at bytes None part comes all = weaker_all part all
    heard_at bytes (Some node) part comes all = hearing_held bytes node part comes all

    given_held : (key : Key) (input : Input) (part : StepSoFar) → ((bytes : List ℕ) → input ≡ Datagram bytes → Comes bytes) → All Clocked part → Held (given now table key input part)
    unfolding given
    given_held key Tick part comes all = weaker_all part all
    given_held key (Datagram bytes) part comes all = heard_at bytes (addressed (reading key bytes) part.ixl) part (comes bytes refl) all
    given_held key (Commands command) part comes all =
        moved_keeps Held now table move_held (refusal now table command part.ixl) command part refl (commanded_held (refusal now table command part.ixl) command part (weaker_all part all))

    clocked_held : (part : StepSoFar) → part.calls ≡ [] → EachClient Before part.ixl → All Clocked (record part { ixl = all_clocked now part.ixl })
    unfolding all_clocked at_node
    clocked_held part none all = record {
      signals = λ place known e. let found = mapped_at (clocked_known_signal now) part.ixl.known_signals place known e in
          subst (λ (k : KnownSignalState). Clocked (Signal place) k.client (at_node (Signal place) part.calls)) (sym found.2) (subst (λ (c : ClientState). Clocked (Signal place) c (at_node (Signal place) part.calls)) (sym (signal_client _ _ _ _))
          (subst (λ (cs : List (Node × LinkCall)). Clocked (Signal place) (clocked now found.0.client) (at_node (Signal place) cs)) (sym none) (keep.clock (Signal place) found.0.client (all.signals place found.0 found.1))));
      points = λ place known e. let found = mapped_at (clocked_known_point now) part.ixl.known_points place known e in
          subst (λ (k : KnownPointState). Clocked (Point place) k.client (at_node (Point place) part.calls)) (sym found.2) (subst (λ (c : ClientState). Clocked (Point place) c (at_node (Point place) part.calls)) (sym (point_client _ _ _))
          (subst (λ (cs : List (Node × LinkCall)). Clocked (Point place) (clocked now found.0.client) (at_node (Point place) cs)) (sym none) (keep.clock (Point place) found.0.client (all.points place found.0 found.1))));
      detectors = λ place known e. let found = mapped_at (clocked_detector now) part.ixl.detectors place known e in
          subst (λ (k : KnownDetectorState). Clocked (Detector place) k.client (at_node (Detector place) part.calls)) (sym found.2) (subst (λ (c : ClientState). Clocked (Detector place) c (at_node (Detector place) part.calls)) (sym (detector_client _ _))
          (subst (λ (cs : List (Node × LinkCall)). Clocked (Detector place) (clocked now found.0.client) (at_node (Detector place) cs)) (sym none) (keep.clock (Detector place) found.0.client (all.detectors place found.0 found.1))));
    }

    -- ---- ticks

    signal_ticked : (place : ℕ) (part : StepSoFar) → Held part → Held (known_signal_ticking now place part)
    unfolding known_signal_ticking
    signal_ticked place part all = one_keeps Held (slice_get part.ixl.known_signals place) _ part (λ known e.
        signal_set place _ (ticking now (begun known.client part.outbox)) part
        (subst (λ (c : ClientState). Holds (Signal place) c (at_node (Signal place) part.calls ++ (ticking now (begun known.client part.outbox)).calls)) (sym (signal_client _ _ _ _))
        (keep.ticks (Signal place) known.client part.outbox (at_node (Signal place) part.calls) (all.signals place known e))) all) all

    point_ticked : (place : ℕ) (part : StepSoFar) → Held part → Held (known_point_ticking now place part)
    unfolding known_point_ticking
    point_ticked place part all = one_keeps Held (slice_get part.ixl.known_points place) _ part (λ known e.
        point_set place _ (ticking now (begun known.client part.outbox)) part
        (subst (λ (c : ClientState). Holds (Point place) c (at_node (Point place) part.calls ++ (ticking now (begun known.client part.outbox)).calls)) (sym (point_client _ _ _))
        (keep.ticks (Point place) known.client part.outbox (at_node (Point place) part.calls) (all.points place known e))) all) all

    detector_ticked : (place : ℕ) (part : StepSoFar) → Held part → Held (detector_ticking now place part)
    unfolding detector_ticking
    detector_ticked place part all = one_keeps Held (slice_get part.ixl.detectors place) _ part (λ known e.
        detector_set place _ (ticking now (begun known.client part.outbox)) part
        (subst (λ (c : ClientState). Holds (Detector place) c (at_node (Detector place) part.calls ++ (ticking now (begun known.client part.outbox)).calls)) (sym (detector_client _ _))
        (keep.ticks (Detector place) known.client part.outbox (at_node (Detector place) part.calls) (all.detectors place known e))) all) all

    ticked_held : (input : Input) (part : StepSoFar) → Held part → Held (ticked now input part)
    ticked_held = ticked_keeps Held now signal_ticked point_ticked detector_ticked

    pub step_held : (key : Key) (input : Input) (part : StepSoFar) → ((bytes : List ℕ) → input ≡ Datagram bytes → Comes bytes) → part.calls ≡ [] → EachClient Before part.ixl → Held (stepped now table key input part)
    unfolding stepped
    step_held key input part comes none all = ticked_held input _ (ruled_held _
        (over_keeps Held (watching table) (watching_turns Held now table with_route_held) (count table) _
        (given_held key input (record part { ixl = all_clocked now part.ixl }) comes (clocked_held part none all))))
