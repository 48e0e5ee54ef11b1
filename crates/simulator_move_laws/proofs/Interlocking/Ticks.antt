-- After the rules, on a tick: what each link does by itself.
use Rattle.std.proofs.Common.{inl, ◌≡◌, ℕ, zero, suc, ◌≤◌, Bool, true, false, List, ◌∷◌, [], ◌++◌, map, length, refl, sym, subst, arith}
use Rattle.std.specs.Prelude.{Option, Some, None, slice_get}
use Rattle.ixl_spec.specs.rasta_core.Clock.{settled}
use Rattle.ixl_spec.specs.ixl_client.ClientSoFar as client
use Rattle.ixl_spec.specs.ixl_client.ClientSoFar.{LinkCall, Opens, Ticks, begun}
use Rattle.ixl_spec.specs.ixl_client.Step.{ticking}
use Rattle.ixl_spec.specs.StepSoFar.{Detector, StepSoFar, Point, Signal, detector_after, known_signal_after, noted, over, known_point_after, with_detector, with_known_signal, with_known_point}
use Rattle.ixl_spec.specs.State.{KnownDetectorState, IxlState, KnownSignalState, KnownPointState, changed}
use Rattle.ixl_spec.specs.Step.{Input, Tick, detector_ticking, known_signal_ticking, known_point_ticking, ticked}
use Rattle.simulator_machine.specs.Chains.{MovesTo, PointMayChain, SignalMayChain, point_chained, signal_chained}
use Rattle.simulator_machine.specs.Lists.{changed_at, is_same}
use Rattle.simulator_machine.specs.Machine.{Machine, with_point, with_signal}
use Rattle.simulator_machine.specs.Point.{Point as MachinePoint, PointMove}
use Rattle.simulator_machine.specs.Signal.{Signal as MachineSignal, SignalMove}
use Rattle.simulator_machine.specs.Table.{Table}
use Rattle.simulator_move_laws.specs.Behind.{Behind, KnownSignalBehind, KnownSignalIsBehind, LeadsBehind, KnownPointBehind, KnownPointIsBehind}
use Rattle.simulator_move_laws.specs.Calls.{Items, calls_at}
use Rattle.simulator_move_laws.specs.MachineSoFar.{During, KnownSignalDuring, KnownSignalSoFar, Leads, KnownPointDuring, KnownPointSoFar}
use Rattle.simulator_move_laws.specs.Facts.{FarEnds}
use Rattle.simulator_move_laws.specs.Sees.{Given}
use Rattle.simulator_move_laws.specs.Step.{PointIsLeft, SignalIsLeft}
use Rattle.simulator_move_laws.proofs.Interlocking.Changes.{at_here, at_other, changed_elsewhere, changed_here, noted_elsewhere, noted_here, same_is, same_self}
use Rattle.simulator_move_laws.proofs.Interlocking.MachineSoFar.{first_known_signal}
use Rattle.simulator_move_laws.proofs.Interlocking.KnownPoint.{first_known_point}
use Rattle.simulator_move_laws.proofs.Interlocking.Routes.{over_kept}
use Rattle.simulator_move_laws.proofs.Interlocking.ClientTicks.{none_begins, ticking_calls, ticking_client}
use Rattle.simulator_move_laws.proofs.Interlocking.NodeTicks.{PointComes, SignalComes, known_signal_ticks, known_point_ticks}

-- what is so of all below one number is so, after it, of all below the next
over_counted : (Keeps : ℕ → StepSoFar → Type 0) (does : ℕ → StepSoFar → StepSoFar) → ((number : ℕ) (part : StepSoFar) → Keeps number part → Keeps (suc number) (does number part)) → (count : ℕ) (part : StepSoFar) → Keeps 0 part → Keeps count (over does count part)
over_counted Keeps does each zero part is = is
over_counted Keeps does each (suc number) part is = each number (over does number part) (over_counted Keeps does each number part is)

behind_other : (n place : ℕ) → suc n ≤ place → is_same place n ≡ false
behind_other n place after = cases (is_same place n) refl where
  cases : (b : Bool) → is_same place n ≡ b → is_same place n ≡ false
  cases true e = absurd (omega (arith, after, same_is place n e))
  cases false e = e

before_too : (n place : ℕ) → suc n ≤ place → n ≤ place
before_too n place after = omega (arith, after)

-- ---- a step so far is one that may end so

module _ (now : ℕ) (input : Input) (table : Table) (ixl : IxlState) (given : Given) (machine : Machine) where
  known_signal_is_behind : (first : Option KnownSignalState) (before : Items) (calls : List LinkCall) (known_signal : Option KnownSignalState) (old new : MachineSignal) →
      KnownSignalSoFar now input table ixl given machine first before calls known_signal old new → KnownSignalIsBehind now input table ixl given machine first before calls known_signal old new
  known_signal_is_behind None before calls None old new is = is
  known_signal_is_behind None before calls (Some known_signal) old new is = is
  known_signal_is_behind (Some first) before calls None old new is = is
  known_signal_is_behind (Some first) before calls (Some known_signal) old new is = record {
    fits = is.fits;
    held = is.held;
    are = inl is.are;
    made = is.made;
    same = is.same;
    left = subst (λ b. SignalIsLeft b old new) (sym (none_begins now input first.client.peer calls (settled now first.client.link) is.are)) (record { server = is.stays.server; done = is.stays.done });
    totals = is.totals;
  }

  known_point_is_behind : (first : Option KnownPointState) (before : Items) (calls : List LinkCall) (known_point : Option KnownPointState) (old new : MachinePoint) →
      KnownPointSoFar now input table ixl given machine first before calls known_point old new → KnownPointIsBehind now input table ixl given machine first before calls known_point old new
  known_point_is_behind None before calls None old new is = is
  known_point_is_behind None before calls (Some known_point) old new is = is
  known_point_is_behind (Some first) before calls None old new is = is
  known_point_is_behind (Some first) before calls (Some known_point) old new is = record {
    fits = is.fits;
    held = is.held;
    are = inl is.are;
    made = is.made;
    same = is.same;
    left = subst (λ b. PointIsLeft b old new) (sym (none_begins now input first.client.peer calls (settled now first.client.link) is.are))
        (record { server = is.stays.server; taken = is.stays.taken; reports = is.stays.reports; driven = is.stays.driven; position = is.stays.position });
    totals = is.totals;
  }

  pub during_is_behind : (part : StepSoFar) (new : Machine) → During now input table ixl given machine part new → Behind now input table ixl given machine part new
  during_is_behind part new during = record {
    signals = λ place. known_signal_is_behind (slice_get ixl.known_signals place) (given.signals place) (calls_at (Signal place) part.calls) (slice_get part.ixl.known_signals place) (machine.signals place) (new.signals place) (during.signals place);
    points = λ place. known_point_is_behind (slice_get ixl.known_points place) (given.points place) (calls_at (Point place) part.calls) (slice_get part.ixl.known_points place) (machine.points place) (new.points place) (during.points place);
    routes = during.routes;
    count = during.count;
    created = during.created;
    holding = during.holding;
    frozen = during.frozen;
    moves = during.moves;
  }

-- ---- one place of a part is changed

module _ (n : ℕ) (part : StepSoFar) (known_signal : KnownSignalState) (calls : List LinkCall) (signals : ℕ → MachineSignal) (arrived : MachineSignal) where
  known_signal_elsewhere : (Is : List LinkCall → Option KnownSignalState → MachineSignal → Type 0) (place : ℕ) → is_same place n ≡ false →
      Is (calls_at (Signal place) part.calls) (slice_get part.ixl.known_signals place) (signals place) →
      Is (calls_at (Signal place) (part.calls ++ map (λ call. (Signal n, call)) calls)) (slice_get (changed (λ (old : KnownSignalState). known_signal) n part.ixl.known_signals) place) (changed_at n arrived signals place)
  known_signal_elsewhere Is place other is =
      subst (λ cs. Is cs (slice_get (changed (λ (old : KnownSignalState). known_signal) n part.ixl.known_signals) place) (changed_at n arrived signals place)) (sym (noted_elsewhere (Signal place) (Signal n) part.calls calls other))
      (subst (λ l. Is (calls_at (Signal place) part.calls) l (changed_at n arrived signals place)) (sym (changed_elsewhere (λ (old : KnownSignalState). known_signal) n part.ixl.known_signals place other))
      (subst (Is (calls_at (Signal place) part.calls) (slice_get part.ixl.known_signals place)) (sym (at_other n arrived signals place other)) is))

  known_signal_here : (Is : List LinkCall → Option KnownSignalState → MachineSignal → Type 0) (was : KnownSignalState) → slice_get part.ixl.known_signals n ≡ Some was → Is (calls_at (Signal n) part.calls ++ calls) (Some known_signal) arrived →
      Is (calls_at (Signal n) (part.calls ++ map (λ call. (Signal n, call)) calls)) (slice_get (changed (λ (old : KnownSignalState). known_signal) n part.ixl.known_signals) n) (changed_at n arrived signals n)
  known_signal_here Is was there is =
      subst (λ cs. Is cs (slice_get (changed (λ (old : KnownSignalState). known_signal) n part.ixl.known_signals) n) (changed_at n arrived signals n)) (sym (noted_here (Signal n) (Signal n) part.calls calls (same_self n)))
      (subst (λ l. Is (calls_at (Signal n) part.calls ++ calls) l (changed_at n arrived signals n)) (sym (changed_here (λ (old : KnownSignalState). known_signal) n part.ixl.known_signals was there))
      (subst (Is (calls_at (Signal n) part.calls ++ calls) (Some known_signal)) (sym (at_here n arrived signals)) is))

module _ (n : ℕ) (part : StepSoFar) (known_point : KnownPointState) (calls : List LinkCall) (points : ℕ → MachinePoint) (arrived : MachinePoint) where
  known_point_elsewhere : (Is : List LinkCall → Option KnownPointState → MachinePoint → Type 0) (place : ℕ) → is_same place n ≡ false →
      Is (calls_at (Point place) part.calls) (slice_get part.ixl.known_points place) (points place) →
      Is (calls_at (Point place) (part.calls ++ map (λ call. (Point n, call)) calls)) (slice_get (changed (λ (old : KnownPointState). known_point) n part.ixl.known_points) place) (changed_at n arrived points place)
  known_point_elsewhere Is place other is =
      subst (λ cs. Is cs (slice_get (changed (λ (old : KnownPointState). known_point) n part.ixl.known_points) place) (changed_at n arrived points place)) (sym (noted_elsewhere (Point place) (Point n) part.calls calls other))
      (subst (λ l. Is (calls_at (Point place) part.calls) l (changed_at n arrived points place)) (sym (changed_elsewhere (λ (old : KnownPointState). known_point) n part.ixl.known_points place other))
      (subst (Is (calls_at (Point place) part.calls) (slice_get part.ixl.known_points place)) (sym (at_other n arrived points place other)) is))

  known_point_here : (Is : List LinkCall → Option KnownPointState → MachinePoint → Type 0) (was : KnownPointState) → slice_get part.ixl.known_points n ≡ Some was → Is (calls_at (Point n) part.calls ++ calls) (Some known_point) arrived →
      Is (calls_at (Point n) (part.calls ++ map (λ call. (Point n, call)) calls)) (slice_get (changed (λ (old : KnownPointState). known_point) n part.ixl.known_points) n) (changed_at n arrived points n)
  known_point_here Is was there is =
      subst (λ cs. Is cs (slice_get (changed (λ (old : KnownPointState). known_point) n part.ixl.known_points) n) (changed_at n arrived points n)) (sym (noted_here (Point n) (Point n) part.calls calls (same_self n)))
      (subst (λ l. Is (calls_at (Point n) part.calls ++ calls) l (changed_at n arrived points n)) (sym (changed_here (λ (old : KnownPointState). known_point) n part.ixl.known_points was there))
      (subst (Is (calls_at (Point n) part.calls ++ calls) (Some known_point)) (sym (at_here n arrived points)) is))

-- ---- the ticks, place by place

module _ (now : ℕ) (table : Table) (ixl : IxlState) (given : Given) (machine : Machine) (far : FarEnds now Tick ixl given machine)
    (chain_signal : (machine : Machine) (place : ℕ) (moves : List SignalMove) → SignalMayChain moves (machine.signals place)
    → MovesTo table machine (with_signal place (signal_chained moves (machine.signals place)) machine))
    (chain_point : (machine : Machine) (place : ℕ) (moves : List PointMove) → PointMayChain moves (machine.points place)
    → MovesTo table machine (with_point place (point_chained moves (machine.points place)) machine))
    (onward : (old between new : Machine) → MovesTo table old between → MovesTo table between new → MovesTo table old new) where
  -- Each place is after its tick or before it, and from these on all are before it.
  record Ticking (known_signals known_points : ℕ) (part : StepSoFar) (new : Machine) : Type 0 where
    behind : Behind now Tick table ixl given machine part new
    known_signals_left : (place : ℕ) → known_signals ≤ place → KnownSignalSoFar now Tick table ixl given machine (slice_get ixl.known_signals place) (given.signals place) (calls_at (Signal place) part.calls) (slice_get part.ixl.known_signals place) (machine.signals place) (new.signals place)
    known_points_left : (place : ℕ) → known_points ≤ place → KnownPointSoFar now Tick table ixl given machine (slice_get ixl.known_points place) (given.points place) (calls_at (Point place) part.calls) (slice_get part.ixl.known_points place) (machine.points place) (new.points place)

  abbrev Ticks_at : ℕ → ℕ → StepSoFar → Type 0
  Ticks_at known_signals known_points part = (new : Machine) × Ticking known_signals known_points part new

  known_signal_moved : (n : ℕ) (part : StepSoFar) (new : Machine) (was known_signal : KnownSignalState) (done : client.ClientSoFar) (known_points : ℕ) → Ticking n known_points part new → slice_get part.ixl.known_signals n ≡ Some was →
      (comes : SignalComes (KnownSignalIsBehind now Tick table ixl given machine (slice_get ixl.known_signals n) (given.signals n) (calls_at (Signal n) part.calls ++ done.calls) (Some known_signal) (machine.signals n)) (new.signals n)) →
      Ticks_at (suc n) known_points (with_known_signal n known_signal (noted (Signal n) done part))
  known_signal_moved n part new was known_signal done known_points ticking is comes = (
    with_signal n arrived new,
    record {
      behind = record {
        signals = each;
        points = λ place. subst (λ cs. KnownPointIsBehind now Tick table ixl given machine (slice_get ixl.known_points place) (given.points place) cs (slice_get part.ixl.known_points place) (machine.points place) (new.points place))
            (sym (noted_elsewhere (Point place) (Signal n) part.calls done.calls refl)) (ticking.behind.points place);
        routes = ticking.behind.routes;
        count = ticking.behind.count;
        created = ticking.behind.created;
        holding = ticking.behind.holding;
        frozen = ticking.behind.frozen;
        moves = onward machine new (with_signal n arrived new) ticking.behind.moves (chain_signal new n comes.moves comes.may);
      };
      known_signals_left = λ place after. known_signal_elsewhere n part known_signal done.calls new.signals arrived
          (λ cs l s. KnownSignalSoFar now Tick table ixl given machine (slice_get ixl.known_signals place) (given.signals place) cs l (machine.signals place) s) place (behind_other n place after) (ticking.known_signals_left place (before_too n place after));
      known_points_left = λ place after. subst (λ cs. KnownPointSoFar now Tick table ixl given machine (slice_get ixl.known_points place) (given.points place) cs (slice_get part.ixl.known_points place) (machine.points place) (new.points place))
          (sym (noted_elsewhere (Point place) (Signal n) part.calls done.calls refl)) (ticking.known_points_left place after);
    },
  ) where
    arrived : MachineSignal
    arrived = signal_chained comes.moves (new.signals n)

    Is : ℕ → List LinkCall → Option KnownSignalState → MachineSignal → Type 0
    Is place cs l s = KnownSignalIsBehind now Tick table ixl given machine (slice_get ixl.known_signals place) (given.signals place) cs l (machine.signals place) s

    Goal : ℕ → Type 0
    Goal place = Is place (calls_at (Signal place) (part.calls ++ map (λ call. (Signal n, call)) done.calls)) (slice_get (changed (λ (old : KnownSignalState). known_signal) n part.ixl.known_signals) place) (changed_at n arrived new.signals place)

    each : (place : ℕ) → Goal place
    each place = cases (is_same place n) refl where
      cases : (b : Bool) → is_same place n ≡ b → Goal place
      cases true e = subst Goal (sym (same_is place n e)) (known_signal_here n part known_signal done.calls new.signals arrived (Is n) was is comes.is)
      cases false e = known_signal_elsewhere n part known_signal done.calls new.signals arrived (Is place) place e (ticking.behind.signals place)

  known_point_moved : (n : ℕ) (part : StepSoFar) (new : Machine) (was known_point : KnownPointState) (done : client.ClientSoFar) (known_signals : ℕ) → Ticking known_signals n part new → slice_get part.ixl.known_points n ≡ Some was →
      (comes : PointComes (KnownPointIsBehind now Tick table ixl given machine (slice_get ixl.known_points n) (given.points n) (calls_at (Point n) part.calls ++ done.calls) (Some known_point) (machine.points n)) (new.points n)) →
      Ticks_at known_signals (suc n) (with_known_point n known_point (noted (Point n) done part))
  known_point_moved n part new was known_point done known_signals ticking is comes = (
    with_point n arrived new,
    record {
      behind = record {
        points = each;
        signals = λ place. subst (λ cs. KnownSignalIsBehind now Tick table ixl given machine (slice_get ixl.known_signals place) (given.signals place) cs (slice_get part.ixl.known_signals place) (machine.signals place) (new.signals place))
            (sym (noted_elsewhere (Signal place) (Point n) part.calls done.calls refl)) (ticking.behind.signals place);
        routes = ticking.behind.routes;
        count = ticking.behind.count;
        created = ticking.behind.created;
        holding = ticking.behind.holding;
        frozen = ticking.behind.frozen;
        moves = onward machine new (with_point n arrived new) ticking.behind.moves (chain_point new n comes.moves comes.may);
      };
      known_points_left = λ place after. known_point_elsewhere n part known_point done.calls new.points arrived
          (λ cs l s. KnownPointSoFar now Tick table ixl given machine (slice_get ixl.known_points place) (given.points place) cs l (machine.points place) s) place (behind_other n place after) (ticking.known_points_left place (before_too n place after));
      known_signals_left = λ place after. subst (λ cs. KnownSignalSoFar now Tick table ixl given machine (slice_get ixl.known_signals place) (given.signals place) cs (slice_get part.ixl.known_signals place) (machine.signals place) (new.signals place))
          (sym (noted_elsewhere (Signal place) (Point n) part.calls done.calls refl)) (ticking.known_signals_left place after);
    },
  ) where
    arrived : MachinePoint
    arrived = point_chained comes.moves (new.points n)

    Is : ℕ → List LinkCall → Option KnownPointState → MachinePoint → Type 0
    Is place cs l s = KnownPointIsBehind now Tick table ixl given machine (slice_get ixl.known_points place) (given.points place) cs l (machine.points place) s

    Goal : ℕ → Type 0
    Goal place = Is place (calls_at (Point place) (part.calls ++ map (λ call. (Point n, call)) done.calls)) (slice_get (changed (λ (old : KnownPointState). known_point) n part.ixl.known_points) place) (changed_at n arrived new.points place)

    each : (place : ℕ) → Goal place
    each place = cases (is_same place n) refl where
      cases : (b : Bool) → is_same place n ≡ b → Goal place
      cases true e = subst Goal (sym (same_is place n e)) (known_point_here n part known_point done.calls new.points arrived (Is n) was is comes.is)
      cases false e = known_point_elsewhere n part known_point done.calls new.points arrived (Is place) place e (ticking.behind.points place)

  -- ---- a signal

  known_signal_ticking_is : (place : ℕ) (part : StepSoFar) (known_signal : KnownSignalState) → slice_get part.ixl.known_signals place ≡ Some known_signal →
      known_signal_ticking now place part ≡ with_known_signal place (known_signal_after known_signal.aspect known_signal.number known_signal.indicated (ticking now (begun known_signal.client part.outbox)).client) (noted (Signal place) (ticking now (begun known_signal.client part.outbox)) part)
  unfolding known_signal_ticking
  known_signal_ticking_is place part known_signal is = rw is refl

  known_signal_ticking_none : (place : ℕ) (part : StepSoFar) → slice_get part.ixl.known_signals place ≡ None → known_signal_ticking now place part ≡ part
  unfolding known_signal_ticking
  known_signal_ticking_none place part is = rw is refl

  one_known_signal : (known_points place : ℕ) (part : StepSoFar) → Ticks_at place known_points part → Ticks_at (suc place) known_points (known_signal_ticking now place part)
  one_known_signal known_points place part (new, so_far) = cases (slice_get part.ixl.known_signals place) refl where
    some : (known_signal : KnownSignalState) → slice_get part.ixl.known_signals place ≡ Some known_signal →
        Ticks_at (suc place) known_points (with_known_signal place (known_signal_after known_signal.aspect known_signal.number known_signal.indicated (ticking now (begun known_signal.client part.outbox)).client) (noted (Signal place) (ticking now (begun known_signal.client part.outbox)) part))
    some known_signal is = on (first_known_signal now Tick table ixl given machine far chain_signal onward (slice_get ixl.known_signals place) (slice_get part.ixl.known_signals place) known_signal (given.signals place)
        (calls_at (Signal place) part.calls) (machine.signals place) (new.signals place) is (so_far.known_signals_left place (omega arith))) where
          done : client.ClientSoFar
          done = ticking now (begun known_signal.client part.outbox)

          on : (first : KnownSignalState) × (slice_get ixl.known_signals place ≡ Some first) × KnownSignalDuring now Tick table ixl given machine first (given.signals place) (calls_at (Signal place) part.calls) known_signal (machine.signals place) (new.signals place) →
              Ticks_at (suc place) known_points (with_known_signal place (known_signal_after known_signal.aspect known_signal.number known_signal.indicated done.client) (noted (Signal place) done part))
          on (first, is_first, was) = known_signal_moved place part new known_signal (known_signal_after known_signal.aspect known_signal.number known_signal.indicated done.client) done known_points so_far is
              (subst (λ f. SignalComes (KnownSignalIsBehind now Tick table ixl given machine f (given.signals place) (calls_at (Signal place) part.calls ++ done.calls) (Some (known_signal_after known_signal.aspect known_signal.number known_signal.indicated done.client)) (machine.signals place)) (new.signals place)) (sym is_first)
              (subst (λ cs. SignalComes (KnownSignalBehind now Tick table ixl given machine first (given.signals place) (calls_at (Signal place) part.calls ++ cs) (known_signal_after known_signal.aspect known_signal.number known_signal.indicated done.client) (machine.signals place)) (new.signals place)) (sym (ticking_calls now known_signal.client part.outbox))
              (subst (λ c. SignalComes (KnownSignalBehind now Tick table ixl given machine first (given.signals place) (calls_at (Signal place) part.calls ++ Ticks ∷ Opens ∷ []) (known_signal_after known_signal.aspect known_signal.number known_signal.indicated c) (machine.signals place)) (new.signals place)) (sym (ticking_client now known_signal.client part.outbox))
              (known_signal_ticks now table ixl given machine far chain_signal onward place first known_signal (calls_at (Signal place) part.calls) (new.signals place) is_first was))))

    cases : (l : Option KnownSignalState) → slice_get part.ixl.known_signals place ≡ l → Ticks_at (suc place) known_points (known_signal_ticking now place part)
    cases None is = subst (Ticks_at (suc place) known_points) (sym (known_signal_ticking_none place part is))
        (new, record { behind = so_far.behind; known_signals_left = λ other after. so_far.known_signals_left other (before_too place other after); known_points_left = so_far.known_points_left })
    cases (Some known_signal) is = subst (Ticks_at (suc place) known_points) (sym (known_signal_ticking_is place part known_signal is)) (some known_signal is)

  -- ---- a point

  known_point_ticking_is : (place : ℕ) (part : StepSoFar) (known_point : KnownPointState) → slice_get part.ixl.known_points place ≡ Some known_point →
      known_point_ticking now place part ≡ with_known_point place (known_point_after known_point.side known_point.moved (ticking now (begun known_point.client part.outbox)).client) (noted (Point place) (ticking now (begun known_point.client part.outbox)) part)
  unfolding known_point_ticking
  known_point_ticking_is place part known_point is = rw is refl

  known_point_ticking_none : (place : ℕ) (part : StepSoFar) → slice_get part.ixl.known_points place ≡ None → known_point_ticking now place part ≡ part
  unfolding known_point_ticking
  known_point_ticking_none place part is = rw is refl

  one_known_point : (known_signals place : ℕ) (part : StepSoFar) → Ticks_at known_signals place part → Ticks_at known_signals (suc place) (known_point_ticking now place part)
  one_known_point known_signals place part (new, so_far) = cases (slice_get part.ixl.known_points place) refl where
    some : (known_point : KnownPointState) → slice_get part.ixl.known_points place ≡ Some known_point →
        Ticks_at known_signals (suc place) (with_known_point place (known_point_after known_point.side known_point.moved (ticking now (begun known_point.client part.outbox)).client) (noted (Point place) (ticking now (begun known_point.client part.outbox)) part))
    some known_point is = on (first_known_point now Tick table ixl given machine far chain_point onward (slice_get ixl.known_points place) (slice_get part.ixl.known_points place) known_point (given.points place)
        (calls_at (Point place) part.calls) (machine.points place) (new.points place) is (so_far.known_points_left place (omega arith))) where
          done : client.ClientSoFar
          done = ticking now (begun known_point.client part.outbox)

          on : (first : KnownPointState) × (slice_get ixl.known_points place ≡ Some first) × KnownPointDuring now Tick table ixl given machine first (given.points place) (calls_at (Point place) part.calls) known_point (machine.points place) (new.points place) →
              Ticks_at known_signals (suc place) (with_known_point place (known_point_after known_point.side known_point.moved done.client) (noted (Point place) done part))
          on (first, is_first, was) = known_point_moved place part new known_point (known_point_after known_point.side known_point.moved done.client) done known_signals so_far is
              (subst (λ f. PointComes (KnownPointIsBehind now Tick table ixl given machine f (given.points place) (calls_at (Point place) part.calls ++ done.calls) (Some (known_point_after known_point.side known_point.moved done.client)) (machine.points place)) (new.points place)) (sym is_first)
              (subst (λ cs. PointComes (KnownPointBehind now Tick table ixl given machine first (given.points place) (calls_at (Point place) part.calls ++ cs) (known_point_after known_point.side known_point.moved done.client) (machine.points place)) (new.points place)) (sym (ticking_calls now known_point.client part.outbox))
              (subst (λ c. PointComes (KnownPointBehind now Tick table ixl given machine first (given.points place) (calls_at (Point place) part.calls ++ Ticks ∷ Opens ∷ []) (known_point_after known_point.side known_point.moved c) (machine.points place)) (new.points place)) (sym (ticking_client now known_point.client part.outbox))
              (known_point_ticks now table ixl given machine far chain_point onward place first known_point (calls_at (Point place) part.calls) (new.points place) is_first was))))

    cases : (l : Option KnownPointState) → slice_get part.ixl.known_points place ≡ l → Ticks_at known_signals (suc place) (known_point_ticking now place part)
    cases None is = subst (Ticks_at known_signals (suc place)) (sym (known_point_ticking_none place part is))
        (new, record { behind = so_far.behind; known_signals_left = so_far.known_signals_left; known_points_left = λ other after. so_far.known_points_left other (before_too place other after) })
    cases (Some known_point) is = subst (Ticks_at known_signals (suc place)) (sym (known_point_ticking_is place part known_point is)) (some known_point is)

  -- ---- a detector

  detector_on : (place : ℕ) (detector : KnownDetectorState) (done : client.ClientSoFar) (part : StepSoFar) → LeadsBehind now Tick table ixl given machine part →
      LeadsBehind now Tick table ixl given machine (with_detector place detector (noted (Detector place) done part))
  detector_on place detector done part (new, behind) = (
    new,
    record {
      signals = λ n. subst (λ cs. KnownSignalIsBehind now Tick table ixl given machine (slice_get ixl.known_signals n) (given.signals n) cs (slice_get part.ixl.known_signals n) (machine.signals n) (new.signals n))
          (sym (noted_elsewhere (Signal n) (Detector place) part.calls done.calls refl)) (behind.signals n);
      points = λ n. subst (λ cs. KnownPointIsBehind now Tick table ixl given machine (slice_get ixl.known_points n) (given.points n) cs (slice_get part.ixl.known_points n) (machine.points n) (new.points n))
          (sym (noted_elsewhere (Point n) (Detector place) part.calls done.calls refl)) (behind.points n);
      routes = behind.routes;
      count = behind.count;
      created = behind.created;
      holding = behind.holding;
      frozen = behind.frozen;
      moves = behind.moves;
    },
  )

  one_detector : (place : ℕ) (part : StepSoFar) → LeadsBehind now Tick table ixl given machine part → LeadsBehind now Tick table ixl given machine (detector_ticking now place part)
  unfolding detector_ticking
  one_detector place part on = cases (slice_get part.ixl.detectors place) refl where
    cases : (detector : Option KnownDetectorState) → slice_get part.ixl.detectors place ≡ detector → LeadsBehind now Tick table ixl given machine (detector_ticking now place part)
    cases None is = rw is on
    cases (Some detector) is = rw is (detector_on place (detector_after detector.occupied (ticking now (begun detector.client part.outbox)).client) (ticking now (begun detector.client part.outbox)) part on)

  -- ---- all

  pub ticks_lead : (part : StepSoFar) → Leads now Tick table ixl given machine part → LeadsBehind now Tick table ixl given machine (ticked now Tick part)
  unfolding ticked
  ticks_lead part (new, during) =
      let known_signals : ℕ = length part.ixl.known_signals
      in let known_points : ℕ = length part.ixl.known_points
      in let of_signals = over_counted (λ n. Ticks_at n 0) (known_signal_ticking now) (one_known_signal 0) known_signals part
      (new, record { behind = during_is_behind now Tick table ixl given machine part new during; known_signals_left = λ place after. during.signals place; known_points_left = λ place after. during.points place })
      in let of_points = over_counted (Ticks_at known_signals) (known_point_ticking now) (one_known_point known_signals) known_points (over (known_signal_ticking now) known_signals part) of_signals
      in over_kept (LeadsBehind now Tick table ixl given machine) (detector_ticking now) one_detector (length part.ixl.detectors) (over (known_point_ticking now) known_points (over (known_signal_ticking now) known_signals part))
      (of_points.0, of_points.1.behind)
