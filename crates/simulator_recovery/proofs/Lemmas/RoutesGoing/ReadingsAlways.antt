-- What is so of an interlocking at each reading of its clock from some moment on, and is kept by each of its steps, is so after every list
-- of events at the reading of its clock.
use Rattle.simulator_recovery.proofs.Words.Basics.{◌≡◌, ◌⊎◌, inl, inr, ℕ, ◌≤◌, List, [], ◌∷◌, Option, Some, None, slice_get, refl, sym, subst, arith}
use Rattle.simulator_recovery.proofs.Words.Links.{reading_of}
use Rattle.simulator_recovery.proofs.Words.Interlockings.{IxlState, Input, Table}
use Rattle.simulator_recovery.proofs.Words.Stations.{DetectorEntry, Site, Point as PointEntry, Signal as SignalEntry, Event, Beginning, Outset, at_zero, new_ixl, world_at, detector_anew, happens, interlocking_stepped, made_anew, passed, point_anew, signal_anew, Detector as AtDetector, Interlocking as AtInterlocking, Node, node_at, after_all, WorldState, IsReached}
use Rattle.simulator_spec.specs.Nodes.{Point as AtPoint, Signal as AtSignal}
use Rattle.simulator_recovery.proofs.Lemmas.Rounds.Clocks.{calm_still}
use Rattle.simulator_recovery.proofs.Lemmas.Lamps.ProceedsRounds.{IxlGoes, anew, event_goes, stays, steps}

reads_more : (clock later : ℕ) → clock ≤ later → reading_of clock ≤ reading_of later
reads_more clock later less = omega (arith, less)

module _ (site : Site) (table : Table) where
  -- the clock of the interlocking doesn't go back, unless it is made anew
  abbrev GoesOn : WorldState → WorldState → Type 0
  GoesOn world new = (world.interlocking.clock ≤ new.interlocking.clock) ⊎ ((begins : Beginning) × (new.interlocking.ixl ≡ new_ixl site table begins))

  same_signal : (begins : Beginning) (place : ℕ) (entry : Option SignalEntry) (world : WorldState) → GoesOn world (signal_anew site begins place entry world)
  same_signal begins place None world = inl (omega arith)
  same_signal begins place (Some entry) world = inl (omega arith)

  same_point : (begins : Beginning) (place : ℕ) (entry : Option PointEntry) (world : WorldState) → GoesOn world (point_anew site begins place entry world)
  same_point begins place None world = inl (omega arith)
  same_point begins place (Some entry) world = inl (omega arith)

  same_detector : (begins : Beginning) (place : ℕ) (entry : Option DetectorEntry) (world : WorldState) → GoesOn world (detector_anew site begins place entry world)
  same_detector begins place None world = inl (omega arith)
  same_detector begins place (Some entry) world = inl (omega arith)

  anew_goes : (begins : Beginning) (at : Option Node) (world : WorldState) → GoesOn world (made_anew site table begins at world)
  anew_goes begins None world = inl (omega arith)
  anew_goes begins (Some AtInterlocking) world = inr (begins, refl)
  anew_goes begins (Some (AtSignal place)) world = same_signal begins place (slice_get site.signals place) world
  anew_goes begins (Some (AtPoint place)) world = same_point begins place (slice_get site.points place) world
  anew_goes begins (Some (AtDetector place)) world = same_detector begins place (slice_get site.detectors place) world

  time_goes : (elapsed : ℕ) (clocks : List ℕ) (world : WorldState) → GoesOn world (passed elapsed clocks world)
  unfolding passed
  time_goes elapsed clocks world = inl (omega arith)

  still_goes : (world new : WorldState) → new.interlocking.clock ≡ world.interlocking.clock → GoesOn world new
  still_goes world new same = inl (omega (arith, same))

  clock_goes : (one : Event) (world : WorldState) → GoesOn world (happens site table one world)
  unfolding happens
  clock_goes (Event.Time elapsed clocks) world = time_goes elapsed clocks world
  clock_goes (Event.Restart node clock first) world = anew_goes (record { clock = clock; first = first }) (node_at site node.0) world
  clock_goes (Event.Request command) world = still_goes world (happens site table (Event.Request command) world) (calm_still site table (Event.Request command) world tt).clock
  clock_goes (Event.Occupy section occupancy) world = still_goes world (happens site table (Event.Occupy section occupancy) world) (calm_still site table (Event.Occupy section occupancy) world tt).clock
  clock_goes (Event.Tick node) world = still_goes world (happens site table (Event.Tick node) world) (calm_still site table (Event.Tick node) world tt).clock
  clock_goes (Event.Deliver node bytes) world = still_goes world (happens site table (Event.Deliver node bytes) world) (calm_still site table (Event.Deliver node bytes) world tt).clock
  clock_goes (Event.Lose bytes) world = inl (omega arith)
  clock_goes (Event.Reach point position) world = still_goes world (happens site table (Event.Reach point position) world) (calm_still site table (Event.Reach point position) world tt).clock

  module _ (P : ℕ → IxlState → Type 0) (later_so : (now more : ℕ) (ixl : IxlState) → now ≤ more → P now ixl → P more ixl) (new_is : (begins : Beginning) (now : ℕ) → P now (new_ixl site table begins))
      (steps_so : (input : Input) (world : WorldState) → P (reading_of world.interlocking.clock) world.interlocking.ixl → P (reading_of world.interlocking.clock) (interlocking_stepped site table input world).interlocking.ixl) where
    abbrev Standing : WorldState → Type 0
    Standing world = P (reading_of world.interlocking.clock) world.interlocking.ixl

    event_keeps : (one : Event) (world : WorldState) → Standing world → Standing (happens site table one world)
    event_keeps one world is = by_clock (clock_goes one world)
      where
        new : WorldState
        new = happens site table one world

        now : ℕ
        now = reading_of world.interlocking.clock

        before : IxlGoes site table one world new → P now new.interlocking.ixl
        before (stays same) = subst (P now) (sym same) is
        before (steps input asks same) = subst (P now) (sym same) (steps_so input world is)
        before (anew node clock begins restart same) = subst (P now) (sym same) (new_is (record { clock = clock; first = begins }) now)

        by_clock : GoesOn world new → Standing new
        by_clock (inl more) = later_so now (reading_of new.interlocking.clock) new.interlocking.ixl (reads_more world.interlocking.clock new.interlocking.clock more) (before (event_goes site table one world))
        by_clock (inr (begins, same)) = subst (P (reading_of new.interlocking.clock)) (sym same) (new_is begins (reading_of new.interlocking.clock))

    all_keep : (events : List Event) (world : WorldState) → Standing world → Standing (after_all site table events world)
    all_keep [] world is = is
    all_keep (first ∷ others) world is = all_keep others (happens site table first world) (event_keeps first world is)

    first_keeps : (outset : Outset) → Standing (world_at site table outset)
    unfolding world_at
    first_keeps outset = new_is at_zero (reading_of (world_at site table outset).interlocking.clock)

    pub always_read : (world : WorldState) → IsReached site table world → P (reading_of world.interlocking.clock) world.interlocking.ixl
    always_read world reached = subst Standing (sym reached.after) (all_keep reached.events (world_at site table reached.outset) (first_keeps reached.outset))
