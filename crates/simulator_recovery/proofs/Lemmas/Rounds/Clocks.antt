-- What an event does to the clocks of a station, and to when its interlocking was made.
use Rattle.simulator_recovery.proofs.Words.Basics.{◌≡◌, ℕ, zero, suc, ◌+◌, ◌≤◌, Bool, true, false, ◌&&◌, not, nat_le, List, [], ◌∷◌, ◌++◌, length, map, replicate, drop, Option, Some, None, slice_get, slice_set, refl, sym, ap, ◌∙◌, arith, ◌==◌, slice_index_or, list_all, nat_tests, same_Some}
use Rattle.simulator_recovery.proofs.Words.Links.{Each, reading_of, OnLink}
use Rattle.simulator_recovery.proofs.Words.Controllers.{Occupancy, Behaviour, Input as HostInput, Sense, signal_behaviour, point_behaviour, detection_behaviour}
use Rattle.simulator_recovery.proofs.Words.Interlockings.{begun_with, empty_outbox, Table}
use Rattle.simulator_recovery.proofs.Words.Stations.{Site, DetectorEntry, Point as PointEntry, Signal as SignalEntry, Event, Refused, Beginning, new_ixl, round_of_time, all_later, coming, delivered_to, detector_anew, detector_stepped, happens, interlocking_stepped, made_anew, passed, point_anew, point_stepped, sensed_by, signal_anew, signal_stepped, stepped_at, ticked_at, connection_of, copy_of, Detector, Interlocking, Node, detector_link, key_of, links, node_at, nodes, point_link, all_within, are_within, clock_limit, keeps_time, refusal, refusal_of_time, refused_where, controller_after, controller_later, ClockedControllerState, WorldState}
use Rattle.simulator_recovery.proofs.Words.Recovery.{clock_of, clocks_of}
use Rattle.simulator_spec.specs.ixl_spec.Step as ixl
use Rattle.simulator_spec.specs.Nodes.{Point, Signal}
use Rattle.simulator_recovery.proofs.Lemmas.Ground.Steps.{step_stays}

-- an event in which no clock goes on, no node is made anew and no datagram is lost
abbrev pub IsCalm : Event → Type 0
IsCalm (Event.Time elapsed clocks) = ⊥
IsCalm (Event.Lose bytes) = ⊥
IsCalm (Event.Restart node clock first) = ⊥
IsCalm _ = Unit {0}

-- The clocks are as they were, and so is when the interlocking was made.
pub record AreStill (old new : WorldState) : Type 0 where
  pub clocks : clocks_of new ≡ clocks_of old
  pub created : new.interlocking.ixl.created ≡ old.interlocking.ixl.created
  pub clock : new.interlocking.clock ≡ old.interlocking.clock

pub still : (world : WorldState) → AreStill world world
still world = record { clocks = refl; created = refl; clock = refl }

pub still_then : (one two three : WorldState) → AreStill one two → AreStill two three → AreStill one three
still_then one two three first second = record { clocks = second.clocks ∙ first.clocks; created = second.created ∙ first.created; clock = second.clock ∙ first.clock }

-- ---- lists

set_clock : {Object : Type 0} (list : List (ClockedControllerState Object)) (place : ℕ) (old new : ClockedControllerState Object) → slice_get list place ≡ Some old → new.clock ≡ old.clock → map clock_of (slice_set list place new) ≡ map clock_of list
set_clock [] place old new is same = refl
set_clock (first ∷ others) zero old new is same = ap (λ (n : ℕ). n ∷ map clock_of others) (same ∙ ap clock_of (sym (same_Some first old is)))
set_clock (first ∷ others) (suc place) old new is same = ap (λ (l : List ℕ). first.clock ∷ l) (set_clock others place old new is same)

-- ---- steps of controllers

stepped_clocks : {Object : Type 0} (does : Behaviour Object) (input : HostInput) (connection time link place : ℕ) (servers : List (ClockedControllerState Object)) (sent : List OnLink) (found : Option (ClockedControllerState Object)) → slice_get servers place ≡ found
    → map clock_of (stepped_at does input connection time link place found (record { servers = servers; sent = sent })).servers ≡ map clock_of servers
unfolding stepped_at controller_after
stepped_clocks does input connection time link place servers sent None is = refl
stepped_clocks does input connection time link place servers sent (Some server) is = set_clock servers place server _ is refl

signal_still : (site : Site) (input : HostInput) (connection place : ℕ) (world : WorldState) → AreStill world (signal_stepped site input connection place world)
unfolding signal_stepped
signal_still site input connection place world = record {
  clocks = ap (λ (l : List ℕ). world.time ∷ world.interlocking.clock ∷ (l ++ (map clock_of world.points ++ map clock_of world.detectors)))
      (stepped_clocks signal_behaviour input connection world.time place place world.signals world.sent (slice_get world.signals place) refl);
  created = refl;
  clock = refl;
}

point_still : (site : Site) (input : HostInput) (connection place : ℕ) (world : WorldState) → AreStill world (point_stepped site input connection place world)
unfolding point_stepped
point_still site input connection place world = record {
  clocks = ap (λ (l : List ℕ). world.time ∷ world.interlocking.clock ∷ (map clock_of world.signals ++ (l ++ map clock_of world.detectors)))
      (stepped_clocks point_behaviour input connection world.time (point_link site place) place world.points world.sent (slice_get world.points place) refl);
  created = refl;
  clock = refl;
}

detector_still : (site : Site) (input : HostInput) (connection place : ℕ) (world : WorldState) → AreStill world (detector_stepped site input connection place world)
unfolding detector_stepped
detector_still site input connection place world = record {
  clocks = ap (λ (l : List ℕ). world.time ∷ world.interlocking.clock ∷ (map clock_of world.signals ++ (map clock_of world.points ++ l)))
      (stepped_clocks detection_behaviour input connection world.time (detector_link site place) place world.detectors world.sent (slice_get world.detectors place) refl);
  created = refl;
  clock = refl;
}

-- ---- steps of the interlocking

station_still : (site : Site) (table : Table) (input : ixl.Input) (world : WorldState) → AreStill world (interlocking_stepped site table input world)
unfolding interlocking_stepped
station_still site table input world = record {
  clocks = refl;
  created = (step_stays (reading_of world.interlocking.clock) table (key_of site) (begun_with world.interlocking.ixl empty_outbox) input).created;
  clock = refl;
}

-- ---- every calm event

module _ (site : Site) (table : Table) where
  ticked_still : (at : Option Node) (world : WorldState) → AreStill world (ticked_at site table at world)
  ticked_still None world = still world
  ticked_still (Some Interlocking) world = station_still site table ixl.Tick world
  ticked_still (Some (Signal place)) world = signal_still site HostInput.Tick 0 place world
  ticked_still (Some (Point place)) world = point_still site HostInput.Tick 0 place world
  ticked_still (Some (Detector place)) world = detector_still site HostInput.Tick 0 place world

  delivered_still : (bytes : List ℕ) (connection : ℕ) (at : Option Node) (world : WorldState) → AreStill world (delivered_to site table bytes connection at world)
  delivered_still bytes connection None world = still world
  delivered_still bytes connection (Some Interlocking) world = station_still site table (ixl.Datagram bytes) world
  delivered_still bytes connection (Some (Signal place)) world = signal_still site (coming bytes) connection place world
  delivered_still bytes connection (Some (Point place)) world = point_still site (coming bytes) connection place world
  delivered_still bytes connection (Some (Detector place)) world = detector_still site (coming bytes) connection place world

  sensed_still : (occupancy : Occupancy) (reporter : Option (ℕ × ℕ)) (world : WorldState) → AreStill world (sensed_by site occupancy reporter world)
  sensed_still occupancy None world = still world
  sensed_still occupancy (Some reporter) world = detector_still site (HostInput.Sense (Sense.Section reporter.1 occupancy)) 0 reporter.0 world

  pub calm_still : (happening : Event) (world : WorldState) → IsCalm happening → AreStill world (happens site table happening world)
  unfolding happens
  calm_still (Event.Request command) world calm = station_still site table (ixl.Commands command) world
  calm_still (Event.Occupy section occupancy) world calm = still_then world (record world { occupancies = slice_set world.occupancies section.0 occupancy }) _ (record { clocks = refl; created = refl; clock = refl })
      (sensed_still occupancy (slice_get table.reporters section.0) (record world { occupancies = slice_set world.occupancies section.0 occupancy }))
  calm_still (Event.Tick node) world calm = ticked_still (node_at site node.0) world
  calm_still (Event.Time elapsed clocks) world calm = absurd calm
  calm_still (Event.Deliver node bytes) world calm = delivered_still bytes (connection_of (copy_of bytes world)) (node_at site node.0) world
  calm_still (Event.Lose bytes) world calm = absurd calm
  calm_still (Event.Reach point position) world calm = still_then world (record world { positions = slice_set world.positions point.0 position }) _ (record { clocks = refl; created = refl; clock = refl })
      (point_still site (HostInput.Sense (Sense.Position position)) 0 point.0 (record world { positions = slice_set world.positions point.0 position }))
  calm_still (Event.Restart node clock first) world calm = absurd calm

  -- ---- an interlocking was made by its clock

  abbrev pub WasMade : WorldState → Type 0
  WasMade world = world.interlocking.ixl.created ≤ reading_of world.interlocking.clock

  made_still : (old new : WorldState) → AreStill old new → WasMade old → WasMade new
  made_still old new is was = let created = is.created in let clock = ap reading_of is.clock in omega (arith, was, created, clock)

  time_made : (elapsed : ℕ) (clocks : List ℕ) (world : WorldState) → WasMade world → WasMade (passed elapsed clocks world)
  unfolding passed
  time_made elapsed clocks world was = let more = rises world.interlocking.clock (slice_index_or clocks 0 0) in omega (arith, was, more)
    where
      rises : (clock more : ℕ) → reading_of clock ≤ reading_of (clock + more)
      rises clock more = omega arith

  signal_kept : (begins : Beginning) (place : ℕ) (entry : Option SignalEntry) (world : WorldState) → WasMade world → WasMade (signal_anew site begins place entry world)
  signal_kept begins place None world was = was
  signal_kept begins place (Some entry) world was = was

  point_kept : (begins : Beginning) (place : ℕ) (entry : Option PointEntry) (world : WorldState) → WasMade world → WasMade (point_anew site begins place entry world)
  point_kept begins place None world was = was
  point_kept begins place (Some entry) world was = was

  detector_kept : (begins : Beginning) (place : ℕ) (entry : Option DetectorEntry) (world : WorldState) → WasMade world → WasMade (detector_anew site begins place entry world)
  detector_kept begins place None world was = was
  detector_kept begins place (Some entry) world was = was

  anew_made : (begins : Beginning) (at : Option Node) (world : WorldState) → WasMade world → WasMade (made_anew site table begins at world)
  unfolding new_ixl
  anew_made begins None world was = was
  anew_made begins (Some Interlocking) world was = omega arith
  anew_made begins (Some (Signal place)) world was = signal_kept begins place (slice_get site.signals place) world was
  anew_made begins (Some (Point place)) world was = point_kept begins place (slice_get site.points place) world was
  anew_made begins (Some (Detector place)) world was = detector_kept begins place (slice_get site.detectors place) world was

  pub event_made : (happening : Event) (world : WorldState) → WasMade world → WasMade (happens site table happening world)
  unfolding happens
  event_made (Event.Time elapsed clocks) world was = time_made elapsed clocks world was
  event_made (Event.Restart node clock first) world was = anew_made (record { clock = clock; first = first }) (node_at site node.0) world was
  event_made (Event.Request command) world was = made_still world _ (calm_still (Event.Request command) world tt) was
  event_made (Event.Occupy section occupancy) world was = made_still world _ (calm_still (Event.Occupy section occupancy) world tt) was
  event_made (Event.Tick node) world was = made_still world _ (calm_still (Event.Tick node) world tt) was
  event_made (Event.Deliver node bytes) world was = made_still world _ (calm_still (Event.Deliver node bytes) world tt) was
  event_made (Event.Lose bytes) world was = was
  event_made (Event.Reach point position) world was = made_still world _ (calm_still (Event.Reach point position) world tt) was

-- ---- 10 ms for all

abbrev pub later : ℕ → ℕ
later clock = clock + 10000

-- so many times 10 ms
abbrev pub tens : ℕ → List ℕ
tens m = replicate m 10000

map_joined : (f : ℕ → ℕ) (one other : List ℕ) → map f (one ++ other) ≡ map f one ++ map f other
map_joined f [] other = refl
map_joined f (first ∷ one) other = ap (λ (l : List ℕ). f first ∷ l) (map_joined f one other)

pub each_joined : (P : ℕ → Type 0) (one other : List ℕ) → Each P (one ++ other) → Each P one × Each P other
each_joined P [] other each = (tt, each)
each_joined P (first ∷ one) other each = let rest = each_joined P one other each.1 in ((each.0, rest.0), rest.1)

drop_same : (n m k : ℕ) → k ≡ n + m → drop n (tens k) ≡ tens m
drop_same zero m k e = ap (λ (j : ℕ). tens j) (omega (arith, e))
drop_same (suc n) m zero e = absurd (omega (arith, e))
drop_same (suc n) m (suc k) e = drop_same n m k (omega (arith, e))

all_later_clocks : {Object : Type 0} (moment m : ℕ) (list : List (ClockedControllerState Object)) → length list ≤ m → map clock_of (all_later moment (tens m) list) ≡ map later (map clock_of list)
unfolding controller_later
all_later_clocks moment m [] enough = refl
all_later_clocks moment zero (first ∷ others) enough = absurd (omega (arith, enough))
all_later_clocks moment (suc m) (first ∷ others) enough = ap (λ (l : List ℕ). later first.clock ∷ l) (all_later_clocks moment m others (omega (arith, enough)))

pub record HasAll (site : Site) (world : WorldState) : Type 0 where
  pub signals : length world.signals ≡ length site.signals
  pub points : length world.points ≡ length site.points
  pub detectors : length world.detectors ≡ length site.detectors

pub time_clocks : (site : Site) (world : WorldState) → HasAll site world → clocks_of (passed 10000 (tens (nodes site)) world) ≡ map later (clocks_of world)
unfolding passed
time_clocks site world has =
    let s = has.signals
    in let p = has.points
    in let d = has.detectors
    in let of_points : List ℕ = drop (length world.signals) (tens (links site))
    in let points_is : of_points ≡ tens (length site.points + length site.detectors)
    = drop_same (length world.signals) (length site.points + length site.detectors) (links site) (omega (arith, s))
    in let detectors_is : drop (length world.points) of_points ≡ tens (length site.detectors)
    = ap (drop (length world.points)) points_is ∙ drop_same (length world.points) (length site.detectors) (length site.points + length site.detectors) (omega (arith, p))
    in ap (λ (l : List ℕ). later world.time ∷ later world.interlocking.clock ∷ l)
    (three _ _ _ (map clock_of world.signals) (map clock_of world.points) (map clock_of world.detectors) (all_later_clocks (length world.sent) (links site) world.signals (omega (arith, s)))
    (ap (λ (l : List ℕ). map clock_of (all_later (length world.sent) l world.points)) points_is ∙ all_later_clocks (length world.sent) (length site.points + length site.detectors) world.points (omega (arith, p)))
    (ap (λ (l : List ℕ). map clock_of (all_later (length world.sent) l world.detectors)) detectors_is
    ∙ all_later_clocks (length world.sent) (length site.detectors) world.detectors (omega (arith, d))))
  where
    three : (a b c x y z : List ℕ) → a ≡ map later x → b ≡ map later y → c ≡ map later z → a ++ (b ++ c) ≡ map later (x ++ (y ++ z))
    three a b c x y z e f g =
        ap (λ (l : List ℕ). l ++ (b ++ c)) e ∙ (ap (λ (l : List ℕ). map later x ++ (l ++ c)) f ∙ (ap (λ (l : List ℕ). map later x ++ (map later y ++ l)) g
        ∙ sym (map_joined later x (y ++ z) ∙ ap (λ (l : List ℕ). map later x ++ l) (map_joined later y z))))

-- ---- and it may pass

length_same : (m : ℕ) → length (tens m) ≡ m
length_same zero = refl
length_same (suc m) = ap suc (length_same m)

keeps_all : (m : ℕ) → list_all (keeps_time 10000) (tens m) ≡ true
keeps_all zero = refl
keeps_all (suc m) = keeps_all m

le_true : (a b : ℕ) → a ≤ b → nat_le a b ≡ true
le_true a b h = grind (arith, nat_tests)

abbrev pub CanGoOn : ℕ → Type 0
CanGoOn clock = clock + 10000 ≤ clock_limit

within : {Object : Type 0} (list : List (ClockedControllerState Object)) (m k : ℕ) (others : List ℕ → Bool) → m ≡ length list + k → Each CanGoOn (map clock_of list) → are_within list (tens m) others ≡ others (tens k)
within [] m k others count each = ap (λ (j : ℕ). others (tens j)) (omega (arith, count))
within (first ∷ list) zero k others count each = absurd (omega (arith, count))
within (first ∷ list) (suc m) k others count each =
    ap (λ (b : Bool). b && are_within list (tens m) others) (le_true (first.clock + 10000) clock_limit each.0) ∙ within list m k others (omega (arith, count)) each.1

same_count : (m n : ℕ) → m ≡ n → (m == n) ≡ true
same_count m n e = grind (arith, nat_tests)

pub time_may_pass : (site : Site) (world : WorldState) → HasAll site world → Each CanGoOn (clocks_of world) → refusal site (round_of_time site) world ≡ None
unfolding refusal refusal_of_time
time_may_pass site world has each =
    let s = has.signals
    in let p = has.points
    in let d = has.detectors
    in let one = each_joined CanGoOn (map clock_of world.signals) (map clock_of world.points ++ map clock_of world.detectors) each.1.1
    in let two = each_joined CanGoOn (map clock_of world.points) (map clock_of world.detectors) one.1
    in let all : all_within world (tens (nodes site)) ≡ true
    = ap (λ (b : Bool). b && are_within world.signals (tens (links site)) (λ steps. are_within world.points steps (λ steps. are_within world.detectors steps (λ steps. true)))) (le_true (world.interlocking.clock + 10000) clock_limit each.1.0)
    ∙ (within world.signals (links site) (length site.points + length site.detectors) _ (omega (arith, s)) one.0
    ∙ (within world.points (length site.points + length site.detectors) (length site.detectors) _ (omega (arith, p)) two.0 ∙ within world.detectors (length site.detectors) 0 _ (omega (arith, d)) two.1))
    in none (length (tens (nodes site)) == nodes site) (list_all (keeps_time 10000) (tens (nodes site))) (nat_le (world.time + 10000) clock_limit) (all_within world (tens (nodes site)))
    (same_count _ _ (length_same (nodes site))) (keeps_all (nodes site)) (le_true (world.time + 10000) clock_limit each.0) all
  where
    none : (a b c e : Bool) → a ≡ true → b ≡ true → c ≡ true → e ≡ true
        → refused_where (not a) Refused.NoSuchNode (refused_where (not b) Refused.Drift (refused_where (not (c && e)) Refused.ClockLimit None)) ≡ None
    none true true true true p q r s = refl
    none false b c e p q r s = absurd (cc p)
    none true false c e p q r s = absurd (cc q)
    none true true false e p q r s = absurd (cc r)
    none true true true false p q r s = absurd (cc s)
