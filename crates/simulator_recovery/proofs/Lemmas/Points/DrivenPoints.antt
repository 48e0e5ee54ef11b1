-- After how many good rounds, one after another, a point is found driven to one side.
use Rattle.simulator_recovery.proofs.Words.Basics.{◌≡◌, ℕ, zero, suc, ◌∙◌, ◌+◌, ◌-◌, ◌≤◌, ◌<◌, nat_le, nat_lt, not, ◌&&◌, Bool, true, false, if◌then◌else◌, List, [], ◌∷◌, ◌++◌, length, Option, Some, None, is_ok, slice_get, slice_set, refl, sym, ap, subst, arith, ltb-true, ltb-false, false≢true, nat_tests, none-some, same_Some}
use Rattle.simulator_recovery.proofs.Words.Links.{answer_to_send, Each, reading_of, is_open}
use Rattle.simulator_recovery.proofs.Words.Controllers.{Position, Side, HostSoFar, HostState, fallen, is_completed, is_outside, keeping, silent, then_do, beating, beginning, ending, given as given_in, goes_on, host_step, most_owed, paid, paying, paying_first, posting, Input, Report, Sense, Stage, point_behaviour, PointState, answered, drive_end, driven, drives, is_at, limited, move_in, reached, Progress}
use Rattle.simulator_recovery.proofs.Words.Interlockings.{Table, is_same_side}
use Rattle.simulator_recovery.proofs.Words.Stations.{Site, PointId, Event, Refused, FoundDriven, RoundEvent, controller_after, step_of, Flowing, all_did, deliveries, did, due, next_drive, next_drives, position_of, reach, reaches, round, round_of_time, ticks, Stepped, detector_stepped, happens, interlocking_stepped, point_stepped, sensed_by, stepped_at, nodes, point_link, driven_at, driven_by, may_reach, refusal, refused_where, ClockedControllerState, WorldState, Played, after, arrival_in, world_where, driven as found_driven}
use Rattle.simulator_recovery.proofs.Words.Recovery.{IsDriven, IsDrivenBehind, IsWork, all_tried}
use Rattle.simulator_spec.specs.point_ctl.Drive.{losing}
use Rattle.simulator_recovery.proofs.Lemmas.Ground.EndCalls.{at_place, set_own}
use Rattle.simulator_recovery.proofs.Lemmas.Rounds.Rounds.{tried_keeps}

-- ---- a drive in a step

-- what is answered wasn't a drive that goes on
pub answered_drive : (how : Progress) (side : Side) (since : ℕ) → answered how ≡ Progress.Driving side since → how ≡ Progress.Driving side since
answered_drive Progress.Answered side since e = absurd (cc e)
answered_drive (Progress.Driving to from) side since e = e
answered_drive Progress.Arrived side since e = absurd (cc e)
answered_drive Progress.TimedOut side since e = absurd (cc e)

module _ (now : ℕ) (side : Side) (since : ℕ) where
  abbrev pub Drives : HostState PointState → Type 0
  Drives host = host.object.progress ≡ Progress.Driving side since

  -- what is paid begins no drive
  pays_first : (report : Option Report) (host : HostState PointState) → Drives (paying_first point_behaviour now report host).host → Drives host
  unfolding posting
  pays_first None host e = e
  pays_first (Some report) host e = choose (is_completed host.stage) (is_ok (answer_to_send now host.link)) e
    where
      sent : HostSoFar PointState
      sent = posting now report host

      choose : (b c : Bool) → Drives (if not b then silent (paid point_behaviour host) else (if c then record sent { host = paid point_behaviour sent.host } else sent)).host → Drives host
      choose false c f = answered_drive host.object.progress side since f
      choose true true f = answered_drive host.object.progress side since f
      choose true false f = f

  pub pays : (most : ℕ) (host : HostState PointState) → Drives (paying point_behaviour now most host).host → Drives host
  unfolding paying
  pays zero host e = e
  pays (suc most) host e = choose (goes_on now (point_behaviour.owed host.object) host) (λ f. pays_first (point_behaviour.owed host.object) host (pays most first.host f)) (pays_first (point_behaviour.owed host.object) host) e
    where
      first : HostSoFar PointState
      first = paying_first point_behaviour now (point_behaviour.owed host.object) host

      choose : (b : Bool) → (Drives (paying point_behaviour now most first.host).host → Drives host) → (Drives first.host → Drives host)
          → Drives (if b then then_do first (paying point_behaviour now most) else first).host → Drives host
      choose true more one f = more f
      choose false more one f = one f

  -- nor does the end of a step
  pub ends : (host : HostState PointState) → Drives (ending point_behaviour host) → Drives host
  unfolding fallen keeping
  ends host e = choose (not (is_outside host.stage) && not (is_open host.link.phase)) e
    where
      lost : HostState PointState
      lost = record host { stage = Stage.Outside; object = losing host.object }

      choose : (b : Bool) → Drives (if b then lost else host) → Drives host
      choose true f = absurd (cc f)
      choose false f = f

  -- a drive that isn't at its side goes on
  pub reaches_not : (position : Position) (how : Progress) → reached position how ≡ Progress.Driving side since → is_at side position ≡ false
  reaches_not position Progress.Answered e = absurd (cc e)
  reaches_not position (Progress.Driving to from) e = choose (is_at to position) refl e
    where
      choose : (b : Bool) → is_at to position ≡ b → (if b then Progress.Arrived else Progress.Driving to from) ≡ Progress.Driving side since → is_at side position ≡ false
      choose true f g = absurd (cc g)
      choose false f g = subst (λ (s : Side). is_at s position ≡ false) (same_Some to side (ap move_in g)) f
  reaches_not position Progress.Arrived e = absurd (cc e)
  reaches_not position Progress.TimedOut e = absurd (cc e)

  -- where the contact tells a side, the point isn't driven there after the step
  pub senses_not : (position : Position) (host : HostState PointState) → Drives (host_step point_behaviour now (Input.Sense (Sense.Position position)) host).host → is_at side position ≡ false
  unfolding host_step given_in beating
  senses_not position host e = reaches_not position (limited now (beginning point_behaviour now host).object.progress) (pays most_owed heard (ends told e))
    where
      first : HostState PointState
      first = beginning point_behaviour now host

      heard : HostState PointState
      heard = record first { object = point_behaviour.after_sense now (Sense.Position position) first.object }

      told : HostState PointState
      told = (paying point_behaviour now most_owed heard).host

-- ---- a controller that drives

-- it has a move in progress
pub driving : (now until : ℕ) (how : Progress) (side : Side) → driven now until how ≡ Some side → (since : ℕ) × (how ≡ Progress.Driving side since)
driving now until Progress.Answered side e = absurd (none-some side e)
driving now until Progress.Arrived side e = absurd (none-some side e)
driving now until Progress.TimedOut side e = absurd (none-some side e)
driving now until (Progress.Driving to since) side e = choose (nat_lt now (drive_end since) && nat_lt now until) e
  where
    choose : (b : Bool) → (if b then Some to else None) ≡ Some side → (from : ℕ) × (Progress.Driving to since ≡ Progress.Driving side from)
    choose true f = (since, ap (λ (s : Side). Progress.Driving s since) (same_Some to side f))
    choose false f = absurd (none-some side f)

-- the one at a place
pub driver : (place : ℕ) (points : List (ClockedControllerState PointState)) (side : Side) → driven_at place points ≡ Some side → (c : ClockedControllerState PointState) × (slice_get points place ≡ Some c) × (driven_by c ≡ Some side)
driver place [] side e = absurd (none-some side e)
driver zero (c ∷ points) side e = (c, refl, e)
driver (suc place) (c ∷ points) side e = driver place points side e

set_other : (points : List (ClockedControllerState PointState)) (at place : ℕ) (new : ClockedControllerState PointState) → place < at → driven_at place (slice_set points at new) ≡ driven_at place points
set_other [] at place new below = refl
set_other (c ∷ points) zero place new below = absurd (omega (arith, below))
set_other (c ∷ points) (suc at) zero new below = refl
set_other (c ∷ points) (suc at) (suc place) new below = set_other points at place new (omega (arith, below))

-- ---- a point of a station

abbrev pub point_at : ℕ → PointId
point_at place = record { 0 = place }

driven_inside : (place count : ℕ) (points : List (ClockedControllerState PointState)) (side : Side) → (if nat_lt place count then driven_at place points else None) ≡ Some side → (place < count) × (driven_at place points ≡ Some side)
driven_inside place count points side e = choose (nat_lt place count) refl e
  where
    choose : (b : Bool) → nat_lt place count ≡ b → (if b then driven_at place points else None) ≡ Some side → (place < count) × (driven_at place points ≡ Some side)
    choose true f g = (ltb-true place count f, g)
    choose false f g = absurd (none-some side g)

is_driven : (place : ℕ) (side : Side) (world : Played) → IsDriven place side world → (place < length world.sited.site.points) × (driven_at place world.run.points ≡ Some side)
is_driven place side world e = driven_inside place (length world.sited.site.points) world.run.points side e

lies_at : (side : Side) → is_at side (position_of side) ≡ true
lies_at Side.Right = refl
lies_at Side.Left = refl

may_lie : (side : Side) → may_reach (Some side) (position_of side) ≡ true
may_lie Side.Right = refl
may_lie Side.Left = refl

-- ---- a point comes to lie

-- after the step of its contact it isn't driven to that side
stepped_not : (side : Side) (connection time link place : ℕ) (found : Option (ClockedControllerState PointState)) (all : Stepped PointState) → slice_get all.servers place ≡ found
    → driven_at place (stepped_at point_behaviour (Input.Sense (Sense.Position (position_of side))) connection time link place found all).servers ≡ Some side → ⊥
unfolding stepped_at controller_after
stepped_not side connection time link place None all e f = let d = driver place all.servers side f in none-some d.0 (sym e ∙ d.1)
stepped_not side connection time link place (Some c) all e f =
    let d = driver place (slice_set all.servers place new) side f
    in by_new (subst (λ (x : ClockedControllerState PointState). driven_by x ≡ Some side) (set_own all.servers place new d.0 d.1) d.2)
  where
    new : ClockedControllerState PointState
    new = controller_after (step_of point_behaviour (Input.Sense (Sense.Position (position_of side))) c) connection (length all.sent) c

    by_new : driven_by new ≡ Some side → ⊥
    by_new g =
        let host = (step_of point_behaviour (Input.Sense (Sense.Position (position_of side))) c).host
        in let m = driving (reading_of c.clock) host.object.until host.object.progress side g
        in false≢true (sym (senses_not (reading_of c.clock) side m.0 (position_of side) c.host m.1) ∙ lies_at side)

comes_to_lie : (site : Site) (table : Table) (place : ℕ) (side : Side) (world : WorldState) → driven_at place (happens site table (Event.Reach (point_at place) (position_of side)) world).points ≡ Some side → ⊥
unfolding happens point_stepped
comes_to_lie site table place side world e =
    stepped_not side 0 world.time (point_link site place) place (slice_get world.points place) (record { servers = world.points; sent = world.sent }) refl e

-- where this is refused it isn't driven either
refused_not : (site : Site) (place : ℕ) (side : Side) (world : WorldState) → place < length site.points → driven_at place world.points ≡ Some side → refusal site (Event.Reach (point_at place) (position_of side)) world ≡ None
unfolding refusal
refused_not site place side world below e = choose (nat_le (length site.points) place) refl (may_reach (driven_at place world.points) (position_of side)) (ap (λ (found : Option Side). may_reach found (position_of side)) e ∙ may_lie side)
  where
    choose : (b : Bool) → nat_le (length site.points) place ≡ b → (c : Bool) → c ≡ true → refused_where b Refused.NoSuchNode (refused_where (not c) Refused.NotDriven None) ≡ None
    choose true f c g = absurd (beyond f)
      where
        beyond : nat_le (length site.points) place ≡ true → ⊥
        beyond h = grind (arith, nat_tests, h, below)
    choose false f true g = refl
    choose false f false g = absurd (false≢true g)

abbrev Undriven : ℕ → Side → Played → Type 0
Undriven place side world = IsDriven place side world → ⊥

tried_not : (place : ℕ) (side : Side) (world : Played) → Undriven place side (after world (Event.Reach (point_at place) (position_of side)))
tried_not place side world = choose (refusal world.sited.site (Event.Reach (point_at place) (position_of side)) world.run) refl
  where
    choose : (why : Option Refused) → refusal world.sited.site (Event.Reach (point_at place) (position_of side)) world.run ≡ why
        → Undriven place side (world_where why world (record world { run = happens world.sited.site world.sited.table (Event.Reach (point_at place) (position_of side)) world.run }))
    choose (Some why) e d = let i = is_driven place side world d in none-some why (sym (refused_not world.sited.site place side world.run i.0 i.1) ∙ e)
    choose None e d = comes_to_lie world.sited.site world.sited.table place side world.run
        (is_driven place side (record world { run = happens world.sited.site world.sited.table (Event.Reach (point_at place) (position_of side)) world.run }) d).1

-- another point comes to lie
other_lies : (site : Site) (table : Table) (at place : ℕ) (position : Position) (world : WorldState) → place < at → driven_at place (happens site table (Event.Reach (point_at at) position) world).points ≡ driven_at place world.points
unfolding happens point_stepped stepped_at
other_lies site table at place position world below = by_found (slice_get world.points at)
  where
    by_found : (found : Option (ClockedControllerState PointState))
        → driven_at place (stepped_at point_behaviour (Input.Sense (Sense.Position position)) 0 world.time (point_link site at) at found (record { servers = world.points; sent = world.sent })).servers ≡ driven_at place world.points
    by_found None = refl
    by_found (Some c) = set_other world.points at place _ below

-- what a point's drive is is the same in both
abbrev SameDrive : ℕ → Played → Played → Type 0
SameDrive place old new = found_driven new (point_at place) ≡ found_driven old (point_at place)

same_where : (place count : ℕ) (one other : List (ClockedControllerState PointState)) → driven_at place one ≡ driven_at place other → (if nat_lt place count then driven_at place one else None) ≡ (if nat_lt place count then driven_at place other else None)
same_where place count one other e = ap (λ (found : Option Side). if nat_lt place count then found else None) e

other_tried : (at place : ℕ) (position : Position) (world : Played) → place < at → SameDrive place world (after world (Event.Reach (point_at at) position))
other_tried at place position world below = tried_keeps (SameDrive place world) world (Event.Reach (point_at at) position) refl
    (λ none. same_where place (length world.sited.site.points) (happens world.sited.site world.sited.table (Event.Reach (point_at at) position) world.run).points world.run.points
    (other_lies world.sited.site world.sited.table at place position world.run below))

-- ---- the last events of a round

pub did_both : (one other : List RoundEvent) (flowing : Flowing) → all_did (one ++ other) flowing ≡ all_did other (all_did one flowing)
unfolding all_did
did_both [] other flowing = refl
did_both (first ∷ one) other flowing = did_both one other (did first flowing)

reach_keeps : (place passed at : ℕ) (drive : Option FoundDriven) (flowing : Flowing) → place < at → SameDrive place flowing.state (all_did (reach passed at drive) flowing).state
unfolding all_did
reach_keeps place passed at None flowing below = refl
reach_keeps place passed at (Some drive) flowing below = choose (nat_lt drive.rounds 50)
  where
    choose : (b : Bool) → SameDrive place flowing.state (all_did (if b then [] else (record { event = Event.Reach (point_at at) (position_of drive.side); passed = passed } ∷ [])) flowing).state
    choose true = refl
    choose false = other_tried at place (position_of drive.side) flowing.state below

-- those of points after this one
others_keep : (place passed at : ℕ) (drives : List (Option FoundDriven)) (flowing : Flowing) → place < at → SameDrive place flowing.state (all_did (reaches passed at drives) flowing).state
unfolding all_did reaches
others_keep place passed at [] flowing below = refl
others_keep place passed at (drive ∷ drives) flowing below =
    ap (λ (f : Flowing). found_driven f.state (point_at place)) (did_both (reach passed at drive) (reaches passed (suc at) drives) flowing)
    ∙ others_keep place passed (suc at) drives (all_did (reach passed at drive) flowing) (omega (arith, below))
    ∙ reach_keeps place passed at drive flowing below

-- a point that was found driven for long enough isn't driven to that side after them
long_enough : (passed at more : ℕ) (drives : List (Option FoundDriven)) (drive : FoundDriven) (flowing : Flowing) → slice_get drives more ≡ Some (Some drive) → nat_lt drive.rounds 50 ≡ false
    → Undriven (at + more) drive.side (all_did (reaches passed at drives) flowing).state
unfolding all_did reaches
long_enough passed at more [] drive flowing there long = absurd (none-some (Some drive) there)
long_enough passed at zero (first ∷ drives) drive flowing there long = subst (λ (n : ℕ). Undriven n drive.side (all_did (reaches passed at (first ∷ drives)) flowing).state) (omega arith)
    (subst (λ (one : Option FoundDriven). Undriven at drive.side (all_did (reach passed at one ++ reaches passed (suc at) drives) flowing).state) (same_Some (Some drive) first (sym there)) own)
  where
    reached_by : RoundEvent
    reached_by = record { event = Event.Reach (point_at at) (position_of drive.side); passed = passed }

    list_is : reach passed at (Some drive) ≡ reached_by ∷ []
    list_is = ap (λ (b : Bool). if b then [] else (reached_by ∷ [])) long

    behind : Undriven at drive.side (all_did (reaches passed (suc at) drives) (did reached_by flowing)).state
    behind d = tried_not at drive.side flowing.state (sym (others_keep at passed (suc at) drives (did reached_by flowing) (omega arith)) ∙ d)

    own : Undriven at drive.side (all_did (reach passed at (Some drive) ++ reaches passed (suc at) drives) flowing).state
    own = subst (λ (list : List RoundEvent). Undriven at drive.side (all_did (list ++ reaches passed (suc at) drives) flowing).state) (sym list_is) behind
long_enough passed at (suc more) (first ∷ drives) drive flowing there long = subst (λ (n : ℕ). Undriven n drive.side (all_did (reaches passed at (first ∷ drives)) flowing).state) (omega arith)
    (subst (λ (f : Flowing). Undriven (suc at + more) drive.side f.state) (sym (did_both (reach passed at first) (reaches passed (suc at) drives) flowing))
    (long_enough passed (suc at) more drives drive (all_did (reach passed at first) flowing) there long))

-- ---- a round

pub did_drives : (list : List RoundEvent) (flowing : Flowing) → (all_did list flowing).drives ≡ flowing.drives
unfolding all_did
did_drives [] flowing = refl
did_drives (first ∷ others) flowing = did_drives others (did first flowing)

from_none : (n : ℕ) → 0 + n ≡ n
from_none n = omega arith

-- the reaches come last
round_not : (flowing : Flowing) (place : ℕ) (drive : FoundDriven) → slice_get flowing.drives place ≡ Some (Some drive) → nat_lt drive.rounds 50 ≡ false → Undriven place drive.side (round flowing).state
unfolding all_did
round_not flowing place drive there long = subst (λ (f : Flowing). Undriven place drive.side f.state) (sym last)
    (subst (λ (n : ℕ). Undriven n drive.side (all_did (reaches sent 0 flowing.drives) before).state) (from_none place) (long_enough sent 0 place flowing.drives drive before there long))
  where
    sent : ℕ
    sent = length flowing.state.run.sent

    first : RoundEvent
    first = record { event = round_of_time flowing.state.sited.site; passed = flowing.passed }

    come : List RoundEvent
    come = deliveries (arrival_in flowing.state) flowing.passed (sent - flowing.passed)

    ticked : List RoundEvent
    ticked = ticks sent 0 (nodes flowing.state.sited.site)

    before : Flowing
    before = all_did ticked (all_did come (did first flowing))

    last : all_did (due flowing) flowing ≡ all_did (reaches sent 0 flowing.drives) before
    last = did_both come (ticked ++ reaches sent 0 flowing.drives) (did first flowing) ∙ did_both ticked (reaches sent 0 flowing.drives) (all_did come (did first flowing))

-- what is noted of a point
next_at : (found : PointId → Option Side) (at more : ℕ) (drives : List (Option FoundDriven)) (drive : Option FoundDriven) → slice_get drives more ≡ Some drive → slice_get (next_drives found at drives) more ≡ Some (next_drive (found (point_at (at + more))) drive)
unfolding next_drives
next_at found at more [] drive e = absurd (none-some drive e)
next_at found at zero (first ∷ drives) drive e = subst (λ (n : ℕ). Some (next_drive (found (point_at at)) first) ≡ Some (next_drive (found (point_at n)) drive)) (omega arith)
    (ap (λ (one : Option FoundDriven). Some (next_drive (found (point_at at)) one)) (same_Some first drive e))
next_at found at (suc more) (first ∷ drives) drive e = subst (λ (n : ℕ). slice_get (next_drives found (suc at) drives) more ≡ Some (next_drive (found (point_at n)) drive)) (omega arith) (next_at found (suc at) more drives drive e)

-- ---- what comes between

same_points : (site : Site) (table : Table) (one : Event) (world : WorldState) → IsWork one → (happens site table one world).points ≡ world.points
unfolding happens interlocking_stepped detector_stepped
same_points site table (Event.Request command) world work = refl
same_points site table (Event.Occupy section occupancy) world work = by_reporter (slice_get table.reporters section.0)
  where
    there : WorldState
    there = record world { occupancies = slice_set world.occupancies section.0 occupancy }

    by_reporter : (found : Option (ℕ × ℕ)) → (sensed_by site occupancy found there).points ≡ world.points
    by_reporter None = refl
    by_reporter (Some reporter) = refl
same_points site table (Event.Tick node) world work = absurd work
same_points site table (Event.Time elapsed clocks) world work = absurd work
same_points site table (Event.Deliver node bytes) world work = absurd work
same_points site table (Event.Lose bytes) world work = absurd work
same_points site table (Event.Reach point position) world work = absurd work
same_points site table (Event.Restart node clock first) world work = absurd work

work_keeps : (place : ℕ) (between : List Event) (flowing : Flowing) → Each IsWork between → SameDrive place flowing.state (all_tried between flowing).state
work_keeps place [] flowing work = refl
work_keeps place (first ∷ others) flowing work = work_keeps place others (record flowing { state = after flowing.state first }) work.1
    ∙ tried_keeps (SameDrive place flowing.state) flowing.state first refl
    (λ none. same_where place (length flowing.state.sited.site.points) (happens flowing.state.sited.site flowing.state.sited.table first flowing.state.run).points flowing.state.run.points
    (ap (driven_at place) (same_points flowing.state.sited.site flowing.state.sited.table first flowing.state.run work.0)))

pub work_drives : (between : List Event) (flowing : Flowing) → (all_tried between flowing).drives ≡ flowing.drives
work_drives [] flowing = refl
work_drives (first ∷ others) flowing = work_drives others (record flowing { state = after flowing.state first })

-- ---- the same station

one_sited : (world : Played) (one : Event) → (after world one).sited ≡ world.sited
one_sited world one = tried_keeps (λ (w : Played). w.sited ≡ world.sited) world one refl (λ none. refl)

pub tried_sited : (list : List Event) (flowing : Flowing) → (all_tried list flowing).state.sited ≡ flowing.state.sited
tried_sited [] flowing = refl
tried_sited (first ∷ others) flowing = tried_sited others (record flowing { state = after flowing.state first }) ∙ one_sited flowing.state first

pub did_sited : (list : List RoundEvent) (flowing : Flowing) → (all_did list flowing).state.sited ≡ flowing.state.sited
unfolding all_did
did_sited [] flowing = refl
did_sited (first ∷ others) flowing = did_sited others (did first flowing) ∙ one_sited flowing.state first.event

-- ---- counting rounds

-- It was found driven to this side in so many rounds at least.
data WasDriven (count : ℕ) (side : Side) (drive : Option FoundDriven) : Type 0 where
  never : count ≡ 0 → WasDriven count side drive
  for_so_long : (found : FoundDriven) → drive ≡ Some found → found.side ≡ side → count ≤ found.rounds → WasDriven count side drive

record CountsOn (count : ℕ) (side : Side) (drive : Option FoundDriven) : Type 0 where
  found : FoundDriven
  are : next_drive (Some side) drive ≡ Some found
  side_is : found.side ≡ side
  more : count + 1 ≤ found.rounds

same_side : (side : Side) → is_same_side side side ≡ true
same_side Side.Right = refl
same_side Side.Left = refl

-- the first round in which it is found so
counts_first : (side : Side) (drive : Option FoundDriven) → CountsOn 0 side drive
counts_first side None = record { found = record { side = side; rounds = 1 }; are = refl; side_is = refl; more = omega arith }
counts_first side (Some before) = choose (is_same_side before.side side) refl (nat_lt before.rounds 50) refl
  where
    choose : (b : Bool) → is_same_side before.side side ≡ b → (c : Bool) → nat_lt before.rounds 50 ≡ c → CountsOn 0 side (Some before)
    choose true e true f = record { found = record { side = side; rounds = suc before.rounds }; are = rw (e, f) refl; side_is = refl; more = omega arith }
    choose true e false f = record { found = record { side = side; rounds = before.rounds }; are = rw (e, f) refl; side_is = refl; more = let long = ltb-false _ _ f in omega (arith, long) }
    choose false e c f = record { found = record { side = side; rounds = 1 }; are = rw e refl; side_is = refl; more = omega arith }

counts_on : (count : ℕ) (side : Side) (drive : Option FoundDriven) → count < 50 → WasDriven count side drive → CountsOn count side drive
counts_on count side drive few (never none) = subst (λ (n : ℕ). CountsOn n side drive) (sym none) (counts_first side drive)
counts_on count side drive few (for_so_long before there same long) = subst (CountsOn count side) (sym there) (choose (nat_lt before.rounds 50) refl)
  where
    again : is_same_side before.side side ≡ true
    again = ap (λ (s : Side). is_same_side s side) same ∙ same_side side

    choose : (c : Bool) → nat_lt before.rounds 50 ≡ c → CountsOn count side (Some before)
    choose true f = record { found = record { side = side; rounds = suc before.rounds }; are = rw (again, f) refl; side_is = refl; more = omega (arith, long) }
    choose false f = record { found = record { side = side; rounds = before.rounds }; are = rw (again, f) refl; side_is = refl; more = let many = ltb-false _ _ f in omega (arith, many, few) }

-- ---- many rounds

-- what is noted after a round and what comes after it
pub noted_so : (place : ℕ) (found : Option Side) (between : List Event) (flowing : Flowing) (drive : Option FoundDriven) → Each IsWork between → slice_get flowing.drives place ≡ Some drive
    → found_driven (all_tried between (round flowing)).state (record { 0 = place }) ≡ found → slice_get (all_tried between (round flowing)).drives place ≡ Some (next_drive found drive)
noted_so place found between flowing drive work there driven_then =
    ap (λ (list : List (Option FoundDriven)). slice_get list place) (work_drives between (round flowing))
    ∙ next_at (found_driven then_so.state) 0 place then_so.drives drive (ap (λ (list : List (Option FoundDriven)). slice_get list place) (did_drives (due flowing) flowing) ∙ there)
    ∙ ap (λ (n : ℕ). Some (next_drive (found_driven then_so.state (point_at n)) drive)) (from_none place)
    ∙ ap (λ (one : Option Side). Some (next_drive one drive)) (sym (work_keeps place between (round flowing) work) ∙ driven_then)
  where
    then_so : Flowing
    then_so = all_did (due flowing) flowing

module _ (place : ℕ) (side : Side) where
  noted : (between : List Event) (flowing : Flowing) (drive : Option FoundDriven) → Each IsWork between → slice_get flowing.drives place ≡ Some drive → IsDriven place side (all_tried between (round flowing)).state
      → slice_get (all_tried between (round flowing)).drives place ≡ Some (next_drive (Some side) drive)
  noted between flowing drive work there driven_then = noted_so place (Some side) between flowing drive work there driven_then

  ends_within : (count : ℕ) → count ≤ 50 → (rounds : List (List Event)) (flowing : Flowing) (drive : Option FoundDriven) → Each (Each IsWork) rounds → slice_get flowing.drives place ≡ Some drive → WasDriven count side drive
      → IsDrivenBehind place side rounds flowing → length rounds + count ≤ 50
  ends_within count few [] flowing drive works there was driven_so = omega (arith, few)
  ends_within count few (between ∷ later) flowing drive works there was driven_so = choose (nat_lt count 50) refl
      (λ less. let on = counts_on count side drive less was
      in let more = ends_within (count + 1) (omega (arith, less)) later (all_tried between (round flowing)) (Some on.found) works.1 (noted between flowing drive works.0 there driven_so.0 ∙ ap Some on.are)
      (for_so_long on.found refl on.side_is on.more) driven_so.1
      in omega (arith, more))
    where
      -- it comes to lie in this round
      lies : 50 ≤ count → WasDriven count side drive → ⊥
      lies all (never none) = omega (arith, all, none)
      lies all (for_so_long found is same long) =
          subst (λ (s : Side). Undriven place s (round flowing).state) same
          (round_not flowing place found (there ∙ ap Some is) (many found.rounds (omega (arith, all, long))))
          (sym (work_keeps place between (round flowing) works.0) ∙ driven_so.0)
        where
          many : (n : ℕ) → 50 ≤ n → nat_lt n 50 ≡ false
          many n enough = grind (arith, nat_tests, enough)

      choose : (b : Bool) → nat_lt count 50 ≡ b → (count < 50 → length (between ∷ later) + count ≤ 50) → length (between ∷ later) + count ≤ 50
      choose true e more = more (ltb-true count 50 e)
      choose false e more = absurd (lies (ltb-false count 50 e) was)

pub drives_end : (rounds : List (List Event)) (flowing : Flowing) (place : ℕ) (side : Side) → Each (Each IsWork) rounds → length flowing.state.sited.site.points ≤ length flowing.drives → IsDrivenBehind place side rounds flowing → length rounds ≤ 50
unfolding all_did
drives_end [] flowing place side works notes driven_so = omega arith
drives_end (between ∷ later) flowing place side works notes driven_so =
    let below : place < length flowing.drives = omega (arith, inside, notes)
    in let noted_so = at_place flowing.drives place below
    in let all = ends_within place side 0 (omega arith) (between ∷ later) flowing noted_so.0 works noted_so.1 (never refl) driven_so
    in omega (arith, all)
  where
    site_same : (all_tried between (round flowing)).state.sited ≡ flowing.state.sited
    site_same = tried_sited between (round flowing) ∙ did_sited (due flowing) flowing

    inside : place < length flowing.state.sited.site.points
    inside = subst (λ (s : Site). place < length s.points) (ap (λ sited. sited.site) site_same) (is_driven place side (all_tried between (round flowing)).state driven_so.0).0
