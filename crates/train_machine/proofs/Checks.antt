-- Tests of the premises of a move, for stations of three trains, and of four sections and routes.
use Rattle.std.specs.Prelude.{◌≡◌, ℕ, suc, Bool, true, false, not, nat_le, ◌&&◌, ◌||◌, ◌+◌, List, [], ◌∷◌, Option, Some, None}
use Rattle.train_machine.specs.Lists.{is_same}
use Rattle.train_machine.specs.Track.{Side, Left, Right, Track, path}
use Rattle.train_machine.specs.Train.{Under, Nothing, Throat, OnRoute, is_throat, is_in}
use Rattle.train_machine.specs.Section.{Belief, Unknown, Occupied, Clear, Told, Late, Awaited, Came, Gone, Section, is_clear, is_unheard, is_gone, Lost, Old, IsOccupied, IsLeft}
use Rattle.train_machine.specs.Route.{Phase, Free, Waiting, Proceeding, Withdrawn, Ended, is_given, is_open}
use Rattle.train_machine.specs.Machine.{report_time, lamp_time, Point, Pass, Never, At, Past, Machine}
use Rattle.train_machine.specs.Moves.{Move, Enters, Passes, Goes, Follows, Turns, Hears, Sets, Authorises, Withdraws, Ends, FreesSection, FreesCancelled, Frees, GivesMove, Steps, Resumes, Acts, Time}

abbrev pub is_below : (n bound : ℕ) → Bool
is_below n bound = nat_le (suc n) bound

abbrev pub all : List ℕ → (ℕ → Bool) → Bool
all [] test = true
all (first ∷ later) test = test first && all later test

-- three trains, and four sections or routes
abbrev pub trains : (ℕ → Bool) → Bool
trains test = test 0 && (test 1 && test 2)

abbrev pub fours : (ℕ → Bool) → Bool
fours test = test 0 && (test 1 && (test 2 && test 3))

abbrev pub with_front : List ℕ → (ℕ → Bool) → Bool
with_front [] test = false
with_front (front ∷ rear) test = test front

abbrev pub is_empty : List ℕ → Bool
is_empty [] = true
is_empty (first ∷ later) = false

abbrev pub same_side : Side → Side → Bool
same_side Left Left = true
same_side Left Right = false
same_side Right Left = false
same_side Right Right = true

abbrev pub is_some : ℕ → Option ℕ → Bool
is_some n None = false
is_some n (Some m) = is_same m n

abbrev pub is_none : Option ℕ → Bool
is_none None = true
is_none (Some n) = false

abbrev pub is_at : Side → Option Side → Bool
is_at side None = false
is_at side (Some other) = same_side other side

-- at no side, or at this one
abbrev pub may_be_at : Side → Option Side → Bool
may_be_at side None = true
may_be_at side (Some other) = same_side other side

abbrev pub is_nothing : Under → Bool
is_nothing Nothing = true
is_nothing (Throat border) = false
is_nothing (OnRoute route) = false

abbrev pub is_free_phase : Phase → Bool
is_free_phase Free = true
is_free_phase Waiting = false
is_free_phase Proceeding = false
is_free_phase Withdrawn = false
is_free_phase Ended = false

abbrev pub is_waiting : Phase → Bool
is_waiting Free = false
is_waiting Waiting = true
is_waiting Proceeding = false
is_waiting Withdrawn = false
is_waiting Ended = false

abbrev pub is_withdrawn : Phase → Bool
is_withdrawn Free = false
is_withdrawn Waiting = false
is_withdrawn Proceeding = false
is_withdrawn Withdrawn = true
is_withdrawn Ended = false

abbrev pub is_ended : Phase → Bool
is_ended Free = false
is_ended Waiting = false
is_ended Proceeding = false
is_ended Withdrawn = false
is_ended Ended = true

abbrev pub has_headway : ℕ → Pass → Bool
has_headway now Never = true
has_headway now (At reading) = false
has_headway now (Past time) = nat_le (time + lamp_time) now

abbrev pub may_be_old : Told → Belief → Bool
may_be_old Late belief = true
may_be_old Awaited Unknown = true
may_be_old Awaited Occupied = false
may_be_old Awaited Clear = true
may_be_old Came belief = false
may_be_old Gone belief = false

abbrev pub by_leg : Option ℕ → (facing : Bool) → (ℕ → Point) → Side → Bool
by_leg None facing points leg = true
by_leg (Some point) false points leg = true
by_leg (Some point) true points leg = may_be_at leg (points point).lies

abbrev pub stands_for : Option ℕ → (ℕ → Point) → Side → Bool
stands_for None points leg = true
stands_for (Some point) points leg = is_at leg (points point).lies && not (points point).moves

abbrev pub joins : Track → Machine → (place front : ℕ) → Bool
joins track machine place front = track.follows front place && by_leg (track.point place) (track.is_facing place) machine.points (track.leg place)

abbrev pub is_nobody_in : Track → Machine → (section : ℕ) → Bool
is_nobody_in track machine section = trains (λ train. not (is_in track section (machine.trains train).places))

-- no train in a throat has a place of the section before it
abbrev pub is_unclaimed_by : Track → Machine → (section train : ℕ) → Bool
is_unclaimed_by track machine section train =
    not (is_throat (machine.trains train).under) || all (machine.trains train).way (λ ahead. not (is_same (track.section ahead) section))

abbrev pub is_unclaimed : Track → Machine → (section : ℕ) → Bool
is_unclaimed track machine section = trains (is_unclaimed_by track machine section)

abbrev pub is_unheld : Machine → (section : ℕ) → Bool
is_unheld machine section = fours (λ route. not ((machine.routes route).holds section))

abbrev pub is_fresh_or_unclear : (clock : ℕ) → Section → Bool
is_fresh_or_unclear clock section = not (is_clear section.belief) || is_below clock (section.entered + report_time)

abbrev pub is_fresh : Machine → (section : ℕ) → Bool
is_fresh machine section = not (is_unheard (machine.sections section).told) || is_fresh_or_unclear machine.clock (machine.sections section)

abbrev pub was_entered : Machine → (section : ℕ) → Bool
was_entered machine section = nat_le ((machine.sections section).entered + report_time) machine.clock

abbrev pub is_over : Track → Machine → (point route place : ℕ) → Bool
is_over track machine point route place = not (is_some point (track.point place)) || not ((machine.routes route).holds (track.section place))

abbrev pub is_unguarded : Track → Machine → (point route : ℕ) → Bool
is_unguarded track machine point route = not (is_given (machine.routes route).phase) || all (path track route) (is_over track machine point route)

-- the tests of a move, all of which hold
abbrev pub Can : Track → Machine → Move → Type 0
Can track machine (Enters train border) = (is_below train 3 ≡ true) × (is_empty (machine.trains train).places ≡ true)
    × (all (track.throat border) (λ place. is_below (track.section place) 4) ≡ true) × (all (track.throat border) (λ place. is_nobody_in track machine (track.section place)) ≡ true)
    × (all (track.throat border) (λ place. is_unclaimed track machine (track.section place)) ≡ true) × (all (track.throat border) (λ place. is_unheld machine (track.section place)) ≡ true)
Can track machine (Passes train route place) = (is_below train 3 ≡ true) × (is_below route 4 ≡ true) × (is_below (track.section place) 4 ≡ true)
    × (with_front (machine.trains train).places (λ front. joins track machine place front && is_some (track.entry route) (track.signal front)) ≡ true)
    × (is_open (machine.routes route).phase ≡ true)
    × ((not (is_withdrawn (machine.routes route).phase) || is_below machine.now ((machine.routes route).withdrawn_at + lamp_time)) ≡ true)
    × (has_headway machine.now (machine.passes (track.entry route)) ≡ true)
Can track machine (Goes train place) = (is_below train 3 ≡ true) × (is_below (track.section place) 4 ≡ true)
    × (with_front (machine.trains train).places (λ front. joins track machine place front && is_none (track.signal front)) ≡ true)
    × (not (is_nothing (machine.trains train).under) ≡ true)
Can track machine (Follows train) = is_below train 3 ≡ true
Can track machine (Turns train) = is_below train 3 ≡ true
Can track machine (Hears section Lost) = is_below section 4 ≡ true
Can track machine (Hears section (Old belief)) = (is_below section 4 ≡ true) × (may_be_old (machine.sections section).told belief ≡ true)
Can track machine (Hears section IsOccupied) = (is_below section 4 ≡ true) × (not (is_gone (machine.sections section).told) ≡ true)
Can track machine (Hears section IsLeft) = (is_below section 4 ≡ true) × (is_nobody_in track machine section ≡ true)
    × ((not (is_unheard (machine.sections section).told) || not (is_clear (machine.sections section).belief)) ≡ true)
Can track machine (Sets route) = (is_below route 4 ≡ true) × (fours (is_fresh machine) ≡ true) × (is_free_phase (machine.routes route).phase ≡ true)
    × (all (path track route) (λ place. is_below (track.section place) 4) ≡ true) × (all (path track route) (λ place. is_clear (machine.sections (track.section place)).belief) ≡ true)
    × (all (path track route) (λ place. is_unheld machine (track.section place)) ≡ true)
    × (all (path track route) (λ place. not (machine.sections (track.section place)).inlet || was_entered machine (track.section place)) ≡ true)
    × (all (path track route) (λ place. is_unclaimed track machine (track.section place)) ≡ true)
Can track machine (Authorises route) = (is_below route 4 ≡ true) × (is_waiting (machine.routes route).phase ≡ true)
    × (all (path track route) (λ place. is_clear (machine.sections (track.section place)).belief) ≡ true)
    × (all (path track route) (λ place. stands_for (track.point place) machine.points (track.leg place)) ≡ true)
Can track machine (Withdraws route) = is_below route 4 ≡ true
Can track machine (Ends route) = (is_below route 4 ≡ true) × (is_open (machine.routes route).phase ≡ true)
Can track machine (FreesSection route section) = (is_below route 4 ≡ true) × (is_ended (machine.routes route).phase ≡ true) × ((machine.routes route).seen section ≡ true)
    × (is_clear (machine.sections section).belief ≡ true)
Can track machine (FreesCancelled route) = (is_below route 4 ≡ true) × (fours (is_fresh machine) ≡ true) × (is_ended (machine.routes route).phase ≡ true)
    × (nat_le ((machine.routes route).ended + report_time) machine.clock ≡ true) × (all (path track route) (λ place. not ((machine.routes route).seen (track.section place))) ≡ true)
    × (all (path track route) (λ place. is_clear (machine.sections (track.section place)).belief) ≡ true)
    × (all (path track route) (λ place. nat_le ((machine.sections (track.section place)).since + report_time) machine.clock) ≡ true)
Can track machine (Frees route) = (is_below route 4 ≡ true)
    × ((is_waiting (machine.routes route).phase || (is_ended (machine.routes route).phase && fours (λ section. not ((machine.routes route).holds section)))) ≡ true)
Can track machine (GivesMove point) = (fours (is_fresh machine) ≡ true) × (is_clear (machine.sections (track.own point)).belief ≡ true) × (fours (is_unguarded track machine point) ≡ true)
Can track machine Steps = fours (is_fresh machine) ≡ true
Can track machine Resumes = (nat_le report_time machine.clock ≡ true) × (fours (was_entered machine) ≡ true)
Can track machine (Acts point lies moves) = (machine.points point).moves ≡ true
Can track machine (Time now clock) = (nat_le machine.now now ≡ true) × (nat_le machine.clock clock ≡ true)
