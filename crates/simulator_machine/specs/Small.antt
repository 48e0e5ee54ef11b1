-- A small station, and runs of it that are computed: the theorem doesn't speak of nothing.
use Rattle.std.specs.Prelude.{◌≡◌, ℕ, zero, suc, Bool, true, false, not, List, [], ◌∷◌, ◌++◌, map, Some, None}
use Rattle.simulator_machine.specs.Lists.{is_same}
use Rattle.simulator_machine.specs.Link.{LinkMove, QuietEnds, Opens, Enters, ComesUp, Closes, Leaves}
use Rattle.simulator_machine.specs.Signal.{Aspect, Proceed, SignalLink, GivesStop, Acts, Confirms, shown}
use Rattle.simulator_machine.specs.Point.{Side, Left, Right, Position, PointLink, Takes, DriveEnds, Reaches, Reports, Hears}
use Rattle.simulator_machine.specs.Table.{Table}
use Rattle.simulator_machine.specs.Machine.{Machine}
use Rattle.simulator_machine.specs.Moves.{Move, AtSignal, AtPoint, GivesMove, Sets, Authorises, GivesAspect, Ends, FreesPart, Frees, Restarts, HoldEnds}
use Rattle.simulator_machine.specs.Run.{right_rules, run, MayRun, first}

-- the routes 0 and 2 begin at signal 0, all others at signal 1
abbrev pub small_entry : ℕ → ℕ
small_entry zero = 0
small_entry (suc zero) = 1
small_entry (suc (suc zero)) = 0
small_entry (suc (suc (suc route))) = 1

-- the routes 0 and 1 have one aspect, all others another
abbrev pub small_aspect : ℕ → Aspect
small_aspect zero = Proceed 0
small_aspect (suc zero) = Proceed 0
small_aspect (suc (suc route)) = Proceed 1

abbrev pub is_right : Side → Bool
is_right Left = false
is_right Right = true

-- route 0 requires point 0 at the right, route 1 at the left, and the others require no point
abbrev pub small_requires : ℕ → ℕ → Side → Bool
small_requires zero zero side = is_right side
small_requires (suc zero) zero side = not (is_right side)
small_requires (suc (suc route)) zero side = false
small_requires zero (suc point) side = false
small_requires (suc route) (suc point) side = false

-- any two routes conflict
abbrev pub small : Table
small = record { entry = small_entry; aspect = small_aspect; requires = small_requires; conflict = λ a b. not (is_same a b) }

-- every point stands at the left
abbrev pub start : Machine
start = first (λ point. Some Left)

-- these moves can be made from the start, and after them the signal shows this aspect
abbrev pub LeadsTo : List Move → (signal : ℕ) → Aspect → Type 0
LeadsTo moves signal aspect = MayRun right_rules small moves start × (shown ((run right_rules small moves start).signals signal) ≡ aspect)

-- ---- parts of runs

abbrev pub at_signal : ℕ → List LinkMove → List Move
at_signal signal moves = map (λ move. AtSignal signal (SignalLink move)) moves

abbrev pub at_point : List LinkMove → List Move
at_point moves = map (λ move. AtPoint 0 (PointLink move)) moves

-- the quiet time of a link is over, and a connection opens and comes up
abbrev pub opens_again : List LinkMove
opens_again = QuietEnds ∷ Opens ∷ Enters ∷ ComesUp ∷ []

-- the link of the point comes up, and the initial status is heard
abbrev pub point_up : Position → List Move
point_up position = at_point opens_again ++ AtPoint 0 (Reports position) ∷ AtPoint 0 Hears ∷ []

-- the point is given a move and driven to a side, and its report is heard
abbrev pub point_moved : Side → List Move
point_moved side =
    GivesMove 0 ∷ AtPoint 0 (Takes true) ∷ AtPoint 0 (Reaches None) ∷ AtPoint 0 (Reaches (Some side)) ∷ AtPoint 0 DriveEnds ∷ AtPoint 0 (Reports (Some side)) ∷ AtPoint 0 Hears ∷ []

-- a route is given authority, and its aspect is given and acted on
abbrev pub clears : (route : ℕ) → List Move
clears route = Authorises route ∷ GivesAspect route ∷ AtSignal (small_entry route) Acts ∷ []

-- stop is given and acted on, the two aspects given are confirmed, and the authority ends
abbrev pub withdraws : (route : ℕ) → List Move
withdraws route = AtSignal (small_entry route) GivesStop ∷ AtSignal (small_entry route) Acts ∷ AtSignal (small_entry route) (Confirms 2) ∷ Ends route ∷ []

-- ---- runs

-- the first hold ends, and all links come up
abbrev pub ready : List Move
ready = HoldEnds ∷ at_signal 0 opens_again ++ (at_signal 1 opens_again ++ point_up (Some Left))

-- route 0 is set, its point is moved, and its signal shows its aspect
abbrev pub cleared : List Move
cleared = ready ++ (Sets 0 ∷ point_moved Right ++ clears 0)

-- stop is given, acted on and confirmed, and the authority ends
abbrev pub withdrawn : List Move
withdrawn = cleared ++ withdraws 0

-- the route is freed part by part; when its first part is freed, route 1 is set over it, and cleared when the point has
-- moved
abbrev pub released : List Move
released = withdrawn ++ (FreesPart 0 ∷ Sets 1 ∷ point_moved Left ++ (FreesPart 0 ∷ clears 1 ++ Frees 0 ∷ []))

-- the interlocking is made anew while signal 0 shows the aspect of route 0, and again in the hold
abbrev pub held_twice : List Move
held_twice = cleared ++ Restarts ∷ Restarts ∷ []

-- every controller loses its link, the hold ends, and the links come up again; route 0 is set and cleared anew
abbrev pub set_up_again : List Move
set_up_again =
    held_twice ++ (at_signal 0 (Leaves ∷ []) ++ (at_signal 1 (Leaves ∷ []) ++ (at_point (Leaves ∷ []) ++ (HoldEnds ∷ at_signal 0 opens_again ++ (point_up (Some Right) ++ Sets 0 ∷ clears 0)))))

-- ---- a controller made anew in each stage

-- the point's link is lost and comes up again; the point is moved and route 0 cleared
abbrev pub point_recovers : Position → List Move
point_recovers position = at_point (Leaves ∷ Closes ∷ []) ++ (point_up position ++ (point_moved Right ++ clears 0))

-- route 0 is set, and its point's controller made anew while the move is under way
abbrev pub move_lost : List Move
move_lost = ready ++ (Sets 0 ∷ GivesMove 0 ∷ point_recovers (Some Left))

-- while it drives the point
abbrev pub drive_lost : List Move
drive_lost = ready ++ (Sets 0 ∷ GivesMove 0 ∷ AtPoint 0 (Takes true) ∷ AtPoint 0 (Reaches None) ∷ point_recovers None)

-- while its report is under way
abbrev pub report_lost : List Move
report_lost =
    ready ++ (Sets 0 ∷ GivesMove 0 ∷ AtPoint 0 (Takes true) ∷ AtPoint 0 (Reaches (Some Right)) ∷ AtPoint 0 DriveEnds ∷ AtPoint 0 (Reports (Some Right))
    ∷ point_recovers (Some Right))

-- when its report was heard, and the route has no authority yet
abbrev pub known_lost : List Move
known_lost = ready ++ (Sets 0 ∷ point_moved Right ++ point_recovers (Some Right))

-- while the signal shows the route's aspect: it goes on showing it
abbrev pub point_lost : List Move
point_lost = cleared ++ at_point (Leaves ∷ [])

-- the signal's link is lost; when its quiet time is over, the authority of route 0 ends, and the route is freed, set and
-- cleared anew
abbrev pub signal_recovers : List Move
signal_recovers =
    at_signal 0 (Leaves ∷ Closes ∷ QuietEnds ∷ []) ++ (Ends 0 ∷ Frees 0 ∷ at_signal 0 (Opens ∷ Enters ∷ ComesUp ∷ []) ++ Sets 0 ∷ clears 0)

-- route 0 is given authority, and the signal's controller made anew before any aspect is given in the connection
abbrev pub silent_lost : List Move
silent_lost = ready ++ (Sets 0 ∷ point_moved Right ++ (Authorises 0 ∷ signal_recovers))

-- while the aspect is under way
abbrev pub aspect_lost : List Move
aspect_lost = ready ++ (Sets 0 ∷ point_moved Right ++ (Authorises 0 ∷ GivesAspect 0 ∷ signal_recovers))

-- while it shows the aspect: it then shows stop
abbrev pub signal_lost : List Move
signal_lost = cleared ++ at_signal 0 (Leaves ∷ [])

abbrev pub shown_lost : List Move
shown_lost = cleared ++ signal_recovers

-- while stop is under way
abbrev pub stop_lost : List Move
stop_lost = cleared ++ AtSignal 0 GivesStop ∷ signal_recovers

-- when stop was acted on, and isn't confirmed yet
abbrev pub stopped_lost : List Move
stopped_lost = cleared ++ AtSignal 0 GivesStop ∷ AtSignal 0 Acts ∷ signal_recovers
