-- Machines with one rule changed, each with a run that breaks the promise: every rule is needed.
use Rattle.std.specs.Prelude.{◌≡◌, ◌≢◌, ℕ, false, true, not, ◌&&◌, List, [], ◌∷◌, ◌++◌, None, Some}
use Rattle.simulator_machine.specs.Lists.{last_of, is_same}
use Rattle.simulator_machine.specs.Link.{Up, Leaves}
use Rattle.simulator_machine.specs.Signal.{Aspect, Stop, Proceed, Signal, aspects_given, GivesStop, Acts}
use Rattle.simulator_machine.specs.Point.{Side, Right, Takes}
use Rattle.simulator_machine.specs.Table.{Table}
use Rattle.simulator_machine.specs.Route.{Free, Waiting, Authorised, has_authority, is_whole}
use Rattle.simulator_machine.specs.Machine.{Machine, with_signal, made_anew}
use Rattle.simulator_machine.specs.Moves.{Move, AtSignal, AtPoint, GivesMove, Sets, Authorises, Ends, FreesPart, Frees, Restarts, HoldEnds, AllKnown, May, after}
use Rattle.simulator_machine.specs.Run.{Rules, right_rules, run, MayRun}
use Rattle.simulator_machine.specs.Promise.{Promise}
use Rattle.simulator_machine.specs.Small.{small, small_entry, start, ready, cleared, point_moved, clears, withdraws, opens_again, at_signal}

-- by these rules the moves can be made at this table, from the start of the small station, and break the promise
abbrev pub BreaksAt : Table → Rules → List Move → Type 0
BreaksAt table rules moves = MayRun rules table moves start × (Promise table (run rules table moves start) → ⊥)

abbrev pub Breaks : Rules → List Move → Type 0
Breaks = BreaksAt small

-- ---- authority is ended when stop is given, confirmed or not

abbrev pub MayEndUnconfirmed : Table → Machine → Move → Type 0
MayEndUnconfirmed table machine (Ends route) =
    (machine.routes route ≡ Authorised) × (last_of Stop (aspects_given (machine.signals (table.entry route))) ≡ Stop)
MayEndUnconfirmed table machine move = May table machine move

abbrev pub ends_unconfirmed : Rules
ends_unconfirmed = record right_rules { may = MayEndUnconfirmed }

-- the authority ends while stop is under way
abbrev pub ended_unconfirmed : List Move
ended_unconfirmed = cleared ++ AtSignal 0 GivesStop ∷ Ends 0 ∷ []

-- ---- the last position is believed, though a move is under way

-- a point's link is up, and the last report heard is that side
abbrev pub IsBelievedAt : Side → Machine → ℕ → Type 0
IsBelievedAt side machine point = ((machine.points point).link.client ≡ Up) × (last_of None (machine.points point).heard ≡ Some side)

abbrev pub MayBelieve : Table → Machine → Move → Type 0
MayBelieve table machine (Authorises route) =
    (machine.routes route ≡ Waiting) × ((point : ℕ) (side : Side) → table.requires route point side ≡ true → IsBelievedAt side machine point)
MayBelieve table machine move = May table machine move

abbrev pub believes : Rules
believes = record right_rules { may = MayBelieve }

-- the point is at the right when it is given a move for route 1; this route is freed, route 0 cleared, and the move taken
abbrev pub believed : List Move
believed = ready ++ (Sets 0 ∷ point_moved Right ++ (Frees 0 ∷ Sets 1 ∷ GivesMove 0 ∷ Frees 1 ∷ Sets 0 ∷ clears 0 ++ AtPoint 0 (Takes true) ∷ []))

-- ---- a point is given a move for a second route, though one with authority holds it

abbrev pub MayMoveHeld : Table → Machine → Move → Type 0
MayMoveHeld table machine (GivesMove place) = (machine.points place).link.client ≡ Up
MayMoveHeld table machine move = May table machine move

abbrev pub moves_held : Rules
moves_held = record right_rules { may = MayMoveHeld }

-- Routes conflict only if they begin at one signal. This table is sound. The routes 0 and 1 don't conflict in it, though
-- they require point 0 at different sides.
abbrev pub sparse : Table
sparse = record small { conflict = λ a b. is_same (small_entry a) (small_entry b) }

-- route 1 is set beside route 0, which is cleared; point 0 is given a move for route 1 (a move names no route), and the
-- controller takes it and drives
abbrev pub moved_held : List Move
moved_held = cleared ++ Sets 1 ∷ GivesMove 0 ∷ AtPoint 0 (Takes true) ∷ []

-- ---- a route is given authority twice in a setting

abbrev pub MayAuthoriseTwice : Table → Machine → Move → Type 0
MayAuthoriseTwice table machine (Authorises route) = (machine.routes route ≢ Free) × AllKnown table machine route
MayAuthoriseTwice table machine move = May table machine move

abbrev pub authorises_twice : Rules
authorises_twice = record right_rules { may = MayAuthoriseTwice }

-- route 3 is set over a part of route 0 that is freed, and both are cleared
abbrev pub authorised_twice : List Move
authorised_twice = cleared ++ (withdraws 0 ++ (FreesPart 0 ∷ Sets 3 ∷ clears 3 ++ clears 0))

-- ---- the frozen routes are forgotten at a second restart

abbrev pub after_forgetting : Table → Machine → Move → Machine
after_forgetting table machine Restarts = record (made_anew machine) { frozen = λ route. has_authority (machine.routes route) }
after_forgetting table machine move = after table machine move

abbrev pub forgets_frozen : Rules
forgets_frozen = record right_rules { after = after_forgetting }

abbrev pub forgotten : List Move
forgotten = cleared ++ Restarts ∷ Restarts ∷ []

-- ---- the hold ends while a controller is in a connection

abbrev pub MayEndHoldEarly : Table → Machine → Move → Type 0
MayEndHoldEarly table machine HoldEnds = Unit {0}
MayEndHoldEarly table machine move = May table machine move

abbrev pub ends_hold_early : Rules
ends_hold_early = record right_rules { may = MayEndHoldEarly }

abbrev pub hold_ended_early : List Move
hold_ended_early = cleared ++ Restarts ∷ HoldEnds ∷ []

-- ---- requests are taken at once after a restart

-- no route conflicts that is set and of which nothing is freed
abbrev pub IsUnblocked : Table → Machine → ℕ → Type 0
IsUnblocked table machine route = (other : ℕ) → is_whole (machine.routes other) ≡ true → table.conflict route other ≡ true → ⊥

abbrev pub MaySetAtOnce : Table → Machine → Move → Type 0
MaySetAtOnce table machine (Sets route) = (machine.routes route ≡ Free) × IsUnblocked table machine route
MaySetAtOnce table machine move = May table machine move

abbrev pub sets_at_once : Rules
sets_at_once = record right_rules { may = MaySetAtOnce }

-- route 3 is set and cleared in the hold
abbrev pub set_at_once : List Move
set_at_once = cleared ++ (Restarts ∷ at_signal 1 (Leaves ∷ opens_again) ++ Sets 3 ∷ clears 3)

-- ---- a route is set though a set one conflicts with it

abbrev pub MaySetBlocked : Table → Machine → Move → Type 0
MaySetBlocked table machine (Sets route) = (machine.holding ≡ false) × (machine.routes route ≡ Free)
MaySetBlocked table machine move = May table machine move

abbrev pub sets_blocked : Rules
sets_blocked = record right_rules { may = MaySetBlocked }

abbrev pub set_blocked : List Move
set_blocked = cleared ++ Sets 3 ∷ clears 3

-- ---- a lamp keeps the aspect of an earlier route

-- the first aspect other than stop that was acted on before, or else this one
abbrev pub earlier : List Aspect → Aspect → Aspect
earlier [] next = next
earlier (Stop ∷ done) next = earlier done next
earlier (Proceed number ∷ done) next = Proceed number

-- the aspect that such a lamp shows when it is told the next one
abbrev pub kept_aspect : List Aspect → Aspect → Aspect
kept_aspect done Stop = Stop
kept_aspect done (Proceed number) = earlier done (Proceed number)

abbrev pub acted_keeping : List Aspect → Signal → Signal
acted_keeping [] signal = signal
acted_keeping (next ∷ later) signal = record signal { done = signal.done ++ kept_aspect signal.done next ∷ []; flight = later }

abbrev pub signal_keeping : Signal → Signal
signal_keeping signal = acted_keeping signal.flight signal

abbrev pub after_keeping : Table → Machine → Move → Machine
after_keeping table machine (AtSignal place Acts) = with_signal place (signal_keeping (machine.signals place)) machine
after_keeping table machine move = after table machine move

abbrev pub keeps_aspect : Rules
keeps_aspect = record right_rules { after = after_keeping }

-- route 2 is set at the signal at which route 0 was, and has another aspect
abbrev pub aspect_kept : List Move
aspect_kept = cleared ++ (withdraws 0 ++ Frees 0 ∷ Sets 2 ∷ clears 2)

-- ---- tables that aren't sound

-- route 3 conflicts with route 0, and not the other way round
abbrev pub one_way : Table
one_way = record small { conflict = λ a b. not (is_same a b) && not (is_same a 0 && is_same b 3) }

-- route 0 is set and cleared beside route 3
abbrev pub cleared_one_way : List Move
cleared_one_way = (ready ++ Sets 3 ∷ clears 3) ++ (Sets 0 ∷ point_moved Right ++ clears 0)

-- no routes conflict
abbrev pub loose : Table
loose = record small { conflict = λ a b. false }

-- route 2 is set and given authority beside route 0
abbrev pub cleared_loose : List Move
cleared_loose = cleared ++ Sets 2 ∷ Authorises 2 ∷ []
