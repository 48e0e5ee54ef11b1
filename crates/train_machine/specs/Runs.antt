-- Runs that break the promise where a premise is left out, and runs that may be made.
use Rattle.std.specs.Prelude.{ℕ, false, List, [], ◌∷◌, ◌++◌, Some}
use Rattle.train_machine.specs.Track.{Left, Right}
use Rattle.train_machine.specs.Section.{Occupied, Clear, Lost, Old, IsOccupied, IsLeft}
use Rattle.train_machine.specs.Moves.{Move, Enters, Passes, Goes, Follows, Turns, Hears, Sets, Authorises, Withdraws, Ends, FreesSection, FreesCancelled, Frees, GivesMove, Steps, Resumes, Acts, Time}

-- ---- on the line: trains stand on the places of the list

-- a route is set and given authority
abbrev pub clears : (route : ℕ) → List Move
clears route = Sets route ∷ Authorises route ∷ []

-- two trains follow one another through route 0: the first one goes on over route 2, route 0 is freed by its passage, and set
-- again when the headway is over
abbrev pub first_train : List Move
first_train =
    Hears 0 IsLeft ∷ Hears 1 IsLeft ∷ Hears 2 IsLeft ∷ Enters 0 0 ∷ clears 0 ++ Passes 0 0 2 ∷ Follows 0 ∷ Hears 1 IsOccupied ∷ Ends 0
    ∷ clears 2 ++ Passes 0 2 4 ∷ Follows 0 ∷ Hears 1 IsLeft ∷ FreesSection 0 1 ∷ Frees 0 ∷ Hears 0 IsOccupied ∷ Hears 0 IsLeft ∷ Hears 2 IsOccupied ∷ Ends 2 ∷ []

abbrev pub followed : List Move
followed = first_train ++ Time 1802 1800 ∷ Steps ∷ Time 3604 3600 ∷ Enters 1 0 ∷ clears 0 ++ Passes 1 0 2 ∷ []

-- The interlocking is made anew when route 0 has authority: its links are lost. The train passes the signal all the same, as its lamp
-- is still lit; when the interlocking is resumed it knows of the train, which goes on over route 2, and the next one comes in.
abbrev pub restarted : List Move
restarted =
    Hears 0 IsLeft ∷ Hears 1 IsLeft ∷ Enters 0 0 ∷ clears 0 ++ Hears 0 Lost ∷ Hears 1 Lost ∷ Hears 2 Lost ∷ Passes 0 0 2 ∷ Follows 0 ∷ Time 6007 6000 ∷ Hears 0 IsLeft
    ∷ Hears 1 IsOccupied ∷ Hears 2 IsLeft ∷ Resumes ∷ clears 2 ++ Passes 0 2 4 ∷ Enters 1 0 ∷ []

-- follow: train 0 passes signal 0 at reading 0, and nothing is told of it; train 1 comes in after it
abbrev pub before_follow : List Move
before_follow = Hears 1 IsLeft ∷ clears 0 ++ Passes 0 0 2 ∷ Follows 0 ∷ Enters 1 0 ∷ []

-- the interlocking makes a step at this true time and this reading, with the section's link lost where the reading is late,
-- and time goes on
abbrev pub follow_early : List Move
follow_early = before_follow ++ Time 1801 1799 ∷ Steps ∷ Time 9000 9000 ∷ []

abbrev pub follow_late : (now : ℕ) → List Move
follow_late now = before_follow ++ Time 1802 1800 ∷ Hears 1 Lost ∷ Steps ∷ Time now 3600 ∷ []

abbrev pub following : List Move
following = before_follow ++ Passes 1 0 2 ∷ []

-- headway: the lamp is lit until 1802 ms after the step at 3600
abbrev pub followed_soon : List Move
followed_soon =
    Hears 1 IsLeft ∷ clears 3 ++ Passes 0 3 3 ∷ Time 3600 3600 ∷ Follows 0 ∷ Hears 1 Lost ∷ Enters 1 1 ∷ Steps ∷ Time 5401 5398 ∷ Passes 1 3 3 ∷ []

-- without obey: on the small station, with the point at the left
abbrev pub disobeyed : List Move
disobeyed = Hears 1 IsLeft ∷ Hears 3 IsLeft ∷ Sets 0 ∷ Passes 0 0 4 ∷ Goes 0 6 ∷ []

-- without headway, of its own pass: train 0 passes signal 0, turns, leaves again over route 1, turns and passes it again; what
-- is then told of its first passage frees the section under it, and train 1 comes from above
abbrev pub passed_again : List Move
passed_again =
    Hears 1 IsLeft ∷ clears 0 ++ Passes 0 0 2 ∷ Follows 0 ∷ Hears 0 IsLeft ∷ clears 1 ++ Turns 0 ∷ Passes 0 1 1 ∷ Follows 0 ∷ Hears 1 IsOccupied ∷ Hears 1 IsLeft ∷ Turns 0
    ∷ Passes 0 0 2 ∷ Ends 0 ∷ FreesSection 0 1 ∷ clears 3 ++ Passes 1 3 3 ∷ []

-- inlet
abbrev pub met_in_throat : List Move
met_in_throat = Enters 0 0 ∷ Enters 1 0 ∷ []

abbrev pub met_in_joined : List Move
met_in_joined = Enters 0 0 ∷ Enters 1 1 ∷ Goes 0 2 ∷ []

abbrev pub opposing : List Move
opposing = Hears 2 IsLeft ∷ clears 2 ++ Enters 1 1 ∷ Passes 0 2 4 ∷ []

-- let in
abbrev pub let_in_early : List Move
let_in_early = Enters 1 0 ∷ Hears 0 (Old Clear) ∷ clears 1 ++ Passes 0 1 1 ∷ []

-- at reading 1799
abbrev pub let_in_soon : List Move
let_in_soon = Enters 1 0 ∷ Hears 0 (Old Clear) ∷ Time 1800 1799 ∷ clears 1 ++ Passes 0 1 1 ∷ []

-- train 0 comes in, passes signal 0 and goes on to section 3, and only of section 0 nothing is told yet. Train 1 comes out over
-- route 2 and stands in section 0. What is told now of train 0 there frees the section under train 1; train 0 comes back.
abbrev pub let_in_stale : List Move
let_in_stale =
    Hears 0 IsLeft ∷ Hears 1 IsLeft ∷ Hears 3 IsLeft ∷ Enters 0 0 ∷ clears 0 ++ Passes 0 0 2 ∷ Follows 0 ∷ Hears 1 IsOccupied ∷ Goes 0 8 ∷ Follows 0 ∷ Hears 1 IsLeft ∷ Ends 0
    ∷ FreesSection 0 1 ∷ GivesMove 0 ∷ Acts 0 (Some Left) false ∷ clears 2 ++ Passes 1 2 5 ∷ Hears 1 IsOccupied ∷ Follows 1 ∷ Goes 1 1 ∷ Follows 1 ∷ Hears 1 IsLeft
    ∷ Hears 0 (Old Occupied) ∷ Hears 0 (Old Clear) ∷ Ends 2 ∷ FreesSection 2 1 ∷ FreesSection 2 0 ∷ GivesMove 0 ∷ Acts 0 (Some Right) false ∷ Turns 0 ∷ clears 3 ++ Passes 0 3 3
    ∷ Goes 0 1 ∷ []

abbrev pub let_in_before : List Move
let_in_before = Enters 0 0 ∷ Hears 1 IsLeft ∷ clears 1 ++ Passes 1 1 3 ∷ Goes 0 2 ∷ []

-- stood
abbrev pub resumed_early : List Move
resumed_early = Hears 1 IsLeft ∷ Hears 0 IsLeft ∷ clears 2 ++ Passes 0 2 5 ∷ Resumes ∷ GivesMove 0 ∷ []

abbrev pub resumed_soon : List Move
resumed_soon = Hears 1 IsLeft ∷ Hears 0 IsLeft ∷ clears 2 ++ Passes 0 2 5 ∷ Time 1800 1799 ∷ Resumes ∷ GivesMove 0 ∷ []

-- train 0 has left the station when the interlocking is resumed, and nothing was told of it
abbrev pub resumed_stale : List Move
resumed_stale =
    Time 1802 1800 ∷ Hears 0 IsLeft ∷ Hears 1 IsLeft ∷ clears 2 ++ Passes 0 2 5 ∷ Follows 0 ∷ Goes 0 1 ∷ Follows 0 ∷ Follows 0 ∷ Resumes ∷ GivesMove 0 ∷ Acts 0 (Some Right) false
    ∷ clears 3 ++ Passes 1 3 3 ∷ Hears 1 (Old Occupied) ∷ Hears 1 (Old Clear) ∷ Hears 0 IsOccupied ∷ Ends 3 ∷ FreesSection 3 1 ∷ GivesMove 0 ∷ []

-- stands: a train goes on in its former route when the interlocking was resumed
abbrev pub went_on_resumed : List Move
went_on_resumed = Hears 1 IsLeft ∷ Hears 0 IsLeft ∷ clears 2 ++ Passes 0 2 5 ∷ Hears 1 IsOccupied ∷ Time 1802 1800 ∷ Resumes ∷ Enters 1 0 ∷ Goes 0 1 ∷ []

-- turn
abbrev pub turned_back : List Move
turned_back = Hears 1 IsLeft ∷ Hears 0 IsLeft ∷ clears 2 ++ Passes 0 2 5 ∷ Follows 0 ∷ Enters 1 1 ∷ Turns 0 ∷ Goes 0 6 ∷ []

-- ---- what the links give

-- a lamp that isn't told to stop (starved lamp)
abbrev pub lamp_starved : List Move
lamp_starved = Hears 1 IsLeft ∷ clears 3 ++ Passes 0 3 3 ∷ Hears 1 Lost ∷ Time 1802 1800 ∷ Follows 0 ∷ Steps ∷ Time 3604 3600 ∷ Enters 1 1 ∷ Passes 1 3 3 ∷ []

-- a detector whose reports don't come (starved detector)
abbrev pub detector_starved : List Move
detector_starved = Hears 1 IsLeft ∷ clears 0 ++ Passes 0 0 2 ∷ Follows 0 ∷ Time 1802 1800 ∷ Steps ∷ Time 3604 3600 ∷ Enters 1 0 ∷ Passes 1 0 2 ∷ []

abbrev pub told_out_of_order : List Move
told_out_of_order = Hears 1 IsLeft ∷ clears 0 ++ Passes 0 0 2 ∷ Hears 1 (Old Occupied) ∷ Hears 1 (Old Clear) ∷ Ends 0 ∷ FreesSection 0 1 ∷ Follows 0 ∷ clears 3 ++ Passes 1 3 3 ∷ []

-- truth: a section is told occupied without a train
abbrev pub told_falsely : List Move
told_falsely = Hears 1 IsLeft ∷ clears 0 ++ Hears 1 IsOccupied ∷ Hears 1 IsLeft ∷ Passes 0 0 2 ∷ Ends 0 ∷ FreesSection 0 1 ∷ Follows 0 ∷ clears 3 ++ Passes 1 3 3 ∷ []

-- train 0 comes out and stands in section 0; route 2 is freed, and train 1 comes out after it
abbrev pub comes_after : List Move
comes_after = FreesCancelled 2 ∷ GivesMove 0 ∷ Acts 0 (Some Right) false ∷ clears 3 ++ Passes 1 3 3 ∷ Goes 1 1 ∷ []

abbrev pub change_untold : List Move
change_untold =
    Hears 0 IsLeft ∷ Hears 1 IsLeft ∷ clears 2 ++ Passes 0 2 5 ∷ Withdraws 2 ∷ Ends 2 ∷ Time 1799 1799 ∷ Goes 0 1 ∷ Follows 0 ∷ Follows 0 ∷ Hears 1 IsLeft ∷ Time 1800 1800 ∷ comes_after

-- ---- rules

abbrev pub set_unclear : List Move
set_unclear = Enters 0 1 ∷ Time 1802 1800 ∷ Sets 2 ∷ Hears 2 (Old Clear) ∷ Authorises 2 ∷ Passes 1 2 4 ∷ []

abbrev pub set_held : List Move
set_held = Hears 1 IsLeft ∷ clears 0 ++ (clears 3 ++ Passes 1 3 3 ∷ Passes 0 0 2 ∷ [])

abbrev pub authorised_unclear : List Move
authorised_unclear =
    Hears 1 IsLeft ∷ Sets 3 ∷ Hears 1 Lost ∷ Authorises 3 ∷ Passes 0 3 3 ∷ Follows 0 ∷ Time 1802 1800 ∷ Enters 1 1 ∷ Steps ∷ Time 3604 3600 ∷ Passes 1 3 3 ∷ []

abbrev pub authorised_beside : List Move
authorised_beside = Hears 0 IsLeft ∷ Hears 1 IsLeft ∷ clears 2 ++ Passes 0 2 5 ∷ []

abbrev pub authorised_driven : List Move
authorised_driven = Hears 0 IsLeft ∷ Hears 1 IsLeft ∷ GivesMove 0 ∷ clears 2 ++ Passes 0 2 5 ∷ []

abbrev pub unwithdrawn : List Move
unwithdrawn = Hears 1 IsLeft ∷ clears 0 ++ Passes 0 0 2 ∷ Follows 0 ∷ Hears 1 IsOccupied ∷ Time 1802 1800 ∷ Steps ∷ Time 3604 3600 ∷ Enters 1 0 ∷ Passes 1 0 2 ∷ []

abbrev pub freed_unseen : List Move
freed_unseen = Hears 0 IsLeft ∷ Hears 1 IsLeft ∷ clears 2 ++ Passes 0 2 5 ∷ Ends 2 ∷ FreesSection 2 1 ∷ GivesMove 0 ∷ []

-- cancel and run: the train passes the signal at reading 1, where the authority of its route ends
abbrev pub cancel_and_run : List Move
cancel_and_run = Hears 0 IsLeft ∷ Hears 1 IsLeft ∷ clears 2 ++ Time 1 1 ∷ Passes 0 2 5 ∷ Withdraws 2 ∷ Ends 2 ∷ Time 1800 1800 ∷ FreesCancelled 2 ∷ GivesMove 0 ∷ []

-- no train passes; the authority ends at reading 1, and the route is to be freed at another
abbrev pub cancelled : (freed_at : ℕ) → List Move
cancelled freed_at = Hears 0 IsLeft ∷ Hears 1 IsLeft ∷ clears 2 ++ Time 1 1 ∷ Withdraws 2 ∷ Ends 2 ∷ Time freed_at freed_at ∷ []

-- a train goes on at reading 1, and the interlocking is to be resumed at another
abbrev pub went_on : (resumed_at : ℕ) → List Move
went_on resumed_at = Hears 0 IsLeft ∷ Hears 1 IsLeft ∷ clears 2 ++ Time 1 1 ∷ Passes 0 2 5 ∷ Time resumed_at resumed_at ∷ []

-- the authority ended at reading 1800, the train passed just before
abbrev pub cancelled_at_once : List Move
cancelled_at_once = Hears 0 IsLeft ∷ Hears 1 IsLeft ∷ clears 2 ++ Time 1802 1800 ∷ Passes 0 2 5 ∷ Withdraws 2 ∷ Ends 2 ∷ FreesCancelled 2 ∷ GivesMove 0 ∷ []

-- The first section's link is lost for seven seconds. Its last step in which the section isn't clear is at reading 6100; at 7000 it is
-- told clear, and the train went on just before. At 7900 the section is clear for 900 ms.
abbrev pub cancelled_since : List Move
cancelled_since =
    Hears 0 IsLeft ∷ Hears 1 IsLeft ∷ clears 2 ++ Passes 0 2 5 ∷ Hears 1 Lost ∷ Ends 2 ∷ Time 6100 6100 ∷ Steps ∷ Time 7000 7000 ∷ Goes 0 1 ∷ Follows 0 ∷ Follows 0 ∷ Hears 1 IsLeft
    ∷ Time 7900 7900 ∷ comes_after

abbrev pub cancelled_unclear : List Move
cancelled_unclear =
    Hears 1 IsLeft ∷ Hears 2 IsLeft ∷ clears 1 ++ Passes 0 1 4 ∷ Hears 1 Lost ∷ Ends 1 ∷ Time 1802 1800 ∷ FreesCancelled 1 ∷ Enters 1 1 ∷ Goes 0 6 ∷ []

abbrev pub moved_held : List Move
moved_held = Hears 2 IsLeft ∷ Hears 1 IsLeft ∷ clears 1 ++ GivesMove 0 ∷ Passes 0 1 4 ∷ []

abbrev pub moved_unclear : List Move
moved_unclear = Hears 1 IsLeft ∷ Hears 2 IsLeft ∷ clears 1 ++ Passes 0 1 4 ∷ Hears 1 IsOccupied ∷ Time 1802 1800 ∷ Resumes ∷ GivesMove 0 ∷ []
