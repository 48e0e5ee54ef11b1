-- Machines in which one premise is left out: a move is judged as if another machine stood before it, one in which this premise
-- holds whatever is so. What the move leaves stays the same.
use Rattle.std.specs.Prelude.{◌≡◌, ◌+◌, ◌-◌, ℕ, Bool, true, false, not, nat_le, ◌&&◌, ◌||◌, List, [], ◌∷◌, ◌++◌, Option, Some, None, if◌then◌else◌}
use Rattle.train_machine.specs.Lists.{is_same}
use Rattle.train_machine.specs.Track.{Side, Left, Track}
use Rattle.train_machine.specs.Train.{Under, Nothing, Throat, Train, is_throat, is_in}
use Rattle.train_machine.specs.Section.{Belief, Unknown, Occupied, Clear, Told, Late, Awaited, Came, Gone, Section, is_occupied, belief_told}
use Rattle.train_machine.specs.Route.{Phase, Free, Waiting, Proceeding, Withdrawn, Ended, Route, free_route}
use Rattle.train_machine.specs.Machine.{report_time, Point, Pass, Never, At, Past, Machine}
use Rattle.train_machine.specs.Moves.{Move, Enters, Passes, Goes, Hears, Sets, Authorises, FreesSection, FreesCancelled, GivesMove, Steps, Resumes, May, told, after}
use Rattle.train_machine.specs.Run.{Rules, MayRun, MayStand, right_rules, run, first}
use Rattle.train_machine.specs.Promise.{IsApart}
use Rattle.train_machine.specs.Stations.{numbered}

-- how a machine is seen
pub record View : Type 0 where
  pub train : Train → Train
  pub section : ℕ → Section → Section
  pub route : Route → Route
  pub point : Point → Point
  pub pass : Pass → Pass
  pub clock : ℕ → ℕ

abbrev pub plain : View
plain = record { train = λ t. t; section = λ n s. s; route = λ r. r; point = λ p. p; pass = λ p. p; clock = λ c. c }

abbrev pub through : View → Machine → Machine
through view machine = record {
  trains = λ n. view.train (machine.trains n);
  sections = λ n. view.section n (machine.sections n);
  routes = λ n. view.route (machine.routes n);
  points = λ n. view.point (machine.points n);
  passes = λ n. view.pass (machine.passes n);
  now = machine.now;
  clock = view.clock machine.clock;
}

-- one premise is left out: of which moves, and how the machine is then seen
pub record Omission : Type 0 where
  pub touches : Move → Bool
  pub view : Machine → Move → View

abbrev pub seen_by : Omission → Machine → Move → Machine
seen_by omission machine move = if omission.touches move then through (omission.view machine move) machine else machine

abbrev pub without : Omission → Rules
without omission = record { may = λ track machine move. May track (seen_by omission machine move) move; after = after }

-- ---- which moves

abbrev pub is_enter : Move → Bool
is_enter (Enters train border) = true
is_enter _ = false

abbrev pub is_pass : Move → Bool
is_pass (Passes train route place) = true
is_pass _ = false

abbrev pub is_go : Move → Bool
is_go (Goes train place) = true
is_go _ = false

abbrev pub is_hear : Move → Bool
is_hear (Hears section news) = true
is_hear _ = false

abbrev pub is_set : Move → Bool
is_set (Sets route) = true
is_set _ = false

abbrev pub is_authorise : Move → Bool
is_authorise (Authorises route) = true
is_authorise _ = false

abbrev pub is_free_section : Move → Bool
is_free_section (FreesSection route section) = true
is_free_section _ = false

abbrev pub is_free_cancelled : Move → Bool
is_free_cancelled (FreesCancelled route) = true
is_free_cancelled _ = false

abbrev pub is_give_move : Move → Bool
is_give_move (GivesMove point) = true
is_give_move _ = false

abbrev pub is_resume : Move → Bool
is_resume Resumes = true
is_resume _ = false

-- those that want fresh reports
abbrev pub wants_fresh : Move → Bool
wants_fresh (Sets route) = true
wants_fresh (FreesCancelled route) = true
wants_fresh (GivesMove point) = true
wants_fresh Steps = true
wants_fresh _ = false

-- ---- premises of the traffic

abbrev pub opened : Phase → Phase
opened Free = Free
opened Waiting = Proceeding
opened Proceeding = Proceeding
opened Withdrawn = Withdrawn
opened Ended = Ended

-- obey: a signal may be passed where a route is only set
abbrev pub obey : Omission
obey = record { touches = is_pass; view = λ machine move. record plain { route = λ r. record r { phase = opened r.phase } } }

-- headway
abbrev pub headway : Omission
headway = record { touches = is_pass; view = λ machine move. record plain { pass = λ p. Never } }

-- headway, of a train after its own pass
abbrev pub pass_by : (train : ℕ) → (owner : Option ℕ) → Pass → Pass
pass_by train None pass = pass
pass_by train (Some owner) pass = if is_same owner train then Never else pass

abbrev pub own_passes : Machine → Move → View
own_passes machine (Passes train route place) = record plain { pass = pass_by train (machine.routes route).owner }
own_passes machine _ = plain

abbrev pub own_headway : Omission
own_headway = record { touches = is_pass; view = own_passes }

-- headway, one millisecond less
abbrev pub earlier : Pass → Pass
earlier Never = Never
earlier (At reading) = At reading
earlier (Past time) = Past (time - 1)

abbrev pub headway_short : Omission
headway_short = record { touches = is_pass; view = λ machine move. record plain { pass = earlier } }

-- inlet: no train in the throat, none that has it before it, no route that holds it
abbrev pub inlet_empty : Omission
inlet_empty = record { touches = is_enter; view = λ machine move. record plain { train = λ t. record t { places = [] } } }

abbrev pub inlet_unclaimed : Omission
inlet_unclaimed = record { touches = is_enter; view = λ machine move. record plain { train = λ t. record t { under = Nothing } } }

abbrev pub inlet_unheld : Omission
inlet_unheld = record { touches = is_enter; view = λ machine move. record plain { route = λ r. free_route } }

-- let in: a section that a train came into before it passed a signal, report_time ago
abbrev pub let_in : Omission
let_in = record { touches = is_set; view = λ machine move. record plain { section = λ n s. record s { inlet = false } } }

-- the same, once no train that came in has yet to pass a signal (of a station of three trains)
abbrev pub let_in_passed : Omission
let_in_passed = record {
  touches = is_set;
  view = λ machine move. record plain {
    section = λ n s. record s { inlet = s.inlet && (is_throat (machine.trains 0).under || (is_throat (machine.trains 1).under || is_throat (machine.trains 2).under)) };
  };
}

-- one millisecond less
abbrev pub let_in_short : Omission
let_in_short = record {
  touches = is_set;
  view = λ machine move. record plain { section = λ n s. record s { inlet = s.inlet && not (nat_le (s.entered + 1799) machine.clock) } };
}

-- let in: a train that came in and has a section of the route before it
abbrev pub let_in_claimed : Omission
let_in_claimed = record { touches = is_set; view = λ machine move. record plain { train = λ t. record t { under = Nothing } } }

-- stood
abbrev pub stood : Omission
stood = record { touches = is_resume; view = λ machine move. record plain { section = λ n s. record s { entered = 0 }; clock = λ c. report_time } }

-- one millisecond less
abbrev pub stood_short : Omission
stood_short = record { touches = is_resume; view = λ machine move. record plain { clock = λ c. c + 1 } }

-- stood, of the trains that are still there (three)
abbrev pub stood_there : Track → Omission
stood_there track = record {
  touches = is_resume;
  view = λ machine move. record plain {
    section = λ n s. record s {
      entered = if is_in track n (machine.trains 0).places || (is_in track n (machine.trains 1).places || is_in track n (machine.trains 2).places) then s.entered else 0;
    };
    clock = λ c. c;
  };
}

abbrev pub let_go : List ℕ → Under → Under
let_go [] under = under
let_go (front ∷ rear) under = Throat 0

-- stands and turn: a train goes on though it hasn't passed a signal since it turned, or since the interlocking was resumed
abbrev pub stands : Omission
stands = record { touches = is_go; view = λ machine move. record plain { train = λ t. record t { under = let_go t.places t.under } } }

-- ---- what the links give

abbrev pub dark : Omission
dark = record { touches = is_pass; view = λ machine move. record plain { route = λ r. record r { withdrawn_at = machine.now } } }

abbrev pub heard : Told → Told
heard Late = Came
heard Awaited = Came
heard Came = Came
heard Gone = Gone

abbrev pub fresh : Omission
fresh = record { touches = wants_fresh; view = λ machine move. record plain { section = λ n s. record s { told = heard s.told } } }

abbrev pub awaited_late : Told → Told
awaited_late Late = Late
awaited_late Awaited = Late
awaited_late Came = Came
awaited_late Gone = Gone

-- in order: an occupation is told that is older than what was told already
abbrev pub in_order : Omission
in_order = record { touches = is_hear; view = λ machine move. record plain { section = λ n s. record s { told = awaited_late s.told } } }

abbrev pub gone_late : Told → Told
gone_late Late = Late
gone_late Awaited = Awaited
gone_late Came = Came
gone_late Gone = Late

-- truth: a section is told occupied in which no train was
abbrev pub truth : Omission
truth = record { touches = is_hear; view = λ machine move. record plain { section = λ n s. record s { told = gone_late s.told } } }

-- each change: a section that is believed clear is told clear again, without being told occupied or unknown between
abbrev pub each_change : Omission
each_change = record { touches = is_hear; view = λ machine move. record plain { section = λ n s. record s { told = heard s.told } } }

-- ---- rules of the interlocking

-- sections count as clear, and as told
abbrev pub clear_told : Belief → Told → Told
clear_told Unknown told = Came
clear_told Occupied told = Came
clear_told Clear told = told

abbrev pub all_clear : View
all_clear = record plain { section = λ n s. record s { belief = Clear; told = clear_told s.belief s.told } }

abbrev pub set_clear : Omission
set_clear = record { touches = is_set; view = λ machine move. all_clear }

abbrev pub set_unheld : Omission
set_unheld = record { touches = is_set; view = λ machine move. record plain { route = λ r. record r { holds = λ section. false } } }

abbrev pub authorise_clear : Omission
authorise_clear = record { touches = is_authorise; view = λ machine move. all_clear }

-- a point known at its side stands there undriven
abbrev pub authorise_side : Side → Omission
authorise_side side = record { touches = is_authorise; view = λ machine move. record plain { point = λ p. record p { lies = Some side } } }

abbrev pub authorise_undriven : Omission
authorise_undriven = record { touches = is_authorise; view = λ machine move. record plain { point = λ p. record p { moves = false } } }

abbrev pub free_seen : Omission
free_seen = record { touches = is_free_section; view = λ machine move. record plain { route = λ r. record r { seen = λ section. true } } }

-- a cancelled route is freed one millisecond early; whenever its authority ended; however short its sections are clear; clear
-- or not
abbrev pub cancel_early : Omission
cancel_early = record {
  touches = is_free_cancelled;
  view = λ machine move. record plain { section = λ n s. record s { since = s.since - 1 }; route = λ r. record r { ended = r.ended - 1 } };
}

abbrev pub cancel_ended : Omission
cancel_ended = record { touches = is_free_cancelled; view = λ machine move. record plain { route = λ r. record r { ended = 0 } } }

abbrev pub cancel_since : Omission
cancel_since = record { touches = is_free_cancelled; view = λ machine move. record plain { section = λ n s. record s { since = 0 } } }

abbrev pub cancel_clear : Omission
cancel_clear = record { touches = is_free_cancelled; view = λ machine move. all_clear }

abbrev pub move_unheld : Omission
move_unheld = record { touches = is_give_move; view = λ machine move. record plain { route = λ r. free_route } }

abbrev pub move_clear : Omission
move_clear = record { touches = is_give_move; view = λ machine move. all_clear }

-- a route with authority isn't withdrawn where a section isn't clear
abbrev pub after_unwithdrawn : Track → Machine → Move → Machine
after_unwithdrawn track machine (Hears section news) = record machine {
  sections = (told section news machine).sections;
  routes = λ route. record (machine.routes route) {
    seen = λ n. (is_occupied (belief_told news) && is_same n section) || (machine.routes route).seen n;
  };
}
after_unwithdrawn track machine move = after track machine move

abbrev pub withdraws_nothing : Rules
withdraws_nothing = record right_rules { after = after_unwithdrawn }

-- ---- runs

-- trains stand on these places, and every point at this side
abbrev pub start : (standing : List (List ℕ)) → Side → Machine
start standing side = first (numbered standing []) (λ point. Some side)

-- By these rules the moves can be made at this station from a lawful start, and break the promise.
abbrev pub Breaks : Track → (standing : List (List ℕ)) → Side → Rules → List Move → Type 0
Breaks track standing side rules moves = MayStand track (numbered standing []) × MayRun rules track moves (start standing side)
    × (IsApart track (run rules track moves (start standing side)) → ⊥)

-- These moves can be made from there, and this one after them can't.
abbrev pub Refuses : Track → (standing : List (List ℕ)) → Side → List Move → Move → Type 0
Refuses track standing side moves move = MayRun right_rules track moves (start standing side) × (May track (run right_rules track moves (start standing side)) move → ⊥)

-- These moves can be made, the last one too.
abbrev pub Allows : Track → (standing : List (List ℕ)) → Side → List Move → Move → Type 0
Allows track standing side moves move = MayRun right_rules track (moves ++ move ∷ []) (start standing side)

-- These moves can be made, and then the trains 0 and 1 stand on these places.
abbrev pub Leads : Track → List Move → (one other : List ℕ) → Type 0
Leads track moves one other = MayRun right_rules track moves (start [] Left)
    × (((run right_rules track moves (start [] Left)).trains 0).places ≡ one)
    × (((run right_rules track moves (start [] Left)).trains 1).places ≡ other)
