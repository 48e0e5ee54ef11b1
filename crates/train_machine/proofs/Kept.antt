-- The first state has the invariant, each move keeps it, and the promise follows from it.
use Rattle.std.proofs.Common.{ℕ, List, [], ◌∷◌, Option, arith}
use Rattle.train_machine.specs.Track.{Side, Track, IsSound}
use Rattle.train_machine.specs.Machine.{Machine}
use Rattle.train_machine.specs.Moves.{Move, Enters, Passes, Goes, Follows, Turns, Hears, Sets, Authorises, Withdraws, Ends, FreesSection, FreesCancelled, Frees, GivesMove, Steps, Resumes, Acts, Time, May, after}
use Rattle.train_machine.specs.Run.{right_rules, run, MayRun, MayStand, first}
use Rattle.train_machine.specs.Promise.{IsApart, HasWay}
use Rattle.train_machine.specs.Invariant.{Invariant}
use Rattle.train_machine.proofs.Routes.{free_sound, sets_kept, authorises_kept, withdraws_kept}
use Rattle.train_machine.proofs.Freed.{ends_kept, frees_section_kept, frees_cancelled_kept, frees_kept}
use Rattle.train_machine.proofs.Rest.{time_kept, acts_kept, gives_move_kept, steps_kept}
use Rattle.train_machine.proofs.Told.{told_kept}
use Rattle.train_machine.proofs.Shrunk.{follows_kept, turns_kept, resumes_kept}
use Rattle.train_machine.proofs.Throats.{enters_kept, enters_way, goes_kept, goes_way}
use Rattle.train_machine.proofs.Passes.{passes_kept, passes_way}

pub first_kept : (track : Track) (standing : ℕ → List ℕ) (positions : ℕ → Option Side) → MayStand track standing → Invariant track (first standing positions)
first_kept track standing positions may = record {
  routes = λ route. free_sound track (first standing positions) route;
  locks = λ a b section holds. absurd (cc (holds));
  gone = λ section gone. absurd (cc (gone));
  came = λ section came clear. cc (clear);
  past = λ section. omega arith;
  behind = λ section unheard. absurd (cc (unheard));
  alone = may.alone;
  own = λ train section route held. absurd (cc (held.given));
  ways = λ train front rear stands. tt;
  under = λ train place point on over. absurd (cc (over, may.plain train place on));
}

module _ (track : Track) (sound : IsSound track) (machine : Machine) (kept : Invariant track machine) where
  pub promised : IsApart track machine
  promised = record { alone = kept.alone; still = λ train place on point over. (kept.under train place point on over).stands }

  pub way_found : (move : Move) → May track machine move → HasWay track machine move
  way_found (Enters train border) may = enters_way track sound machine kept train border
  way_found (Passes train route place) may = passes_way track sound machine kept train route place may
  way_found (Goes train place) may = goes_way track sound machine kept train place may
  way_found (Follows train) may = tt
  way_found (Turns train) may = tt
  way_found (Hears section news) may = tt
  way_found (Sets route) may = tt
  way_found (Authorises route) may = tt
  way_found (Withdraws route) may = tt
  way_found (Ends route) may = tt
  way_found (FreesSection route section) may = tt
  way_found (FreesCancelled route) may = tt
  way_found (Frees route) may = tt
  way_found (GivesMove point) may = tt
  way_found Steps may = tt
  way_found Resumes may = tt
  way_found (Acts point lies moves) may = tt
  way_found (Time now clock) may = tt

  pub move_kept : (move : Move) → May track machine move → Invariant track (after track machine move)
  move_kept (Enters train border) may = enters_kept track sound machine kept train border may
  move_kept (Passes train route place) may = passes_kept track sound machine kept train route place may
  move_kept (Goes train place) may = goes_kept track sound machine kept train place may
  move_kept (Follows train) may = follows_kept track machine kept train
  move_kept (Turns train) may = turns_kept track machine kept sound train
  move_kept (Hears section news) may = told_kept track machine kept section news may
  move_kept (Sets route) may = sets_kept track sound machine kept route may
  move_kept (Authorises route) may = authorises_kept track sound machine kept route may
  move_kept (Withdraws route) may = withdraws_kept track sound machine kept route
  move_kept (Ends route) may = ends_kept track sound machine kept route may
  move_kept (FreesSection route section) may = frees_section_kept track sound machine kept route section may
  move_kept (FreesCancelled route) may = frees_cancelled_kept track sound machine kept route may
  move_kept (Frees route) may = frees_kept track sound machine kept route may
  move_kept (GivesMove point) may = gives_move_kept track machine kept sound point may
  move_kept Steps may = steps_kept track machine kept may
  move_kept Resumes may = resumes_kept track machine kept may
  move_kept (Acts point lies moves) may = acts_kept track machine kept point lies moves may
  move_kept (Time now clock) may = time_kept track machine kept now clock may.0 may.1

-- a list of moves
pub run_kept : (track : Track) → IsSound track → (moves : List Move) (machine : Machine) → Invariant track machine → MayRun right_rules track moves machine
    → Invariant track (run right_rules track moves machine)
run_kept track sound [] machine kept may = kept
run_kept track sound (move ∷ moves) machine kept may = run_kept track sound moves (after track machine move) (move_kept track sound machine kept move may.0) may.1
