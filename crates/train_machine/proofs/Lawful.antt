-- Runs that may be made, bounds that are exact, and a machine that withdraws nothing.
use Rattle.std.proofs.Common.{rules, ◌≤◌, false, List, [], ◌∷◌, ◌++◌, refl, arith}
use Rattle.train_machine.specs.Track.{Left, Track}
use Rattle.train_machine.specs.Machine.{Machine}
use Rattle.train_machine.specs.Moves.{Move, Passes, Hears, FreesCancelled, Resumes, May}
use Rattle.train_machine.specs.Run.{MayRun, right_rules, run}
use Rattle.train_machine.specs.Stations.{line, small}
use Rattle.train_machine.specs.Wrong.{Breaks, Omission, plain, start, after_unwithdrawn, withdraws_nothing}
use Rattle.train_machine.specs.Runs.{followed, restarted, follow_early, follow_late, cancelled, went_on, unwithdrawn}
use Rattle.train_machine.proofs.Checks.{Can}
use Rattle.train_machine.proofs.Checked.{IsSmall, within, can_may, small_kept, told_small}
use Rattle.train_machine.proofs.CanRun.{CanRun, can_run, start_small, stands_lawfully}

-- nothing is left out
abbrev nothing : Omission
nothing = record { touches = λ move. false; view = λ machine move. plain }

may_run : (track : Track) (moves : List Move) (machine : Machine) → IsSmall machine → CanRun nothing track moves machine → MayRun right_rules track moves machine
may_run track moves machine small_one can =
    can_run nothing (λ machine move. record { absent = λ t e. e; loose = λ t e f. f; told = λ n s e. e; entered = λ n s e. e; unset = λ n r e. e; free = λ r e. e })
    track moves machine small_one can

start_none : IsSmall (start [] Left)
start_none = record {
  absent = λ n. refl;
  loose = λ n. refl;
  told = λ n. refl;
  entered = λ n. refl;
  unset = λ n section. refl;
  free = λ n. refl;
  unheld = λ route n. refl;
}

pub followed_may : MayRun right_rules line followed (start [] Left)
followed_may = may_run line followed (start [] Left) start_none (search rules)

pub restarted_may : MayRun right_rules line restarted (start [] Left)
restarted_may = may_run line restarted (start [] Left) start_none (search rules)

pub early_may : MayRun right_rules line follow_early (start ((0 ∷ []) ∷ [] ∷ [] ∷ []) Left)
early_may = may_run line follow_early (start ((0 ∷ []) ∷ [] ∷ [] ∷ []) Left) (start_small (0 ∷ []) [] [] Left) (search rules)

pub late_may : MayRun right_rules line (follow_late 3603) (start ((0 ∷ []) ∷ [] ∷ [] ∷ []) Left)
late_may = may_run line (follow_late 3603) (start ((0 ∷ []) ∷ [] ∷ [] ∷ []) Left) (start_small (0 ∷ []) [] [] Left) (search rules)

pub later_may : MayRun right_rules line (follow_late 3604) (start ((0 ∷ []) ∷ [] ∷ [] ∷ []) Left)
later_may = may_run line (follow_late 3604) (start ((0 ∷ []) ∷ [] ∷ [] ∷ []) Left) (start_small (0 ∷ []) [] [] Left) (search rules)

pub cancelled_may : MayRun right_rules small (cancelled 1801 ++ FreesCancelled 2 ∷ []) (start ((7 ∷ []) ∷ [] ∷ [] ∷ []) Left)
cancelled_may = may_run small (cancelled 1801 ++ FreesCancelled 2 ∷ []) (start ((7 ∷ []) ∷ [] ∷ [] ∷ []) Left) (start_small (7 ∷ []) [] [] Left) (search rules)

pub resumed_may : MayRun right_rules small (went_on 1801 ++ Resumes ∷ []) (start ((7 ∷ []) ∷ [] ∷ [] ∷ []) Left)
resumed_may = may_run small (went_on 1801 ++ Resumes ∷ []) (start ((7 ∷ []) ∷ [] ∷ [] ∷ []) Left) (start_small (7 ∷ []) [] [] Left) (search rules)

pub held_may : MayRun right_rules small (cancelled 1800) (start ((7 ∷ []) ∷ [] ∷ [] ∷ []) Left)
held_may = may_run small (cancelled 1800) (start ((7 ∷ []) ∷ [] ∷ [] ∷ []) Left) (start_small (7 ∷ []) [] [] Left) (search rules)

pub hold_may : MayRun right_rules small (went_on 1800) (start ((7 ∷ []) ∷ [] ∷ [] ∷ []) Left)
hold_may = may_run small (went_on 1800) (start ((7 ∷ []) ∷ [] ∷ [] ∷ []) Left) (start_small (7 ∷ []) [] [] Left) (search rules)

-- ---- refused

pub early_refused : May line (run right_rules line follow_early (start ((0 ∷ []) ∷ [] ∷ [] ∷ []) Left)) (Passes 1 0 2) → ⊥
early_refused may = may.headway

pub late_refused : May line (run right_rules line (follow_late 3603) (start ((0 ∷ []) ∷ [] ∷ [] ∷ []) Left)) (Passes 1 0 2) → ⊥
late_refused may = let h : 3604 ≤ 3603 = may.headway in omega (arith, h)

pub later_refused : May line (run right_rules line (follow_late 3604) (start ((0 ∷ []) ∷ [] ∷ [] ∷ []) Left)) (Passes 1 0 2) → ⊥
later_refused may = let d : 3605 ≤ 3604 = may.dark refl in omega (arith, d)

pub cancelled_refused : May small (run right_rules small (cancelled 1800) (start ((7 ∷ []) ∷ [] ∷ [] ∷ []) Left)) (FreesCancelled 2) → ⊥
cancelled_refused may = let o : 1801 ≤ 1800 = may.over in omega (arith, o)

pub resumed_refused : May small (run right_rules small (went_on 1800) (start ((7 ∷ []) ∷ [] ∷ [] ∷ []) Left)) Resumes → ⊥
resumed_refused may = let s : 1801 ≤ 1800 = may 1 in omega (arith, s)

-- ---- without the rule of withdrawal

unwithdrawn_small : (track : Track) (machine : Machine) → IsSmall machine → (move : Move) → Can track machine move → IsSmall (after_unwithdrawn track machine move)
unwithdrawn_small track machine small_one (Hears section news) can =
    let old = told_small machine small_one section news (within track machine (Hears section news) can) in record {
      absent = small_one.absent;
      loose = small_one.loose;
      told = old.told;
      entered = old.entered;
      unset = small_one.unset;
      free = small_one.free;
      unheld = small_one.unheld;
    }
unwithdrawn_small track machine small_one move can = small_kept track machine small_one move (within track machine move can)

abbrev CanRunUnwithdrawn : Track → List Move → Machine → Type 0
CanRunUnwithdrawn track [] machine = Unit {0}
CanRunUnwithdrawn track (move ∷ moves) machine = Can track machine move × CanRunUnwithdrawn track moves (after_unwithdrawn track machine move)

can_run_unwithdrawn : (track : Track) (moves : List Move) (machine : Machine) → IsSmall machine → CanRunUnwithdrawn track moves machine → MayRun withdraws_nothing track moves machine
can_run_unwithdrawn track [] machine small_one can = tt
can_run_unwithdrawn track (move ∷ moves) machine small_one can = (
  can_may track machine small_one move can.0,
  can_run_unwithdrawn track moves (after_unwithdrawn track machine move) (unwithdrawn_small track machine small_one move can.0) can.1,
)

pub unwithdrawn_broken : Breaks line ((0 ∷ []) ∷ [] ∷ [] ∷ []) Left withdraws_nothing unwithdrawn
unwithdrawn_broken = (
  stands_lawfully line (0 ∷ []) [] [] refl refl refl refl refl refl,
  can_run_unwithdrawn line unwithdrawn (start ((0 ∷ []) ∷ [] ∷ [] ∷ []) Left) (start_small (0 ∷ []) [] [] Left) (search rules),
  λ apart. cc (apart.alone 0 1 1 refl refl),
)
