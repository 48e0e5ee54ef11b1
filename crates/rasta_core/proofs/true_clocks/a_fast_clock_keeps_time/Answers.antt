use Rattle.std.proofs.Common.{refl}
use Rattle.rasta_core_spec.specs.Events.{started}
use Rattle.rasta_core.specs.Worked.{fast_from}
use Rattle.rasta_core.proofs.FastClock.{anew, fast_come, fast_keeps, refused, runs_away}
use Rattle.rasta_core.proofs.true_clocks.a_fast_clock_keeps_time.Goals as goal

pub returns-clause-keeps : goal.returns-clause-keeps
returns-clause-keeps c = fast_keeps

pub returns-clause-safe : goal.returns-clause-safe
returns-clause-safe c = λ names start are. c.true_clocks_keep_time.ensures.safe names start (fast_from 0 200) are (fast_come names 200 0 (started names start)) (fast_keeps names start)

pub returns-clause-last : goal.returns-clause-last
returns-clause-last c = refl

pub returns-clause-refused : goal.returns-clause-refused
returns-clause-refused c = refused

pub returns-clause-anew : goal.returns-clause-anew
returns-clause-anew c = anew

pub returns-clause-runs_away : goal.returns-clause-runs_away
returns-clause-runs_away c = runs_away
