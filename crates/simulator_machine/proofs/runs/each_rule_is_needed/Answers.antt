use Rattle.std.proofs.Common.{rules, refl, true, [], ◌∷◌}
use Rattle.simulator_machine.specs.Point.{Takes}
use Rattle.simulator_machine.specs.Moves.{AtPoint, GivesMove, Sets}
use Rattle.simulator_machine.specs.Small.{cleared, start}
use Rattle.simulator_machine.specs.Wrong.{moves_held, sparse}
use Rattle.simulator_machine.proofs.Broken.{unconfirmed_broken, believed_broken, moved_broken, twice_broken, forgotten_broken, hold_ended_broken, at_once_broken, blocked_broken, kept_broken, sparse_sound, unblocked_sparse}
use Rattle.simulator_machine.proofs.Composed.{both_may_by}
use Rattle.simulator_machine.proofs.runs.each_rule_is_needed.Goals as goal

pub returns-clause-unconfirmed : goal.returns-clause-unconfirmed
returns-clause-unconfirmed c = (search rules, unconfirmed_broken)

pub returns-clause-believed : goal.returns-clause-believed
returns-clause-believed c = (search rules, believed_broken)

pub returns-clause-sound : goal.returns-clause-sound
returns-clause-sound c = sparse_sound

pub returns-clause-moved : goal.returns-clause-moved
returns-clause-moved c = (
  both_may_by moves_held sparse cleared (Sets 1 ∷ GivesMove 0 ∷ AtPoint 0 (Takes true) ∷ []) start (search rules)
      (record { resumed = refl; free = refl; unblocked = unblocked_sparse }, search rules),
  moved_broken,
)

pub returns-clause-twice : goal.returns-clause-twice
returns-clause-twice c = (search rules, twice_broken)

pub returns-clause-forgotten : goal.returns-clause-forgotten
returns-clause-forgotten c = (search rules, forgotten_broken)

pub returns-clause-early : goal.returns-clause-early
returns-clause-early c = (search rules, hold_ended_broken)

pub returns-clause-at_once : goal.returns-clause-at_once
returns-clause-at_once c = (search rules, at_once_broken)

pub returns-clause-blocked : goal.returns-clause-blocked
returns-clause-blocked c = (search rules, blocked_broken)

pub returns-clause-kept : goal.returns-clause-kept
returns-clause-kept c = (search rules, kept_broken)
