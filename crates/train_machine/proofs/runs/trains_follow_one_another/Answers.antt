use Rattle.std.proofs.Common.{refl}
use Rattle.train_machine.proofs.Sound.{line_sound, small_sound, joined_sound}
use Rattle.train_machine.proofs.Lawful.{followed_may, restarted_may}
use Rattle.train_machine.proofs.runs.trains_follow_one_another.Goals as goal

pub returns-clause-line : goal.returns-clause-line
returns-clause-line c = line_sound

pub returns-clause-small : goal.returns-clause-small
returns-clause-small c = small_sound

pub returns-clause-joined : goal.returns-clause-joined
returns-clause-joined c = joined_sound

pub returns-clause-follow : goal.returns-clause-follow
returns-clause-follow c = (followed_may, refl, refl)

pub returns-clause-restart : goal.returns-clause-restart
returns-clause-restart c = (restarted_may, refl, refl)
