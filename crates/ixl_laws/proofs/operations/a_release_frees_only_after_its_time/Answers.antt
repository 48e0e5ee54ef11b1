use Rattle.ixl_laws.proofs.FreedByRelease.{ended_in_turn, freed_in_turn}
use Rattle.ixl_laws.proofs.ReleasedSteps.{released_before}
use Rattle.ixl_laws.proofs.operations.a_release_frees_only_after_its_time.Goals as goal

pub returns-clause-before : goal.returns-clause-before
returns-clause-before c number first others place taken chain unreleased at frees = released_before number first others place taken chain unreleased at frees

pub returns-clause-ended : goal.returns-clause-ended
returns-clause-ended c now number input old new step place taken ended at frees = ended_in_turn now number input old new step place taken ended at frees

pub returns-clause-freed : goal.returns-clause-freed
returns-clause-freed c now number input old new step place taken ended at frees = freed_in_turn now number input old new step place taken ended at frees
