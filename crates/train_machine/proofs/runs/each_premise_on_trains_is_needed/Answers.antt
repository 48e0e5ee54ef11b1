use Rattle.train_machine.proofs.Broken.{disobeyed_broken, following_broken, passed_again_broken, met_in_throat_broken, met_in_joined_broken, opposing_broken, let_in_early_broken, let_in_stale_broken, let_in_before_broken, resumed_early_broken, resumed_stale_broken, turned_back_broken, went_on_resumed_broken}
use Rattle.train_machine.proofs.runs.each_premise_on_trains_is_needed.Goals as goal

pub returns-clause-obey : goal.returns-clause-obey
returns-clause-obey c = disobeyed_broken

pub returns-clause-headway : goal.returns-clause-headway
returns-clause-headway c = following_broken

pub returns-clause-own : goal.returns-clause-own
returns-clause-own c = passed_again_broken

pub returns-clause-inlet : goal.returns-clause-inlet
returns-clause-inlet c = met_in_throat_broken

pub returns-clause-inlet_joined : goal.returns-clause-inlet_joined
returns-clause-inlet_joined c = met_in_joined_broken

pub returns-clause-inlet_held : goal.returns-clause-inlet_held
returns-clause-inlet_held c = opposing_broken

pub returns-clause-let_in : goal.returns-clause-let_in
returns-clause-let_in c = let_in_early_broken

pub returns-clause-stale : goal.returns-clause-stale
returns-clause-stale c = let_in_stale_broken

pub returns-clause-let_in_before : goal.returns-clause-let_in_before
returns-clause-let_in_before c = let_in_before_broken

pub returns-clause-stood : goal.returns-clause-stood
returns-clause-stood c = resumed_early_broken

pub returns-clause-stood_gone : goal.returns-clause-stood_gone
returns-clause-stood_gone c = resumed_stale_broken

pub returns-clause-turn : goal.returns-clause-turn
returns-clause-turn c = turned_back_broken

pub returns-clause-stands : goal.returns-clause-stands
returns-clause-stands c = went_on_resumed_broken
