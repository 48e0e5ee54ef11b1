use Rattle.ixl_laws.proofs.HistoryStep.{begins_told, goes_on_told}
use Rattle.ixl_laws.proofs.OnPath.{comes_alone}
use Rattle.ixl_laws.proofs.laws.routes_keep_what_was_told_since_authority.Goals as goal

pub returns-clause-first : goal.returns-clause-first
returns-clause-first c now input old new answer number row before after step there is also not_yet given_now =
    begins_told now (c.step_hears_what_was_taken.ensures now) old number row there before is not_yet input new answer step after also given_now

pub returns-clause-kept : goal.returns-clause-kept
returns-clause-kept c now input old new answer number row before after history step there is also authorised still was =
    goes_on_told now (c.step_hears_what_was_taken.ensures now) old number row there before is authorised input new answer step after also still history was

pub returns-clause-alone : goal.returns-clause-alone
returns-clause-alone c site table number row section place is_table there stands = comes_alone site table is_table number row there section place stands
