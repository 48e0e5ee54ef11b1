use Rattle.ixl_laws.proofs.RunOnce.{run_once}
use Rattle.ixl_laws.proofs.whole_step.proceed_is_given_once_in_a_setting.Goals as goal

pub returns : goal.returns
returns c number first others chain given unset place step at again = run_once number first others chain given unset place step at again
