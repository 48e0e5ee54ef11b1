use Rattle.simulator_recovery.proofs.Lemmas.Links.SignalReplies.{reports_at_once}
use Rattle.simulator_recovery.proofs.links.signals_report_at_once.Goals as goal

pub returns : goal.returns
returns c = reports_at_once
