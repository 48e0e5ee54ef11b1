use Rattle.rasta_core_recovery.proofs.Lemmas.Heartbeats.ConfirmsAtOnce.{confirms_at_once, speaks_alone}
use Rattle.rasta_core_recovery.proofs.heartbeats.quiet_clients_confirm_at_once.Goals as goal

pub returns-clause-still : goal.returns-clause-still
returns-clause-still c = λ names start events passed rounds one two are may work opens room long alone. speaks_alone c.laws_below.ensures names start events passed rounds one two are may work opens room long alone

pub returns-clause-all : goal.returns-clause-all
returns-clause-all c = λ names start events passed rounds one two three are may work opens room long alone third. confirms_at_once c.laws_below.ensures names start events passed rounds one two are may work opens room long alone three third
