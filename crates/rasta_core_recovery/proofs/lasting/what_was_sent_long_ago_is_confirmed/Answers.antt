use Rattle.rasta_core_recovery.proofs.Lemmas.Lasting.LongAgo.{client_since, given_since, server_since}
use Rattle.rasta_core_recovery.proofs.lasting.what_was_sent_long_ago_is_confirmed.Goals as goal

pub returns-clause-client : goal.returns-clause-client
returns-clause-client c = client_since c.laws_below.ensures

pub returns-clause-server : goal.returns-clause-server
returns-clause-server c = server_since c.laws_below.ensures

pub returns-clause-given : goal.returns-clause-given
returns-clause-given c = λ names start events more who are may may_more stay asks. given_since c.laws_below.ensures names start events more are may may_more stay who asks
