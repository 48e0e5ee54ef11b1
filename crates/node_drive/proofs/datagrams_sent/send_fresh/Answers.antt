use Rattle.std.proofs.Common.{◌∙◌, sym, ap}
use Rattle.node_drive.specs.Inside.{waiting_of_code}
use Rattle.node_drive.specs.Rounds.{sent}
use Rattle.node_drive.proofs.Calls.{calls_none, calls_same, sends_same}
use Rattle.node_drive.proofs.Sending.{fresh_is, stale_is}
use Rattle.node_drive.proofs.datagrams_sent.send_fresh.Goals as goal

-- it waited too long
pub returns-then-not-is_fresh : goal.returns-then-not-is_fresh
returns-then-not-is_fresh g c =
    let stale = stale_is c.args.reading (waiting_of_code c.args.one.now) (sym c.is_fresh.ensures ∙ c.if-not-is_fresh.true) in
    calls_same (ap sent (sym stale)) (calls_none _)

pub returns : goal.returns
returns g c =
    let fresh = fresh_is c.args.reading (waiting_of_code c.args.one.now) (sym c.is_fresh.ensures ∙ c.if-not-is_fresh.false) in
    calls_same (ap sent (sym fresh)) (sends_same c.deref.ensures.0 c.send.ensures)
