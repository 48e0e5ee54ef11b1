use Rattle.std.proofs.Common.{◌∷◌, [], true, false, ap, arith}
use Rattle.node_drive.specs.Calls.{AsksListener}
use Rattle.node_drive.proofs.Calls.{calls_same, cuts_none, latest_rises, stopped}
use Rattle.node_drive.proofs.Stepped.{listened_reached, opens_cut, opens_listened, opens_listened_cut, opens_quiet}
use Rattle.node_drive.proofs.rounds.begin_round.Goals as goal

-- nobody began to listen
pub returns-then-not-has_listener-clause-done : goal.returns-then-not-has_listener-clause-done
returns-then-not-has_listener-clause-done g c =
    let begins = c.read_clock-begins.result in
    let asked = calls_same (ap (λ v. AsksListener v ∷ []) c.if-not-has_listener.true) c.has_listener.ensures in
    (begins, false, opens_quiet g.N.NodeMachine.does begins (g.N.NodeMachine.node c.args.node.now).state c.args.course.now _ c.note_reading.ensures c.rest.ensures c.read_clock-begins.ensures asked)

pub returns-then-not-has_listener-clause-reached : goal.returns-then-not-has_listener-clause-reached
returns-then-not-has_listener-clause-reached g c =
    let reached = c.requires in
    let rested = latest_rises c.rest.ensures in
    let read = latest_rises c.read_clock-begins.ensures in
    let asked = latest_rises c.has_listener.ensures in
    omega (arith, reached, rested, read, asked)

-- all that stands can't be told
pub returns-in_err-tell_all-clause-stopped : goal.returns-in_err-tell_all-clause-stopped
returns-in_err-tell_all-clause-stopped g c =
    let begins = c.read_clock-begins.result in
    let asked = calls_same (ap (λ v. AsksListener v ∷ []) c.if-not-has_listener.false) c.has_listener.ensures in
    stopped c.from_residual.result
    (begins, true, opens_cut g.N.NodeMachine.does begins (g.N.NodeMachine.node c.args.node.now).state c.args.course.now c.rest.ensures c.read_clock-begins.ensures asked (cuts_none _ _))

-- or only some of it
pub returns-in_err-say_all-clause-stopped : goal.returns-in_err-say_all-clause-stopped
returns-in_err-say_all-clause-stopped g c =
    let n = g.N.NodeMachine.node in
    let begins = c.read_clock-begins.result in
    let asked = calls_same (ap (λ v. AsksListener v ∷ []) c.if-not-has_listener.false) c.has_listener.ensures in
    stopped c.from_residual-in_err-say_all.result (
      begins,
      true,
      opens_listened_cut g.N.NodeMachine.does begins (n c.args.node.now) _ c.args.course.now c.in_ok-tell_all.ensures c.rest.ensures c.read_clock-begins.ensures asked c.in_err-say_all.ensures.stopped,
    )

pub returns-clause-done : goal.returns-clause-done
returns-clause-done g c =
    let n = g.N.NodeMachine.node in
    let begins = c.read_clock-begins.result in
    let asked = calls_same (ap (λ v. AsksListener v ∷ []) c.if-not-has_listener.false) c.has_listener.ensures in
    let said = c.in_ok-say_all.ensures in (
      begins,
      true,
      opens_listened g.N.NodeMachine.does begins (n c.args.node.now) _ _ c.args.course.now _ c.in_ok-tell_all.ensures said.node c.note_reading.ensures c.rest.ensures c.read_clock-begins.ensures asked said.done,
    )

pub returns-clause-reached : goal.returns-clause-reached
returns-clause-reached g c =
    let n = g.N.NodeMachine.node in
    let said = c.in_ok-say_all.ensures in
    let same = listened_reached g.N.NodeMachine.does c.read_clock-begins.result (n c.args.node.now) _ _ c.in_ok-tell_all.ensures said.node in
    let reached = c.requires in
    let rested = latest_rises c.rest.ensures in
    let read = latest_rises c.read_clock-begins.ensures in
    let asked = latest_rises c.has_listener.ensures in
    let told = latest_rises said.done in
    omega (arith, same, reached, rested, read, asked, told)
