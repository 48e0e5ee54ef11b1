use Rattle.std.proofs.Common.{◌∙◌, ap, sym, length, ◌++◌, arith, rules}
use Rattle.simulator_spec.specs.rasta_core.Outbox.{OutboxState}
use Rattle.simulator_spec.specs.Controllers.{controller_after, step_of}
use Rattle.simulator_field.proofs.Inside.{few_posted, step_handed_out, step_performed}
use Rattle.simulator_field.proofs.clocked_controller.ClockedController.step.Goals as goal

pub note-requires : goal.note-requires
note-requires g c =
    let few = few_posted _ _ _ c.step.follows.claims.0 c.step.follows.claims.1.0
    in omega (arith, few, c.len-sends.ensures.count, c.len.ensures.fits, c.len.ensures.count, c.requires)

pub send_all-requires : goal.send_all-requires
send_all-requires g c =
    let few = few_posted _ _ _ c.step.follows.claims.0 c.step.follows.claims.1.0
    in let lent = ap (λ (o : OutboxState). length o.datagrams) (c.step.follows.claims.0 ∙ sym c.step.follows.holds-at-none.posted)
    in omega (arith, few, lent, c.len-sends.ensures.count, c.requires)

pub returns-clause-server : goal.returns-clause-server
returns-clause-server g c =
    let does = g.C.Controller.behaviour
    in let after = c.step.follows.lender-at-none
    in let lent = ap (λ (o : OutboxState). length o.datagrams) (c.step.follows.claims.0 ∙ sym c.step.follows.holds-at-none.posted)
    in step_performed does c.args.input c.self.inside.hosted.host after.host c.send_all.new.hosted.host c.self.inside.clock c.now-now.result c.args.connection (length c.args.network.now.sent)
    c.len-sends.result c.is_inside_at-was_inside.result c.is_open-is_open.result c.self.inside.stay c.note.new.self after.outbox c.args.self.now
    c.self.view_is c.is_inside_at-was_inside.ensures c.now-now.ensures c.step.follows.holds-at-none.host c.step.follows.holds-at-none.posted (search rules) (c.len-sends.ensures.count ∙ lent) (search rules) c.send_all.ensures.host

pub returns-clause-sent : goal.returns-clause-sent
returns-clause-sent g c =
    c.send_all.ensures.sent
    ∙ ap (λ more. c.args.network.now.sent ++ more)
    (step_handed_out g.C.Controller.behaviour c.args.input c.self.inside.hosted.host c.self.inside.clock c.now-now.result c.args.link c.args.network.now.time c.self.inside.stay c.step.follows.lender-at-none.outbox c.args.self.now
    _ c.self.view_is c.now-now.ensures c.step.follows.holds-at-none.posted)

pub returns-clause-room : goal.returns-clause-room
returns-clause-room g c =
    let few = few_posted _ _ _ c.step.follows.claims.0 c.step.follows.claims.1.0
    in let lent = ap (λ (o : OutboxState). length o.datagrams) (c.step.follows.claims.0 ∙ sym c.step.follows.holds-at-none.posted)
    in omega (arith, few, lent, c.send_all.ensures.room, c.len-sends.ensures.count)
