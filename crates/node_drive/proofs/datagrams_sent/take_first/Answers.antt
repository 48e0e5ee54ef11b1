use Rattle.std.proofs.Common.{◌∙◌, sym, refl, arith}
use Rattle.node_drive.proofs.Sending.{first_goes, first_waits, none_waits, some_taken}
use Rattle.node_drive.proofs.datagrams_sent.take_first.Goals as goal

pub returns-in_default-clause-none : goal.returns-in_default-clause-none
returns-in_default-clause-none c =
    let few = c.in_default.ensures.item.3 in
    none_waits c.args.reading c.args.in_force c.args.waiting.now.items (omega (arith, few))

pub returns-then-waits_on-clause-none : goal.returns-then-waits_on-clause-none
returns-then-waits_on-clause-none c =
    let waits = sym c.waits_on.ensures ∙ c.if-waits_on.true in
    first_waits c.args.reading c.args.in_force c.in-Some.first.now c.args.waiting.now.items c.in-Some.ensures.item.3.0 c.in-Some.ensures.lookup waits

pub returns-clause-some : goal.returns-clause-some
returns-clause-some c =
    let goes = sym c.waits_on.ensures ∙ c.if-waits_on.false in
    first_goes c.args.reading c.args.in_force c.in-Some.first.now c.pop_front.result c.args.waiting.now.items _ c.in-Some.ensures.lookup c.pop_front.ensures.items goes

pub returns-clause-none : goal.returns-clause-none
returns-clause-none c = some_taken _ c.pop_front.result _ c.pop_front.ensures.variant (c.in-Some.ensures.variant.0 refl)
