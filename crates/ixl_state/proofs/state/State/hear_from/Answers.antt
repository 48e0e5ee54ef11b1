use Rattle.std.proofs.Common.{◌≡◌, sym, subst}
use Rattle.std.specs.Prelude.{Some, None}
use Rattle.ixl_spec.specs.Step.{node_of}
use Rattle.ixl_known.specs.Field.{FieldState, IsThere, kept, node_at}
use Rattle.ixl_state.specs.State.{rest_of}
use Rattle.ixl_state.proofs.Heard.{heard_at, heard_nowhere, nobody_told, node_told}
use Rattle.ixl_state.proofs.state.State.hear_from.Goals as goal

pub hear_at-requires-clause-there : goal.hear_at-requires-clause-there
hear_at-requires-clause-there c = subst (λ (f : FieldState). IsThere f c.in-Some.node) c.field.ensures c.in-Some.ensures.there

pub returns-in-Some-clause-goes : goal.returns-in-Some-clause-goes
returns-in-Some-clause-goes c =
    let is : Some (node_at c.in-Some.node) ≡ node_of c.args.id c.args.self.now.ixl =
    subst (λ (f : FieldState). Some (node_at c.in-Some.node) ≡ node_of c.args.id (kept f (rest_of c.args.self.now))) c.field.ensures (c.in-Some.ensures.node (rest_of c.args.self.now))
    in heard_at c.args.now 30 c.args.self.now.sited.table c.args.datagram.now c.args.id (node_at c.in-Some.node) c.args.self.now c.args.outbox.now c.hear_at.new.self c.hear_at.new.outbox (sym is) c.hear_at.ensures.goes

pub returns-in-Some-clause-verdict : goal.returns-in-Some-clause-verdict
returns-in-Some-clause-verdict c =
    let is : Some (node_at c.in-Some.node) ≡ node_of c.args.id c.args.self.now.ixl =
    subst (λ (f : FieldState). Some (node_at c.in-Some.node) ≡ node_of c.args.id (kept f (rest_of c.args.self.now))) c.field.ensures (c.in-Some.ensures.node (rest_of c.args.self.now))
    in node_told c.args.now c.args.datagram.now c.args.id (node_at c.in-Some.node) c.args.self.now.ixl c.hear_at.result (sym is) c.hear_at.ensures.verdict

pub returns-in-None-clause-goes : goal.returns-in-None-clause-goes
returns-in-None-clause-goes c =
    let none : None ≡ node_of c.args.id c.args.self.now.ixl =
    subst (λ (f : FieldState). None ≡ node_of c.args.id (kept f (rest_of c.args.self.now))) c.field.ensures (c.in-None.ensures.node (rest_of c.args.self.now))
    in heard_nowhere c.args.now 30 c.args.self.now.sited.table c.args.datagram.now c.args.id c.args.self.now c.args.outbox.now c.requires.clock (sym none)

pub returns-in-None-clause-verdict : goal.returns-in-None-clause-verdict
returns-in-None-clause-verdict c =
    let none : None ≡ node_of c.args.id c.args.self.now.ixl =
    subst (λ (f : FieldState). None ≡ node_of c.args.id (kept f (rest_of c.args.self.now))) c.field.ensures (c.in-None.ensures.node (rest_of c.args.self.now))
    in nobody_told c.args.now c.args.datagram.now c.args.id c.args.self.now.ixl (sym none)
