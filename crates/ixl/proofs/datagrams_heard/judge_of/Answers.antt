use Rattle.std.proofs.Common.{◌≡◌, ◌∙◌, Some, ap, subst, sym}
use Rattle.ixl_state.specs.ixl_known.Field.{FieldState, IsThere, kept, node_at}
use Rattle.ixl_state.specs.ixl_spec.Step.{client_at, node_of}
use Rattle.ixl_state.specs.State.{StateView, rest_of}
use Rattle.ixl.specs.inside.Judged.{is_at_limit}
use Rattle.ixl.proofs.datagrams_heard.judge_of.Goals as goal

pub returns : goal.returns
returns c =
    let state : StateView = c.args.state.now
    in let node = c.in_ok-node.node
    in let client = c.client_at.result.now
    in let named : Some (node_at node) ≡ node_of c.sender_of.result state.ixl =
    subst (λ (f : FieldState). Some (node_at node) ≡ node_of c.sender_of.result (kept f (rest_of state))) c.field.ensures (c.in_ok-node.ensures.node (rest_of state))
    in let at : client_at (node_at node) state.ixl ≡ Some client =
    subst (λ (f : FieldState). client_at (node_at node) (kept f (rest_of state)) ≡ Some client) c.field-2.ensures (c.client_at.ensures (rest_of state))
    in record {
      there = subst (λ (f : FieldState). IsThere f node) c.field.ensures c.in_ok-node.ensures.there;
      named = sym (named ∙ ap (λ id. node_of id state.ixl) c.sender_of.ensures.value);
      client = client;
      at = at;
      steady = c.link.ensures.client;
      below = ap is_at_limit (sym c.link.ensures.link) ∙ sym c.is_at_limit.ensures ∙ c.if-is_at_limit.false;
    }
