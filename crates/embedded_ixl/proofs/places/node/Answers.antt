use Rattle.std.proofs.Common.{◌∙◌, [], sym, arith}
use Rattle.std.specs.Str.{bytes_eq}
use Rattle.ixl_state.specs.layout.Nodes.{node_names}
use Rattle.embedded_ixl.proofs.FirstPlaces.{place_found, place_missing}
use Rattle.embedded_ixl.proofs.places.node.Goals as goal

pub returns-then-is_called : goal.returns-then-is_called
returns-then-is_called c =
    place_found (λ other. bytes_eq other c.args.name.now) [] c.loop-number.number (node_names c.args.layout.now)
    (omega (arith, c.loop-number-test.true, c.nodes-number-end.ensures.names)) c.loop-number.invariant
    (sym c.is_called.ensures ∙ c.if-is_called.true)

pub returns : goal.returns
returns c =
    place_missing (λ other. bytes_eq other c.args.name.now) [] (node_names c.args.layout.now)
    (λ k below. c.loop-number.invariant k (omega (arith, below, c.loop-number-test.false, c.nodes-number-end.ensures.names)))
