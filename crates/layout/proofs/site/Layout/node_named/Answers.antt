use Rattle.std.proofs.Common.{◌∙◌, [], ap, sym, arith}
use Rattle.std.specs.Option.{option_map}
use Rattle.std.specs.Str.{bytes_eq}
use Rattle.layout.specs.Nodes.{node_names}
use Rattle.layout.specs.declared.ids.NodeId.{NodeId}
use Rattle.layout.proofs.NodePlaces.{place_found, place_missing}
use Rattle.layout.proofs.site.Layout.node_named.Goals as goal

pub returns-then-is_called : goal.returns-then-is_called
returns-then-is_called c =
    ap (option_map {U = NodeId} (λ number. record { 0 = number }))
    (place_found (λ name. bytes_eq name c.args.word.now) [] c.loop-number.number (node_names c.args.self.now)
    (omega (arith, c.loop-number-test.true, c.nodes-number-end.ensures.names)) c.loop-number.invariant
    (sym c.is_called.ensures ∙ c.if-is_called.true))

pub returns : goal.returns
returns c =
    ap (option_map {U = NodeId} (λ number. record { 0 = number }))
    (place_missing (λ name. bytes_eq name c.args.word.now) [] (node_names c.args.self.now)
    (λ k below. c.loop-number.invariant k (omega (arith, below, c.loop-number-test.false, c.nodes-number-end.ensures.names))))
