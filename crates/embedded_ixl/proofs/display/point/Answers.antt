use Rattle.std.proofs.Common.{◌≡◌, ◌∙◌, sym, ap, false}
use Rattle.ixl_state.specs.ixl_spec.View.{is_known}
use Rattle.ixl_state.specs.sci_telegram.declared.message.Side.TheVariants as sides
use Rattle.embedded_ixl.specs.Display.{side_known}
use Rattle.embedded_ixl.proofs.Views.{of_nodes}
use Rattle.embedded_ixl.proofs.display.point.Goals as goal

pub returns-then-is_known : goal.returns-then-is_known
returns-then-is_known c =
    let right = of_nodes (λ ixl. c.is_known.result ≡ is_known ixl c.args.place sides.Right) c.args.state.now c.field-field.result.now c.field-field.ensures c.is_known.ensures in
    ap (λ b. side_known b (is_known c.args.state.now.ixl c.args.place sides.Left)) (sym c.if-is_known.true ∙ right)

pub returns-then-is_known-2 : goal.returns-then-is_known-2
returns-then-is_known-2 c =
    let right = of_nodes (λ ixl. c.is_known.result ≡ is_known ixl c.args.place sides.Right) c.args.state.now c.field-field.result.now c.field-field.ensures c.is_known.ensures in
    let left = of_nodes (λ ixl. c.is_known-else-is_known.result ≡ is_known ixl c.args.place sides.Left) c.args.state.now c.field-field.result.now c.field-field.ensures c.is_known-else-is_known.ensures in
    ap (side_known false) (sym c.if-is_known-2.true ∙ left)
    ∙ ap (λ b. side_known b (is_known c.args.state.now.ixl c.args.place sides.Left)) (sym c.if-is_known.false ∙ right)

pub returns-else-is_known-2 : goal.returns-else-is_known-2
returns-else-is_known-2 c =
    let right = of_nodes (λ ixl. c.is_known.result ≡ is_known ixl c.args.place sides.Right) c.args.state.now c.field-field.result.now c.field-field.ensures c.is_known.ensures in
    let left = of_nodes (λ ixl. c.is_known-else-is_known.result ≡ is_known ixl c.args.place sides.Left) c.args.state.now c.field-field.result.now c.field-field.ensures c.is_known-else-is_known.ensures in
    ap (side_known false) (sym c.if-is_known-2.false ∙ left)
    ∙ ap (λ b. side_known b (is_known c.args.state.now.ixl c.args.place sides.Left)) (sym c.if-is_known.false ∙ right)
