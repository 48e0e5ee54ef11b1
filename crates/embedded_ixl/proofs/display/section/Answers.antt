use Rattle.std.proofs.Common.{◌≡◌, ◌∙◌, sym, ap, false}
use Rattle.ixl_state.specs.ixl_spec.View.{is_clear, is_occupied}
use Rattle.embedded_ixl.specs.Display.{occupancy_known}
use Rattle.embedded_ixl.proofs.Views.{in_state}
use Rattle.embedded_ixl.proofs.display.section.Goals as goal

pub returns-then-is_clear : goal.returns-then-is_clear
returns-then-is_clear c =
    let clear = in_state (λ table ixl. c.is_clear.result ≡ is_clear table ixl c.args.place) c.args.state.now c.field-field.result.now c.field-field.ensures c.is_clear.ensures in
    ap (λ b. occupancy_known b (is_occupied c.args.state.now.sited.table c.args.state.now.ixl c.args.place)) (sym c.if-is_clear.true ∙ clear)

pub returns-then-is_occupied : goal.returns-then-is_occupied
returns-then-is_occupied c =
    let clear = in_state (λ table ixl. c.is_clear.result ≡ is_clear table ixl c.args.place) c.args.state.now c.field-field.result.now c.field-field.ensures c.is_clear.ensures in
    let occupied = in_state (λ table ixl. c.is_occupied.result ≡ is_occupied table ixl c.args.place) c.args.state.now c.field-field.result.now c.field-field.ensures c.is_occupied.ensures in
    ap (λ b. occupancy_known false b) (sym c.if-is_occupied.true ∙ occupied)
    ∙ ap (λ b. occupancy_known b (is_occupied c.args.state.now.sited.table c.args.state.now.ixl c.args.place)) (sym c.if-is_clear.false ∙ clear)

pub returns-else-is_occupied : goal.returns-else-is_occupied
returns-else-is_occupied c =
    let clear = in_state (λ table ixl. c.is_clear.result ≡ is_clear table ixl c.args.place) c.args.state.now c.field-field.result.now c.field-field.ensures c.is_clear.ensures in
    let occupied = in_state (λ table ixl. c.is_occupied.result ≡ is_occupied table ixl c.args.place) c.args.state.now c.field-field.result.now c.field-field.ensures c.is_occupied.ensures in
    ap (λ b. occupancy_known false b) (sym c.if-is_occupied.false ∙ occupied)
    ∙ ap (λ b. occupancy_known b (is_occupied c.args.state.now.sited.table c.args.state.now.ixl c.args.place)) (sym c.if-is_clear.false ∙ clear)
