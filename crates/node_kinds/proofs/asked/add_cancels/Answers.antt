use Rattle.std.proofs.Common.{◌∙◌, ◌++◌, ◌∷◌, [], if◌then◌else◌, sym, ap, subst, length, List, arith}
use Rattle.std.proofs.lemmas.List.{append-nil}
use Rattle.simulator_spec.specs.ixl_spec.Table.{SitedTable}
use Rattle.simulator_spec.specs.ixl_spec.declared.command.Command.{Command}
use Rattle.simulator_spec.specs.ixl_spec.declared.command.Command.TheVariants as command
use Rattle.ixl_state.specs.State.{HasRoute, StateView}
use Rattle.node_kinds.specs.Interlockings.{cancel_where_set, cancels}
use Rattle.node_kinds.proofs.Lists.{all_over, got_below, got_here, one_over}
use Rattle.node_kinds.proofs.asked.add_cancels.Goals as goal
use Rattle.node_kinds.proofs.asked.add_cancels.Goals.{then-is_set+in_ok-push_back, else-is_set}

pub loop-place-preserved : goal.loop-place-preserved
loop-place-preserved c =
    let self = c.args.ixl.now.state in
    let routes = self.ixl.routes in
    let place = c.loop-place.place in
    let rows = ap length (c.rows-place-end.ensures ∙ ap (λ (p : SitedTable). p.table.rows) c.table.ensures.sited) in
    let there : HasRoute self place = subst (λ (s : StateView). HasRoute s place) c.state.ensures (c.table.ensures.there place (omega (arith, rows, c.loop-place-test.true))) in
    let one = there.1 in
    let is = c.is_set.ensures there.0 one there.2 in
    let below = got_below routes place one there.2.1 in
    let here = got_here routes place one there.2.1 in
    let cancelled : List Command = command.Cancel (record { 0 = place }) ∷ [] in
    let wanted = c.args.left.now.items ++ cancels routes in
    elim c.if-is_set.branch [
      | then-is_set+in_ok-push_back w ↦ one_over cancel_where_set place routes one c.loop-place.left.items c.if-is_set.left.items wanted cancelled below here
          (ap (λ b. if b then cancelled else []) (sym w.if-is_set.true ∙ is)) (ap (λ d. d.items) w.left-is ∙ w.in_ok-push_back.ensures.items) c.loop-place.invariant
      | else-is_set w ↦ one_over cancel_where_set place routes one c.loop-place.left.items c.if-is_set.left.items wanted [] below here
          (ap (λ b. if b then cancelled else []) (sym w.if-is_set.false ∙ is)) (ap (λ d. d.items) w.left-is ∙ sym (append-nil c.loop-place.left.items)) c.loop-place.invariant
    ]

pub returns : goal.returns
returns c =
    let routes = c.args.ixl.now.state.ixl.routes in
    let rows = ap length (c.rows-place-end.ensures ∙ ap (λ (p : SitedTable). p.table.rows) c.table.ensures.sited) in
    let each = c.table.ensures.each in
    let many = ap (λ (s : StateView). length s.ixl.routes) c.state.ensures in
    all_over cancel_where_set c.loop-place.place routes c.loop-place.left.items (c.args.left.now.items ++ cancels routes) (omega (arith, rows, each, many, c.loop-place-test.false)) c.loop-place.invariant
