use Rattle.std.proofs.Common.{◌≡◌, subst}
use Rattle.ixl_state.specs.ixl_spec.View.{indicated}
use Rattle.ixl.specs.Interlocking.{InterlockingState}
use Rattle.ixl.proofs.Views.{of_nodes}
use Rattle.ixl.proofs.interlocking.Interlocking.indicated.Goals as goal

pub returns : goal.returns
returns c = subst (λ (i : InterlockingState). c.indicated.result ≡ indicated i.state.ixl c.args.signal.0) c.self.view_is
    (of_nodes (λ ixl. c.indicated.result ≡ indicated ixl c.args.signal.0) c.self.inside.state c.field.result.now c.field.ensures c.indicated.ensures)
