use Rattle.std.proofs.Common.{◌≡◌, None, length, sym, subst}
use Rattle.control_table.specs.Topology.{port_of}
use Rattle.route_derivation.specs.inside.ApproachSearch.{AreReached, sections_below}
use Rattle.route_derivation.proofs.ApproachLaws.{is-approach, no-approach, over-approach}
use Rattle.route_derivation.proofs.approach.approach_of.Goals as goal

pub returns-in-None : goal.returns-in-None
returns-in-None c =
    let none = subst (λ ss. port_of ss c.args.signal ≡ None) c.signals.ensures (sym c.in-None.ensures) in
    rw c.new.ensures.items (no-approach c.args.layout.now c.args.rule c.args.signal none)

pub returns : goal.returns
returns c =
    let reached = subst (λ ps. AreReached c.args.layout.now c.args.rule c.args.signal ps) (sym c.deref.ensures.value) c.in_ok-ports.ensures in
    over-approach c.sections_over.result (λ v. v.items) c.args.layout.now c.args.rule c.args.signal (sections_below c.args.layout.now c.deref.result.now (length c.args.layout.now.sections))
    (is-approach c.args.layout.now c.joints.ensures.station c.args.rule c.args.signal c.deref.result.now reached) c.sections_over.ensures
