use Rattle.std.proofs.Common.{◌==◌, arith}
use Rattle.layout.specs.Nodes.{partners}
use Rattle.layout.proofs.NodePlaces.{partners_count, place_found, place_missing}
use Rattle.layout.proofs.site.Layout.link_with.Goals as goal

pub returns-then-partner-identity-clause-place : goal.returns-then-partner-identity-clause-place
returns-then-partner-identity-clause-place c =
    place_found (λ id. id == c.args.identity) 0 c.loop-link.link (partners c.args.self.now)
    (omega (arith, c.loop-link-test.true, c.links-link-end.ensures.value, partners_count c.args.self.now)) c.loop-link.invariant
    (grind (arith, c.partner.ensures, c.if-partner-identity.true))

pub returns-clause-place : goal.returns-clause-place
returns-clause-place c =
    place_missing (λ id. id == c.args.identity) 0 (partners c.args.self.now)
    (λ k below. c.loop-link.invariant k (omega (arith, below, c.loop-link-test.false, c.links-link-end.ensures.value, partners_count c.args.self.now)))
