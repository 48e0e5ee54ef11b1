use Rattle.std.proofs.Common.{◌≡◌, ◌∷◌, take}
use Rattle.layout.specs.Nodes.{partners}
use Rattle.layout.proofs.site.Layout.identities.Given as goal

-- the interlocking's, and those of the links so far
abbrev pub invariant-loop-link : goal.invariant-loop-link
invariant-loop-link l = l.all.items ≡ l.self.station.id ∷ take l.link (partners l.self)
