use Rattle.std.proofs.Common.{◌≡◌, ◌==◌, ◌<◌, ℕ, false, get_or}
use Rattle.layout.specs.Nodes.{partners}
use Rattle.layout.proofs.site.Layout.link_with.Given as goal

-- no link so far has the identity
abbrev pub invariant-loop-link : goal.invariant-loop-link
invariant-loop-link l = (k : ℕ) → k < l.link → (get_or (partners l.self) k 0 == l.identity) ≡ false
