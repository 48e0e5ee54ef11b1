-- The invariants of two ends for each link of a world, for the proofs.
use Rattle.std.specs.Prelude.{ℕ, ◌<◌}
use Rattle.rasta_core_spec.specs.Each.{Each}
use Rattle.rasta_core_spec.specs.Names.{Names}
use Rattle.rasta_core_spec.specs.TrueClocks.{Offset}
use Rattle.rasta_core_spec.specs.identity.Role.{Role}
use Rattle.rasta_core.specs.Invariant.{Timely, TimelyBy}
use Rattle.rasta_core.specs.Ordered.{Ordered}
use Rattle.rasta_core.specs.Links.{Links, seen}

-- each link keeps time, and each datagram is of one of the links
pub record AreTimely (count : ℕ) (names : ℕ → Names) (links : Links) : Type 0 where
  pub each : (link : ℕ) → link < count → Timely (names link) (seen link links)
  pub numbered : Each (λ one. one.link < count) links.sent

-- each link keeps time, with clocks that are off so far
pub record AreTimelyBy (count : ℕ) (names : ℕ → Names) (offsets : ℕ → Role → Offset) (links : Links) : Type 0 where
  pub each : (link : ℕ) → link < count → TimelyBy (names link) (offsets link) (seen link links)
  pub numbered : Each (λ one. one.link < count) links.sent

-- each link is in order
abbrev pub AreOrdered : ℕ → (ℕ → Names) → Links → Type 0
AreOrdered count names links = (link : ℕ) → link < count → Ordered (names link) (seen link links)
