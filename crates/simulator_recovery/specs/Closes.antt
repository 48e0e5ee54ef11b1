-- That no node of a station closes a link.
use Rattle.std.specs.Prelude.{◌≡◌, ◌≢◌, ℕ}
use Rattle.simulator_spec.specs.rasta_core.Ends.{Closes}
use Rattle.simulator_spec.specs.rasta_core.Links.{CallsOn, LinksEvent}
use Rattle.simulator_spec.specs.rasta_core.identity.Role.TheVariants as role
use Rattle.simulator_spec.specs.rasta_core.reason.Reason.TheVariants.{Window}

-- It isn't a controller that closes a link by this.
abbrev pub LeavesServerOpen : LinksEvent → Type 0
LeavesServerOpen (CallsOn link role.Server (Closes why)) = ⊥
LeavesServerOpen _ = Unit {0}

-- If it is a client that closes a link by this, its own window is full.
abbrev pub LeavesClientOpen : LinksEvent → Type 0
LeavesClientOpen (CallsOn link role.Client (Closes why)) = why ≡ Window
LeavesClientOpen _ = Unit {0}

-- It isn't a client that closes this link by this for its own full window.
abbrev pub FillsNoWindowOn : ℕ → LinksEvent → Type 0
FillsNoWindowOn link (CallsOn at role.Client (Closes why)) = why ≡ Window → link ≢ at
FillsNoWindowOn link _ = Unit {0}

-- This closes another link, or none.
abbrev pub LeavesOpenOn : ℕ → LinksEvent → Type 0
LeavesOpenOn link (CallsOn at who (Closes why)) = link ≢ at
LeavesOpenOn link _ = Unit {0}
