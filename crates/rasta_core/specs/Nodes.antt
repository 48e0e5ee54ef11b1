-- A node of a world: the client of many links, or the server of one. What it does in a step, and how it is made anew.
use Rattle.std.specs.Prelude.{ℕ, ◌==◌, Bool, true, false, List, [], ◌∷◌, map, if◌then◌else◌}
use Rattle.rasta_core_spec.specs.identity.Role.{Role}
use Rattle.rasta_core_spec.specs.Ends.{Call}
use Rattle.rasta_core.specs.Links.{CallsOn, LinksEvent, RestartsOn}

-- a call that a node makes at its end of a link
pub record NodeCall : Type 0 where
  pub link : ℕ
  pub call : Call

-- a step: calls one after another, at one clock
abbrev pub calls_of : Role → List NodeCall → List LinksEvent
calls_of who calls = map (λ made. CallsOn made.link who made.call) calls

-- those at one link
abbrev pub at_link : ℕ → List NodeCall → List Call
at_link link [] = []
at_link link (first ∷ later) = if link == first.link then first.call ∷ at_link link later else at_link link later

-- a node is made anew with its ends of all these links, at one clock, each with a first sequence number of its own
abbrev pub restarts_of : Role → ℕ → (ℕ → ℕ) → List ℕ → List LinksEvent
restarts_of who clock firsts links = map (λ link. RestartsOn link who clock (firsts link)) links

abbrev pub is_among : ℕ → List ℕ → Bool
is_among link [] = false
is_among link (first ∷ later) = if link == first then true else is_among link later
