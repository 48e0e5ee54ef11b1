-- What the parts of a call keep, and how many PDUs they hand out.
use Rattle.std.proofs.Common.{◌≡◌, ℕ, ◌≤◌, ◌<◌, length, refl, ◌∙◌, arith, rules, IsTrue}
use Rattle.std.proofs.lemmas.Bool.Decides.{nat_tests}
use Rattle.rasta_core_link.specs.Parameters.{connection_limit}
use Rattle.rasta_core_link.specs.State.{LinkState, is_open}
use Rattle.rasta_core_link.specs.Clock.{settled}
use Rattle.rasta_core_link.specs.PdusHandedOut.{sending, telling, limited, entered}
use Rattle.rasta_core_link.specs.declared.phase.Phase.TheVariants as phase
use Rattle.rasta_core_link.specs.declared.reason.Reason.{Reason}
use Rattle.rasta_core_link.proofs.OutboxPosts.{posting}

pub identity-settled : (now : ℕ) (link : LinkState) → (settled now link).identity ≡ link.identity
unfolding settled
identity-settled now link = search rules

pub identity-telling : (why : Reason) (link : LinkState) → (telling why link).link.identity ≡ link.identity
unfolding telling sending
identity-telling why link = refl

pub phase-telling : (why : Reason) (link : LinkState) → (telling why link).link.phase ≡ phase.Closed
unfolding telling sending
phase-telling why link = refl

pub one-telling : (why : Reason) (link : LinkState) → length (telling why link).pdus ≡ 1
unfolding telling sending
one-telling why link = refl

-- a link over the limit closes and tells its partner, and any other goes on as it is
pub identity-limited : (link : LinkState) → (limited link).link.identity ≡ link.identity
unfolding limited
identity-limited link = grind (arith, identity-telling, nat_tests)

pub few-limited : (link : LinkState) → length (limited link).pdus ≤ 1
unfolding limited
few-limited link = grind (arith, one-telling, nat_tests)

pub below-limited : (link : LinkState) → IsTrue (is_open (limited link).link.phase) → (limited link).link.sent < connection_limit
unfolding limited
below-limited link h = grind (arith, phase-telling, nat_tests)

pub identity-entered : (now : ℕ) (link : LinkState) → (entered now link).link.identity ≡ link.identity
unfolding entered
identity-entered now link = identity-limited (settled now link) ∙ identity-settled now link

pub few-entered : (now : ℕ) (link : LinkState) → length (entered now link).pdus ≤ 1
unfolding entered
few-entered now link = few-limited (settled now link)

pub below-entered : (now : ℕ) (link : LinkState) → IsTrue (is_open (entered now link).link.phase) → (entered now link).link.sent < connection_limit
unfolding entered
below-entered now link = below-limited (settled now link)

pub ruleset entering = (identity-settled, identity-limited, few-limited, below-limited, posting)
