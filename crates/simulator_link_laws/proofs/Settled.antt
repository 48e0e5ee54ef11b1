-- The clock rules at a later reading, and at a link that is in no connection.
use Rattle.std.proofs.Common.{◌≡◌, ℕ, ◌≤◌, Bool, true, false, nat_le, ◌&&◌, if◌then◌else◌, arith, refl, ap, sym, ◌∙◌}
use Rattle.std.proofs.lemmas.Bool.Decides.{nat_tests}
use Rattle.simulator_spec.specs.rasta_core.Calls.{created}
use Rattle.simulator_spec.specs.rasta_core.Clock.{deadline, settled}
use Rattle.simulator_spec.specs.rasta_core.State.{LinkState, is_open}
use Rattle.simulator_spec.specs.rasta_core.identity.Identity.{Identity}
use Rattle.simulator_spec.specs.rasta_core.phase.Phase.TheVariants as phase
use Rattle.simulator_link_laws.proofs.Lists.{by_test}

past : (a b c : ℕ) → a ≤ b → nat_le c a ≡ true → nat_le c b ≡ true
past a b c later at = grind (arith, nat_tests)

settled_late : (now : ℕ) (link : LinkState) → is_open link.phase ≡ true → nat_le (deadline link) now ≡ true →
    settled now link ≡ record link { phase = phase.Closed; closed_at = deadline link; clock = now }
unfolding settled
settled_late now link opened late = rw (opened, late) refl

settled_early : (now : ℕ) (link : LinkState) → is_open link.phase ≡ true → nat_le (deadline link) now ≡ false → settled now link ≡ record link { clock = now }
unfolding settled
settled_early now link opened early = rw (opened, early) refl

pub settled_shut : (now : ℕ) (link : LinkState) → is_open link.phase ≡ false → settled now link ≡ record link { clock = now }
unfolding settled
settled_shut now link closed = rw closed refl

alive_then : (earlier : ℕ) (link : LinkState) → deadline (record link { clock = earlier }) ≡ deadline link
unfolding deadline
alive_then earlier link = refl

settled_from : (earlier now : ℕ) (link : LinkState) → settled now (record link { clock = earlier }) ≡ settled now link
unfolding settled
settled_from earlier now link =
    ap (λ alive. if is_open link.phase && nat_le alive now then record link { phase = phase.Closed; closed_at = alive; clock = now } else record link { clock = now })
    (alive_then earlier link)

-- twice is once, at the later reading
pub settled_twice : (earlier now : ℕ) (link : LinkState) → earlier ≤ now → settled now (settled earlier link) ≡ settled now link
settled_twice earlier now link later = cases (is_open link.phase) (nat_le (deadline link) earlier) refl refl where
  cases : (o b : Bool) → is_open link.phase ≡ o → nat_le (deadline link) earlier ≡ b → settled now (settled earlier link) ≡ settled now link
  cases false b closed at = ap (settled now) (settled_shut earlier link closed) ∙ settled_from earlier now link
  cases true true opened at =
      ap (settled now) (settled_late earlier link opened at)
      ∙ settled_shut now (record link { phase = phase.Closed; closed_at = deadline link; clock = earlier }) refl
      ∙ sym (settled_late now link opened (past earlier now (deadline link) later at))
  cases true false opened at = ap (settled now) (settled_early earlier link opened at) ∙ settled_from earlier now link

pub settled_identity : (now : ℕ) (link : LinkState) → (settled now link).identity ≡ link.identity
unfolding settled
settled_identity now link = by_test (λ (l : LinkState). l.identity ≡ link.identity) (is_open link.phase && nat_le (deadline link) now)
    (record link { phase = phase.Closed; closed_at = deadline link; clock = now }) (record link { clock = now }) (λ e. refl) (λ e. refl)

pub settled_new : (identity : Identity) (first clock : ℕ) → settled clock (created identity first clock) ≡ created identity first clock
unfolding settled created
settled_new identity first clock = refl
