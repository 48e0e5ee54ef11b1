-- A connection stays in order where an end drops the items that its partner confirms, and where it has taken more.
use Rattle.std.proofs.Common.{ℕ, ◌+◌, ◌<◌, ◌≤◌, Bool, List, [], refl, sym, ap, ◌∙◌, arith}
use Rattle.std.proofs.lemmas.List.{append-nil}
use Rattle.rasta_core_spec.specs.Receipt.{still_waiting}
use Rattle.rasta_core.specs.EndFlow.{EndFlow, sent}
use Rattle.rasta_core.specs.Order.{Waits, Way}
use Rattle.rasta_core.proofs.Tags.{still_few, still_later, still_rises, still_last}
use Rattle.rasta_core.proofs.GiverGrowth.{Extends, grown}
use Rattle.rasta_core.proofs.OrderOfTaken.{holding}

-- the items up to a number are confirmed
abbrev pub drops : ℕ → EndFlow → EndFlow
drops confirmed part = holding (still_waiting confirmed part.waiting) part

pub giver_dropped : (own other : EndFlow) (confirmed : ℕ) → Way own other → confirmed < other.reached → Way (drops confirmed own) other
giver_dropped own other confirmed way lt =
    grown own (drops confirmed own) other [] way extends (record { fits = way.counts.fits; some = way.counts.some; most = way.counts.most; all = way.counts.all; passed = way.counts.passed })
    waits
    (λ place that at. absurd at)
    (λ place that at body. at)
    (λ number from most level. ap (λ count. own.passed number + count) (still_later confirmed number own.waiting (omega arith)) ∙ level)
    (λ number above most. absurd (omega (arith, above, most)))
  where
    extends : Extends own (drops confirmed own) []
    extends = record {
      first = refl;
      flow = sym (append-nil own.flow);
      passed = λ number le. refl;
      expecting = λ number lt. refl;
      given = λ number le. refl;
      reached = omega arith;
    }

    waits : Waits (drops confirmed own)
    waits = record {
      few = omega (arith, way.waits.few, still_few confirmed own.waiting);
      rises = still_rises confirmed 0 (sent own) own.waiting way.waits.rises;
      last = still_last confirmed way.waits.last.0 own.given own.waiting way.waits.last.1;
    }

-- an end that has taken more gives as before
abbrev pub farther : ℕ → Bool → List (List ℕ) → EndFlow → EndFlow
farther reached reading taken part = record part { reached = reached; reading = reading; taken = taken }

pub giver_went_on : (own other : EndFlow) (reached : ℕ) (reading : Bool) (taken : List (List ℕ)) → Way own other → own.reached ≤ reached → Way (farther reached reading taken own) other
giver_went_on own other reached reading taken way le =
    grown own (farther reached reading taken own) other [] way extends
    (record { fits = way.counts.fits; some = way.counts.some; most = way.counts.most; all = way.counts.all; passed = way.counts.passed })
    (record { few = way.waits.few; rises = way.waits.rises; last = way.waits.last })
    (λ place that at. absurd at)
    (λ place that at body. at)
    (λ number from most level. level)
    (λ number above most. absurd (omega (arith, above, most)))
  where
    extends : Extends own (farther reached reading taken own) []
    extends = record {
      first = refl;
      flow = sym (append-nil own.flow);
      passed = λ number le. refl;
      expecting = λ number lt. refl;
      given = λ number le. refl;
      reached = le;
    }
