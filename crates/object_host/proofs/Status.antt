-- Telling the initial status, report by report.
use Rattle.std.proofs.Common.{◌≡◌, ℕ, ◌+◌, ◌-◌, ◌<◌, suc, List, [], ◌∷◌, arith, refl, ap, sym, ◌∙◌, subst}
use Rattle.std.specs.Prelude.{Some, None}
use Rattle.rasta_core.specs.Outbox.{OutboxState}
use Rattle.object_host.specs.Behaviour.{Behaviour}
use Rattle.object_host.specs.Host.{HostState, HostSoFar}
use Rattle.object_host.specs.Step.{initial_status, most_objects, posting, posting_all, report_then, telling_status}
use Rattle.object_host.specs.declared.report.Report.{Report}
use Rattle.object_host.specs.inside.Performed.{IsPerformed, may_send}
use Rattle.object_host.proofs.UnderWay.{IsFirst, IsNothing, IsUnderWay, goes_on}

module _ {Object : Type 0} (does : Behaviour Object) where
  -- the reports from a place on
  abbrev pub status_from : ℕ → Object → List Report
  status_from place object = initial_status does (most_objects - place) place object

  status_next : (place : ℕ) (object : Object) → place < most_objects →
      status_from place object ≡ report_then (does.status place object) (status_from (place + 1) object)
  unfolding initial_status
  status_next place object within =
      let e : most_objects - place ≡ suc (most_objects - (place + 1)) = omega (arith, within) in rw e refl

  abbrev pub left_at : ℕ → ℕ → HostState Object → HostSoFar Object
  left_at now place host = posting_all now (status_from place host.object) host

  -- the reports before this place were told, and those from it on are left
  pub record IsTelling (now : ℕ) (start : HostState Object) (box : OutboxState) (place : ℕ) (host : HostState Object) (outbox : OutboxState) : Type 0 where
    pub way : IsUnderWay now start box (telling_status does now start) host outbox (left_at now place host)

  nothing : (now : ℕ) (host : HostState Object) (reports : List Report) → reports ≡ [] → IsNothing host (posting_all now reports host)
  unfolding posting_all
  nothing now host reports none = record {
    stays = ap (λ rs. (posting_all now rs host).host) none;
    posts_none = ap (λ rs. (posting_all now rs host).pdus) none;
    calls_none = ap (λ rs. (posting_all now rs host).calls) none;
  }

  pub nothing_at : (now place : ℕ) (host : HostState Object) → place < most_objects → does.status place host.object ≡ None → IsNothing host (left_at now place host)
  nothing_at now place host within none =
      nothing now host _ (status_next place host.object within ∙ ap (λ found. report_then found (status_from (place + 1) host.object)) none)

  pub nothing_at_end : (now place : ℕ) (host : HostState Object) → place ≡ most_objects → IsNothing host (left_at now place host)
  unfolding initial_status
  nothing_at_end now place host last = nothing now host _ (ap (λ p. status_from p host.object) last)

  pub first_at : (now place : ℕ) (host : HostState Object) (report : Report) → place < most_objects → does.status place host.object ≡ Some report →
      IsFirst (left_at now place host) (posting now report host) (left_at now (place + 1) (posting now report host).host)
  unfolding posting_all posting
  first_at now place host report within found =
      let reports : status_from place host.object ≡ report ∷ status_from (place + 1) host.object =
      status_next place host.object within ∙ ap (λ o. report_then o (status_from (place + 1) host.object)) found
      in record {
        ends_same = ap (λ rs. (posting_all now rs host).host) reports;
        pdus_joined = ap (λ rs. (posting_all now rs host).pdus) reports;
        calls_joined = ap (λ rs. (posting_all now rs host).calls) reports;
      }

  pub telling_next : (now : ℕ) (start : HostState Object) (box : OutboxState) (place : ℕ) (host : HostState Object) (outbox : OutboxState) (report : Report) (new : HostState Object) (out : OutboxState) →
      IsTelling now start box place host outbox → place < most_objects → does.status place host.object ≡ Some report →
      IsPerformed (may_send host.link) now (posting now report host) host new outbox out → IsTelling now start box (place + 1) new out
  telling_next now start box place host outbox report new out telling within found made =
      let next = goes_on now start box _ host outbox _ _ _ new out telling.way (first_at now place host report within found) made
      in record {
        way = subst (λ h. IsUnderWay now start box (telling_status does now start) new out (left_at now (place + 1) h)) (sym made.host) next;
      }
