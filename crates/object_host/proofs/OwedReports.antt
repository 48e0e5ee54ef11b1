-- Sending the owed reports, one after another.
use Rattle.std.proofs.Common.{◌≡◌, ℕ, ◌+◌, ◌-◌, ◌<◌, suc, true, false, arith, refl, sym, subst}
use Rattle.std.proofs.lemmas.List.{append-nil}
use Rattle.rasta_core.specs.Outbox.{OutboxState}
use Rattle.object_host.specs.Behaviour.{Behaviour}
use Rattle.object_host.specs.Host.{HostState, HostSoFar, silent}
use Rattle.object_host.specs.Step.{goes_on, most_owed, paying, paying_first}
use Rattle.object_host.specs.inside.Performed.{IsPerformed, may_send}
use Rattle.object_host.proofs.UnderWay.{IsFirst, IsNothing, IsUnderWay}
use Rattle.object_host.proofs.UnderWay as loops

module _ {Object : Type 0} (does : Behaviour Object) where
  abbrev pub left_at : ℕ → ℕ → HostState Object → HostSoFar Object
  left_at now round host = paying does now (most_owed - round) host

  abbrev pub first_of : ℕ → HostState Object → HostSoFar Object
  first_of now host = paying_first does now (does.owed host.object) host

  -- so many reports were sent, and the others are left
  pub record IsPaying (now : ℕ) (start : HostState Object) (box : OutboxState) (round : ℕ) (host : HostState Object) (outbox : OutboxState) : Type 0 where
    pub way : IsUnderWay now start box (paying does now most_owed start) host outbox (left_at now round host)

  more : (round : ℕ) → round < most_owed → most_owed - round ≡ suc (most_owed - (round + 1))
  more round within = omega (arith, within)

  going : (now : ℕ) (rounds : ℕ) (host : HostState Object) → goes_on now (does.owed host.object) host ≡ true →
      IsFirst (paying does now (suc rounds) host) (first_of now host) (paying does now rounds (first_of now host).host)
  unfolding paying
  going now rounds host on = rw on (record { ends_same = refl; pdus_joined = refl; calls_joined = refl })

  stopping : (now : ℕ) (rounds : ℕ) (host : HostState Object) → goes_on now (does.owed host.object) host ≡ false →
      IsFirst (paying does now (suc rounds) host) (first_of now host) (silent (first_of now host).host)
  unfolding paying
  stopping now rounds host off = rw off (record { ends_same = refl; pdus_joined = sym (append-nil (first_of now host).pdus); calls_joined = sym (append-nil (first_of now host).calls) })

  pub nothing_at_end : (now round : ℕ) (host : HostState Object) → round ≡ most_owed → IsNothing host (left_at now round host)
  unfolding paying
  nothing_at_end now round host last = subst (λ r. IsNothing host (left_at now r host)) (sym last) (record { stays = refl; posts_none = refl; calls_none = refl })

  pub paying_next : (now round : ℕ) (start : HostState Object) (box : OutboxState) (host : HostState Object) (outbox : OutboxState) (new : HostState Object) (out : OutboxState) →
      IsPaying now start box round host outbox → round < most_owed → goes_on now (does.owed host.object) host ≡ true →
      IsPerformed (may_send host.link) now (first_of now host) host new outbox out → IsPaying now start box (round + 1) new out
  paying_next now round start box host outbox new out state within on made =
      let split = subst (λ n. IsFirst (paying does now n host) (first_of now host) (left_at now (round + 1) (first_of now host).host)) (sym (more round within)) (going now (most_owed - (round + 1)) host on)
      in let next = loops.goes_on now start box _ host outbox _ _ _ new out state.way split made
      in record { way = subst (λ h. IsUnderWay now start box (paying does now most_owed start) new out (left_at now (round + 1) h)) (sym made.host) next }

  pub paying_stops : (now round : ℕ) (start : HostState Object) (box : OutboxState) (host : HostState Object) (outbox : OutboxState) (new : HostState Object) (out : OutboxState) →
      IsPaying now start box round host outbox → round < most_owed → goes_on now (does.owed host.object) host ≡ false →
      IsPerformed (may_send host.link) now (first_of now host) host new outbox out → IsPerformed (may_send start.link) now (paying does now most_owed start) start new box out
  paying_stops now round start box host outbox new out state within off made =
      let split = subst (λ n. IsFirst (paying does now n host) (first_of now host) (silent (first_of now host).host)) (sym (more round within)) (stopping now (most_owed - (round + 1)) host off)
      in let next = loops.goes_on now start box _ host outbox _ _ _ new out state.way split made
      in loops.comes_to_end now start box _ new out _ next (record { stays = sym made.host; posts_none = refl; calls_none = refl })
