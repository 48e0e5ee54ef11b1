-- The laws of leaving and hearing, from a start.
use Rattle.std.proofs.Common.{◌≡◌, ℕ, ◌+◌, ◌≤◌, ◌++◌, List, Some, Ok, Result, refl, ap, subst}
use Rattle.std.specs.Prelude.{is_ok}
use Rattle.object_host.specs.Behaviour.{Behaviour}
use Rattle.object_host.specs.Host.{HostState}
use Rattle.embedded_host.specs.Calls.{Call, Hears, Takes, after_calls, answer_to, leaves_by}
use Rattle.embedded_host.specs.Embedded.{started}
use Rattle.embedded_host.specs.Inputs.{inputs_by}
use Rattle.embedded_host.specs.Leaving.{IsHandedOutBy, LeavesRightly, WaitedBriefly}
use Rattle.embedded_host.specs.Orders.{up_to_done}
use Rattle.embedded_host.specs.declared.refusal.Refusal.{Refusal}
use Rattle.embedded_host.proofs.Counted as counted
use Rattle.embedded_host.proofs.Heard as heard
use Rattle.embedded_host.proofs.Left as left

module _ {Object : Type 0} (does : Behaviour Object) (host : HostState Object) (begun : ℕ) (calls : List Call) (now : ℕ) where
  pub leaves_rightly : (datagram : List ℕ) → leaves_by (Takes now) (after_calls does calls (started host begun)) ≡ Some datagram
      → LeavesRightly does (started host begun) calls now datagram × (begun + 2000 ≤ now)
  leaves_rightly datagram leaves =
      let both = left.leaves_rightly does (started host begun) calls now datagram refl leaves
      in (both.0, subst (λ (since : ℕ). since + 2000 ≤ now) (heard.begun_once does (started host begun) calls) both.1)

  pub leaving_counts : (later : List Call) (datagram : List ℕ) → leaves_by (Takes now) (after_calls does calls (started host begun)) ≡ Some datagram
      → IsHandedOutBy does (inputs_by does (up_to_done (calls ++ later)) (started host begun)) host now datagram
  leaving_counts later datagram leaves = counted.leaving_counts does (started host begun) calls later now datagram (leaves_rightly datagram leaves).0

  pub waited_briefly : (bytes : List ℕ) → answer_to (Hears now bytes) (after_calls does calls (started host begun)) ≡ Ok tt
      → WaitedBriefly does (started host begun) calls now × (begun + 2000 ≤ now)
  waited_briefly bytes ok =
      let both = heard.waited_briefly does (started host begun) calls now bytes refl (ap (λ (answer : Result (Unit {0}) Refusal). is_ok answer) ok)
      in (both.0, subst (λ (since : ℕ). since + 2000 ≤ now) (heard.begun_once does (started host begun) calls) both.1)
