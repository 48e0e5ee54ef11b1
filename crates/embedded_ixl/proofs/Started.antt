-- The laws of leaving and hearing, from a start.
use Rattle.std.proofs.Common.{◌≡◌, ℕ, ◌+◌, ◌≤◌, List, Some, Ok, Result, refl, ap, subst}
use Rattle.std.specs.Prelude.{is_ok}
use Rattle.ixl_state.specs.State.{StateView}
use Rattle.embedded_ixl.specs.Calls.{Call, Hears, Takes, after_calls, answer_to, leaves_by}
use Rattle.embedded_ixl.specs.Embedded.{started}
use Rattle.embedded_ixl.specs.Leaving.{LeavesRightly, WaitedBriefly}
use Rattle.embedded_ixl.specs.declared.call_refusal.CallRefusal.{CallRefusal}
use Rattle.embedded_ixl.proofs.Heard as heard
use Rattle.embedded_ixl.proofs.Left as left

module _ (state : StateView) (begun : ℕ) (calls : List Call) (now : ℕ) where
  pub leaves_rightly : (datagram : List ℕ) → leaves_by (Takes now) (after_calls calls (started state begun)) ≡ Some datagram
      → LeavesRightly (started state begun) calls now datagram × (begun + 2000 ≤ now)
  leaves_rightly datagram leaves =
      let both = left.leaves_rightly (started state begun) calls now datagram refl leaves
      in (both.0, subst (λ (since : ℕ). since + 2000 ≤ now) (heard.begun_once (started state begun) calls) both.1)

  pub waited_briefly : (bytes : List ℕ) → answer_to (Hears now bytes) (after_calls calls (started state begun)) ≡ Ok tt
      → WaitedBriefly (started state begun) calls now × (begun + 2000 ≤ now)
  waited_briefly bytes ok =
      let both = heard.waited_briefly (started state begun) calls now bytes refl (ap (λ (answer : Result (Unit {0}) CallRefusal). is_ok answer) ok)
      in (both.0, subst (λ (since : ℕ). since + 2000 ≤ now) (heard.begun_once (started state begun) calls) both.1)
