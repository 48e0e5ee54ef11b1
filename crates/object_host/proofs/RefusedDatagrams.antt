-- A refused datagram leaves what a step with the refusal alone leaves.
use Rattle.std.proofs.Common.{◌≡◌, ℕ, List, ◌++◌, refl, ap, sym, ◌∙◌, subst}
use Rattle.std.proofs.lemmas.List.{append-nil}
use Rattle.rasta_core.specs.Clock.{settled}
use Rattle.rasta_core.specs.PdusHandedOut.{entered}
use Rattle.rasta_core.specs.Calls.{receiving}
use Rattle.rasta_core.specs.Receipt.{Receipt}
use Rattle.rasta_core.specs.Verdicts.{refused}
use Rattle.rasta_core.specs.verdict.Verdict.{Verdict}
use Rattle.object_host.specs.Behaviour.{Behaviour}
use Rattle.object_host.specs.Host.{HostState, HostSoFar, then_do}
use Rattle.object_host.specs.Refused.{LeavesRefused, RefusesRightly, refusal, step_refused}
use Rattle.object_host.specs.Step.{acting_all, beating, beginning, ending, given, hearing, host_step, most_owed, paying, received}
use Rattle.object_host.specs.declared.input.Input.{Input}
use Rattle.object_host.specs.declared.input.Input.TheVariants as inputs
use Rattle.object_host.proofs.Made.{begun_link}

module _ {Object : Type 0} (does : Behaviour Object) where
  -- two parts that leave the same
  record AreAlike (part same : HostSoFar Object) : Type 0 where
    host_is : part.host ≡ same.host
    pdus_are : part.pdus ≡ same.pdus

  alike_then : (part same : HostSoFar Object) (next : HostState Object → HostSoFar Object) → AreAlike part same → AreAlike (then_do part next) (then_do same next)
  alike_then part same next alike = record {
    host_is = ap (λ h. (next h).host) alike.host_is;
    pdus_are = ap (λ ps. ps ++ (next part.host).pdus) alike.pdus_are ∙ ap (λ h. same.pdus ++ (next h).pdus) alike.host_is;
  }

  hears_nothing : (now : ℕ) (bytes : List ℕ) (why : Verdict) (host : HostState Object) (receipt : Receipt) → receipt ≡ refused why (entered now host.link) →
      AreAlike (then_do (received now bytes receipt host) (acting_all does now receipt.items)) (refusal now why host)
  unfolding received acting_all
  hears_nothing now bytes why host receipt is =
      let left = refused why (entered now host.link)
      in subst (λ (r : Receipt). AreAlike (then_do (received now bytes r host) (acting_all does now r.items)) (refusal now why host)) (sym is)
      (record { host_is = refl; pdus_are = append-nil left.pdus })

  pub leaves_refused : (now : ℕ) (input : Input) (host : HostState Object) → RefusesRightly now input (settled now host.link) →
      LeavesRefused does now input host (host_step does now input host)
  unfolding host_step given hearing beating step_refused
  leaves_refused now inputs.Tick host rightly = tt
  leaves_refused now (inputs.Datagram bytes) host rightly = λ refuses.
      let begun = beginning does now host
      in let why = (receiving now bytes.now (settled now host.link)).verdict
      in let receipt = receiving now bytes.now begun.link
      in let is : receipt ≡ refused why (entered now begun.link) =
      subst (λ l. receiving now bytes.now l ≡ refused why (entered now l)) (sym (begun_link does now host)) (rightly refuses)
      in let heard = then_do (received now bytes.now receipt begun) (acting_all does now receipt.items)
      in let alike = alike_then heard (refusal now why begun) (paying does now most_owed) (hears_nothing now bytes.now why begun receipt is)
      in (ap (ending does) alike.host_is, append-nil (then_do heard (paying does now most_owed)).pdus ∙ alike.pdus_are)
  leaves_refused now (inputs.Sense sense) host rightly = tt
