-- What a step leaves where the link refuses the datagram that comes.
use Rattle.std.specs.Prelude.{◌≡◌, ℕ, true, []}
use Rattle.rasta_core.specs.State.{LinkState}
use Rattle.rasta_core.specs.Clock.{settled}
use Rattle.rasta_core.specs.PdusHandedOut.{entered}
use Rattle.rasta_core.specs.Calls.{receiving}
use Rattle.rasta_core.specs.Verdicts.{is_refusal, refused}
use Rattle.rasta_core.specs.verdict.Verdict.{Verdict}
use Rattle.object_host.specs.Behaviour.{Behaviour}
use Rattle.object_host.specs.Host.{HostState, HostSoFar, risen, then_do}
use Rattle.object_host.specs.Step.{beginning, ending, most_owed, paying}
use Rattle.object_host.specs.declared.input.Input.{Input}
use Rattle.object_host.specs.declared.input.Input.TheVariants as inputs

module _ {Object : Type 0} where
  -- what a refusal with this verdict does: to the link alone, and there nothing but what the clock rules do, unless it
  -- closes the connection
  abbrev pub refusal : ℕ → Verdict → HostState Object → HostSoFar Object
  refusal now why host =
      let left = refused why (entered now host.link)
      in record { host = risen (record host { link = left.link }); pdus = left.pdus; calls = []; acted = []; told = [] }

  -- a step with that in place of its input
  unfoldable pub step_refused : Behaviour Object → ℕ → Verdict → HostState Object → HostSoFar Object
  step_refused does now why host =
      let told = then_do (refusal now why (beginning does now host)) (paying does now most_owed)
      in record told { host = ending does told.host }

  -- where the link refuses the datagram, host and datagrams are those of a step with the refusal alone
  abbrev pub LeavesRefused : Behaviour Object → ℕ → Input → HostState Object → HostSoFar Object → Type 0
  LeavesRefused does now (inputs.Datagram bytes) host part =
      let why = (receiving now bytes.now (settled now host.link)).verdict
      in is_refusal why ≡ true → (part.host ≡ (step_refused does now why host).host) × (part.pdus ≡ (step_refused does now why host).pdus)
  LeavesRefused does now input host part = Unit {0}

-- the link refuses as its contract says
abbrev pub RefusesRightly : ℕ → Input → LinkState → Type 0
RefusesRightly now (inputs.Datagram bytes) link =
    is_refusal (receiving now bytes.now link).verdict ≡ true → receiving now bytes.now link ≡ refused (receiving now bytes.now link).verdict (entered now link)
RefusesRightly now input link = Unit {0}
