-- An end outside that doesn't take what comes to it is left as the rules of its clock alone leave it.
use Rattle.std.proofs.Common.{◌≡◌, ℕ, ◌+◌, ap, ◌∙◌, refl, Bool, true, false, List, ◌++◌, Result, Ok, Err}
use Rattle.std.specs.Prelude.{not, nat_lt, ◌==◌, if◌then◌else◌}
use Rattle.std.proofs.lemmas.Bool.{true≢false}
use Rattle.std.proofs.lemmas.List.{append-nil}
use Rattle.rasta_core.specs.Calls.{hearing_bytes, receiving}
use Rattle.rasta_core.specs.Clock.{deadline, state_at}
use Rattle.rasta_core.specs.Ends.{is_taken, reading_of}
use Rattle.rasta_core.specs.Establishment.{granting}
use Rattle.rasta_core.specs.Parameters.{quiet_time}
use Rattle.rasta_core.specs.Receipt.{Receipt, accepting, by_state, hearing, refusing, resting}
use Rattle.rasta_core.specs.Run.{Ends, end_of}
use Rattle.rasta_core.specs.PdusHandedOut.{entered, limited}
use Rattle.rasta_core.specs.Clock.{settled}
use Rattle.rasta_core.specs.Sentences.{IsOut, receipt_at}
use Rattle.rasta_core.specs.State.{LinkState, is_client, is_open}
use Rattle.rasta_core.specs.identity.Role.{Role}
use Rattle.rasta_core.specs.phase.State.TheVariants as state
use Rattle.rasta_core.specs.verdict.Verdict.{Verdict}
use Rattle.rasta_core.specs.verdict.Verdict.TheVariants as verdict
use Rattle.rasta_pdu.specs.PduRead.{reading}
use Rattle.rasta_pdu.specs.declared.body.Body.{Body}
use Rattle.rasta_pdu.specs.declared.body.Body.TheVariants.{ConnectionRequest}
use Rattle.rasta_pdu.specs.declared.fault.PduFault.{PduFault}
use Rattle.rasta_pdu.specs.declared.pdu.Pdu.{Pdu}
use Rattle.simulator_pair.specs.Theorem.{IsUndisturbed}

-- a link refuses what comes, and stays as it is
abbrev pub Refuses : LinkState → Receipt → Type 0
Refuses link receipt = (why : Verdict) × (receipt ≡ refusing why link) × (is_taken why ≡ false)

-- unless it takes it
abbrev RefusesOrTakes : LinkState → Receipt → Type 0
RefusesOrTakes link receipt = is_taken receipt.verdict ≡ false → Refuses link receipt

down_refuses : (link : LinkState) (pdu : Pdu) (body : Body) → RefusesOrTakes link (resting body pdu link)
unfolding resting
down_refuses link pdu (ConnectionRequest opening) = choose (is_client link.identity.role)
  where
    choose : (b : Bool) → RefusesOrTakes link (if b then refusing verdict.WrongState link else accepting (granting pdu opening link))
    choose true untaken = (verdict.WrongState, refl, refl)
    choose false untaken = absurd (true≢false untaken)
down_refuses link pdu _ = λ untaken. (verdict.WrongState, refl, refl)

state_refuses : (link : LinkState) (pdu : Pdu) → is_open link.phase ≡ false → RefusesOrTakes link (by_state (state_at link.clock link) pdu link)
unfolding state_at by_state
state_refuses link pdu out = rw out (choose (nat_lt link.clock (deadline link + quiet_time)))
  where
    choose : (quiet : Bool) → RefusesOrTakes link (by_state (if quiet then state.Quiet else state.Down) pdu link)
    choose true = λ untaken. (verdict.Quiet, refl, refl)
    choose false = down_refuses link pdu pdu.body

bytes_refused : (link : LinkState) (read : Result Pdu PduFault) → is_open link.phase ≡ false → RefusesOrTakes link (hearing_bytes read link)
unfolding hearing_bytes hearing
bytes_refused link (Err fault) out = λ untaken. (verdict.Unreadable fault, refl, refl)
bytes_refused link (Ok pdu) out = choose (not (pdu.receiver == link.identity.own)) (not (pdu.sender == link.identity.partner))
  where
    choose : (a b : Bool) → RefusesOrTakes link (if a then refusing verdict.NotForMe link else if b then refusing verdict.WrongSender link else by_state (state_at link.clock link) pdu link)
    choose true b = λ untaken. (verdict.NotForMe, refl, refl)
    choose false true = λ untaken. (verdict.WrongSender, refl, refl)
    choose false false = state_refuses link pdu out

-- the rules of the clock leave an end outside
outside_stays : (now : ℕ) (link : LinkState) → is_open link.phase ≡ false → is_open (entered now link).link.phase ≡ false
unfolding entered limited settled
outside_stays now link out = rw out (rw out out)

-- what refuses bytes isn't disturbed by them
pub refused_undisturbed : (who : Role) (bytes : List ℕ) (ends : Ends) → Refuses (entered (reading_of (end_of who ends).clock) (end_of who ends).link).link (hearing_bytes (reading (end_of who ends).link.identity.key bytes) (entered (reading_of (end_of who ends).clock) (end_of who ends).link).link) → IsUndisturbed who bytes ends
unfolding receiving
refused_undisturbed who bytes ends refused =
    let begun = entered (reading_of (end_of who ends).clock) (end_of who ends).link
    in let is = refused.1
    in record {
      link = ap (λ r. r.link) is;
      pdus = ap (λ r. begun.pdus ++ r.pdus) is ∙ append-nil begun.pdus;
      idle = (ap (λ r. r.items) is, ap (λ r. is_taken r.verdict) is ∙ refused.2);
    }

pub outside_undisturbed : (who : Role) (bytes : List ℕ) (ends : Ends) → IsOut who ends → is_taken (receipt_at who bytes ends).verdict ≡ false → IsUndisturbed who bytes ends
unfolding receiving
outside_undisturbed who bytes ends out untaken =
    let end = end_of who ends
    in let now = reading_of end.clock
    in refused_undisturbed who bytes ends (bytes_refused (entered now end.link).link (reading end.link.identity.key bytes) (outside_stays now end.link out) untaken)
