-- Bytes that are no PDU, or one of another link, bring nothing to an end.
use Rattle.std.proofs.Common.{◌≡◌, ℕ, ◌⊎◌, inl, inr, Bool, true, false, ◌&&◌, not, List, Result, Ok, Err, refl, ap, subst, ◌∙◌}
use Rattle.std.specs.Prelude.{◌==◌}
use Rattle.rasta_core_spec.specs.State.{LinkState}
use Rattle.rasta_core_spec.specs.PdusHandedOut.{entered}
use Rattle.rasta_core_spec.specs.Receipt.{refusing, hearing}
use Rattle.rasta_core_spec.specs.Calls.{receiving, hearing_bytes}
use Rattle.rasta_core_spec.specs.identity.Identity.{Identity}
use Rattle.rasta_core_spec.specs.identity.Role.{Role}
use Rattle.rasta_core_spec.specs.verdict.Verdict.TheVariants as verdict
use Rattle.rasta_core_spec.specs.Ends.{reading_of}
use Rattle.rasta_core_spec.specs.Run.{Ends, end_of}
use Rattle.rasta_core_spec.specs.Names.{Names, identity_of}
use Rattle.rasta_core.specs.Invariant.{Timely}
use Rattle.rasta_core_spec.specs.Events.{IsFor as IsMeant, AreForeign}
use Rattle.rasta_core_spec.specs.Sentences.{receipt_at}
use Rattle.rasta_core.proofs.Deeds.{IsFor}
use Rattle.rasta_core.proofs.Called.{ReadIsIntact, end_identity}
use Rattle.rasta_core.proofs.Outside.{entered_identity}
use Rattle.rasta_core.proofs.Tests.{by_test}
use Rattle.rasta_core.proofs.Receptions.{for_me}
use Rattle.rasta_core_spec.specs.Safe.{IsIdle}
use Rattle.rasta_core_spec.specs.key.Key.{Key}
use Rattle.rasta_core_spec.specs.pdu.Pdu.{Pdu}
use Rattle.rasta_core_spec.specs.pdu_fault.PduFault.{PduFault}
use Rattle.rasta_core_spec.specs.PduRead.{reading}
use Rattle.rasta_core_spec.specs.SafetyCode.{IsIntact}

both_not : (one other : Bool) → not one ≡ false → not other ≡ false → (one && other) ≡ true
both_not true true a b = refl
both_not true false a b = absurd (cc (b))
both_not false other a b = absurd (cc (a))

stranger_idle : (link : LinkState) (pdu : Pdu) → ((pdu.receiver == link.identity.own) && (pdu.sender == link.identity.partner)) ≡ false → IsIdle (hearing pdu link)
unfolding hearing
stranger_idle link pdu others =
    by_test IsIdle (not (pdu.receiver == link.identity.own)) (refusing verdict.NotForMe link) _ (λ e. (refl, refl))
    (λ mine. by_test IsIdle (not (pdu.sender == link.identity.partner)) (refusing verdict.WrongSender link) _ (λ e. (refl, refl))
    (λ his. absurd (cc (others, both_not (pdu.receiver == link.identity.own) (pdu.sender == link.identity.partner) mine his))))

read_idle : (link : LinkState) (found : Result Pdu PduFault)
    → ((pdu : Pdu) → found ≡ Ok pdu → ((pdu.receiver == link.identity.own) && (pdu.sender == link.identity.partner)) ≡ false) → IsIdle (hearing_bytes found link)
unfolding hearing_bytes
read_idle link (Err fault) others = (refl, refl)
read_idle link (Ok pdu) others = stranger_idle link pdu (others pdu refl)

receiving_idle : (now : ℕ) (link : LinkState) (bytes : List ℕ)
    → ((pdu : Pdu) → reading link.identity.key bytes ≡ Ok pdu → ((pdu.receiver == link.identity.own) && (pdu.sender == link.identity.partner)) ≡ false) → IsIdle (receiving now bytes link)
unfolding receiving
receiving_idle now link bytes others =
    read_idle (entered now link).link (reading link.identity.key bytes)
    (λ pdu read. ap (λ (i : Identity). (pdu.receiver == i.own) && (pdu.sender == i.partner)) (entered_identity now link) ∙ others pdu read)

meant_for : (names : Names) (who : Role) (pdu : Pdu) → IsFor (identity_of who names) pdu → IsMeant names who pdu
meant_for names who pdu is = record { receiver = is.receiver; sender = is.sender }

not_meant : (identity : Identity) (pdu : Pdu) → (IsFor identity pdu → ⊥) → (meant : Bool) → ((pdu.receiver == identity.own) && (pdu.sender == identity.partner)) ≡ meant
    → ((pdu.receiver == identity.own) && (pdu.sender == identity.partner)) ≡ false
not_meant identity pdu other true e = absurd (other (for_me identity pdu e))
not_meant identity pdu other false e = e

pub others_idle : ReadIsIntact → (names : Names) (ends : Ends) (who : Role) (bytes : List ℕ) → Timely names ends → ((IsIntact names.key bytes → ⊥) ⊎ AreForeign names who bytes)
    → IsIdle (receipt_at who bytes ends)
others_idle intact names ends who bytes timely what =
    receiving_idle (reading_of (end_of who ends).clock) (end_of who ends).link bytes (λ pdu read. not_meant (end_of who ends).link.identity pdu (never what pdu (read_so pdu read)) _ refl)
  where
    identity_is : (end_of who ends).link.identity ≡ identity_of who names
    identity_is = end_identity names ends who timely

    read_so : (pdu : Pdu) → reading (end_of who ends).link.identity.key bytes ≡ Ok pdu → reading names.key bytes ≡ Ok pdu
    read_so pdu read = subst (λ (key : Key). reading key bytes ≡ Ok pdu) (ap (λ (i : Identity). i.key) identity_is) read

    never : ((IsIntact names.key bytes → ⊥) ⊎ AreForeign names who bytes) → (pdu : Pdu) → reading names.key bytes ≡ Ok pdu → IsFor (end_of who ends).link.identity pdu → ⊥
    never (inl damaged) pdu read meant = damaged (intact names.key bytes pdu read)
    never (inr foreign) pdu read meant =
        let same : pdu ≡ foreign.0 = same_pdu pdu foreign.0 read foreign.2
        in foreign.3 (subst (λ (p : Pdu). IsMeant names who p) same (meant_for names who pdu (subst (λ (i : Identity). IsFor i pdu) identity_is meant)))
      where
        same_pdu : (one other : Pdu) → reading names.key bytes ≡ Ok one → reading names.key bytes ≡ Ok other → one ≡ other
        same_pdu one other a b = cc
